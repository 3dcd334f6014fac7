-- A list in which nothing is unreached or loose stays so where it loses items.
use Rattle.std.proofs.Common.{ℕ, ◌≤◌, ◌≡◌, suc, Bool, true, false, ◌||◌, if◌then◌else◌, nat_lt, [], ◌∷◌, refl, ap, ap₂, ◌∙◌, arith}
use Rattle.std.proofs.lemmas.Bool.{or_parts, or_from, ltb-true, ltb-false}
use Rattle.swc_ast.specs.Redex.{is_loose, any_loose, list_redex}
use Rattle.swc_ast.specs.Scope.{joined}
use Rattle.swc_ast.specs.Tree.{Forest, ε, ◌⊳◌}
use Rattle.swc_ast.specs.Weight.{is_stopper, stays_behind, movable, unreached}
use Rattle.dce_layer_proofs.specs.Frames.{Wrapper, wrapped}
use Rattle.dce_layer_proofs.specs.Layers.{Layers, items, live}

-- none is loose
loose_left : (r : ℕ) (ps : Layers) → any_loose (items ps) ≡ false → any_loose (live r ps) ≡ false
loose_left r [] h = refl
loose_left r (p ∷ ps) h = let q = or_parts (is_loose p.0) (any_loose (items ps)) h in by (nat_lt p.1 r) q.0 (loose_left r ps q.1)
  where
    by : (b : Bool) → is_loose p.0 ≡ false → any_loose (live r ps) ≡ false → any_loose (if b then live r ps else (p.0 ⊳ live r ps)) ≡ false
    by true e k = k
    by false e k = or_from (is_loose p.0) (any_loose (live r ps)) e k

-- no more statements that aren't functions
movable_left : (r : ℕ) (ps : Layers) → movable (live r ps) ≤ movable (items ps)
movable_left r [] = omega arith
movable_left r (p ∷ ps) = by (nat_lt p.1 r) (stays_behind p.0) refl (movable_left r ps)
  where
    by : (b c : Bool) → stays_behind p.0 ≡ c → movable (live r ps) ≤ movable (items ps) → movable (if b then live r ps else (p.0 ⊳ live r ps)) ≤ (if c then movable (items ps) else suc (movable (items ps)))
    by true true e k = k
    by true false e k = omega (arith, k)
    by false true e k = rw e k
    by false false e k = rw e (omega (arith, k))

-- those behind a stopper are some of them
unreached_movable : (ts : Forest) → unreached ts ≤ movable ts
unreached_movable ε = omega arith
unreached_movable (t ⊳ ts) = by (is_stopper t) (stays_behind t) (unreached_movable ts)
  where
    by : (b c : Bool) → unreached ts ≤ movable ts → (if b then movable ts else unreached ts) ≤ (if c then movable ts else suc (movable ts))
    by true true k = omega arith
    by true false k = omega arith
    by false true k = k
    by false false k = omega (arith, k)

-- no more that aren't reached
unreached_left : (r : ℕ) (ps : Layers) → unreached (live r ps) ≤ unreached (items ps)
unreached_left r [] = omega arith
unreached_left r (p ∷ ps) = by (nat_lt p.1 r) (is_stopper p.0) refl (unreached_movable (live r ps)) (movable_left r ps) (unreached_left r ps)
  where
    by : (b c : Bool) → is_stopper p.0 ≡ c → unreached (live r ps) ≤ movable (live r ps) → movable (live r ps) ≤ movable (items ps) → unreached (live r ps) ≤ unreached (items ps) → unreached (if b then live r ps else (p.0 ⊳ live r ps)) ≤ (if c then movable (items ps) else unreached (items ps))
    by true true e j k h = omega (arith, j, k)
    by true false e j k h = h
    by false true e j k h = rw e k
    by false false e j k h = rw e h

none_below : (a b : ℕ) → a ≤ b → nat_lt 0 b ≡ false → nat_lt 0 a ≡ false
none_below a b h e = by (nat_lt 0 a) refl
  where
    by : (c : Bool) → nat_lt 0 a ≡ c → c ≡ false
    by true f = absurd (omega (arith, h, ltb-true 0 a f, ltb-false 0 b e))
    by false f = refl

-- so the remover finds nothing to do in it
pub redex_left : (r : ℕ) (ps : Layers) → list_redex (items ps) ≡ false → list_redex (live r ps) ≡ false
redex_left r ps h =
    let q = or_parts (nat_lt 0 (unreached (items ps))) (any_loose (items ps)) h in
    or_from (nat_lt 0 (unreached (live r ps))) (any_loose (live r ps)) (none_below (unreached (live r ps)) (unreached (items ps)) (unreached_left r ps) q.0) (loose_left r ps q.1)

-- beside a wrapper, whatever stands in that
module _ (w : Wrapper) (behind ts us : Forest) where
  movable_around : (before : Forest) → movable (joined before (wrapped w us ⊳ behind)) ≡ movable (joined before (wrapped w ts ⊳ behind))
  movable_around ε = refl
  movable_around (t ⊳ before) = ap (λ n. if stays_behind t then n else suc n) (movable_around before)

  unreached_around : (before : Forest) → unreached (joined before (wrapped w us ⊳ behind)) ≡ unreached (joined before (wrapped w ts ⊳ behind))
  unreached_around ε = refl
  unreached_around (t ⊳ before) = ap₂ (λ m n. if is_stopper t then m else n) (movable_around before) (unreached_around before)

  loose_around : (before : Forest) → any_loose (joined before (wrapped w us ⊳ behind)) ≡ any_loose (joined before (wrapped w ts ⊳ behind))
  loose_around ε = refl
  loose_around (t ⊳ before) = ap (λ b. is_loose t || b) (loose_around before)

  pub redex_around : (before : Forest) → list_redex (joined before (wrapped w ts ⊳ behind)) ≡ false → list_redex (joined before (wrapped w us ⊳ behind)) ≡ false
  redex_around before h = ap₂ (λ n b. nat_lt 0 n || b) (unreached_around before) (loose_around before) ∙ h
