-- What is left in front of a round, and which names stay then.
use Rattle.std.proofs.Common.{ℕ, ◌<◌, ◌≤◌, ◌≡◌, inl, inr, Bool, true, false, not, ◌||◌, max, if◌then◌else◌, List, [], ◌∷◌, refl, ap, ap₂, ◌∙◌, arith}
use Rattle.std.specs.Prelude.{nat_lt}
use Rattle.std.proofs.lemmas.Bool.{ltb-true, ltb-false, or_right}
use Rattle.swc_ast.specs.declared.Span.{Span}
use Rattle.swc_ast.specs.Run.{has_text}
use Rattle.swc_ast.specs.Tree.{Text, Name, Module, node, ◌⊳◌}
use Rattle.dce_rules.specs.Uses.{free_to_go}
use Rattle.dce_layer_proofs.specs.Layers.{Layers, items, live, notes, top, Stays, AllPlaced, has_layer}
use Rattle.dce_layer_proofs.proofs.Kept.{keeps, keeps_split}

-- a name that no item keeps from a round on
low : (x : Name) (r : ℕ) (ps : Layers) → top x ps < r → keeps x (live r ps) ≡ false
low x r [] h = refl
low x r (p ∷ ps) h = by (nat_lt p.1 r) refl (notes x p.0) refl h (low x r ps (omega (arith, h)))
  where
    by : (b : Bool) → nat_lt p.1 r ≡ b → (c : Bool) → notes x p.0 ≡ c → max (if c then p.1 else 0) (top x ps) < r → keeps x (live r ps) ≡ false → keeps x (if b then live r ps else (p.0 ⊳ live r ps)) ≡ false
    by true e c n h k = k
    by false e true n h k = absurd (omega (arith, h, ltb-false p.1 r e))
    by false e false n h k = keeps_split x p.0 (live r ps) ∙ ap₂ (λ c d. c || d) n k

-- a name that an item keeps which is left
high : (x : Name) (r : ℕ) (ps : Layers) → 0 < r → r ≤ top x ps → keeps x (live r ps) ≡ true
high x r [] s h = absurd (omega (arith, s, h))
high x r (p ∷ ps) s h = by (nat_lt p.1 r) refl (notes x p.0) refl h (high x r ps s)
  where
    by : (b : Bool) → nat_lt p.1 r ≡ b → (c : Bool) → notes x p.0 ≡ c → r ≤ max (if c then p.1 else 0) (top x ps) → (r ≤ top x ps → keeps x (live r ps) ≡ true) → keeps x (if b then live r ps else (p.0 ⊳ live r ps)) ≡ true
    by true e true n h k = k (omega (arith, h, ltb-true p.1 r e))
    by true e false n h k = k (omega (arith, h, s))
    by false e true n h k = keeps_split x p.0 (live r ps) ∙ ap (λ c. c || keeps x (live r ps)) n
    by false e false n h k = keeps_split x p.0 (live r ps) ∙ or_right (notes x p.0) (keeps x (live r ps)) (k (omega (arith, h, s)))

-- the top is the layer of an item
pub attained : (x : Name) (n : ℕ) (ps : Layers) → 0 < n → top x ps ≡ n → has_layer n ps ≡ true
attained x n [] s h = absurd (omega (arith, s, h))
attained x n (p ∷ ps) s h = by (nat_lt p.1 n) refl (nat_lt n p.1) refl (notes x p.0) h (attained x n ps s)
  where
    by : (b : Bool) → nat_lt p.1 n ≡ b → (d : Bool) → nat_lt n p.1 ≡ d → (c : Bool) → max (if c then p.1 else 0) (top x ps) ≡ n → (top x ps ≡ n → has_layer n ps ≡ true) → (if b then has_layer n ps else (if d then has_layer n ps else true)) ≡ true
    by true e d f true h k = k (omega (arith, h, ltb-true p.1 n e))
    by true e d f false h k = k (omega (arith, h))
    by false e false f c h k = refl
    by false e true f true h k = absurd (omega (arith, h, ltb-true n p.1 f))
    by false e true f false h k = k (omega (arith, h))

or_yes : (a b : Bool) → b ≡ true → not (a || b) ≡ false
or_yes true b h = refl
or_yes false b h = ap not h

-- names that are free in front of a round
pub gone : (retained : List Text) (ss : List Span) (r : ℕ) (ps : Layers) (x : Name) → has_text x.text retained ≡ false → top x ps < r → free_to_go retained (node Module ss (live r ps)) x ≡ true
gone retained ss r ps x e h = ap₂ (λ a b. not (a || b)) e (low x r ps h)

-- and names that aren't
pub kept : (retained : List Text) (ss : List Span) (rounds r : ℕ) (ps : Layers) (x : Name) → 0 < r → r ≤ rounds → Stays retained ps rounds r x → free_to_go retained (node Module ss (live r ps)) x ≡ false
kept retained ss rounds r ps x s m (inl e) = ap (λ a. not (a || keeps x (live r ps))) e
kept retained ss rounds r ps x s m (inr (inl h)) = or_yes (has_text x.text retained) (keeps x (live r ps)) (high x r ps s h)
kept retained ss rounds r ps x s m (inr (inr h)) = or_yes (has_text x.text retained) (keeps x (live r ps)) (high x r ps s (omega (arith, m, h)))

-- in front of the first round all items are left
pub all_live : (mark : ℕ) (retained : List Text) (rounds : ℕ) (all ps : Layers) → AllPlaced mark retained all rounds ps → live 1 ps ≡ items ps
all_live mark retained rounds all [] h = refl
all_live mark retained rounds all (p ∷ ps) h = by (nat_lt p.1 1) refl (all_live mark retained rounds all ps h.1)
  where
    by : (b : Bool) → nat_lt p.1 1 ≡ b → live 1 ps ≡ items ps → (if b then live 1 ps else (p.0 ⊳ live 1 ps)) ≡ p.0 ⊳ items ps
    by true e k = absurd (omega (arith, ltb-true p.1 1 e, h.0.some))
    by false e k = ap (λ ts. p.0 ⊳ ts) k
