-- A pure expression has no effects to run.
use Rattle.std.proofs.Common.{◌≡◌, ℕ, Bool, true, false, not, if◌then◌else◌, refl, sym, ap, ap₂}
use Rattle.std.proofs.lemmas.Bool.{and_parts, not-true, false≢true}
use Rattle.swc_ast.specs.declared.UnaryOp.TheVariants.{Delete}
use Rattle.swc_ast.specs.declared.BinaryOp.TheVariants.{In, InstanceOf}
use Rattle.swc_ast.specs.Tree.{Read, Template, Array, Object, SpreadRecord, KeyValue, Shorthand, Method, ComputedKey, Unary, Binary, Seq, Tree, node, Forest, ε, ◌⊳◌}
use Rattle.swc_ast.specs.Scope.{joined}
use Rattle.swc_utils.specs.Pure.{pure, pure_all, has_spread}
use Rattle.swc_utils.specs.Effects.{is_strict, has_record_spread, effects, effects_all}

dropped : (t : Tree) {b : Bool} → b ≡ true → ◌≡◌ {A = Forest} (if b then ε else t ⊳ ε) ε
dropped t h = ap (λ x. if x then ε else t ⊳ ε) h

whichever : {us vs : Forest} (b : Bool) → us ≡ ε → vs ≡ ε → (if b then us else vs) ≡ ε
whichever true h i = h
whichever false h i = i

kept_host : (u : Tree) (b : Bool) → not b ≡ true → ◌≡◌ {A = Forest} (if b then u ⊳ ε else ε) ε
kept_host u true h = absurd (false≢true h)
kept_host u false h = refl

-- a pure object has no spread
spread_impure : (mark : ℕ) (ts : Forest) → pure_all mark ts ≡ true → has_record_spread ts ≡ false
spread_impure mark ε h = refl
spread_impure mark (node SpreadRecord ss cs ⊳ ts) h = absurd (false≢true h)
spread_impure mark (node l ss cs ⊳ ts) h = spread_impure mark ts (and_parts (pure mark (node l ss cs)) (pure_all mark ts) h).1

no_spread : (t : Tree) {us : Forest} (b : Bool) → b ≡ false → us ≡ ε → (if b then t ⊳ ε else us) ≡ ε
no_spread t true h i = absurd (false≢true (sym h))
no_spread t false h i = i

mutual
  pub pure_no_effects : (mark : ℕ) (t : Tree) → pure mark t ≡ true → effects mark t ≡ ε
  pure_no_effects mark (node (Unary Delete) ss ts) h = absurd (false≢true h)
  pure_no_effects mark (node (Unary op) ss ts) h = all_no_effects mark ts h
  pure_no_effects mark (node (Binary In) ss ts) h = absurd (false≢true h)
  pure_no_effects mark (node (Binary InstanceOf) ss ts) h = absurd (false≢true h)
  pure_no_effects mark (node (Binary op) ss ts) h = whichever (is_strict op) (all_no_effects mark ts h) (dropped (node (Binary op) ss ts) h)
  pure_no_effects mark (node (Template qs) ss ts) h = all_no_effects mark ts h
  pure_no_effects mark (node (Array ks) ss ts) h = let p = and_parts (not (has_spread ks)) (pure_all mark ts) h in no_spread (node (Array ks) ss ts) (has_spread ks) (not-true (has_spread ks) p.0) (all_no_effects mark ts p.1)
  pure_no_effects mark (node Object ss ts) h = no_spread (node Object ss ts) (has_record_spread ts) (spread_impure mark ts h) (all_no_effects mark ts h)
  pure_no_effects mark (node KeyValue ss ts) h = all_no_effects mark ts h
  pure_no_effects mark (node ComputedKey ss ts) h = all_no_effects mark ts h
  pure_no_effects mark (node Method ss (k ⊳ p ⊳ b ⊳ ε)) h = pure_no_effects mark k h
  pure_no_effects mark (node (Shorthand x) ss ts) h = kept_host (node (Read x) ss ε) _ h
  pure_no_effects mark (node Seq ss ts) h = all_no_effects mark ts h
  pure_no_effects mark (node l ss ts) h = dropped (node l ss ts) h

  pub all_no_effects : (mark : ℕ) (ts : Forest) → pure_all mark ts ≡ true → effects_all mark ts ≡ ε
  all_no_effects mark ε h = refl
  all_no_effects mark (t ⊳ ts) h = let p = and_parts _ _ h in ap₂ joined (pure_no_effects mark t p.0) (all_no_effects mark ts p.1)
