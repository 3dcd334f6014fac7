-- A literal is pure.
use Rattle.std.proofs.Common.{◌≡◌, ℕ, true, false, not, ◌&&◌, List, [], ◌∷◌, refl, ap, ap₂}
use Rattle.std.proofs.lemmas.Bool.{and_parts, and_from, false≢true}
use Rattle.swc_ast.specs.Tree.{ItemKind, Plain, Spread, Hole, NumLit, StrLit, BoolLit, NullLit, Template, Array, Object, KeyValue, PlainKey, Tree, node, Forest, ε, ◌⊳◌}
use Rattle.swc_utils.specs.Pure.{no_trees, has_spread, pure, pure_all}
use Rattle.swc_utils.specs.Literals.{all_plain, is_literal, all_literal, literal_properties}

plain_no_spread : (ks : List ItemKind) → all_plain ks ≡ true → has_spread ks ≡ false
plain_no_spread [] h = refl
plain_no_spread (Plain ∷ ks) h = plain_no_spread ks h
plain_no_spread (Spread ∷ ks) h = absurd (false≢true h)
plain_no_spread (Hole ∷ ks) h = absurd (false≢true h)

none_pure : (mark : ℕ) (ts : Forest) → no_trees ts ≡ true → pure_all mark ts ≡ true
none_pure mark ε h = refl
none_pure mark (t ⊳ ts) h = absurd (false≢true h)

mutual
  pub literal_is_pure : (mark : ℕ) (t : Tree) → is_literal t ≡ true → pure mark t ≡ true
  literal_is_pure mark (node (NumLit z) ss ts) h = refl
  literal_is_pure mark (node (StrLit t) ss ts) h = refl
  literal_is_pure mark (node (BoolLit b) ss ts) h = refl
  literal_is_pure mark (node NullLit ss ts) h = refl
  literal_is_pure mark (node (Template qs) ss ts) h = none_pure mark ts h
  literal_is_pure mark (node (Array ks) ss ts) h = let p = and_parts (all_plain ks) (all_literal ts) h in and_from (not (has_spread ks)) (pure_all mark ts) (ap not (plain_no_spread ks p.0)) (literals_pure mark ts p.1)
  literal_is_pure mark (node Object ss ts) h = properties_pure mark ts h
  literal_is_pure mark _ h = absurd (false≢true h)

  literals_pure : (mark : ℕ) (ts : Forest) → all_literal ts ≡ true → pure_all mark ts ≡ true
  literals_pure mark ε h = refl
  literals_pure mark (t ⊳ ts) h = let p = and_parts (is_literal t) (all_literal ts) h in ap₂ ◌&&◌ (literal_is_pure mark t p.0) (literals_pure mark ts p.1)

  properties_pure : (mark : ℕ) (ts : Forest) → literal_properties ts ≡ true → pure_all mark ts ≡ true
  properties_pure mark ε h = refl
  properties_pure mark (node KeyValue ss (node (PlainKey k) rs ε ⊳ t ⊳ ε) ⊳ ts) h = let p = and_parts (is_literal t) (literal_properties ts) h in ap₂ (λ x y. (x && true) && y) (literal_is_pure mark t p.0) (properties_pure mark ts p.1)
  properties_pure mark _ h = absurd (false≢true h)
