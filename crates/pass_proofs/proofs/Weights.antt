-- How heavy the parts of an answer are.
use Rattle.std.proofs.Common.{◌≡◌, ℕ, zero, suc, pos, negsuc, ◌+◌, ◌<◌, ◌≤◌, Bool, true, false, if◌then◌else◌, List, refl, sym, subst, arith}
use Rattle.swc_ast.specs.declared.Span.{Span}
use Rattle.swc_ast.specs.declared.UnaryOp.{UnaryOp}
use Rattle.swc_ast.specs.declared.UnaryOp.TheVariants.{Delete}
use Rattle.swc_ast.specs.declared.BinaryOp.{BinaryOp}
use Rattle.swc_ast.specs.Tree.{Template, Array, Object, KeyValue, Shorthand, Method, ComputedKey, Unary, Binary, Seq, Tree, node, Forest, ε, ◌⊳◌}
use Rattle.swc_ast.specs.Operators.{Numeric, NotANumber, Whole}
use Rattle.swc_ast.specs.Weight.{own_weight, weight, weight_all}
use Rattle.static_proofs.proofs.Drawn.{weight_joined}
use Rattle.swc_utils.specs.Pure.{pure, has_spread}
use Rattle.swc_utils.specs.Globals.{is_host_name}
use Rattle.swc_utils.specs.Effects.{is_strict, has_record_spread, unless_pure, effects, effects_all, preserve}
use Rattle.pass_rules.specs.Leaves.{text_tree, void_tree, number_tree, truth_tree}

-- trees that stand for a value

pub number_light : (mark : ℕ) (rs : List Span) (k : Numeric) → weight (number_tree mark rs k) ≤ 2
unfolding own_weight
number_light mark rs NotANumber = omega arith
number_light mark rs (Whole (pos zero)) = omega arith
number_light mark rs (Whole (pos (suc n))) = omega arith
number_light mark rs (Whole (negsuc n)) = omega arith

pub truth_light : (rs : List Span) (b : Bool) → weight (truth_tree rs b) ≤ 2
unfolding own_weight
truth_light rs b = omega arith

pub text_light : (rs : List Span) (t : List ℕ) → weight (text_tree rs t) ≤ 2
unfolding own_weight
text_light rs t = omega arith

pub void_weighs : (rs zs : List Span) → weight (void_tree rs zs) ≡ 5
unfolding own_weight
void_weighs rs zs = refl

-- effects are no heavier than what they are of

kept_light : (t : Tree) (b : Bool) → weight_all (if b then ε else t ⊳ ε) ≤ weight t
kept_light t true = omega arith
kept_light t false = omega arith

either_light : (n : ℕ) (us vs : Forest) (b : Bool) → weight_all us ≤ n → weight_all vs ≤ n → weight_all (if b then us else vs) ≤ n
either_light n us vs true h i = h
either_light n us vs false h i = i

mutual
  unfolding own_weight

  pub effects_light : (mark : ℕ) (t : Tree) → weight_all (effects mark t) ≤ weight t
  effects_light mark (node (Unary Delete) ss ts) = omega arith
  effects_light mark (node (Unary op) ss ts) = let i = all_light mark ts in omega (arith, i)
  effects_light mark (node (Binary op) ss ts) = let i = all_light mark ts in either_light _ _ _ (is_strict op) (omega (arith, i)) (kept_light (node (Binary op) ss ts) (pure mark (node (Binary op) ss ts)))
  effects_light mark (node (Template qs) ss ts) = let i = all_light mark ts in omega (arith, i)
  effects_light mark (node (Array ks) ss ts) = let i = all_light mark ts in either_light _ _ _ (has_spread ks) (omega arith) (omega (arith, i))
  effects_light mark (node Object ss ts) = let i = all_light mark ts in either_light _ _ _ (has_record_spread ts) (omega arith) (omega (arith, i))
  effects_light mark (node KeyValue ss ts) = let i = all_light mark ts in omega (arith, i)
  effects_light mark (node ComputedKey ss ts) = let i = all_light mark ts in omega (arith, i)
  effects_light mark (node Method ss (k ⊳ p ⊳ b ⊳ ε)) = let i = effects_light mark k in omega (arith, i)
  effects_light mark (node (Shorthand x) ss ts) = either_light _ _ _ (is_host_name mark x) (omega arith) (omega arith)
  effects_light mark (node Seq ss ts) = let i = all_light mark ts in omega (arith, i)
  effects_light mark (node l ss ts) = kept_light (node l ss ts) (pure mark (node l ss ts))

  pub all_light : (mark : ℕ) (ts : Forest) → weight_all (effects_all mark ts) ≤ weight_all ts
  all_light mark ε = omega arith
  all_light mark (t ⊳ ts) = let i = effects_light mark t in let j = all_light mark ts in let e = weight_joined (effects mark t) (effects_all mark ts) in omega (arith, i, j, e)

-- a value with effects in front

pub preserve_light : (rs : List Span) (fs : Forest) (u : Tree) → weight (preserve rs fs u) ≤ 1 + weight_all fs + weight u
unfolding own_weight
preserve_light rs ε u = omega arith
preserve_light rs (f ⊳ fs) u = let e = weight_joined (f ⊳ fs) (u ⊳ ε) in omega (arith, e)

-- of what runs all its parts anyway
module _ (mark : ℕ) (rs : List Span) (u : Tree) (light : weight u ≤ 2) where
  pub binary_preserved : (op : BinaryOp) (ss : List Span) (ts : Forest) → is_strict op ≡ true → weight (preserve rs (effects mark (node (Binary op) ss ts)) u) < weight (node (Binary op) ss ts)
  unfolding own_weight
  binary_preserved op ss ts h = let i = all_light mark ts in let p = preserve_light rs (effects_all mark ts) u in subst (λ b. weight (preserve rs (if b then effects_all mark ts else unless_pure mark (node (Binary op) ss ts)) u) < 4 + weight_all ts) (sym h) (omega (arith, i, p, light))

  pub unary_preserved : (op : UnaryOp) (ss : List Span) (ts : Forest) → (op ≡ Delete → ⊥) → weight (preserve rs (effects mark (node (Unary op) ss ts)) u) < weight (node (Unary op) ss ts)
  unfolding own_weight
  unary_preserved Delete ss ts h = absurd (h refl)
  unary_preserved op ss ts h = let i = all_light mark ts in let p = preserve_light rs (effects_all mark ts) u in omega (arith, i, p, light)

  pub parts_preserved : (op : BinaryOp) (ss : List Span) (ts : Forest) → weight (preserve rs (effects_all mark ts) u) < weight (node (Binary op) ss ts)
  unfolding own_weight
  parts_preserved op ss ts = let i = all_light mark ts in let p = preserve_light rs (effects_all mark ts) u in omega (arith, i, p, light)
