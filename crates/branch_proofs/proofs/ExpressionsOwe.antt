-- Each step of an expression keeps and spares what a pass may not touch, and is lighter.
use Rattle.std.proofs.Common.{◌≡◌, ℕ, ◌+◌, ◌≤◌, ◌<◌, true, false, ◌&&◌, List, refl, sym, subst, arith}
use Rattle.std.proofs.lemmas.Bool.{and_parts, false≢true}
use Rattle.swc_ast.specs.declared.Span.{Span}
use Rattle.swc_ast.specs.declared.AssignOp.TheVariants.{Assign as Plain}
use Rattle.swc_ast.specs.Tree.{Name, Label, Seq, Assign, Cond, Read, Tree, node, Forest, ε, ◌⊳◌, label_of}
use Rattle.swc_ast.specs.Scope.{joined}
use Rattle.swc_ast.specs.Valid.{is_identifier, valid, valid_all}
use Rattle.swc_ast.specs.Core.{fits}
use Rattle.swc_ast.specs.Weight.{own_weight, weight, weight_all, is_truth_or_absent}
use Rattle.static_proofs.specs.Drawn.{AllDrawn}
use Rattle.swc_ast.specs.Labels.{is_expression}
use Rattle.static_proofs.specs.Step.{Step}
use Rattle.static_proofs.proofs.Drawn.{valid_below, weight_joined}
use Rattle.static_proofs.proofs.Expressions.{expression_step}
use Rattle.swc_utils.proofs.Chains.{joined_none}
use Rattle.swc_utils.specs.Effects.{preserve}
use Rattle.pass_proofs.proofs.Leftovers.{zero_made, two_made, preserve_made}
use Rattle.pass_proofs.proofs.Remains.{Remains, nothing, goes, stays, opened, made, remains_below}
use Rattle.pass_proofs.proofs.Weights.{preserve_light}
use Rattle.branch_rules.specs.Expressions.{ExpressionStep, front, itself, same_arms, in_guard}
use Rattle.branch_proofs.proofs.IgnoredLeft.{all_good, ignores_all_left, read_stands}
use Rattle.branch_proofs.proofs.IgnoredLight.{ignores_all_light}
use Rattle.branch_proofs.proofs.Steps.{is_source, step_source, source_expression}

front_lighter : (rs : List Span) (fs us : Forest) (t : Tree) → 1 + weight_all us ≤ weight_all fs → weight (preserve rs us t) < 1 + weight_all (joined fs (t ⊳ ε))
front_lighter rs fs us t h = omega (arith, h, preserve_light rs us t, weight_joined fs (t ⊳ ε))

expression_lighter : {mark : ℕ} {t u : Tree} → ExpressionStep mark t u → weight u < weight t
unfolding own_weight
expression_lighter (front ss rs fs us t h) = omega (arith, front_lighter rs fs us t (omega (arith, ignores_all_light h)))
expression_lighter (itself ss is rs x h) = omega arith
expression_lighter (same_arms ss c u v p h i) = omega arith
expression_lighter (in_guard rs zs s l) = l

module _ {V F : Type 0} where
  expression_left : {mark : ℕ} {t u : Tree} → (V → valid t ≡ true) → ExpressionStep mark t u → Remains V F (t ⊳ ε) (u ⊳ ε)
  expression_left v (front ss rs fs us t h) = opened Seq ss (joined fs (t ⊳ ε)) refl (front_left (preserve_made rs us t (ignores_all_left h (all_good fs (t ⊳ ε) (λ i. valid_below Seq ss (joined fs (t ⊳ ε)) (v i))) (stays t nothing))))
    where
      front_left : {ts us : Forest} → Remains V F ts us → Remains V F (joined ts ε) us
      front_left {ts} r = record { parts = r.parts; drawn = subst (λ zs. AllDrawn zs r.parts) (sym (joined_none ts)) r.drawn; built = r.built }
  expression_left v (itself ss is rs x h) = opened (Assign Plain x) ss (node (Read x) is ε ⊳ ε) refl (goes _ (made (Read x) rs ε (read_stands x (λ i. (and_parts (is_identifier x.text) true (and_parts (is_identifier x.text && true) (valid_all (node (Read x) is ε ⊳ ε)) (v i)).0).0)) nothing))
  expression_left v (same_arms ss c u w p h i) = opened Cond ss (c ⊳ u ⊳ w ⊳ ε) refl (goes c (stays u (goes w nothing)))
  expression_left v (in_guard {u = u} rs zs s l) = two_made rs _ u (zero_made zs (expression_left v s))

source_no_truth : (l : Label) (ss : List Span) (cs : Forest) → is_source l ≡ true → is_truth_or_absent (node l ss cs) ≡ false
source_no_truth Seq ss cs h = refl
source_no_truth (Assign op x) ss cs h = refl
source_no_truth Cond ss cs h = refl
source_no_truth l ss cs h = absurd (false≢true h)

pub expression_owes : {N : Type 0} {P : Name → Type 0} {mark : ℕ} {t u : Tree} → is_expression (label_of u) ≡ true → ExpressionStep mark t u → Step N P t u
expression_owes {t = node l ss cs} {u = u} q s =
    let n = step_source s in
    let r = remains_below (expression_lighter s) (expression_left {V = valid (node l ss cs) ≡ true} {F = fits (node l ss cs) ≡ true} (λ v. v) s) in
    expression_step (source_expression l n) q (source_no_truth l ss cs n) r.drawn r.built (expression_lighter s)
