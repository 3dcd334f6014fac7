-- What a test that is known tells, and when a loop is left that no rule takes.
use Rattle.std.proofs.Common.{◌≡◌, ℕ, Bool, true, false, not, ◌&&◌, Option, Some, None, refl, sym, ap, subst, ◌∙◌}
use Rattle.std.specs.Prelude.{IfOk, IsNone}
use Rattle.std.specs.declared.result.Result.{Result}
use Rattle.std.proofs.lemmas.Result.{IfOk-weaker}
use Rattle.swc_ast.specs.Parts.{tree_or_absent}
use Rattle.swc_ast.specs.Redex.{is_truth}
use Rattle.swc_ast.specs.SameLaws.{impossible}
use Rattle.swc_ast.specs.Statements.{while_node}
use Rattle.swc_ast.specs.Tree.{BoolLit, Tree, node}
use Rattle.swc_ast.specs.Views.{expr_tree, for_tree, loop_trees}
use Rattle.swc_ast.specs.declared.expressions.Expr.{Expr}
use Rattle.swc_ast.specs.declared.statements.ForStmt.{ForStmt}
use Rattle.swc_ast.specs.declared.statements.Stmt.{Stmt}
use Rattle.swc_ast.specs.declared.statements.WhileStmt.{WhileStmt}
use Rattle.swc_ast.proofs.Equations.{loop_trees-is, for_tree-is}
use Rattle.static_proofs.specs.Free.{kind_at}
use Rattle.swc_utils.specs.Known.{pure_truth}
use Rattle.swc_utils.specs.Sound.{known}
use Rattle.swc_utils.specs.declared.answers.Value.{Value as Answer}
use Rattle.branch_rules.specs.Removes.{Rests, statement_redex}
use Rattle.branch_rules.specs.Turns.{Turns, by_rule, as_it_was}

-- whether an answer is this truth value
abbrev pub is_known : Bool → Option Bool → Bool
is_known b None = false
is_known true (Some a) = a
is_known false (Some a) = not a

-- a test whose truth is another one, or unknown, isn't the literal
pub not_this : (mark : ℕ) (b : Bool) (t : Tree) (k : Option Bool) → pure_truth mark t ≡ k → is_known b k ≡ false → is_truth b t ≡ false
not_this mark true (node (BoolLit true) ss cs) k e h = impossible (sym (ap (is_known true) e ∙ h))
not_this mark true (node (BoolLit false) ss cs) k e h = refl
not_this mark true (node _ ss cs) k e h = refl
not_this mark false (node (BoolLit false) ss cs) k e h = impossible (sym (ap (is_known false) e ∙ h))
not_this mark false (node (BoolLit true) ss cs) k e h = refl
not_this mark false (node _ ss cs) k e h = refl

-- what an answer on a test says of its tree
pub known_test : (mark : ℕ) (a : Answer Bool) (e f : Expr) (k : Option Bool) → known a ≡ pure_truth mark (expr_tree e) → e ≡ f → known a ≡ k → pure_truth mark (expr_tree f) ≡ k
known_test mark a e f k h is j = sym (ap (λ x. pure_truth mark (expr_tree x)) is) ∙ sym h ∙ j

pub and_false : (a b : Bool) → b ≡ false → (a && b) ≡ false
and_false true b h = h
and_false false b h = refl

pub while_rests : (n : WhileStmt) → is_truth false (expr_tree n.test.value) ≡ false → Rests (while_node (loop_trees n))
while_rests n h = ap (λ p. kind_at statement_redex (while_node p)) (loop_trees-is n) ∙ and_false _ _ h

pub for_rests : (n : ForStmt) → is_truth true (tree_or_absent expr_tree n.test) ≡ false → Rests (for_tree n)
for_rests n h = ap (kind_at statement_redex) (for_tree-is n) ∙ and_false _ _ h

-- where no rule takes it, the loop is as it was
pub turned_same : {mark : ℕ} {t u : Tree} {o : Option Stmt} → Turns mark t u o → IsNone o → u ≡ t
turned_same (by_rule rs h is) n = impossible (sym n)
turned_same (as_it_was e) n = e

pub finished_by : {E : Type 0} (mark : ℕ) (r : Result (Option Stmt) E) (t u : Tree) → IfOk r (λ o. Turns mark t u o) → Rests t → IfOk r (λ o. IsNone o → Rests u)
finished_by mark r t u h k = IfOk-weaker r (λ o. Turns mark t u o) (λ o. IsNone o → Rests u) (λ o g n. subst Rests (sym (turned_same g n)) k) h
