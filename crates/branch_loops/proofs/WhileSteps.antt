-- Steps of `while`.
use Rattle.std.proofs.Common.{◌≡◌, ℕ, true, false, [], ◌∷◌, Some, sym, ap, ap₂, subst, ◌∙◌}
use Rattle.swc_ast.specs.Statements.{while_node}
use Rattle.swc_ast.specs.Tree.{While, Tree, node, ε, ◌⊳◌}
use Rattle.swc_ast.specs.Views.{expr_tree, loop_trees, stmt_tree}
use Rattle.swc_ast.specs.Weight.{is_truth_or_absent}
use Rattle.swc_ast.specs.declared.statements.Stmt.{Stmt}
use Rattle.swc_ast.specs.declared.statements.WhileStmt.{WhileStmt}
use Rattle.swc_ast.proofs.Equations.{loop_trees-is}
use Rattle.swc_utils.specs.Known.{truth, pure_truth}
use Rattle.swc_utils.specs.Pure.{pure}
use Rattle.pass_proofs.proofs.ExprTrees.{is_an_expression}
use Rattle.branch_rules.specs.Removes.{statement}
use Rattle.branch_rules.specs.Statements.{while_true, while_false, while_never}
use Rattle.branch_rules.specs.Turns.{Turns, by_rule}
use Rattle.branch_expressions.proofs.Made.{pure_known}
use Rattle.branch_loops.specs.Bodies.{IsNames, Outweighs, truth_tree}

pub while_is : (n : WhileStmt) → while_node (loop_trees n) ≡ node While (n.span ∷ []) (expr_tree n.test.value ⊳ stmt_tree n.body.value ⊳ ε)
while_is n = ap while_node (loop_trees-is n)

module _ (mark : ℕ) (n : WhileStmt) where
  turns : (u : Tree) (s : Stmt) → Turns mark (node While (n.span ∷ []) (expr_tree n.test.value ⊳ stmt_tree n.body.value ⊳ ε)) u (Some s) → Turns mark (while_node (loop_trees n)) u (Some s)
  turns u s h = subst (λ x. Turns mark x u (Some s)) (sym (while_is n)) h

  pub endless_turns : (m : WhileStmt) (u : Tree) (s : Stmt) → stmt_tree s ≡ while_node (loop_trees m) → pure_truth mark (expr_tree n.test.value) ≡ Some true → is_truth_or_absent (expr_tree n.test.value) ≡ false → expr_tree m.test.value ≡ truth_tree true → m.body.value ≡ n.body.value → Turns mark (while_node (loop_trees n)) u (Some s)
  endless_turns m u s is h shut test body =
      let p = pure_known (pure mark (expr_tree n.test.value)) (truth mark (expr_tree n.test.value)) true h in
      turns u s (by_rule [] (statement (while_true (n.span ∷ []) (record { lo = 0; hi = 0 } ∷ []) (m.span ∷ []) (expr_tree n.test.value) (stmt_tree n.body.value) (is_an_expression n.test.value) shut p.0 p.1))
      (is ∙ while_is m ∙ ap₂ (λ x y. node While (m.span ∷ []) (x ⊳ y ⊳ ε)) test (ap stmt_tree body)))

  pub skipped_turns : (m : WhileStmt) (u : Tree) (s b r : Stmt) → stmt_tree s ≡ while_node (loop_trees m) → IsNames (stmt_tree b) (stmt_tree r) → b ≡ n.body.value → truth mark (expr_tree n.test.value) ≡ Some false → Outweighs (stmt_tree n.body.value) → m.body.value ≡ r → m.test.value ≡ n.test.value → Turns mark (while_node (loop_trees n)) u (Some s)
  skipped_turns m u s b r is names at h heavy body test =
      let k = subst (λ x. IsNames (stmt_tree x) (stmt_tree r)) at names in
      turns u s (by_rule [] (statement (while_false (n.span ∷ []) k.spans (m.span ∷ []) (expr_tree n.test.value) (stmt_tree n.body.value) (is_an_expression n.test.value) h k.declares (heavy.more k.spans k.names k.declares)))
      (is ∙ while_is m ∙ ap₂ (λ x y. node While (m.span ∷ []) (x ⊳ y ⊳ ε)) (ap expr_tree test) (ap stmt_tree body ∙ k.is)))

  pub never_turns : (u : Tree) (s b : Stmt) → IsNames (stmt_tree b) (stmt_tree s) → b ≡ n.body.value → pure_truth mark (expr_tree n.test.value) ≡ Some false → Turns mark (while_node (loop_trees n)) u (Some s)
  never_turns u s b names at h =
      let k = subst (λ x. IsNames (stmt_tree x) (stmt_tree s)) at names in
      let p = pure_known (pure mark (expr_tree n.test.value)) (truth mark (expr_tree n.test.value)) false h in
      turns u s (by_rule k.spans (statement (while_never (n.span ∷ []) (expr_tree n.test.value) (stmt_tree n.body.value) (is_an_expression n.test.value) p.0 p.1 k.declares)) k.is)
