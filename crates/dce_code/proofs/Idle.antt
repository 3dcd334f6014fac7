-- Assignments to names that nothing reads.
use Rattle.std.proofs.Common.{◌≡◌, true, List, sym, subst}
use Rattle.swc_ast.specs.declared.Span.{Span}
use Rattle.swc_ast.specs.declared.expressions.AssignExpr.{AssignExpr}
use Rattle.std.specs.declared.alloc.Global.{Global}
use Rattle.std.specs.declared.boxed.Box.{Box}
use Rattle.swc_ast.specs.declared.expressions.Expr.{Expr}
use Rattle.swc_ast.specs.declared.expressions.Expr.TheVariants as in_expr
use Rattle.swc_ast.specs.declared.AssignOp.TheVariants.{Assign as Plain}
use Rattle.swc_ast.specs.declared.expressions.AssignTarget.TheVariants as target
use Rattle.swc_ast.specs.declared.names.Ident.{Ident}
use Rattle.swc_ast.specs.Expressions.{assign_node, assign_tree}
use Rattle.swc_ast.specs.Parts.{ident_name}
use Rattle.swc_ast.specs.Tree.{Tree, label_of}
use Rattle.swc_ast.specs.Views.{expr_tree}
use Rattle.swc_ast.proofs.Places.{at_expr-Assign}
use Rattle.swc_ast.specs.Labels.{is_expression}
use Rattle.swc_utils.specs.Pure.{pure}
use Rattle.pass_rules.specs.Leaves.{guarded}
use Rattle.pass_proofs.proofs.ExprTrees.{is_an_expression}
use Rattle.dce_rules.specs.Shakes.{Shaker, Opens, value, shielded}
use Rattle.dce_code.specs.Assignments.{Unread, unread}

-- by the trees

by_value : {S : Shaker} {r t : Tree} → Unread S r t → is_expression (label_of r) ≡ true → pure S.mark r ≡ true → Opens S t r
by_value (unread u) e p = value u e p

by_shield : {S : Shaker} {r t : Tree} → Unread S r t → is_expression (label_of r) ≡ true → pure S.mark r ≡ true → (rs zs : List Span) → Opens S t (guarded rs zs r)
by_shield (unread u) e p rs zs = shielded u e p

module _ (S : Shaker) (e r : Expr) (n : Box (AssignExpr Expr) Global) (is : e ≡ in_expr.Assign n) (at : r ≡ n.value.right.value) (idle : Unread S (expr_tree n.value.right.value) (assign_tree expr_tree n.value)) where
  opened : Unread S (expr_tree r) (expr_tree e)
  opened = subst (λ t. Unread S (expr_tree r) t) (sym (at_expr-Assign e n is)) (subst (λ x. Unread S (expr_tree x) (assign_tree expr_tree n.value)) (sym at) idle)

  -- the value takes the assignment's place
  pub gives_value : pure S.mark (expr_tree r) ≡ true → Opens S (expr_tree e) (expr_tree r)
  gives_value p = by_value opened (is_an_expression r) p

  -- or `(0, value)`
  pub gives_shielded : pure S.mark (expr_tree r) ≡ true → (rs zs : List Span) → Opens S (expr_tree e) (guarded rs zs (expr_tree r))
  gives_shielded p rs zs = by_shield opened (is_an_expression r) p rs zs

-- a plain assignment, by its parts
pub idle_at : (S : Shaker) (n : AssignExpr Expr) (x : Ident) → n.left ≡ target.Ident x → n.op ≡ Plain → S.unread (ident_name x) ≡ true → Unread S (expr_tree n.right.value) (assign_tree expr_tree n)
idle_at S n x is op u =
    subst (λ o. Unread S (expr_tree n.right.value) (assign_node expr_tree o n.span n.left (expr_tree n.right.value))) (sym op)
    (subst (λ t. Unread S (expr_tree n.right.value) (assign_node expr_tree Plain n.span t (expr_tree n.right.value))) (sym is) (unread u))
