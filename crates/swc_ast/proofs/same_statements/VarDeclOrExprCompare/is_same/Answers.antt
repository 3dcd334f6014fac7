use Rattle.std.proofs.Common.{◌∙◌}
use Rattle.swc_ast.specs.Same.{same, same_label}
use Rattle.swc_ast.specs.Nodes.{init_node}
use Rattle.swc_ast.proofs.Joined.{joined-1}
use Rattle.swc_ast.proofs.SameParts.{two-at}
use Rattle.swc_ast.proofs.same_statements.VarDeclOrExprCompare.is_same.Goals as goal

pub returns-in-VarDecl-VarDecl : goal.returns-in-VarDecl-VarDecl
unfolding same same_label
returns-in-VarDecl-VarDecl g c = c.is_same.ensures ∙ two-at (λ o p. same c.args.spans (init_node g.E.Compare.tree o) (init_node g.E.Compare.tree p)) c.in-VarDecl-VarDecl.is-0 c.in-VarDecl-VarDecl.is-1

pub returns-in-Expr-Expr : goal.returns-in-Expr-Expr
unfolding same same_label
returns-in-Expr-Expr g c = joined-1 c.is_same-in-Expr-Expr.ensures ∙ two-at (λ o p. same c.args.spans (init_node g.E.Compare.tree o) (init_node g.E.Compare.tree p)) c.in-Expr-Expr.is-0 c.in-Expr-Expr.is-1

pub returns-in_default : goal.returns-in_default
unfolding same same_label
returns-in_default g c = two-at (λ o p. same c.args.spans (init_node g.E.Compare.tree o) (init_node g.E.Compare.tree p)) c.in_default.is-0 c.in_default.is-1

pub returns-in_default-2 : goal.returns-in_default-2
unfolding same same_label
returns-in_default-2 g c = two-at (λ o p. same c.args.spans (init_node g.E.Compare.tree o) (init_node g.E.Compare.tree p)) c.in_default.is-0 c.in_default.is-1
