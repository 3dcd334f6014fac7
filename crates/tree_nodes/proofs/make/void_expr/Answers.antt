use Rattle.std.proofs.Common.{ap, ◌∙◌}
use Rattle.swc_ast.specs.Expressions.{unary_node}
use Rattle.swc_ast.specs.Views.{expr_tree}
use Rattle.swc_ast.specs.declared.UnaryOp.TheVariants.{Void}
use Rattle.swc_ast.proofs.Equations.{expr_tree-Unary, expr_tree-Lit}
use Rattle.tree_nodes.proofs.make.void_expr.Goals as goal

pub returns : goal.returns
unfolding unary_node
returns c = expr_tree-Unary _ ∙ ap (unary_node Void c.args.span) (ap expr_tree c.in_ok-arg.ensures.ok ∙ expr_tree-Lit _)
