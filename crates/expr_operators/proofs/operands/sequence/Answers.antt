use Rattle.std.proofs.Common.{[], ◌∷◌, ap, ◌∙◌}
use Rattle.swc_ast.specs.Parts.{list_trees}
use Rattle.swc_ast.specs.Tree.{Seq, node}
use Rattle.swc_ast.specs.Views.{expr_tree}
use Rattle.swc_ast.proofs.Equations.{expr_tree-Seq}
use Rattle.expr_operators.proofs.operands.sequence.Goals as goal

pub returns : goal.returns
returns c = expr_tree-Seq _ ∙ ap (λ xs. node Seq (c.args.span ∷ []) (list_trees expr_tree xs)) c.in_ok-exprs.ensures.items
