use Rattle.std.proofs.Common.{ap, ◌∙◌}
use Rattle.swc_ast.specs.Views.{arrow_body_tree}
use Rattle.swc_ast.proofs.Equations.{arrow_body_tree-BlockStmt}
use Rattle.dce_items.proofs.Wrapping.{called_arrow, empty}
use Rattle.dce_items.proofs.wrapper.body_of_arrow.Goals as goal

pub returns-in-BlockStmt : goal.returns-in-BlockStmt
returns-in-BlockStmt c =
    let n = c.args.n.now in called_arrow n c.in-BlockStmt.body (ap arrow_body_tree c.in-BlockStmt.is ∙ arrow_body_tree-BlockStmt c.in-BlockStmt.body) (empty _ _ n.params.items c.if-not-is_empty.false c.is_empty.ensures n.params.ok.0)
