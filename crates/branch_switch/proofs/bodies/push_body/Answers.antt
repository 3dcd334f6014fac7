use Rattle.std.proofs.Common.{ap, ◌∙◌}
use Rattle.swc_ast.specs.Parts.{list_trees}
use Rattle.swc_ast.specs.Views.{stmt_tree}
use Rattle.branch_switch.proofs.Loops.{appended}
use Rattle.branch_switch.proofs.bodies.push_body.Goals as goal

pub returns : goal.returns
returns c = ap (list_trees stmt_tree) c.in_ok-append.ensures.items ∙ appended c.args.out.now.items _
