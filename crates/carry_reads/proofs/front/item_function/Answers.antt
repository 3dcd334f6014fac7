use Rattle.std.proofs.Common.{◌∙◌}
use Rattle.tree_visit.specs.Nodes.{node_tree}
use Rattle.carry_reads.proofs.Fronting.{plain_item}
use Rattle.carry_reads.proofs.front.item_function.Goals as goal

pub returns-in_default : goal.returns-in_default
returns-in_default c = c.function_name-in_default.ensures ∙ plain_item (node_tree c.args.n) c.open-opened.result.kind c.in_default.not-ExportDecl c.open-opened.ensures.0
