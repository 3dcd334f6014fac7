use Rattle.std.proofs.Common.{arith}
use Rattle.swc_ast.specs.Parts.{list_trees}
use Rattle.swc_utils.specs.Globals.{unresolved}
use Rattle.tree_visit.specs.Nodes.{node_tree}
use Rattle.dce_items.proofs.Describing.{done_row}
use Rattle.dce_items.proofs.describe.describe_all.Goals as goal

pub returns-clause-described : goal.returns-clause-described
returns-clause-described c =
    done_row (unresolved c.args.ctx.now) c.args.retained.now c.args.names.now c.loop-left.described.items (list_trees node_tree c.args.items.now) c.loop-left.left.now (omega (arith, c.in_default.len_below)) c.loop-left.invariant
