use Rattle.tree_visit.specs.Nodes.{children_forest}
use Rattle.tree_visit.proofs.Caps.{forest_size}
use Rattle.dce_uses.specs.Noted.{is_hiding}
use Rattle.dce_uses.specs.Listed.{listed}
use Rattle.dce_uses.proofs.Lists.{Left}
use Rattle.dce_uses.proofs.table.Table.note_listed.Given as goal

abbrev pub invariant-loop-child : goal.invariant-loop-child
invariant-loop-child l = Left l.initial.self l.self is_hiding (listed l.part (children_forest l.children)) (listed l.part (children_forest l.left))

abbrev pub decreases-loop-child : goal.decreases-loop-child
decreases-loop-child l = forest_size (children_forest l.left)
