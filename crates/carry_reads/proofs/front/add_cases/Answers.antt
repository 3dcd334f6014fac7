use Rattle.std.proofs.Common.{ap, ◌∙◌}
use Rattle.tree_visit.specs.Nodes.{node_tree, children_forest, next_forest}
use Rattle.carry_reads.proofs.Fronting.{case_split, no_cases}
use Rattle.carry_reads.proofs.Readying.{adding_first, adding_next, adding_last, adding_covers}
use Rattle.carry_reads.proofs.front.add_cases.Goals as goal

pub loop-child-init : goal.loop-child-init
loop-child-init c = adding_first _ _ _

pub loop-child-preserved : goal.loop-child-preserved
loop-child-preserved c = adding_next (case_split (node_tree c.in-Some.child) (children_forest c.in-Some.rest) (children_forest c.loop-child.left) (c.next.ensures ∙ ap next_forest c.in-Some.is)) c.loop-child.invariant c.in_ok-add_case.ensures

pub add_case-requires : goal.add_case-requires
add_case-requires c = adding_covers c.requires c.loop-child.invariant

pub returns : goal.returns
returns c = adding_last (no_cases (children_forest c.loop-child.left) (c.next.ensures ∙ ap next_forest c.in_default.is)) c.loop-child.invariant
