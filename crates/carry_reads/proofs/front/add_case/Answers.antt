use Rattle.std.proofs.Common.{ap}
use Rattle.tree_visit.specs.Kinds.{kind_label}
use Rattle.tree_visit.specs.Nodes.{node_tree, children_forest}
use Rattle.carry_reads.proofs.Fronting.{call_adds, case_body, no_case}
use Rattle.carry_reads.proofs.front.add_case.Goals as goal

pub returns-in-CaseBody : goal.returns-in-CaseBody
returns-in-CaseBody c = call_adds c.args.vars.now c.args.ready.now c.add_functions.new.ready _ _ c.add_functions.result (case_body (node_tree c.args.n) (kind_label c.open-opened.result.kind) (children_forest c.open-opened.result.children) c.open-opened.ensures.0 c.open-opened.ensures.1 (ap kind_label c.in-CaseBody.is)) c.add_functions.ensures

pub returns-in_default : goal.returns-in_default
returns-in_default c = no_case c.args.vars.now c.args.ready.now (node_tree c.args.n) c.open-opened.result.kind c.open-opened.ensures.0 c.in_default.not-CaseBody
