use Rattle.std.proofs.Common.{rules}
use Rattle.tree_walk.specs.Walks.{none}
use Rattle.tree_walk.proofs.Walked.{each_more, each_all}
use Rattle.branch_switch.proofs.Sheds.{ShedEach, each_sheds, each_no_deeper}
use Rattle.branch_switch.proofs.shed.shed_cases.Goals as goal

pub loop-i-init : goal.loop-i-init
loop-i-init c = (search rules, none)

pub loop-i-preserved : goal.loop-i-preserved
loop-i-preserved c = (search rules, each_more ShedEach _ _ _ c.index_mut.result.now c.shed_case-one.new.case _ _ (search rules) c.loop-i.invariant.0.0 (search rules) (c.shed_case-one.ensures.sheds, c.shed_case-one.ensures.no_deeper) c.loop-i.invariant.1)

pub returns-clause-sheds : goal.returns-clause-sheds
returns-clause-sheds c = each_sheds (each_all ShedEach _ _ _ _ (search rules) c.loop-i.invariant.0.0 c.loop-i.invariant.1)

pub returns-clause-no_deeper : goal.returns-clause-no_deeper
returns-clause-no_deeper c = each_no_deeper (each_all ShedEach _ _ _ _ (search rules) c.loop-i.invariant.0.0 c.loop-i.invariant.1)
