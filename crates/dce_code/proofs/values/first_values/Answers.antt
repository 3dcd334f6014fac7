use Rattle.std.proofs.Common.{sym, ◌∙◌, rules}
use Rattle.std.specs.Vec.Iter.{into_iter_items}
use Rattle.dce_code.proofs.Given.{nothing_in}
use Rattle.dce_code.proofs.Valued.{gathered_none, gathered_on, gathered_all}
use Rattle.dce_code.proofs.values.first_values.Goals as goal

pub loop-d-init : goal.loop-d-init
loop-d-init c = gathered_none c.args.decls.items _ _ (search rules) (search rules)

pub loop-d-preserved : goal.loop-d-preserved
loop-d-preserved c = gathered_on c.args.decls.items _ _ c.in-Some.d c.loop-d.out.items _ c.in-Some.ensures.steps.0 c.in_ok-push_value.ensures c.loop-d.invariant

pub returns : goal.returns
returns c = λ S k free. gathered_all c.args.decls.items (into_iter_items c.loop-d.d-iterator) c.loop-d.out.items (nothing_in (into_iter_items c.loop-d.d-iterator) (sym c.loop-d.d-iterator.rest.ok.0 ∙ c.in-None.ensures.steps.0)) c.loop-d.invariant S k free
