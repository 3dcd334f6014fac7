use Rattle.std.specs.Vec.Iter.{into_iter_items}
use Rattle.swc_utils.specs.Globals.{unresolved}
use Rattle.branch_expressions.proofs.Kept.{kept_all, kept_goes, kept_stays}
use Rattle.branch_expressions.proofs.objects.kept_props.Goals as goal

pub loop-prop-preserved-then-goes : goal.loop-prop-preserved-then-goes
loop-prop-preserved-then-goes c = kept_goes (unresolved c.args.ctx.now) c.loop-prop.changed c.loop-prop.out.items (into_iter_items c.loop-prop.prop-iterator) c.args.props.items _ c.in-Some.prop c.in-Some.ensures.steps.0 (c.goes.ensures c.if-goes.true) c.loop-prop.invariant

pub loop-prop-preserved : goal.loop-prop-preserved
loop-prop-preserved c = kept_stays (unresolved c.args.ctx.now) c.loop-prop.changed c.loop-prop.out.items c.push.new.self.items (into_iter_items c.loop-prop.prop-iterator) c.args.props.items _ c.in-Some.prop c.in-Some.ensures.steps.0 c.in_ok-push.ensures.items c.loop-prop.invariant

pub returns : goal.returns
returns c = kept_all (unresolved c.args.ctx.now) c.loop-prop.changed c.loop-prop.out.items c.args.props.items c.loop-prop.prop-iterator c.in-None.ensures.steps.0 c.loop-prop.invariant
