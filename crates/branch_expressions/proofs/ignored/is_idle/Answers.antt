use Rattle.swc_utils.specs.Globals.{unresolved}
use Rattle.branch_expressions.proofs.Made.{idle_goes}
use Rattle.branch_expressions.proofs.ignored.is_idle.Goals as goal

pub returns : goal.returns
returns c = λ h. idle_goes (unresolved c.args.ctx.now) c.args.e.now _ c.may_have_side_effects.ensures.answer h
