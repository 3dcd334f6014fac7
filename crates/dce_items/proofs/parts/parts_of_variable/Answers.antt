use Rattle.swc_utils.specs.Globals.{unresolved}
use Rattle.dce_items.proofs.Dividing.{other_divides}
use Rattle.dce_items.proofs.parts.parts_of_variable.Goals as goal

pub returns-in_default : goal.returns-in_default
returns-in_default c = other_divides (unresolved c.args.ctx.now) c.args.item c.whole.result c.args.variable c.whole.ensures.name c.whole.ensures.inner c.in_default.not-Declarator
