use Rattle.std.proofs.Common.{ap, ◌∙◌}
use Rattle.swc_resolved.specs.Here.{distinct}
use Rattle.swc_resolved.specs.Names.{names}
use Rattle.swc_resolved.proofs.here.are_declared_once.Goals as goal

pub returns : goal.returns
returns c = c.in_ok-is_good.ensures ∙ ap distinct (ap names c.deref.ensures.value ∙ c.in_ok-names.ensures)
