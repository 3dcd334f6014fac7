use Rattle.std.proofs.Common.{ap, ◌∙◌}
use Rattle.swc_resolved.specs.Names.{names}
use Rattle.swc_resolved.proofs.Lists.{apart_as}
use Rattle.swc_resolved.proofs.here.is_list_good.Goals as goal

pub returns : goal.returns
returns c = c.in_ok-is_good.ensures ∙ apart_as _ _ _ (ap names c.deref.ensures.value ∙ c.in_ok-names.ensures)
