use Rattle.std.proofs.Common.{ap, ◌∙◌}
use Rattle.swc_resolved.specs.Here.{distinct}
use Rattle.swc_resolved.specs.Names.{names}
use Rattle.swc_resolved.proofs.Binding.{gathered_one}
use Rattle.swc_resolved.proofs.here.is_head_good.Goals as goal

pub returns : goal.returns
returns c = c.in_ok-is_good.ensures ∙ ap distinct (ap names c.deref.ensures.value ∙ gathered_one c.new-names.result.items (names c.add_head.new.names.items) _ c.new-names.ensures.items c.in_ok-add_head.ensures)
