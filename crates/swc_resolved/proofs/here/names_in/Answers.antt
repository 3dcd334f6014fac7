use Rattle.swc_resolved.specs.Names.{names}
use Rattle.swc_resolved.proofs.Binding.{gathered_one}
use Rattle.swc_resolved.proofs.here.names_in.Goals as goal

pub returns : goal.returns
returns c = gathered_one c.new-names.result.items (names c.add_names.new.names.items) _ c.new-names.ensures.items c.in_ok-add_names.ensures
