use Rattle.std.proofs.Common.{◌∙◌, sym, ap, length}
use Rattle.std.proofs.lemmas.List.{length-map}
use Rattle.swc_names.specs.Ids.{id_name}
use Rattle.swc_names.proofs.numbers.Names.len.Goals as goal

pub returns : goal.returns
returns c = c.len.ensures.len ∙ sym (length-map c.self.inside.set.keys id_name) ∙ ap length c.self.view_is
