use Rattle.std.proofs.Common.{bytes_eq}
use Rattle.swc_resolved.specs.Names.{has_text}
use Rattle.swc_resolved.proofs.Sets.{text_more}
use Rattle.swc_resolved.proofs.names.TextSet.insert.Goals as goal

pub returns : goal.returns
returns c = λ t. text_more (bytes_eq c.args.text.now t) (has_text c.args.self.now t) _ (c.in_ok-insert.ensures.updates.0 (record { ref_ptr = (0, 0); now = t }))
