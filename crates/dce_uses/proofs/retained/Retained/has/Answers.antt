use Rattle.std.proofs.Common.{ap, ◌∙◌}
use Rattle.swc_ast.specs.Run.{has_text}
use Rattle.dce_uses.proofs.Retaining.{found}
use Rattle.dce_uses.proofs.retained.Retained.has.Goals as goal

pub returns : goal.returns
returns c = c.contains.ensures ∙ found c.args.text.now c.self.inside.texts.keys ∙ ap (has_text c.args.text.now) c.self.view_is
