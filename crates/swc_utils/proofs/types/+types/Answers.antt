use Rattle.std.proofs.Common.{refl, sym, ◌∙◌}
use Rattle.swc_utils.specs.Globals.{unresolved}
use Rattle.swc_utils.specs.Types.{type_of, last_type}
use Rattle.swc_utils.proofs.Lasts.{at_last}
use Rattle.swc_utils.proofs.types.+types.Goals as goal

pub type_of_last-returns-in-len1-up : goal.type_of_last-returns-in-len1-up
type_of_last-returns-in-len1-up t c = c.type_of.ensures ∙ sym (at_last (type_of (unresolved c.args.ctx)) (last_type (unresolved c.args.ctx)) (λ u. refl) (λ u v us. refl) _ _ c.in-len1-up.len_at_least c.last-item.is)
