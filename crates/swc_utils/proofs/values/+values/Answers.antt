use Rattle.std.proofs.Common.{refl, sym, ◌∙◌}
use Rattle.swc_utils.specs.Globals.{unresolved}
use Rattle.swc_utils.specs.Known.{truth, last_truth}
use Rattle.swc_utils.proofs.Lasts.{at_last}
use Rattle.swc_utils.proofs.values.+values.Goals as goal

pub truth_of_last-returns-in-len1-up : goal.truth_of_last-returns-in-len1-up
truth_of_last-returns-in-len1-up t c = c.truth_of.ensures ∙ sym (at_last (truth (unresolved c.args.ctx)) (last_truth (unresolved c.args.ctx)) (λ u. refl) (λ u v us. refl) _ _ c.in-len1-up.len_at_least c.last-item.is)
