use Rattle.std.proofs.Common.{ℕ, List, sym, subst, ◌∙◌}
use Rattle.std.proofs.lemmas.Bool.{false≢true}
use Rattle.dce_peel.specs.Rounds.{Each, FitsBy, top}
use Rattle.dce_peel.proofs.Tables.{each_fits}
use Rattle.dce_peel.proofs.layers.are_layers.Goals as goal
use Rattle.dce_peel.proofs.layers.are_layers.Goals.{then-is_among, else-is_among}

pub returns : goal.returns
returns c h =
    let t = top c.args.items.now c.args.layers.now in
    elim c.if-is_among.branch [
      | then-is_among w ↦ record {
        fit = each_fits c.in_ok-tops.tops.items t c.in_ok-tops.ensures c.args.rounds c.args.items.now c.args.layers.now (subst (λ (xs : List ℕ). Each (FitsBy xs c.args.rounds) c.args.items.now c.args.layers.now) w.deref.ensures.value (w.all_fit.ensures (sym w.result-is ∙ h)));
        reaches = λ _. sym w.if-is_among.ensures;
      }
      | else-is_among w ↦ absurd (false≢true (sym (w.result-is ∙ w.if-is_among.false) ∙ h))
    ]
