use Rattle.std.proofs.Common.{not, sym, subst}
use Rattle.round_proofs.specs.Rested.{AtRest}
use Rattle.swc_dce.specs.Shaken.{Shaken}
use Rattle.swc_optimization.specs.Turns.{Turned}
use Rattle.swc_optimization.proofs.Turns.{still_rests, one_round}
use Rattle.swc_optimization.proofs.rounds.Passes.turn.Goals as goal

pub shake_at_rest-requires-clause-rests : goal.shake_at_rest-requires-clause-rests
shake_at_rest-requires-clause-rests g c = subst (λ s. AtRest s (g.W.InRounds.tree c.in_ok-made.made.whole)) (sym c.in_ok-made.ensures.told) (still_rests c.args.self.now c.in_ok-made.made.changed (g.W.InRounds.tree c.args.whole) (g.W.InRounds.tree c.in_ok-made.made.whole) c.in_ok-made.ensures.answer c.in_ok-made.ensures.changed c.if-not-made.true)

pub returns-clause-turned : goal.returns-clause-turned
returns-clause-turned g c = subst (λ b. Turned c.args.self.now c.args.most (g.W.InRounds.tree c.args.whole) 1 (not b) (g.W.InRounds.tree c.in_ok-shaken.shaken.whole)) (sym c.either-changed.ensures) (one_round c.args.self.now c.args.most c.in_ok-made.made.changed c.in_ok-shaken.shaken.changed (g.W.InRounds.tree c.args.whole) (g.W.InRounds.tree c.in_ok-made.made.whole) (g.W.InRounds.tree c.in_ok-shaken.shaken.whole) c.requires c.in_ok-made.ensures.answer c.in_ok-made.ensures.changed (subst (λ s. Shaken s (g.W.InRounds.tree c.in_ok-made.made.whole) (g.W.InRounds.tree c.in_ok-shaken.shaken.whole)) c.in_ok-made.ensures.told c.in_ok-shaken.ensures.answer) c.in_ok-shaken.ensures.changed)
