use Rattle.std.proofs.Common.{false, subst, arith}
use Rattle.swc_pass.specs.Repeat.{Rounds}
use Rattle.round_proofs.specs.Rested.{AtRest, Rested}
use Rattle.swc_optimization.proofs.Turns.{only_rested, rested_then}
use Rattle.swc_optimization.proofs.rounds.Passes.shake_at_rest.Goals as goal

pub returns-then-left-most-clause-turned : goal.returns-then-left-most-clause-turned
returns-then-left-most-clause-turned g c = only_rested c.args.self.now c.args.most c.in_ok-left.left.rounds (g.W.InRounds.tree c.args.whole) (g.W.InRounds.tree c.in_ok-left.left.whole) c.requires.some c.if-left-most.true (subst (λ s. Rounds (Rested s) (g.W.InRounds.tree c.args.whole) c.in_ok-left.left.rounds false (g.W.InRounds.tree c.in_ok-left.left.whole)) c.self.view_is c.in_ok-left.ensures.rounds)

pub returns-clause-turned : goal.returns-clause-turned
returns-clause-turned g c = rested_then c.args.self.now c.args.most c.in_ok-left.left.rounds c.in_ok-shaken.shaken.changed (g.W.InRounds.tree c.args.whole) (g.W.InRounds.tree c.in_ok-left.left.whole) (g.W.InRounds.tree c.in_ok-shaken.shaken.whole) (omega (arith, c.in_ok-left.ensures.within, c.if-left-most.false)) (subst (λ s. Rounds (Rested s) (g.W.InRounds.tree c.args.whole) c.in_ok-left.left.rounds false (g.W.InRounds.tree c.in_ok-left.left.whole)) c.self.view_is c.in_ok-left.ensures.rounds) (subst (λ s. AtRest s (g.W.InRounds.tree c.in_ok-left.left.whole)) c.self.view_is c.in_ok-left.ensures.rests) c.in_ok-shaken.ensures.answer c.in_ok-shaken.ensures.changed
