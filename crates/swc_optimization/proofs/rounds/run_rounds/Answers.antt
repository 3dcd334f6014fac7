use Rattle.std.proofs.Common.{◌∙◌, ◌-◌, ◌+◌, refl, subst, arith}
use Rattle.swc_pass.specs.Repeat.{Rounds, none}
use Rattle.swc_optimization.specs.Simplifier.{Round}
use Rattle.swc_optimization.specs.Turns.{Turned}
use Rattle.swc_optimization.proofs.Turns.{turned_on}
use Rattle.swc_optimization.proofs.rounds.run_rounds.Goals as goal

pub loop-done-init : goal.loop-done-init
loop-done-init g c = (refl, omega arith, refl, none)

pub returns-then-ran-clause-rounds : goal.returns-then-ran-clause-rounds
returns-then-ran-clause-rounds g c =
    let i = c.loop-done.invariant in
    let ran = c.in_ok-turn.turn.ran in
    let turned = turned_on c.args.passes.now c.args.max_rounds c.loop-done.done (c.args.max_rounds - c.loop-done.done) ran.rounds ran.reached (g.W.InRounds.tree c.args.whole) (g.W.InRounds.tree c.loop-done.whole) (g.W.InRounds.tree ran.whole) (omega (arith, c.loop-done-test.true)) i.3 (subst (λ s. Turned s (c.args.max_rounds - c.loop-done.done) (g.W.InRounds.tree c.loop-done.whole) ran.rounds ran.reached (g.W.InRounds.tree ran.whole)) i.0 c.in_ok-turn.ensures.turned) in
    record {
      rounds = subst (λ b. Rounds (Round c.args.passes.now) (g.W.InRounds.tree c.args.whole) (c.loop-done.done + ran.rounds) b (g.W.InRounds.tree ran.whole)) c.if-ran.true turned.1;
      within = turned.0;
      fewer = λ k. refl;
    }

pub loop-done-preserved : goal.loop-done-preserved
loop-done-preserved g c =
    let i = c.loop-done.invariant in
    let ran = c.in_ok-turn.turn.ran in
    let turned = turned_on c.args.passes.now c.args.max_rounds c.loop-done.done (c.args.max_rounds - c.loop-done.done) ran.rounds ran.reached (g.W.InRounds.tree c.args.whole) (g.W.InRounds.tree c.loop-done.whole) (g.W.InRounds.tree ran.whole) (omega (arith, c.loop-done-test.true)) i.3 (subst (λ s. Turned s (c.args.max_rounds - c.loop-done.done) (g.W.InRounds.tree c.loop-done.whole) ran.rounds ran.reached (g.W.InRounds.tree ran.whole)) i.0 c.in_ok-turn.ensures.turned) in (
      c.in_ok-turn.ensures.told ∙ i.0,
      turned.0,
      refl,
      subst (λ b. Rounds (Round c.args.passes.now) (g.W.InRounds.tree c.args.whole) (c.loop-done.done + ran.rounds) b (g.W.InRounds.tree ran.whole)) c.if-ran.false turned.1,
    )
