use Rattle.std.proofs.Common.{◌∙◌, sym, subst, refl, arith}
use Rattle.swc_pass.specs.Repeat.{none}
use Rattle.swc_pass.specs.RepeatLaws.{round_on, round_last}
use Rattle.swc_pass.proofs.repeat.run_rounds.Goals as goal

pub loop-done-init : goal.loop-done-init
loop-done-init g c = (refl, omega arith, refl, none)

pub returns-then-not-changed-clause-rounds : goal.returns-then-not-changed-clause-rounds
returns-then-not-changed-clause-rounds g c =
    let i = c.loop-done.invariant in
    record {
      rounds = round_last _ (sym c.changed.ensures ∙ c.if-not-changed.true) i.3 (subst (λ s. (g.P.Pass.spec s).answers (g.W.Whole.tree c.loop-done.whole) (g.W.Whole.tree c.in_ok-whole.whole)) i.0 c.in_ok-whole.ensures.answer) c.in_ok-whole.ensures.changed;
      within = omega (arith, c.loop-done-test.true);
      fewer = λ k. refl;
    }

pub loop-done-preserved : goal.loop-done-preserved
loop-done-preserved g c =
    let i = c.loop-done.invariant in (
      c.rewritten.ensures.settings ∙ i.0,
      omega (arith, c.loop-done-test.true),
      refl,
      round_on _ (sym c.changed.ensures ∙ c.if-not-changed.false) i.3 (subst (λ s. (g.P.Pass.spec s).answers (g.W.Whole.tree c.loop-done.whole) (g.W.Whole.tree c.in_ok-whole.whole)) i.0 c.in_ok-whole.ensures.answer) c.in_ok-whole.ensures.changed,
    )
