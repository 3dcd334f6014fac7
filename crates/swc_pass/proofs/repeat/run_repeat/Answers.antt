use Rattle.std.proofs.Common.{◌∙◌, sym}
use Rattle.swc_pass.specs.RepeatLaws.{rounds_give, rounds_tell}
use Rattle.swc_pass.proofs.repeat.run_repeat.Goals as goal

pub returns-then-lowers-clause-rounds : goal.returns-then-lowers-clause-rounds
returns-then-lowers-clause-rounds g c = record {
  last = g.W.Whole.tree c.in_ok-ran.ran.whole;
  rounded = c.in_ok-ran.ensures.rounds;
  gives = rounds_give (g.met.P.Pass.lawful c.args.pass.now) _ _ _ _ (sym c.lowers.ensures ∙ c.if-lowers.true) c.in_ok-ran.ensures.rounds.rounds;
}

pub returns-then-lowers-clause-changed : goal.returns-then-lowers-clause-changed
returns-then-lowers-clause-changed g c = rounds_tell (g.met.P.Pass.lawful c.args.pass.now) _ _ _ _ _ (sym c.lowers.ensures ∙ c.if-lowers.true) c.is_some_changing-changed.ensures c.in_ok-ran.ensures.rounds.rounds
