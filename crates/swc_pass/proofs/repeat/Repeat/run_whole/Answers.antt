use Rattle.swc_pass.specs.RepeatLaws.{comes_to_end, few_rounds}
use Rattle.swc_pass.proofs.repeat.Repeat.run_whole.Goals as goal

pub returns-clause-rounds : goal.returns-clause-rounds
returns-clause-rounds g c =
    let rounds = c.in_ok-run.ensures.rounds in
    let lawful = g.met.P.Pass.lawful c.args.self.now.pass in
    record {
      repeats = rounds;
      comes_to_end = λ l k. comes_to_end lawful _ _ _ _ _ l k rounds.rounded;
      few_rounds = λ l. few_rounds lawful _ _ _ _ l rounds.rounded.rounds;
    }
