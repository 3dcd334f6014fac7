use Rattle.swc_optimization.proofs.Runs.{run_simplifies}
use Rattle.swc_optimization.proofs.passes.Simplifier.run_whole.Goals as goal

pub returns-clause-simplified : goal.returns-clause-simplified
returns-clause-simplified g c = run_simplifies c.args.self.now.told c.args.self.now.most _ (g.W.Whole.tree c.args.whole) (g.W.Whole.tree c.in_ok-answer.answer) c.in_ok-answer.ensures.rounds c.in_ok-answer.ensures.changed
