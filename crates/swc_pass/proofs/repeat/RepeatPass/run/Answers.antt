use Rattle.swc_ast.specs.Modules.{module_tree}
use Rattle.swc_pass.specs.RepeatLaws.{repeated_lawful}
use Rattle.swc_pass.proofs.Keeping.{clone_folded}
use Rattle.swc_pass.proofs.repeat.RepeatPass.run.Goals as goal

pub returns-clause-folded : goal.returns-clause-folded
returns-clause-folded g c = clone_folded _ module_tree c.rewrite.result (repeated_lawful (g.met.P.Pass.lawful c.args.self.now.pass) _) c.in_ok-copy.ensures.cases c.rewrite.ensures.answer c.rewrite.ensures.changed
