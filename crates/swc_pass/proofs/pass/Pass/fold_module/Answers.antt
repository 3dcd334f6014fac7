use Rattle.swc_ast.specs.Modules.{module_tree}
use Rattle.swc_pass.proofs.Keeping.{folded}
use Rattle.swc_pass.proofs.pass.Pass.fold_module.Goals as goal

pub returns-clause-folded : goal.returns-clause-folded
returns-clause-folded g c = folded _ _ module_tree c.rewrite.result (g.met.Self.Pass.lawful c.args.self.now) c.rewrite.ensures.answer c.rewrite.ensures.changed
