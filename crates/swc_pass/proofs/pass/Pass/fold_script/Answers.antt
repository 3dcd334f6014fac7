use Rattle.swc_ast.specs.Modules.{script_tree}
use Rattle.swc_pass.proofs.Keeping.{folded}
use Rattle.swc_pass.proofs.pass.Pass.fold_script.Goals as goal

pub returns-clause-folded : goal.returns-clause-folded
returns-clause-folded g c = folded _ _ script_tree c.rewrite_script.result (g.met.Self.Pass.lawful c.args.self.now) c.rewrite_script.ensures.answer c.rewrite_script.ensures.changed
