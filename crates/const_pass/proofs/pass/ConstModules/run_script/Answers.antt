use Rattle.std.proofs.Common.{subst, sym}
use Rattle.swc_ast.specs.Modules.{script_tree}
use Rattle.swc_ast.specs.Parts.{list_trees}
use Rattle.swc_ast.specs.Views.{stmt_tree}
use Rattle.swc_pass.specs.Constants.{constants}
use Rattle.swc_pass.specs.Given.{SameGiven}
use Rattle.const_pass.specs.Replaced.{constants_in}
use Rattle.const_pass.proofs.Scripts.{script_same}
use Rattle.const_pass.proofs.pass.ConstModules.run_script.Goals as goal

pub returns-clause-same : goal.returns-clause-same
returns-clause-same c = λ mark. subst (SameGiven (constants (constants_in c.args.self.now.given) (list_trees stmt_tree c.args.script.now.body.items)) mark (script_tree c.args.script.now)) (sym c.in_ok-clone.ensures.cases) (script_same c.args.self.now.given c.args.script.now mark)
