use Rattle.swc_ast.specs.Modules.{module_tree}
use Rattle.core_trees.proofs.Inside.{core_told}
use Rattle.core_trees.proofs.answer.is_core.Goals as goal

pub returns-clause-answer : goal.returns-clause-answer
returns-clause-answer c = λ v. core_told _ (module_tree c.args.m.now) c.in_ok-answer.ensures v
