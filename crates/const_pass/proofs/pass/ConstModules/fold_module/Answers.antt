use Rattle.std.proofs.Common.{[], ◌∷◌}
use Rattle.swc_ast.specs.Modules.{item_tree, module_tree}
use Rattle.swc_ast.specs.Parts.{list_trees}
use Rattle.const_pass.proofs.Answered.{replaced}
use Rattle.const_pass.proofs.pass.ConstModules.fold_module.Goals as goal

pub returns-clause-answer : goal.returns-clause-answer
returns-clause-answer c = replaced c.args.self.now.given (c.args.module.span ∷ []) (list_trees item_tree c.args.module.body.items) (module_tree c.in_ok-answer.answer) (module_tree c.settle-made.result.whole) c.in_ok-answer.ensures.put c.settle-made.ensures.gives
