use Rattle.swc_ast.specs.Marks.{mark_number}
use Rattle.swc_ast.specs.Modules.{module_tree}
use Rattle.swc_ast.specs.Views.{expr_tree}
use Rattle.shake_given.proofs.Chains.{is_an_expression}
use Rattle.shake_given.proofs.Doubled.{module_decides}
use Rattle.shake_given.proofs.fit.is_givable.Goals as goal

pub returns-clause-answer : goal.returns-clause-answer
returns-clause-answer c = module_decides (mark_number c.args.mark) (expr_tree c.args.value.now) (module_tree c.in_ok-twice.twice) c.in_ok-is_good.is_good (is_an_expression c.args.value.now) c.in_ok-twice.ensures c.in_ok-is_good.ensures.answer
