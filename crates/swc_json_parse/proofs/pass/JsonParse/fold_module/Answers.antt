use Rattle.std.proofs.Common.{refl}
use Rattle.swc_ast.specs.Modules.{module_tree}
use Rattle.swc_json_parse.proofs.Answered.{some_parsed, none_parsed}
use Rattle.swc_json_parse.proofs.pass.JsonParse.fold_module.Goals as goal

pub returns-in-Some-clause-answer : goal.returns-in-Some-clause-answer
returns-in-Some-clause-answer c = some_parsed module_tree c.args.self.now.min_cost (module_tree c.args.module) c.in_ok-answer.field-0 c.in-Some.answer c.answer.new.self.changed c.in_ok-answer.ensures.answer c.in-Some.is

pub returns-in-None-clause-answer : goal.returns-in-None-clause-answer
returns-in-None-clause-answer c = none_parsed module_tree c.args.self.now.min_cost (module_tree c.args.module) (module_tree c.args.module) c.in_ok-answer.field-0 c.answer.new.self.changed c.in_ok-answer.ensures.answer c.in-None.is refl
