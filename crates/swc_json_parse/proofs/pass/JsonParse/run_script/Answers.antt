use Rattle.swc_ast.specs.Modules.{script_tree}
use Rattle.swc_json_parse.proofs.Answered.{some_parsed, none_parsed}
use Rattle.swc_json_parse.proofs.pass.JsonParse.run_script.Goals as goal

pub returns-in-Some-clause-answer : goal.returns-in-Some-clause-answer
returns-in-Some-clause-answer c = some_parsed script_tree c.args.self.now.min_cost (script_tree c.args.script.now) c.in_ok-answer.field-0 c.in-Some.answer c.answer.new.self.changed c.in_ok-answer.ensures.answer c.in-Some.is

pub returns-in_ok-copy-in-None-clause-answer : goal.returns-in_ok-copy-in-None-clause-answer
returns-in_ok-copy-in-None-clause-answer c = none_parsed script_tree c.args.self.now.min_cost (script_tree c.args.script.now) (script_tree c.in_ok-copy-in-None.field-0) c.in_ok-answer.field-0 c.answer.new.self.changed c.in_ok-answer.ensures.answer c.in-None.is c.in_ok-copy-in-None.ensures
