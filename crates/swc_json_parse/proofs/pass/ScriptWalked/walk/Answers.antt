use Rattle.swc_ast.specs.Modules.{script_tree}
use Rattle.swc_json_parse.proofs.Answered.{walked}
use Rattle.swc_json_parse.proofs.pass.ScriptWalked.walk.Goals as goal

pub returns : goal.returns
returns c = walked c.put_script.result c.args.rules.now.min_cost c.put_script.new.rules.min_cost (script_tree c.args.self.now) (script_tree c.put_script.new.n) c.put_script.ensures
