use Rattle.swc_ast.specs.Modules.{module_tree}
use Rattle.swc_json_parse.proofs.Answered.{walked}
use Rattle.swc_json_parse.proofs.pass.ModuleWalked.walk.Goals as goal

pub returns : goal.returns
returns c = walked c.put_module.result c.args.rules.now.min_cost c.put_module.new.rules.min_cost (module_tree c.args.self.now) (module_tree c.put_module.new.n) c.put_module.ensures
