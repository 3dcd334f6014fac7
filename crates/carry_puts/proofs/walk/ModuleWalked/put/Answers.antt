use Rattle.std.specs.Prelude.{map}
use Rattle.swc_ast.specs.Modules.{module_tree}
use Rattle.given_rules.proofs.FormedViews.{module_formed}
use Rattle.carry_parts.specs.Carries.{pass_of, puts_of}
use Rattle.carry_puts.specs.Values.{state_of}
use Rattle.carry_puts.proofs.Written.{call_put}
use Rattle.carry_puts.proofs.walk.ModuleWalked.put.Goals as goal

pub returns : goal.returns
returns c = call_put c.put_module.result (pass_of c.args.pass) (map puts_of c.args.reads.now.items) (module_tree c.args.self.now) (module_tree c.put_module.new.n) (state_of c.put_module.new.rules) (module_formed c.args.self.now) c.put_module.ensures
