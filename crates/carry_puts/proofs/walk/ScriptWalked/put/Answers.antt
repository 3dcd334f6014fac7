use Rattle.std.specs.Prelude.{map}
use Rattle.swc_ast.specs.Modules.{script_tree}
use Rattle.given_rules.proofs.FormedViews.{script_formed}
use Rattle.carry_parts.specs.Carries.{pass_of, puts_of}
use Rattle.carry_puts.specs.Values.{state_of}
use Rattle.carry_puts.proofs.Written.{call_put}
use Rattle.carry_puts.proofs.walk.ScriptWalked.put.Goals as goal

pub returns : goal.returns
returns c = call_put c.put_script.result (pass_of c.args.pass) (map puts_of c.args.reads.now.items) (script_tree c.args.self.now) (script_tree c.put_script.new.n) (state_of c.put_script.new.rules) (script_formed c.args.self.now) c.put_script.ensures
