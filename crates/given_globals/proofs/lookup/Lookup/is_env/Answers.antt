use Rattle.swc_ast.specs.Views.{expr_tree}
use Rattle.given_globals.proofs.Forms.{other_member}
use Rattle.given_globals.proofs.Founds.{env_other}
use Rattle.given_globals.proofs.lookup.Lookup.is_env.Goals as goal

pub returns-in_default : goal.returns-in_default
returns-in_default c = env_other c.args.self.now.settings (expr_tree c.args.e.now) (other_member c.args.e.now c.in_default.not-Member)
