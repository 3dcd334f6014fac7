use Rattle.swc_ast.specs.Views.{expr_tree}
use Rattle.given_globals.proofs.Forms.{other_read}
use Rattle.given_globals.proofs.Founds.{found_none}
use Rattle.given_globals.proofs.lookup.Lookup.found.Goals as goal

pub returns-in_default : goal.returns-in_default
returns-in_default c = found_none c.args.self.now.settings (expr_tree c.args.e.now) (other_read c.args.e.now c.in_default.not-Member c.in_default.not-Ident)
