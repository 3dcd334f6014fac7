use Rattle.std.proofs.Common.{refl}
use Rattle.given_rules.proofs.FormedViews.{script_formed}
use Rattle.swc_inline_globals.proofs.pass.ScriptWalked.walk.Goals as goal

pub returns-clause-whole : goal.returns-clause-whole
returns-clause-whole c d = record { formed = script_formed d.args.self.now; whole = refl }
