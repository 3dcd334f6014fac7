use Rattle.std.proofs.Common.{refl}
use Rattle.given_rules.proofs.FormedViews.{module_formed}
use Rattle.swc_inline_globals.proofs.pass.ModuleWalked.walk.Goals as goal

pub returns-clause-whole : goal.returns-clause-whole
returns-clause-whole c d = record { formed = module_formed d.args.self.now; whole = refl }
