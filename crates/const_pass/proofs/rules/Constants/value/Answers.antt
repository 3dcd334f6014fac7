use Rattle.const_pass.specs.Rules.{constant, member}
use Rattle.const_pass.proofs.Forms.{other_value}
use Rattle.const_pass.proofs.rules.Constants.value.Goals as goal

pub returns-in_default : goal.returns-in_default
returns-in_default c = other_value (constant c.args.self.now) (member c.args.self.now) _ c.in_default.not-Member c.in_default.not-Ident
