use Rattle.branch_statements.proofs.Rested.{no_kept_word}
use Rattle.branch_statements.proofs.expressions.is_word.Goals as goal

pub returns-in_default : goal.returns-in_default
returns-in_default c = no_kept_word c.args.e.now c.in_default.not-Ident c.in_default.not-This c.in_default.not-Arrow
