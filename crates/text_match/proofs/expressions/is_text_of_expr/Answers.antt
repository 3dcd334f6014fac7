-- nothing but blanks is left
use Rattle.std.proofs.Common.{arith}
use Rattle.std.proofs.lemmas.Bool.Decides.{nat_tests}
use Rattle.text_match.proofs.Steps.{text_at}
use Rattle.text_match.proofs.expressions.is_text_of_expr.Goals as goal

pub returns-in-Some : goal.returns-in-Some
returns-in-Some c = λ h. text_at _ c.args.text.now c.in-Some.rest.now c.after_blanks.result.now c.in-Some.ensures c.after_blanks.ensures (grind (arith, nat_tests))
