-- a line feed
use Rattle.std.proofs.Common.{sym, subst}
use Rattle.text_tokens.specs.Texts.{LineBreak, feed}
use Rattle.text_tokens.proofs.quoted.after_line_break.Goals as goal

pub returns-in-Some : goal.returns-in-Some
returns-in-Some c = subst (λ x. LineBreak x c.in-Some.rest.now) (sym c.in-Some.ensures) feed
