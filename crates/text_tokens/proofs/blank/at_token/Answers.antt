-- a token begins
use Rattle.std.proofs.Common.{sym, ◌∙◌}
use Rattle.text_tokens.specs.Lines.{ahead}
use Rattle.text_tokens.proofs.blank.at_token.Goals as goal

pub returns-then-begins_token : goal.returns-then-begins_token
returns-then-begins_token c = ahead c.after_between-line.ensures (sym c.begins_token.ensures ∙ c.if-begins_token.true)
