-- the word is a name
use Rattle.std.proofs.Common.{sym, ◌∙◌}
use Rattle.text_tokens.specs.Tokens.{name}
use Rattle.text_tokens.proofs.Steps.{where_both}
use Rattle.text_tokens.proofs.token.after_name.Goals as goal

pub returns : goal.returns
returns c = where_both _ _ c.after_word.result (λ rest. name (sym c.is_name.ensures ∙ c.if-not-is_name.false)) c.after_word.ensures
