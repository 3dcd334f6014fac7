-- the word is a name, and not reserved
use Rattle.std.proofs.Common.{sym, ◌∙◌}
use Rattle.text_tokens.specs.Tokens.{identifier}
use Rattle.text_tokens.proofs.Steps.{where_both}
use Rattle.text_tokens.proofs.token.after_identifier.Goals as goal

pub returns : goal.returns
returns c = where_both _ _ c.after_word.result (λ rest. identifier (sym c.is_name.ensures ∙ c.if-not-is_name.false) (sym c.is_reserved.ensures ∙ c.if-is_reserved.false)) c.after_word.ensures
