-- with a line feed or without one
use Rattle.std.proofs.Common.{◌∷◌, sym, ◌∙◌, subst}
use Rattle.text_tokens.specs.Texts.{LineBreak, return, return_feed}
use Rattle.text_tokens.proofs.Steps.{where_both}
use Rattle.text_tokens.proofs.quoted.after_return_break.Goals as goal

pub returns-then-begins_byte : goal.returns-then-begins_byte
returns-then-begins_byte c = where_both _ _ c.behind_byte.result (λ rest e. subst (λ x. LineBreak (13 ∷ x) rest.now) (sym e) return_feed) c.behind_byte.ensures

pub returns-else-begins_byte : goal.returns-else-begins_byte
returns-else-begins_byte c = return (sym c.begins_byte.ensures ∙ c.if-begins_byte.false)
