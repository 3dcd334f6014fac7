-- each piece
use Rattle.std.proofs.Common.{sym, ◌∙◌, subst}
use Rattle.text_tokens.specs.Texts.{Piece}
use Rattle.text_tokens.proofs.Steps.{where_both, plain_at, escape_at}
use Rattle.text_tokens.proofs.quoted.after_piece.Goals as goal

pub returns-then-is_plain : goal.returns-then-is_plain
returns-then-is_plain c = plain_at c.args.quote c.in_ok-first.first c.args.text.now c.in_ok-first.rest.now c.args.value.now c.in_ok-left.left.now c.in_ok-first.ensures c.in_ok-left.ensures (sym c.is_plain.ensures ∙ c.if-is_plain.true)

pub returns-in-Some : goal.returns-in-Some
returns-in-Some c = where_both _ _ c.after_escape.result (λ found. escape_at c.args.quote c.args.text.now c.in-Some.escape.now found.0.now c.args.value.now found.1.now c.in-Some.ensures) c.after_escape.ensures

pub returns : goal.returns
returns c = where_both _ _ c.after_return.result (λ found h. subst (λ x. Piece c.args.quote c.args.value.now x found.1.now found.0.now) (sym c.in_ok-behind_return.ensures) h) c.after_return.ensures
