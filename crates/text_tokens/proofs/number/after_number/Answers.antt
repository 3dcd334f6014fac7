-- the digits and what is behind them
use Rattle.std.proofs.Common.{◌≡◌, ◌++◌, sym, ◌∙◌}
use Rattle.std.proofs.lemmas.List.{take-append-drop}
use Rattle.text_tokens.proofs.Steps.{number_at}
use Rattle.text_tokens.proofs.number.after_number.Goals as goal

pub returns-then-found-value : goal.returns-then-found-value
returns-then-found-value c =
    let joined : c.after_blanks-place.result.now ≡ c.split_at.result.0.now ++ c.split_at.result.1.now = cc (take-append-drop c.digits_len.result c.after_blanks-place.result.now, c.split_at.ensures.front, c.split_at.ensures.back) in
    number_at c.args.value c.in_ok-found.found c.split_at.result.0.now c.args.text.now c.after_blanks-place.result.now c.split_at.result.1.now c.after_blanks-place.ensures joined
    (sym c.all_digits.ensures ∙ c.if-not-all_digits.false) (sym c.has_no_zero_before.ensures ∙ c.if-not-has_no_zero_before.false) (sym c.number_goes_on.ensures ∙ c.if-number_goes_on.false)
    c.in_ok-found.ensures (sym c.is_exact.ensures ∙ c.if-not-is_exact.false) c.if-found-value.true
