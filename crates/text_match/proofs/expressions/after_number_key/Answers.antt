-- the number
use Rattle.std.proofs.Common.{◌≡◌, pos, rules, sym}
use Rattle.text_match.proofs.Steps.{where_some, number_key_at}
use Rattle.text_match.proofs.expressions.after_number_key.Goals as goal

pub returns : goal.returns
returns c = let e : c.args.number.now.value ≡ pos c.in_ok-value.value = search (rules, sym c.in_ok-value.ensures) in where_some _ _ c.after_number.result (λ rest. number_key_at c.args.number.now.value c.in_ok-value.value c.args.text.now rest.now e) c.after_number.ensures
