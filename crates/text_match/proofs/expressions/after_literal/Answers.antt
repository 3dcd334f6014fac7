-- each literal
use Rattle.std.proofs.Common.{◌≡◌, ◌∙◌, pos, rules, sym}
use Rattle.text_match.proofs.Steps.{where_some, yes_at, no_at, null_at, number_at, string_at}
use Rattle.text_match.proofs.expressions.after_literal.Goals as goal

pub returns-then-truth : goal.returns-then-truth
returns-then-truth c = where_some _ _ c.after_word.result (λ rest. yes_at c.args.literal.now c.in-Bool.truth c.in-Bool.is c.if-truth.true c.args.text.now rest.now) c.after_word.ensures

pub returns-else-truth : goal.returns-else-truth
returns-else-truth c = where_some _ _ c.after_word-else-truth.result (λ rest. no_at c.args.literal.now c.in-Bool.truth c.in-Bool.is c.if-truth.false c.args.text.now rest.now) c.after_word-else-truth.ensures

pub returns-in-Null : goal.returns-in-Null
returns-in-Null c = where_some _ _ c.after_word-in-Null.result (λ rest. null_at c.args.literal.now c.in-Null.field-0 c.in-Null.is c.args.text.now rest.now) c.after_word-in-Null.ensures

pub returns-in_ok-value-in-Num : goal.returns-in_ok-value-in-Num
returns-in_ok-value-in-Num c = let e : c.in-Num.number.value ≡ pos c.in_ok-value-in-Num.value = search (rules, sym c.in_ok-value-in-Num.ensures) in where_some _ _ c.after_number.result (λ rest. number_at c.args.literal.now c.in-Num.number c.in-Num.is c.in_ok-value-in-Num.value e c.args.text.now rest.now) c.after_number.ensures

pub returns-in-Str : goal.returns-in-Str
returns-in-Str c = where_some _ _ c.after_quoted.result (λ rest. string_at c.args.literal.now c.in-Str.string c.in-Str.is c.as_bytes.result.now c.as_bytes.ensures.value c.args.text.now rest.now) c.after_quoted.ensures
