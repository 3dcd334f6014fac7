-- each end
use Rattle.std.proofs.Common.{◌≡◌, length, sym, ◌∙◌, arith}
use Rattle.text_tokens.proofs.Steps.{semicolon_at, brace_at, end_at, line_at}
use Rattle.text_tokens.proofs.end.after_end.Goals as goal

pub returns-in-Some : goal.returns-in-Some
returns-in-Some c = semicolon_at c.args.closed c.in_ok-line.line c.args.text.now c.in_ok-line.next.now c.in-Some.rest.now c.in_ok-line.ensures c.in-Some.ensures

pub returns-in-Some-behind_byte : goal.returns-in-Some-behind_byte
returns-in-Some-behind_byte c = brace_at c.args.closed c.in_ok-line.line c.args.text.now c.in_ok-line.next.now c.in-Some-behind_byte._rest.now c.in_ok-line.ensures c.in-Some-behind_byte.ensures

pub returns-then-left-eq0 : goal.returns-then-left-eq0
returns-then-left-eq0 c = let none : length c.in_ok-line.next.now ≡ 0 = omega arith in end_at c.args.closed c.in_ok-line.line c.args.text.now c.in_ok-line.next.now c.in_ok-line.ensures none

pub returns-then-not-goes_on : goal.returns-then-not-goes_on
returns-then-not-goes_on c = line_at c.args.closed c.in_ok-line.line c.args.text.now c.in_ok-line.next.now c.in_ok-line.ensures c.if-line.true (sym c.goes_on.ensures ∙ c.if-not-goes_on.true)
