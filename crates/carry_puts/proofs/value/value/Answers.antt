use Rattle.std.proofs.Common.{rules}
use Rattle.carry_puts.proofs.Valued.{name_made, number_made, text_made, truth_made, null_made, void_made}
use Rattle.carry_puts.proofs.value.value.Goals as goal

pub returns-in_ok-sym-in-Name : goal.returns-in_ok-sym-in-Name
returns-in_ok-sym-in-Name c = name_made c.args.carry c.args.span c.in-Name.name c.in_ok-sym-in-Name.sym c.in_ok-sym-in-Name.ctxt c.in-Name.is c.in_ok-sym-in-Name.ensures.text c.in_ok-sym-in-Name.ensures.context

pub returns-in-Num : goal.returns-in-Num
returns-in-Num c = number_made c.args.carry c.args.span c.in-Num.value _ c.in-Num.is (search rules)

pub returns-in_ok-value-in-Text : goal.returns-in_ok-value-in-Text
returns-in_ok-value-in-Text c = text_made c.args.carry c.args.span c.in-Text.text c.in_ok-value-in-Text.value c.in-Text.is c.in_ok-value-in-Text.ensures

pub returns-in-Truth : goal.returns-in-Truth
returns-in-Truth c = truth_made c.args.carry c.args.span c.in-Truth.value c.in-Truth.is

pub returns-in-Null : goal.returns-in-Null
returns-in-Null c = null_made c.args.carry c.args.span c.in-Null.is

pub returns-in_ok-new-in-Void : goal.returns-in_ok-new-in-Void
returns-in_ok-new-in-Void c = void_made c.args.carry c.args.span c.zero.result c.in_ok-new-in-Void.field-0 c.in-Void.is c.zero.ensures c.in_ok-new-in-Void.ensures.ok
