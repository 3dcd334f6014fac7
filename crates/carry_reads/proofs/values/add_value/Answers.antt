use Rattle.std.proofs.Common.{not, sym, ap, ◌∙◌}
use Rattle.swc_ast.specs.Parts.{ident_name}
use Rattle.carry_reads.proofs.Carrying.{puts_none, puts_again, puts_first}
use Rattle.carry_reads.proofs.values.add_value.Goals as goal

pub returns-then-is_none : goal.returns-then-is_none
returns-then-is_none c = puts_none c.args.values.now (ident_name c.args.name.now) c.args.carry (c.is_none.ensures ∙ ap not c.if-is_none.true)

pub returns-then-is_some : goal.returns-then-is_some
returns-then-is_some c = puts_again c.args.values.now (ident_name c.args.name.now) c.args.carry c.value.result (sym c.is_some.ensures ∙ c.if-is_some.true) c.value.ensures

pub returns : goal.returns
returns c = puts_first c.args.values.now c.set.new.self (ident_name c.args.name.now) c.args.carry c.value.result (c.requires (c.is_none.ensures ∙ ap not c.if-is_none.false)) (sym c.is_some.ensures ∙ c.if-is_some.false) c.value.ensures c.set.ensures
