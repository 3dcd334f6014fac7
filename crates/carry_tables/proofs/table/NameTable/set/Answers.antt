use Rattle.std.proofs.Common.{sym, ◌∙◌, arith}
use Rattle.swc_ast.specs.Parts.{ident_name}
use Rattle.carry_tables.proofs.Numbered.{changed, unchanged}
use Rattle.carry_tables.proofs.table.NameTable.set.Goals as goal

pub returns-then-number-len : goal.returns-then-number-len
returns-then-number-len g c = changed c.args.self.now.names.now c.args.self.now.items.items (ident_name c.args.name.now) c.in-Some.number c.args.item (sym c.number_of.ensures.number ∙ c.in-Some.is) (omega (arith, c.if-number-len.true, c.len.ensures, c.args.self.now.items.ok.0))

pub returns-else-number-len : goal.returns-else-number-len
returns-else-number-len g c = unchanged c.args.self.now.names.now c.args.self.now.items.items (ident_name c.args.name.now) c.in-Some.number c.args.item (sym c.number_of.ensures.number ∙ c.in-Some.is) (omega (arith, c.if-number-len.false, c.len.ensures, c.args.self.now.items.ok.0))
