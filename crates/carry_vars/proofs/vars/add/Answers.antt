use Rattle.std.proofs.Common.{sym, ◌∙◌}
use Rattle.swc_ast.specs.Parts.{ident_name}
use Rattle.carry_vars.proofs.Counting.{one_noted}
use Rattle.carry_vars.proofs.vars.add.Goals as goal

pub returns-in-Some : goal.returns-in-Some
returns-in-Some c = one_noted c.args.table.now c.set.new.self (ident_name c.args.name.now) c.in-Some.tally c.and.result c.args.more (sym c.get.ensures ∙ c.in-Some.is) c.and.ensures c.set.ensures
