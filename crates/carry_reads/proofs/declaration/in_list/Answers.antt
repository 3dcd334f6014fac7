use Rattle.carry_reads.proofs.Declaring.{list_none}
use Rattle.carry_reads.proofs.declaration.in_list.Goals as goal

pub returns-in_default : goal.returns-in_default
returns-in_default c = list_none c.args.list c.args.at c.in_default.not-ModuleItems c.in_default.not-Declarators c.in_default.not-Stmts
