use Rattle.carry_reads.proofs.Declaring.{stmt_none}
use Rattle.carry_reads.proofs.declaration.of_stmt.Goals as goal

pub returns-in_default : goal.returns-in_default
returns-in_default c = stmt_none c.args.n.now c.in_default.not-Decl
