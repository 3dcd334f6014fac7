use Rattle.carry_reads.proofs.Declaring.{node_none}
use Rattle.carry_reads.proofs.declaration.declaration.Goals as goal

pub returns-in_default : goal.returns-in_default
returns-in_default c = node_none c.args.n c.in_default.not-At c.in_default.not-Decl c.in_default.not-VarDecl c.in_default.not-Stmt
