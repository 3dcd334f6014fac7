use Rattle.std.proofs.Common.{rules}
use Rattle.expr_members.proofs.Indices.{index_at}
use Rattle.expr_members.proofs.keys.index_of.Goals as goal

pub returns-then-eq : goal.returns-then-eq
returns-then-eq c = index_at c.args.key.now c.in-Ok.i (search rules) c.if-i-lt4294967295.true
