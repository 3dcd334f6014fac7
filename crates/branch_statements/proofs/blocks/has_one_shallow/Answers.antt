use Rattle.std.proofs.Common.{sym, ◌∙◌}
use Rattle.branch_statements.proofs.Tells.{one_at}
use Rattle.branch_statements.proofs.blocks.has_one_shallow.Goals as goal

pub returns-then-len-eq1 : goal.returns-then-len-eq1
returns-then-len-eq1 c = λ h. one_at c.args.n.now.stmts.items c.index.result.now (sym c.args.n.now.stmts.ok.0 ∙ sym c.len.ensures ∙ c.if-len-eq1.true) c.index.ensures (c.opens.ensures.plain h) (c.opens.ensures.shallow h)
