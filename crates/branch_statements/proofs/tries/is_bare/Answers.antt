use Rattle.branch_statements.proofs.Tells.{bare_at, counted}
use Rattle.branch_statements.proofs.tries.is_bare.Goals as goal

pub returns-in-None-Some : goal.returns-in-None-Some
returns-in-None-Some c = λ h. bare_at c.args.n.now c.in-None-Some.last c.in-None-Some.is-0 c.in-None-Some.is-1 (counted _ _ c.in-None-Some.last.stmts.items h c.is_empty.ensures c.in-None-Some.last.stmts.ok.0)
