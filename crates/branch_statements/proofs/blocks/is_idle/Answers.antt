use Rattle.branch_statements.proofs.Tells.{idle_break, idle_empty}
use Rattle.branch_statements.proofs.blocks.is_idle.Goals as goal

pub returns-in-Empty : goal.returns-in-Empty
returns-in-Empty c = λ h. idle_empty c.args.label.now c.args.s.now _ c.in-Empty.is

pub returns-in-Some : goal.returns-in-Some
returns-in-Some c = λ h. idle_break c.args.label.now c.in-Some.target c.args.s.now _ _ c.in-Break.is c.in-Some.is c.eq.ensures h
