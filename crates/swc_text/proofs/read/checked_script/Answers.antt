use Rattle.swc_text.proofs.read.checked_script.Goals as goal

pub returns-then-is_good-clause-valid : goal.returns-then-is_good-clause-valid
returns-then-is_good-clause-valid c = (c.in_ok-is_good.ensures.answer.0 c.if-is_good.true).0.is_valid

pub returns-then-is_good-clause-resolved : goal.returns-then-is_good-clause-resolved
returns-then-is_good-clause-resolved c = (c.in_ok-is_good.ensures.answer.0 c.if-is_good.true).1

pub returns-then-is_good-clause-core : goal.returns-then-is_good-clause-core
returns-then-is_good-clause-core c = (c.in_ok-is_good.ensures.answer.0 c.if-is_good.true).0
