use Rattle.pass_places.proofs.Views.{without_default, default_told}
use Rattle.pass_places.proofs.defaults.drop_default.Goals as goal

pub returns-then-not-is_void-clause-goes : goal.returns-then-not-is_void-clause-goes
returns-then-not-is_void-clause-goes c = default_told _ _ c.in-Assign.n _ c.in-Assign.is (cc (c.is_void.ensures, c.if-not-is_void.true, c.deref.ensures))

pub returns-else-not-is_void-clause-step : goal.returns-else-not-is_void-clause-step
returns-else-not-is_void-clause-step c = without_default _ _ c.in-Assign.n c.replace-name.result c.in-Assign.is (cc (c.replace-name.ensures.value, c.in-Assign.n-is)) (cc (c.is_void.ensures, c.if-not-is_void.ensures, c.if-not-is_void.false, c.deref.ensures))

pub returns-else-not-is_void-clause-goes : goal.returns-else-not-is_void-clause-goes
returns-else-not-is_void-clause-goes c = default_told _ _ c.in-Assign.n _ c.in-Assign.is (cc (c.is_void.ensures, c.if-not-is_void.false, c.deref.ensures))
