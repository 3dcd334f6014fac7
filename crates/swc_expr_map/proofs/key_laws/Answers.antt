use Rattle.swc_expr_map.proofs.Ordered.{keys_ordered}
use Rattle.swc_expr_map.proofs.Shaped.{keys_are_shapes}
use Rattle.swc_expr_map.proofs.key_laws.Goals as goal

pub returns-clause-order : goal.returns-clause-order
returns-clause-order c = keys_ordered

pub returns-clause-agrees : goal.returns-clause-agrees
returns-clause-agrees c = keys_are_shapes
