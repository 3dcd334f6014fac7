use Rattle.expr_operators.proofs.instances.+is_primitive.Given as goal

abbrev pub decreases-is_primitive : goal.decreases-is_primitive
decreases-is_primitive l = goal.size-is_primitive l
