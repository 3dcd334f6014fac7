use Rattle.core_trees.specs.Inside.{members}
use Rattle.core_trees.proofs.Names.{less_step, less_end, same_at_each}
use Rattle.core_trees.proofs.declared.Declared.close.Goals as goal

pub loop-left-preserved : goal.loop-left-preserved
loop-left-preserved c = λ y. less_step c.loop-left.left.now (members c.loop-left.self) (members c.remove.new.self) y _ c.in-len1-up.len_at_least (c.remove.ensures y) (c.loop-left.invariant y)

pub returns : goal.returns
returns c = same_at_each _ _ (λ y. less_end (members c.loop-left.self) c.loop-left.left.now y _ c.in_default.len_below (c.loop-left.invariant y))
