use Rattle.std.proofs.Common.{refl, ◌∙◌}
use Rattle.swc_ast.specs.Scope.{has_name}
use Rattle.swc_resolved.proofs.Once.{all_step, all_found}
use Rattle.core_trees.specs.Inside.{members}
use Rattle.core_trees.proofs.Names.{none_new, same_at_each}
use Rattle.core_trees.proofs.declared.Declared.open.Goals as goal

pub loop-left-init : goal.loop-left-init
loop-left-init c = (λ y. refl, λ y. none_new (members c.args.self.now) c.new-new.result.items y c.new-new.ensures.items)

pub loop-left-preserved : goal.loop-left-preserved
loop-left-preserved c = (
  λ y. all_step c.loop-left.left.now (members c.loop-left.self) (members c.add.new.self) y _ c.in-len1-up.len_at_least (c.in_ok-add.ensures.inside y) (c.loop-left.invariant.0 y),
  λ y. c.in_ok-add.ensures.outside y ∙ c.loop-left.invariant.1 y,
)

pub returns-clause-inside : goal.returns-clause-inside
returns-clause-inside c = same_at_each _ _ (λ y. all_found (has_name y (members c.loop-left.self)) y c.loop-left.left.now _ c.in_default.len_below (c.loop-left.invariant.0 y))

pub returns-clause-outside : goal.returns-clause-outside
returns-clause-outside c = same_at_each _ _ c.loop-left.invariant.1
