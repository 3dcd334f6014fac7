use Rattle.std.proofs.Common.{ap, sym, get_or, ◌∙◌, ◌||◌}
use Rattle.std.proofs.lemmas.Bool.{not-true}
use Rattle.swc_resolved.specs.Names.{name, names, members}
use Rattle.swc_ast.specs.Core.{once_each}
use Rattle.swc_ast.specs.Scope.{has_name}
use Rattle.swc_ast.specs.Tree.{Name}
use Rattle.swc_resolved.proofs.Once.{nobody, once_step, all_step, one_starts, one_ends, all_found}
use Rattle.swc_resolved.proofs.distinct.set_of.Goals as goal

pub loop-left-init : goal.loop-left-init
loop-left-init c =
    let none = λ (y : Name). c.make_room.ensures y ∙ ap (has_name y) c.new-set.ensures in
    (one_starts (members c.make_room.new.self) (names c.args.names.now) none, λ y. ap (λ b. b || has_name y (names c.args.names.now)) (none y))

pub loop-left-preserved : goal.loop-left-preserved
loop-left-preserved c = (
  once_step c.loop-left.left.now (members c.loop-left.set) (members c.insert.new.self) (once_each (names c.args.names.now) (names c.args.names.now)) c.in-len1-up.len_at_least (not-true (has_name (name (get_or c.loop-left.left.now 0 nobody)) (members c.loop-left.set)) (sym c.in_ok-insert.ensures.added ∙ c.if-not-branch.false)) c.in_ok-insert.ensures.names c.loop-left.invariant.0,
  λ y. all_step c.loop-left.left.now (members c.loop-left.set) (members c.insert.new.self) y (has_name y (names c.args.names.now)) c.in-len1-up.len_at_least (c.in_ok-insert.ensures.names y) (c.loop-left.invariant.1 y),
)

pub returns-clause-once : goal.returns-clause-once
returns-clause-once c = one_ends (members c.loop-left.set) c.loop-left.left.now _ c.in_default.len_below c.loop-left.invariant.0

pub returns-clause-members : goal.returns-clause-members
returns-clause-members c = λ y. all_found (has_name y (members c.loop-left.set)) y c.loop-left.left.now _ c.in_default.len_below (c.loop-left.invariant.1 y)
