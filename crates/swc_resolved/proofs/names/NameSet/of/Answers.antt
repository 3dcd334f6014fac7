use Rattle.std.proofs.Common.{ap, ◌||◌, ◌∙◌}
use Rattle.swc_ast.specs.Scope.{has_name}
use Rattle.swc_resolved.specs.Names.{names, members}
use Rattle.swc_resolved.proofs.Once.{all_step, all_found}
use Rattle.swc_resolved.proofs.names.NameSet.of.Goals as goal

pub loop-left-init : goal.loop-left-init
loop-left-init c = λ y. ap (λ b. b || has_name y (names c.args.names.now)) (c.make_room.ensures y ∙ ap (has_name y) c.new-set.ensures)

pub loop-left-preserved : goal.loop-left-preserved
loop-left-preserved c = λ y. all_step c.loop-left.left.now (members c.loop-left.set) (members c.insert.new.self) y (has_name y (names c.args.names.now)) c.in-len1-up.len_at_least (c.in_ok-insert.ensures.names y) (c.loop-left.invariant y)

pub returns : goal.returns
returns c = λ y. all_found (has_name y (members c.loop-left.set)) y c.loop-left.left.now _ c.in_default.len_below (c.loop-left.invariant y)
