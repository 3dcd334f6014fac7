use Rattle.std.specs.Prelude.{IfSome}
use Rattle.swc_ast.specs.Marks.{context_number}
use Rattle.swc_ast.specs.Modules.{item_tree}
use Rattle.swc_names.specs.Ids.{ids}
use Rattle.swc_expr.specs.Simplifies.{simplify_pass}
use Rattle.branch_rules.specs.Removes.{remove_pass}
use Rattle.dce_uses.specs.Said.{Says}
use Rattle.round_units.specs.Rests.{Rests, Settles}
use Rattle.round_units.proofs.Resting.{known_then}
use Rattle.round_units.proofs.unit.Unit.walk.Goals as goal

pub returns-else-changed-clause-known : goal.returns-else-changed-clause-known
returns-else-changed-clause-known g c =
    let u = c.args.self.now in
    known_then (λ t. IfSome u.simplified (λ k. Rests (simplify_pass (context_number k)) t) × (IfSome u.removed (λ k. Rests (remove_pass (context_number k)) t) × IfSome u.settled (λ xs. Settles (ids xs.items) t))) c.in_ok-changed.changed (item_tree u.item) (item_tree c.walk_module_item.new.item) c.if-changed.false c.in_ok-changed.ensures c.requires.known

pub returns-else-changed-clause-said : goal.returns-else-changed-clause-said
returns-else-changed-clause-said g c = λ k h.
    let u = c.args.self.now in
    known_then (λ t. IfSome u.said (λ s. Says k s t)) c.in_ok-changed.changed (item_tree u.item) (item_tree c.walk_module_item.new.item) c.if-changed.false c.in_ok-changed.ensures h
