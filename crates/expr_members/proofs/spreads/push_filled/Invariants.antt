use Rattle.std.proofs.Common.{◌≡◌, [], ◌∷◌, ◌++◌, map}
use Rattle.std.specs.Vec.Iter.{into_iter_items}
use Rattle.swc_ast.specs.Expressions.{item_kind, item_trees}
use Rattle.swc_ast.specs.Scope.{joined}
use Rattle.swc_ast.specs.Views.{expr_tree}
use Rattle.pass_rules.specs.Leaves.{void_tree}
use Rattle.expr_rules.specs.Spreads.{filled_kinds, filled_items}
use Rattle.expr_members.proofs.spreads.push_filled.Given as goal

abbrev pub invariant-loop-item : goal.invariant-loop-item
invariant-loop-item l = record {
  kinds : map item_kind l.out.items ++ filled_kinds (map item_kind (into_iter_items l.item-iterator)) ≡ map item_kind l.fn.out.items ++ filled_kinds (map item_kind l.fn.items.items);
  trees : joined (item_trees expr_tree l.out.items) (filled_items (void_tree (l.span ∷ []) (l.span ∷ [])) (map item_kind (into_iter_items l.item-iterator)) (item_trees expr_tree (into_iter_items l.item-iterator))) ≡ joined (item_trees expr_tree l.fn.out.items) (filled_items (void_tree (l.span ∷ []) (l.span ∷ [])) (map item_kind l.fn.items.items) (item_trees expr_tree l.fn.items.items));
}
