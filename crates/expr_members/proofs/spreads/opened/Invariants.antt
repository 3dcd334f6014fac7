use Rattle.std.proofs.Common.{◌≡◌, [], ◌∷◌, ◌++◌, map}
use Rattle.std.specs.Vec.Iter.{into_iter_items}
use Rattle.swc_ast.specs.Expressions.{item_kind, item_trees}
use Rattle.swc_ast.specs.Scope.{joined}
use Rattle.swc_ast.specs.Views.{expr_tree}
use Rattle.pass_rules.specs.Leaves.{void_tree}
use Rattle.expr_rules.specs.Spreads.{opened_kinds, opened_items}
use Rattle.expr_members.proofs.spreads.opened.Given as goal

abbrev pub invariant-loop-item : goal.invariant-loop-item
invariant-loop-item l = record {
  kinds : map item_kind l.out.items ++ opened_kinds (map item_kind (into_iter_items l.item-iterator)) (item_trees expr_tree (into_iter_items l.item-iterator)) ≡ opened_kinds (map item_kind l.fn.items.items) (item_trees expr_tree l.fn.items.items);
  trees : joined (item_trees expr_tree l.out.items) (opened_items (void_tree (l.span ∷ []) (l.span ∷ [])) (map item_kind (into_iter_items l.item-iterator)) (item_trees expr_tree (into_iter_items l.item-iterator))) ≡ opened_items (void_tree (l.span ∷ []) (l.span ∷ [])) (map item_kind l.fn.items.items) (item_trees expr_tree l.fn.items.items);
}
