-- The tree of a module that is taken apart.
use Rattle.std.specs.Prelude.{List, [], ◌∷◌}
use Rattle.swc_ast.specs.Modules.{item_tree}
use Rattle.swc_ast.specs.Parts.{list_trees}
use Rattle.swc_ast.specs.Tree as tree
use Rattle.swc_ast.specs.Tree.{Tree, node}
use Rattle.swc_ast.specs.declared.Span.{Span}
use Rattle.round_units.specs.declared.unit.Unit.{Unit}
use Rattle.round_units.specs.declared.units.Units.{Units}
use Rattle.round_units.specs.Rests.{items_in}

-- the tree of the module
abbrev pub units_tree : Units → Tree
units_tree u = node tree.Module (u.span ∷ []) (list_trees item_tree u.items)

-- the same of units and the span of the module
abbrev pub tree_of : Span → List Unit → Tree
tree_of s us = node tree.Module (s ∷ []) (list_trees item_tree (items_in us))
