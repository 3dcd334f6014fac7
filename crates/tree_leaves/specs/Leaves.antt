-- The tree of a name or a literal.
use Rattle.swc_ast.specs.Parts.{ident_tree, lit_tree}
use Rattle.swc_ast.specs.Tree.{Tree}
use Rattle.tree_leaves.specs.declared.Leaf.{Leaf}
use Rattle.tree_leaves.specs.declared.Leaf.TheVariants as a

abbrev pub leaf_tree : Leaf → Tree
leaf_tree (a.Name n) = ident_tree n.now
leaf_tree (a.Literal n) = lit_tree n.now
