-- Lists of items, and what is swept out of them.
use Rattle.std.specs.Prelude.{List, if◌then◌else◌}
use Rattle.swc_ast.specs.Modules.{item_tree}
use Rattle.swc_ast.specs.Parts.{list_trees}
use Rattle.swc_ast.specs.Redex.{is_loose}
use Rattle.swc_ast.specs.Scope.{joined}
use Rattle.swc_ast.specs.Tree.{Block, Tree, node, Forest, ε, ◌⊳◌}
use Rattle.swc_ast.specs.declared.modules.ModuleItem.{ModuleItem}

-- the trees of what stands for items of a module
abbrev pub trees : {X : Type 0} → (X → ModuleItem) → List X → Forest
trees f xs = list_trees (λ x. item_tree (f x)) xs

-- the statements of a block
abbrev pub contents : Tree → Forest
contents (node Block ss cs) = cs
contents _ = ε

-- what is left of an item
abbrev pub swept_item : Tree → Forest
swept_item t = if is_loose t then contents t else t ⊳ ε

-- the same of a list
abbrev pub swept : Forest → Forest
swept ε = ε
swept (t ⊳ ts) = joined (swept_item t) (swept ts)
