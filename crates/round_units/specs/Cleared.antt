-- What the expression simplifier and then the remover of dead branches make of a module, of whose items each is walked by both.
use Rattle.std.specs.Prelude.{◌≡◌, ℕ, Bool, ◌||◌, List, [], ◌∷◌}
use Rattle.swc_ast.specs.Modules.{item_tree}
use Rattle.swc_ast.specs.Parts.{list_trees}
use Rattle.swc_ast.specs.Tree as tree
use Rattle.swc_ast.specs.Tree.{Tree, node}
use Rattle.swc_ast.specs.declared.Span.{Span}
use Rattle.swc_ast.specs.declared.modules.ModuleItem.{ModuleItem}
use Rattle.tree_walk.specs.Walks.{Made, WholeMade}
use Rattle.swc_expr.specs.Simplifies.{simplify_pass}
use Rattle.branch_rules.specs.Removes.{remove_pass}

-- An item is walked by both, by their unresolved names, and whether one of them changed it.
pub record ItemCleared (m k : ℕ) (x y : ModuleItem) (changed : Bool) : Type 0 where
  pub between : ModuleItem
  pub by_first : Bool
  pub by_second : Bool
  pub simplified : Made (simplify_pass m) (item_tree x) (item_tree between) by_first
  pub removed : Made (remove_pass k) (item_tree between) (item_tree y) by_second
  pub either : changed ≡ (by_first || by_second)

-- The same of a module.
pub record Cleared (m k : ℕ) (t u : Tree) (changed : Bool) : Type 0 where
  pub span : Span
  pub between : List ModuleItem
  pub by_first : Bool
  pub by_second : Bool
  pub simplified : WholeMade (simplify_pass m) t (node tree.Module (span ∷ []) (list_trees item_tree between)) by_first
  pub removed : WholeMade (remove_pass k) (node tree.Module (span ∷ []) (list_trees item_tree between)) u by_second
  pub either : changed ≡ (by_first || by_second)
