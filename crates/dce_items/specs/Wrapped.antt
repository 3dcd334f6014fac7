-- Wrappers among the items of a module, their bodies, and the layers of those.
use Rattle.std.specs.Prelude.{ℕ, zero, suc, ◌+◌, ◌≡◌, ◌<◌, List, [], ◌∷◌, ◌++◌, take, drop, length}
use Rattle.swc_ast.specs.declared.Span.{Span}
use Rattle.swc_ast.specs.declared.modules.Module.{Module}
use Rattle.swc_ast.specs.declared.modules.ModuleItem.{ModuleItem}
use Rattle.swc_ast.specs.Modules.{item_tree}
use Rattle.swc_ast.specs.Parts.{list_trees}
use Rattle.swc_ast.specs.Tree.{Text, Tree, Forest, ε, ◌⊳◌}
use Rattle.tree_visit.specs.declared.lists.NodeList.{NodeList}
use Rattle.tree_visit.specs.Nodes.{node_at}
use Rattle.dce_layer_proofs.specs.Frames.{Wrapper, wrapped, Frame, wrapper}
use Rattle.dce_items.specs.declared.inside.Inside.{Inside}
use Rattle.dce_items.specs.Described.{IsLayered}

-- A tree is a wrapper, or a node in one, round a list.
pub record Wraps (form : Wrapper → Forest → Tree) (t : Tree) (ts : Forest) : Type 0 where
  pub parts : Wrapper
  pub is : t ≡ form parts ts

-- The item at a place is a wrapper with a body.
pub record WrapperAt (items : List ModuleItem) (at : ℕ) (ts : Forest) : Type 0 where
  pub there : at < length items
  pub item : ModuleItem
  pub splits : items ≡ take at items ++ item ∷ drop (at + 1) items
  pub is : Wraps wrapped (item_tree item) ts

-- what stands round an item of a module's list
abbrev pub around : List Span → List ModuleItem → ℕ → Wrapper → Frame
around ss items at w = wrapper ss (list_trees item_tree (take at items)) w (list_trees item_tree (drop (at + 1) items))

-- An item of a module is a wrapper, and the body's items have the layers where they belong.
pub record LayeredInside (mark : ℕ) (retained : List Text) (m : Module) (i : Inside) : Type 0 where
  pub body : Forest
  pub stands : WrapperAt m.body.items i.at body
  pub some : 0 < i.rounds
  pub layered : IsLayered mark retained i.rounds (around (m.span ∷ []) m.body.items i.at stands.is.parts) body i.layers.items

-- so many nodes of a list from a place on
abbrev pub row : NodeList → ℕ → ℕ → Forest
row list at zero = ε
row list at (suc n) = node_at list at ⊳ row list (suc at) n
