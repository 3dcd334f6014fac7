-- Lists out of which some items went, or none.
use Rattle.std.specs.Prelude.{◌≡◌, Bool, true, false, List, ◌||◌}
use Rattle.swc_ast.specs.Modules.{item_tree}
use Rattle.swc_ast.specs.Parts.{list_trees}
use Rattle.swc_ast.specs.Tree.{Tree, Forest, ε, ◌⊳◌}
use Rattle.swc_ast.specs.declared.modules.ModuleItem.{ModuleItem}
use Rattle.walk_proofs.specs.Meant.{Sifts}
use Rattle.dce_rules.specs.Shakes.{Shaker, Drops, some_item_goes}

-- the trees of what stands for items of a module
abbrev pub trees : {X : Type 0} → (X → ModuleItem) → List X → Forest
trees f xs = list_trees (λ x. item_tree (f x)) xs

-- whether an item of a list goes
abbrev pub any_goes : (Tree → Bool) → Forest → Bool
any_goes G ε = false
any_goes G (t ⊳ ts) = G t || any_goes G ts

-- a list out of which some items went, or one of which none goes
abbrev pub Sifted : (Tree → Bool) → Bool → Forest → Forest → Type 0
Sifted G true ts us = Sifts (λ t. G t ≡ true) ts us × (us ≡ ts → ⊥)
Sifted G false ts us = (us ≡ ts) × (any_goes G us ≡ false)

-- the same of items of a module and of statements
abbrev pub ListShaken : Shaker → Bool → Forest → Forest → Type 0
ListShaken S true ts us = Drops S ts us
ListShaken S false ts us = (us ≡ ts) × (some_item_goes S us ≡ false)
