-- What is known of an item of a module.
use Rattle.std.specs.Prelude.{◌≡◌, true, false, List, map, None, IfSome}
use Rattle.std.specs.List.{All}
use Rattle.swc_ast.specs.Marks.{context_number}
use Rattle.swc_ast.specs.Modules.{item_tree}
use Rattle.swc_ast.specs.Scope.{has_name}
use Rattle.swc_ast.specs.Tree.{Name, Tree}
use Rattle.swc_ast.specs.declared.modules.ModuleItem.{ModuleItem}
use Rattle.swc_names.specs.Ids.{ids}
use Rattle.tree_walk.specs.Pass.{Pass}
use Rattle.tree_walk.specs.Walks.{Walks}
use Rattle.swc_expr.specs.Simplifies.{simplify_pass}
use Rattle.branch_rules.specs.Removes.{remove_pass}
use Rattle.dce_rules.specs.Shakes.{Shaker, shake_pass}
use Rattle.dce_rules.specs.Uses.{declared_in}
use Rattle.dce_uses.specs.Said.{Register, Says}
use Rattle.round_units.specs.declared.unit.Unit.{Unit}

-- a walk by the pass leaves it as it is
abbrev pub Rests : Pass → Tree → Type 0
Rests X t = Walks X false t t

-- Of the names that a tree declares none goes but some, and these only where imports stay.
abbrev pub OnlyGo : Shaker → List Name → Tree → Type 0
OnlyGo S xs t = (x : Name) → declared_in x t ≡ true → S.free x ≡ true → (has_name x xs ≡ true) × (S.drops_imports ≡ false)

-- the tree shaker leaves it as it is as long as no other name goes that it declares
abbrev pub Settles : List Name → Tree → Type 0
Settles xs t = (S : Shaker) → OnlyGo S xs t → Rests (shake_pass S) t

-- Names go, and imports stay.
abbrev pub AllGo : Shaker → List Name → Type 0
AllGo S xs = (x : Name) → has_name x xs ≡ true → (S.free x ≡ true) × (S.drops_imports ≡ false)

-- an item of which nothing is known
abbrev pub unknown : ModuleItem → Unit
unknown x = record { item = x; simplified = None; removed = None; settled = None; said = None }

-- the unresolved names of an expression simplifier and of a remover that leave it, if any, and the names beside which the tree shaker does
abbrev pub Known : Unit → Type 0
Known u = IfSome u.simplified (λ c. Rests (simplify_pass (context_number c)) (item_tree u.item)) × (IfSome u.removed (λ c. Rests (remove_pass (context_number c)) (item_tree u.item)) × IfSome u.settled (λ xs. Settles (ids xs.items) (item_tree u.item)))

-- what it says of names, if that is known
abbrev pub SaidOf : Register → Unit → Type 0
SaidOf g u = IfSome u.said (λ s. Says g s (item_tree u.item))

-- the items of units
abbrev pub items_in : List Unit → List ModuleItem
items_in us = map (λ u. u.item) us

-- the same of each of some units
abbrev pub AllKnown : List Unit → Type 0
AllKnown us = All Known us

abbrev pub AllSay : Register → List Unit → Type 0
AllSay g us = All (SaidOf g) us
