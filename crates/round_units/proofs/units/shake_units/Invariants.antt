use Rattle.std.proofs.Common.{◌≡◌, ℕ, ◌≤◌, length, get_or, take}
use Rattle.swc_ast.specs.Modules.{item_tree}
use Rattle.tree_walk.specs.Walks.{Walks, Each}
use Rattle.dce_rules.specs.Shakes.{shake_pass}
use Rattle.dce_code.specs.Knowledge.{shaker}
use Rattle.dce_uses.specs.Said.{Register}
use Rattle.round_units.specs.declared.unit.Unit.{Unit}
use Rattle.round_units.specs.Rests.{AllKnown, AllSay}
use Rattle.round_units.proofs.units.shake_units.Given as goal

abbrev pub invariant-loop-i : goal.invariant-loop-i
invariant-loop-i l = (((length l.items.items ≡ length l.initial.items.items) × ((k : ℕ) (d : Unit) → l.i ≤ k → get_or l.items.items k d ≡ get_or l.initial.items.items k d)) × Each (λ x y d. Walks (shake_pass (shaker l.rules.known)) d (item_tree x.item) (item_tree y.item)) (take l.i l.initial.items.items) (take l.i l.items.items) l.changed) × (AllKnown l.items.items × ((g : Register) → AllSay g l.initial.items.items → AllSay g l.items.items))
