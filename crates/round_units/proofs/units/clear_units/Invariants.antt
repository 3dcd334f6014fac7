use Rattle.std.proofs.Common.{◌≡◌, ℕ, ◌≤◌, length, get_or, take}
use Rattle.swc_utils.specs.Globals.{unresolved}
use Rattle.tree_walk.specs.Walks.{Each}
use Rattle.dce_uses.specs.Items.{IsUnused}
use Rattle.dce_uses.specs.Said.{register_of}
use Rattle.round_units.specs.declared.unit.Unit.{Unit}
use Rattle.round_units.specs.Cleared.{ItemCleared}
use Rattle.round_units.specs.Rests.{AllKnown, AllSay}
use Rattle.round_units.proofs.units.clear_units.Given as goal

abbrev pub invariant-loop-i : goal.invariant-loop-i
invariant-loop-i l = (((length l.items.items ≡ length l.initial.items.items) × ((k : ℕ) (d : Unit) → l.i ≤ k → get_or l.items.items k d ≡ get_or l.initial.items.items k d)) × Each (λ x y d. ItemCleared (unresolved l.expressions.ctx) (unresolved l.branches.ctx) x.item y.item d) (take l.i l.initial.items.items) (take l.i l.items.items) l.changed) × (IsUnused l.uses × (AllKnown l.items.items × AllSay (register_of l.uses) l.items.items))
