use Rattle.std.proofs.Common.{◌≡◌, ℕ, ◌≤◌, length, get_or, take}
use Rattle.swc_ast.specs.declared.modules.ModuleItem.{ModuleItem}
use Rattle.tree_put.specs.Walks.{Each}
use Rattle.carry_pass.specs.Exports.{binds, values}
use Rattle.carry_pass.proofs.Exporting.{Exported}
use Rattle.carry_pass.proofs.exports.Exports.rename_all.Given as goal

abbrev pub invariant-loop-i : goal.invariant-loop-i
invariant-loop-i l = ((length l.items.items ≡ length l.initial.items.items) × ((k : ℕ) (d : ModuleItem) → l.i ≤ k → get_or l.items.items k d ≡ get_or l.initial.items.items k d)) × Each (Exported (binds l.self) (values l.self)) tt (take l.i l.initial.items.items) (take l.i l.items.items) tt
