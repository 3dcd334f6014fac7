use Rattle.std.proofs.Common.{◌≡◌, ℕ, ◌≤◌, length, get_or, take}
use Rattle.swc_ast.specs.declared.modules.ExportNamedSpecifier.{ExportNamedSpecifier}
use Rattle.tree_put.specs.Walks.{Each}
use Rattle.carry_pass.specs.Exports.{binds, values}
use Rattle.carry_pass.proofs.Exporting.{Renames}
use Rattle.carry_pass.proofs.exports.Exports.rename_each.Given as goal

abbrev pub invariant-loop-i : goal.invariant-loop-i
invariant-loop-i l = ((length l.specifiers.items ≡ length l.initial.specifiers.items) × ((k : ℕ) (d : ExportNamedSpecifier) → l.i ≤ k → get_or l.specifiers.items k d ≡ get_or l.initial.specifiers.items k d)) × Each (Renames (binds l.self) (values l.self)) tt (take l.i l.initial.specifiers.items) (take l.i l.specifiers.items) tt
