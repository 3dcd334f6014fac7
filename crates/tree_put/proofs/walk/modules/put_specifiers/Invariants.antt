use Rattle.std.proofs.Common.{◌≡◌, ℕ, ◌≤◌, length, get_or, take}
use Rattle.swc_ast.specs.Modules.{export_specifier_tree}
use Rattle.swc_ast.specs.declared.modules.ExportNamedSpecifier.{ExportNamedSpecifier}
use Rattle.tree_put.specs.Walks.{EachGoes}
use Rattle.tree_put.proofs.walk.modules.put_specifiers.Given as goal

abbrev pub invariant-loop-i : goal.invariant-loop-i
invariant-loop-i g l = ((length l.xs.items ≡ length l.initial.xs.items) × ((k : ℕ) (d : ExportNamedSpecifier) → l.i ≤ k → get_or l.xs.items k d ≡ get_or l.initial.xs.items k d)) × EachGoes (g.P.Puts.puts) export_specifier_tree (g.P.Puts.state l.initial.rules) (take l.i l.initial.xs.items) (take l.i l.xs.items) (g.P.Puts.state l.rules)
