-- Exports by name, one by one, for a set of bound names.
use Rattle.std.specs.Prelude.{ℕ, Bool, true, false, not, ◌&&◌}
use Rattle.swc_ast.specs.Tree as tree
use Rattle.swc_ast.specs.Tree.{Name, Label, Tree, node, Forest}
use Rattle.swc_ast.specs.Resolved.{specifier_bound, exports_bound}
use Rattle.swc_resolved.specs.declared.names.Taken.{Taken}
use Rattle.swc_resolved.specs.Names.{is_free, is_taken}

-- a name that is taken, and not for being unresolved
abbrev pub is_bound : Taken → ℕ → Name → Bool
is_bound s mark x = is_taken s x && not (is_free mark x)

-- the local name of a specifier is bound
abbrev pub label_bound : (Name → Bool) → Label → Bool
label_bound binds (tree.ExportSpecifier x o) = binds x
label_bound binds _ = true

abbrev pub is_export_named : Label → Bool
is_export_named tree.ExportNamed = true
is_export_named _ = false

-- each name that an item exports is bound
abbrev pub item_bound : (Name → Bool) → Tree → Bool
item_bound binds (node tree.ExportNamed ss cs) = specifier_bound binds cs
item_bound binds _ = true

-- the same of a module
abbrev pub own_exports : (Name → Bool) → Label → Forest → Bool
own_exports binds tree.Module cs = exports_bound binds cs
own_exports binds _ cs = true
