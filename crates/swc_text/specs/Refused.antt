-- Why a tree is not printed.
use Rattle.std.specs.Prelude.{◌≡◌, false, [], Some, option_map, string_bytes, ⊤}
use Rattle.swc_ast.specs.Parts.{ident_name}
use Rattle.swc_ast.specs.Tree.{Tree}
use Rattle.swc_ast.specs.Valid.{valid}
use Rattle.tree_captures.specs.Captured.{no_scope, captured, first_of}
use Rattle.tree_captures.specs.declared.captures.Fault.{Fault}
use Rattle.tree_captures.specs.declared.captures.Fault.TheVariants as fault
use Rattle.swc_text.specs.declared.error.PrintError.{PrintError}
use Rattle.swc_text.specs.declared.error.PrintError.TheVariants as print

-- a fault is told, a captured name by its text, unless memory was refused
abbrev pub Says : Fault → PrintError → Type 0
Says (fault.Captured n) (print.Captured name) = string_bytes name ≡ (ident_name n.now).text
Says fault.Invalid print.Invalid = ⊤
Says f print.OutOfMemory = ⊤
Says f e = ⊥

-- the first captured name is told; a tree without one is told to be invalid if it is
abbrev pub Refuses : Tree → PrintError → Type 0
Refuses t (print.Captured name) = option_map (λ x. x.text) (first_of (captured no_scope t)) ≡ Some (string_bytes name)
Refuses t print.Invalid = (captured no_scope t ≡ []) × (valid t ≡ false)
Refuses t print.OutOfMemory = ⊤
