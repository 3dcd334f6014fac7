-- Defaults of parameters that are undefined anyway.
use Rattle.std.specs.Prelude.{ℕ, Bool}
use Rattle.swc_ast.specs.declared.UnaryOp.TheVariants.{Void}
use Rattle.swc_ast.specs.Tree.{Unary, Tree, node, ε, ◌⊳◌}
use Rattle.swc_utils.specs.Globals.{is_undefined}
use Rattle.swc_utils.specs.Pure.{pure}

-- `undefined`, or `void` of a pure expression
abbrev pub is_void : ℕ → Tree → Bool
is_void mark (node (Unary Void) ss (a ⊳ ε)) = pure mark a
is_void mark t = is_undefined mark t
