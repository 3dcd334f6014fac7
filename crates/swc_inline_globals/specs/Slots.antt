-- What was made of values, by their numbers.
use Rattle.std.specs.Prelude.{Bool, true, false, List, slice_get, Option, Some, None}
use Rattle.swc_ast.specs.Tree.{Tree}
use Rattle.swc_ast.specs.Views.{expr_tree}
use Rattle.swc_ast.specs.declared.expressions.Expr.{Expr}
use Rattle.swc_ast.specs.declared.UnaryOp.{UnaryOp}
use Rattle.swc_ast.specs.declared.UnaryOp.TheVariants.{TypeOf}
use Rattle.given_rules.specs.Worked.{Finished}

abbrev pub slot_tree : Option (Option Expr) → Option Tree
slot_tree None = None
slot_tree (Some None) = None
slot_tree (Some (Some e)) = Some (expr_tree e)

abbrev pub slots : List (Option Expr) → Finished
slots xs i = slot_tree (slice_get xs i)

-- whether an operator is `typeof`
abbrev pub types : UnaryOp → Bool
types TypeOf = true
types o = false
