-- A module in which an expression stands twice, and keys that are written out; for private clauses.
use Rattle.std.specs.Prelude.{Bool, true, [], ◌∷◌}
use Rattle.swc_ast.specs.Tree.{ExprStmt, Module, Tree, node, ε, ◌⊳◌}
use Rattle.swc_ast.specs.Views.{expr_tree}
use Rattle.swc_ast.specs.declared.Span.{Span}
use Rattle.swc_ast.specs.declared.expressions.Expr.{Expr}
use Rattle.swc_ast.specs.declared.expressions.MemberProp.{MemberProp}
use Rattle.swc_ast.specs.declared.expressions.MemberProp.TheVariants as prop
use Rattle.shake_given.specs.Reads.{is_text}

abbrev nowhere : Span
nowhere = record { lo = 0; hi = 0 }

abbrev pub statement : Tree → Tree
statement t = node ExprStmt (nowhere ∷ []) (t ⊳ ε)

abbrev pub twice : Tree → Tree
twice t = node Module (nowhere ∷ []) (statement t ⊳ statement t ⊳ ε)

abbrev pub is_written : MemberProp Expr → Bool
is_written (prop.Ident n) = true
is_written (prop.Computed n) = is_text (expr_tree n.expr.value)
