-- How deep a `switch` is as a statement.
use Rattle.std.proofs.Common.{◌≡◌, ◌+◌, sym, ap, ◌∙◌, arith}
use Rattle.swc_ast.specs.declared.declarations.Decl.TheOpen as Open
use Rattle.swc_ast.specs.declared.declarations.Decl.TheViews.{roll-Stmt, out-roll-Stmt}
use Rattle.swc_ast.specs.declared.statements.Stmt.TheVariants as in_stmt
use Rattle.swc_ast.specs.declared.statements.Stmt.{size-Stmt, size_is-Stmt}
use Rattle.swc_ast.specs.declared.statements.SwitchStmt.{SwitchStmt, size-SwitchStmt}

pub switched_size : (n : SwitchStmt) → size-Stmt (in_stmt.Switch n) ≡ size-SwitchStmt n + 1
switched_size n = ap size-Stmt (sym (in_stmt.rolls-Switch n)) ∙ (rw (out-roll-Stmt (Open.Switch n)) at (size_is-Stmt (roll-Stmt (Open.Switch n)))) ∙ omega arith
