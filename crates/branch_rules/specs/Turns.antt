-- What takes the place of a statement in code: the statements that a rule makes of it, as one; or nothing, where it stays.
use Rattle.std.specs.Prelude.{ℕ, ◌≡◌, List, Option, Some, None}
use Rattle.swc_ast.specs.declared.Span.{Span}
use Rattle.swc_ast.specs.declared.statements.Stmt.{Stmt}
use Rattle.swc_ast.specs.Tree.{Tree, Forest}
use Rattle.swc_ast.specs.Views.{stmt_tree}
use Rattle.branch_rules.specs.Removes.{BranchStep}
use Rattle.branch_rules.specs.Statements.{as_statement}

-- one of the rules takes the node; or none does, and then the node, t before and u now, is as it was
pub data Turns (mark : ℕ) (t u : Tree) : Option Stmt → Type 0 where
  by_rule : (rs : List Span) {us : Forest} {s : Stmt} → BranchStep mark t us → stmt_tree s ≡ as_statement rs us → Turns mark t u (Some s)
  as_it_was : u ≡ t → Turns mark t u None
