-- Lists behind other ones.
use Rattle.std.specs.Prelude.{◌≡◌, List, ◌++◌}
use Rattle.swc_ast.specs.declared.statements.Stmt.{Stmt}
use Rattle.stmt_like.specs.Kept.{Kept}

-- a list with more items behind it, each of which is one of some, or is made of a statement
pub record Onto {X : Type 0} (made : Stmt → X) (xs old new : List X) : Type 0 where
  pub added : List X
  pub is : new ≡ old ++ added
  pub kept : Kept made xs added
