-- Lists whose items come from another list, or are made of statements.
use Rattle.std.specs.Prelude.{List, [], ◌∷◌}
use Rattle.swc_ast.specs.declared.statements.Stmt.{Stmt}

-- an item is in a list
pub data IsIn {X : Type 0} (x : X) : List X → Type 0 where
  is_first : {ys : List X} → IsIn x (x ∷ ys)
  is_later : {y : X} {ys : List X} → IsIn x ys → IsIn x (y ∷ ys)

-- each item of the second list is one of the first, or is made of a statement
pub data Kept {X : Type 0} (made : Stmt → X) (xs : List X) : List X → Type 0 where
  none_more : Kept made xs []
  one_kept : {y : X} {ys : List X} → IsIn y xs → Kept made xs ys → Kept made xs (y ∷ ys)
  one_made : {s : Stmt} {ys : List X} → Kept made xs ys → Kept made xs (made s ∷ ys)
