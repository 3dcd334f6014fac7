-- The names that stay of what goes, and what is put behind a list.
use Rattle.std.specs.Prelude.{◌≡◌, Bool, not, ◌||◌, if◌then◌else◌, List, [], ◌∷◌}
use Rattle.swc_ast.specs.Parts.{ident_name}
use Rattle.swc_ast.specs.Scope.{joined}
use Rattle.swc_ast.specs.Tree.{Name, Tree, Forest}
use Rattle.swc_ast.specs.Weight.{stays_behind}
use Rattle.swc_ast.specs.declared.declarations.VarDeclarator.{VarDeclarator}
use Rattle.swc_ast.specs.declared.expressions.Expr.{Expr}
use Rattle.branch_rules.specs.Lists.{Cut}
use Rattle.branch_rules.specs.Vars.{names_left}

-- the names that stay of declarators: all, or those that are kept
abbrev pub picked : (Name → Bool) → Bool → List (VarDeclarator Expr) → List Name
picked kept lexical [] = []
picked kept lexical (d ∷ ds) = if not lexical || kept (ident_name d.name) then ident_name d.name ∷ picked kept lexical ds else picked kept lexical ds

-- the names that stay of an item behind one that ends the list; functions and module declarations don't go
abbrev pub going_names : (Name → Bool) → Tree → List Name
going_names kept t = if stays_behind t then [] else names_left kept t

-- a list that is cut and put behind another one
pub record CutsOnto (kept : Name → Bool) (ts old new : Forest) : Type 0 where
  pub left : Forest
  pub cuts : Cut kept ts left
  pub is : new ≡ joined old left
