-- What is left of an expression whose value is not used, as the code hands it on.
use Rattle.std.specs.Prelude.{ℕ, ◌≡◌, Bool, true, false, List, [], ◌∷◌, ◌++◌, map, Option, Some, None}
use Rattle.swc_ast.specs.declared.expressions.Expr.{Expr}
use Rattle.swc_ast.specs.declared.expressions.ExprOrSpread.{ExprOrSpread}
use Rattle.swc_ast.specs.Tree.{ItemKind, Plain, Tree, Forest, ε, ◌⊳◌}
use Rattle.swc_ast.specs.Expressions.{item_kind, item_trees, item_spans}
use Rattle.swc_ast.specs.Parts.{list_trees}
use Rattle.swc_ast.specs.Scope.{joined}
use Rattle.swc_ast.specs.Views.{expr_tree}
use Rattle.branch_rules.specs.Ignored.{Ignores, IgnoresAll, ItemsLeft}
use Rattle.branch_expressions.specs.declared.ignored.Left.{Left as LeftKind}
use Rattle.branch_expressions.specs.declared.ignored.Left.TheVariants as left
use Rattle.branch_expressions.specs.declared.rest.Rest.{Rest}
use Rattle.branch_expressions.specs.declared.rest.Rest.TheVariants as rest

-- the tree of an expression, if there is one
abbrev pub tree_of : Option Expr → Option Tree
tree_of None = None
tree_of (Some e) = Some (expr_tree e)

-- whether it is something else than the expression
abbrev pub is_change : Rest → Bool
is_change rest.Same = false
is_change rest.Nothing = true
is_change (rest.Other e) = true

-- nothing, or another expression
abbrev pub other : Option Expr → Rest
other None = rest.Nothing
other (Some e) = rest.Other e

-- what is left of an expression, t before and u now
abbrev pub Rested : ℕ → Tree → Tree → Rest → Type 0
Rested mark t u rest.Same = u ≡ t
Rested mark t u rest.Nothing = Ignores mark true t None
Rested mark t u (rest.Other e) = Ignores mark true t (Some (expr_tree e))

-- the same where it is put into the expression's place
abbrev pub IsLeft : ℕ → Tree → Tree → LeftKind → Type 0
IsLeft mark t u left.Same = u ≡ t
IsLeft mark t u left.Changed = Ignores mark true t (Some u)
IsLeft mark t u left.Nothing = Ignores mark true t None

-- what is left of an expression, moved out of it
pub record Leaves (mark : ℕ) (t : Tree) (o : Option Expr) : Type 0 where
  pub changed : Bool
  pub ignores : Ignores mark changed t (tree_of o)

-- what is left of expressions that are run in order, behind others
pub record Adds (mark : ℕ) (ts : Forest) (before after : List Expr) (changed : Bool) : Type 0 where
  pub added : Forest
  pub ignores : IgnoresAll mark changed ts added
  pub is : list_trees expr_tree after ≡ joined (list_trees expr_tree before) added

-- what is left of an array's items, behind others
pub record AddsItems (mark : ℕ) (items before after : List (Option (ExprOrSpread Expr))) (changed : Bool) : Type 0 where
  pub kinds : List ItemKind
  pub added : Forest
  pub left : ItemsLeft mark changed (map item_kind items) (item_trees expr_tree items) kinds added
  pub kinds_are : map item_kind after ≡ map item_kind before ++ kinds
  pub trees_are : item_trees expr_tree after ≡ joined (item_trees expr_tree before) added
  pub same_spans : changed ≡ false → item_spans after ≡ item_spans before ++ item_spans items

-- the same of one item that is an expression
pub record AddsPlain (mark : ℕ) (t : Tree) (before after : List (Option (ExprOrSpread Expr))) (changed : Bool) : Type 0 where
  pub kinds : List ItemKind
  pub added : Forest
  pub left : ItemsLeft mark changed (Plain ∷ []) (t ⊳ ε) kinds added
  pub kinds_are : map item_kind after ≡ map item_kind before ++ kinds
  pub trees_are : item_trees expr_tree after ≡ joined (item_trees expr_tree before) added
  pub same_spans : changed ≡ false → item_spans after ≡ item_spans before
