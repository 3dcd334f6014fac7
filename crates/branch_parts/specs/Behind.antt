-- What stays of expressions and of statements that go, behind statements that stand already.
use Rattle.std.specs.Prelude.{ℕ, ◌≡◌, Bool, [], ◌∷◌}
use Rattle.swc_ast.specs.Scope.{joined}
use Rattle.swc_ast.specs.Tree.{ExprStmt, Tree, node, Forest, ε, ◌⊳◌}
use Rattle.branch_rules.specs.Statements.{Alone}
use Rattle.branch_rules.specs.Vars.{VarsOf}

-- an expression as a statement that stands nowhere in the text
abbrev pub alone_tree : Tree → Tree
alone_tree t = node ExprStmt (record { lo = 0; hi = 0 } ∷ []) (t ⊳ ε)

-- what is left of an expression as a statement
pub data LeftBehind (mark : ℕ) (a : Tree) (before after : Forest) : Type 0 where
  left_behind : {c : Bool} {es : Forest} → Alone mark c a es → after ≡ joined before es → LeftBehind mark a before after

-- the `var` names of statements that go
pub data VarsBehind (gone before after : Forest) : Type 0 where
  vars_behind : {vs : Forest} → VarsOf gone vs → after ≡ joined before vs → VarsBehind gone before after
