-- The arms of a condition, and which of them stays.
use Rattle.std.specs.Prelude.{◌≡◌, Bool, false, List}
use Rattle.swc_ast.specs.declared.Span.{Span}
use Rattle.swc_ast.specs.declared.statements.IfStmt.{IfStmt}
use Rattle.swc_ast.specs.Parts.{optional_trees}
use Rattle.swc_ast.specs.Redex.{is_empty}
use Rattle.swc_ast.specs.Scope.{joined}
use Rattle.swc_ast.specs.Tree.{Empty, Tree, node, Forest, ε, ◌⊳◌}
use Rattle.swc_ast.specs.Views.{stmt_tree}
use Rattle.branch_rules.specs.Statements.{Chooses}
use Rattle.branch_rules.specs.Vars.{VarsOf}

-- the arms of a condition
abbrev pub arms : IfStmt → Forest
arms n = stmt_tree n.cons.value ⊳ optional_trees stmt_tree n.alt

-- two arms, of which the second is empty
abbrev pub has_empty_else : Forest → Bool
has_empty_else (a ⊳ b ⊳ ε) = is_empty b
has_empty_else _ = false

-- an empty statement
pub data EmptyStatement : Tree → Type 0 where
  empty : (ss : List Span) → EmptyStatement (node Empty ss ε)

-- an arm, and an empty one behind it
pub data EmptyElse : Forest → Tree → Type 0 where
  empty_else : (a : Tree) (ss : List Span) → EmptyElse (a ⊳ node Empty ss ε ⊳ ε) a

-- one arm, which is empty
pub data LoneEmpty : Forest → Type 0 where
  lone_empty : (ss : List Span) → LoneEmpty (node Empty ss ε ⊳ ε)

-- behind others: the `var` names of the arm that goes, and the arm that stays, by the truth of the test
pub record ArmsBehind (known : Bool) (arms before after : Forest) : Type 0 where
  pub kept : Forest
  pub gone : Forest
  pub names : Forest
  pub chooses : Chooses known arms kept gone
  pub vars : VarsOf gone names
  pub is : after ≡ joined before (joined names kept)
