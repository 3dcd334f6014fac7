-- What loops and their bodies become.
use Rattle.std.specs.Prelude.{ℕ, ◌<◌, ◌≡◌, Bool, true, false, List, [], ◌∷◌}
use Rattle.swc_ast.specs.declared.Span.{Span}
use Rattle.swc_ast.specs.Tree.{BoolLit, Block, ExprStmt, If, While, DoWhile, For, Switch, Try, Tree, node, Forest, ε, ◌⊳◌, label_of}
use Rattle.swc_ast.specs.Weight.{weight}
use Rattle.swc_ast.specs.Labels.{is_expression}
use Rattle.branch_rules.specs.Statements.{as_statement, Part}
use Rattle.branch_rules.specs.Vars.{VarsOf}

-- a truth literal that stands nowhere in the text
abbrev pub truth_tree : Bool → Tree
truth_tree b = node (BoolLit b) (record { lo = 0; hi = 0 } ∷ []) ε

-- the declaration of the `var` names of a body that goes, as a statement
pub record IsNames (b u : Tree) : Type 0 where
  pub names : Forest
  pub spans : List Span
  pub declares : VarsOf (b ⊳ ε) names
  pub is : u ≡ as_statement spans names

-- a statement that weighs more than that
pub record Outweighs (b : Tree) : Type 0 where
  pub more : (rs : List Span) (vs : Forest) → VarsOf (b ⊳ ε) vs → weight (as_statement rs vs) < weight b

-- a statement that is sure to
abbrev pub is_heavy : Tree → Bool
is_heavy (node Block ss cs) = true
is_heavy (node ExprStmt ss cs) = true
is_heavy (node If ss cs) = true
is_heavy (node While ss cs) = true
is_heavy (node DoWhile ss cs) = true
is_heavy (node For ss cs) = true
is_heavy (node (Switch ds) ss cs) = true
is_heavy (node (Try o) ss cs) = true
is_heavy _ = false

-- the first part or the update of a `for`, t before and u now; the truth value says whether something else is left of it
pub data PartLeft (mark : ℕ) (t u : Tree) : Bool → Type 0 where
  part_same : u ≡ t → PartLeft mark t u false
  part_changed : is_expression (label_of t) ≡ true → Part mark t u → PartLeft mark t u true

-- the spans of a new node
abbrev pub nowhere : List Span
nowhere = record { lo = 0; hi = 0 } ∷ []
