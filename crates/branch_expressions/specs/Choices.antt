-- What the left side of `&&`, `||` and `??` tells of the right one, and what is left of choices.
use Rattle.std.specs.Prelude.{ℕ, ◌≡◌, Bool, true, false, List, Option, Some, None}
use Rattle.swc_ast.specs.declared.Span.{Span}
use Rattle.swc_ast.specs.declared.BinaryOp.{BinaryOp}
use Rattle.swc_ast.specs.declared.BinaryOp.TheVariants as op
use Rattle.swc_ast.specs.declared.AssignOp.TheVariants.{Assign as Plain}
use Rattle.swc_ast.specs.Meaning.{is_unresolved}
use Rattle.swc_ast.specs.Tree.{Name, Assign, Binary, Cond, Read, Seq, Tree, node, Forest, ε, ◌⊳◌}
use Rattle.branch_rules.specs.Ignored.{Ignores}

-- the left side a tells that the right one is skipped, or that it is run and nothing is lost with a
abbrev pub Decides : ℕ → BinaryOp → Tree → Bool → Type 0
Decides mark op a true = (c : Bool) (o : Option Tree) (ss : List Span) (b : Tree) → Ignores mark c a o → Ignores mark true (node (Binary op) ss (a ⊳ b ⊳ ε)) o
Decides mark op a false = (c : Bool) (o : Option Tree) (ss : List Span) (b : Tree) → Ignores mark c b o → Ignores mark true (node (Binary op) ss (a ⊳ b ⊳ ε)) o

-- nothing twice
abbrev pub are_none : Option Tree → Option Tree → Bool
are_none None None = true
are_none o p = false

-- what is left of one of two sides, where nothing is left of the other
abbrev pub only_tree : Option Tree → Option Tree → Option Tree
only_tree (Some a) None = Some a
only_tree None o = o
only_tree (Some a) (Some b) = None

-- a choice between what is left of its arms
abbrev pub choice_tree : List Span → Tree → Option Tree → Option Tree → Option Tree
choice_tree rs t None None = None
choice_tree rs t (Some v) None = Some (node (Binary op.LogicalAnd) rs (t ⊳ v ⊳ ε))
choice_tree rs t None (Some w) = Some (node (Binary op.LogicalOr) rs (t ⊳ w ⊳ ε))
choice_tree rs t (Some v) (Some w) = Some (node Cond rs (t ⊳ v ⊳ w ⊳ ε))

-- a name that is read
pub record IsName (t : Tree) (x : Name) : Type 0 where
  pub spans : List Span
  pub is : t ≡ node (Read x) spans ε

-- a sequence of some expressions
pub record IsSequence (t : Tree) (cs : Forest) : Type 0 where
  pub spans : List Span
  pub is : t ≡ node Seq spans cs

-- `x = x` of a bound name, t, and its right side, r
pub record Itself (mark : ℕ) (t r : Tree) : Type 0 where
  pub name : Name
  pub spans : List Span
  pub value_spans : List Span
  pub bound : is_unresolved mark name ≡ false
  pub is : t ≡ node (Assign Plain name) spans (node (Read name) value_spans ε ⊳ ε)
  pub value : r ≡ node (Read name) value_spans ε
