-- Blocks, labelled statements and `try` that do nothing of their own.
use Rattle.std.specs.Prelude.{◌≡◌, true, List, Some, None, bytes_eq}
use Rattle.swc_ast.specs.declared.Span.{Span}
use Rattle.swc_ast.specs.Tree.{Text, Absent, Block, Break, Empty, Try, Tree, node, Forest, ε, ◌⊳◌}
use Rattle.branch_rules.specs.Statements.{is_plain, is_shallow}

-- one plain and shallow statement
pub data OneShallow : Forest → Type 0 where
  one_shallow : (t : Tree) → is_plain t ≡ true → is_shallow t ≡ true → OneShallow (t ⊳ ε)

-- an empty statement, or a `break` to a label
pub data Idles (l : Text) : Tree → Type 0 where
  idle : (ss : List Span) → Idles l (node Empty ss ε)
  leaves : (m : Text) (ss : List Span) → bytes_eq l m ≡ true → Idles l (node (Break (Some m)) ss ε)

-- a `try` with neither a handler nor anything at the end, and its block
pub data IsBare : Tree → Tree → Type 0 where
  bare : (ss bs hs fs : List Span) (cs : Forest) → IsBare (node (Try None) ss (node Block bs cs ⊳ node Absent hs ε ⊳ node Block fs ε ⊳ ε)) (node Block bs cs)
