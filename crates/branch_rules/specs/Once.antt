-- What a `do` becomes whose test is false: its body, run once.
use Rattle.std.specs.Prelude.{ℕ, ◌≡◌, Bool, true, false, List, [], Some, None}
use Rattle.swc_ast.specs.declared.Span.{Span}
use Rattle.swc_ast.specs.Tree.{Block, Break, Continue, DoWhile, FnDecl, Tree, node, Forest, ε, ◌⊳◌, label_of}
use Rattle.swc_ast.specs.Scope.{joined}
use Rattle.swc_utils.specs.Known.{truth}
use Rattle.swc_utils.specs.Pure.{pure}
use Rattle.swc_ast.specs.Labels.{is_expression}
use Rattle.branch_rules.specs.Jumps.{Sought, Kinds, escapes, some_escape}
use Rattle.branch_rules.specs.Statements.{is_plain, gives_nothing}

-- `break` and `continue` of a loop, and `continue` with a label that may be its own and stands in front of no loop inside: it may
-- go on with this one
abbrev pub looping : Sought → Kinds
looping labels = record { breaks = true; continues = true; labelled = labels; inside = [] }

-- such labelled `continue`s alone
abbrev pub labelling : Sought → Kinds
labelling labels = record { breaks = false; continues = false; labelled = labels; inside = [] }

-- an unlabelled `break` or `continue`
abbrev pub is_jump : Tree → Bool
is_jump (node (Break None) ss ε) = true
is_jump (node (Continue None) ss ε) = true
is_jump _ = false

-- function declarations alone
abbrev pub all_functions : Forest → Bool
all_functions ε = true
all_functions (node (FnDecl x) ss cs ⊳ ts) = all_functions ts
all_functions _ = false

-- A body that is run once, and what it becomes without the loop, whose labels are among some: no jump that is aimed at the loop is
-- left in it.
pub data OnceRun (labels : Sought) : Tree → Forest → Type 0 where
  whole : (b : Tree) → is_plain b ≡ true → gives_nothing b ≡ true → escapes (looping labels) b ≡ false → OnceRun labels b (b ⊳ ε)
  a_jump : (t : Tree) → is_jump t ≡ true → OnceRun labels t ε
  -- the first direct jump goes; nothing but functions stands behind it
  inside : (bs us : List Span) (ts : Forest) (t : Tree) (rest : Forest) → some_escape (looping labels) ts ≡ false → is_jump t ≡ true → all_functions rest ≡ true → OnceRun labels (node Block bs (joined ts (t ⊳ rest))) (node Block us (joined ts rest) ⊳ ε)

pub data DoStep (mark : ℕ) (labels : Sought) : Tree → Forest → Type 0 where
  do_once : (ss : List Span) (b t : Tree) {us : Forest} → is_expression (label_of t) ≡ true → pure mark t ≡ true → truth mark t ≡ Some false → OnceRun labels b us → DoStep mark labels (node DoWhile ss (b ⊳ t ⊳ ε)) us
