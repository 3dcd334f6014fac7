-- What the removal of dead branches makes of single statements: conditions of known truth, loops that take no turn, blocks
-- of one statement, statements that do nothing.
use Rattle.std.specs.Prelude.{◌≤◌, ◌≡◌, true, List, []}
use Rattle.swc_ast.specs.declared.Span.{Span}
use Rattle.swc_ast.specs.Tree.{Block, Empty, ExprStmt, If, While, Tree, node, Forest, ε, ◌⊳◌, label_of}
use Rattle.swc_ast.specs.Scope.{vars, joined}
use Rattle.swc_ast.specs.Valid.{valid}
use Rattle.swc_ast.specs.Core.{fits}
use Rattle.swc_ast.specs.Weight.{weight}
use Rattle.static_proofs.specs.Drawn.{is_plain_statement, Drawn}
use Rattle.static_proofs.specs.Over.{Over}
use Rattle.branch_rules.specs.Statements.{as_statement, all_plain}
use Rattle.branch_proofs.proofs.ListForms.{Hoists, Tidies}

-- which arms of a condition stay and which go
pub data Chooses : Forest → Forest → Forest → Type 0 where
  only_arm : {a : Tree} → Chooses (a ⊳ ε) (a ⊳ ε) ε
  no_arm : {a : Tree} → Chooses (a ⊳ ε) ε (a ⊳ ε)
  then_arm : {a b : Tree} → Chooses (a ⊳ b ⊳ ε) (a ⊳ ε) (b ⊳ ε)
  else_arm : {a b : Tree} → Chooses (a ⊳ b ⊳ ε) (b ⊳ ε) (a ⊳ ε)

-- What is left of a test of a tree t: nothing, or a statement for its effects.
pub data Tested (t c : Tree) : Forest → Type 0 where
  untested : Tested t c ε
  tested : {ss : List Span} {e : Tree} (parts : Forest) → Drawn c parts → Over (valid t ≡ true) (fits t ≡ true) parts (e ⊳ ε) → vars e ≡ [] → weight e ≤ weight c → Tested t c (node ExprStmt ss (e ⊳ ε) ⊳ ε)

pub data BranchStep : Tree → Tree → Type 0 where
  -- `if` with a test of known truth: what the test does, the `var` names of the arm that goes, and the other arm
  choose : {ss : List Span} {c : Tree} {arms : Forest} (rs : List Span) (es hs kept gone : Forest) → Chooses arms kept gone → vars c ≡ [] → all_plain kept ≡ true → Tested (node If ss (c ⊳ arms)) c es → Hoists gone hs → BranchStep (node If ss (c ⊳ arms)) (as_statement rs (joined es (joined hs kept)))
  -- `while` whose test is false
  no_turn : {ss : List Span} {c b : Tree} (rs : List Span) (hs : Forest) → vars c ≡ [] → Hoists (b ⊳ ε) hs → BranchStep (node While ss (c ⊳ b ⊳ ε)) (as_statement rs hs)
  -- a block of one plain statement, or of none
  unwrap : {ss : List Span} {s : Tree} → is_plain_statement (label_of s) ≡ true → BranchStep (node Block ss (s ⊳ ε)) s
  hollow : {ss rs : List Span} → BranchStep (node Block ss ε) (node Empty rs ε)
  -- the same once its list was tidied
  tidy_unwrap : {ss : List Span} {ts : Forest} {s : Tree} → Tidies ts (s ⊳ ε) → is_plain_statement (label_of s) ≡ true → BranchStep (node Block ss ts) s
  -- an expression statement that does nothing
  idle : {ss rs : List Span} {e : Tree} → vars e ≡ [] → BranchStep (node ExprStmt ss (e ⊳ ε)) (node Empty rs ε)
