-- What the removal of dead branches makes of loops, labels and `try`. Each step changes one part.
use Rattle.std.specs.Prelude.{◌≤◌, ◌<◌, ◌≡◌, true, false, List, [], Option}
use Rattle.swc_ast.specs.declared.Span.{Span}
use Rattle.swc_ast.specs.Tree.{Name, Text, Block, Empty, BoolLit, Absent, If, While, DoWhile, For, Labeled, Try, Tree, node, Forest, ε, ◌⊳◌, label_of}
use Rattle.swc_ast.specs.Scope.{vars, joined}
use Rattle.swc_ast.specs.Weight.{weight, is_truth_or_absent}
use Rattle.static_proofs.specs.Drawn.{is_plain_statement}
use Rattle.branch_rules.specs.Statements.{all_plain}
use Rattle.branch_proofs.proofs.ListForms.{Hoists, Tidies}
use Rattle.branch_rules.specs.Statements.{as_statement}

pub data LoopStep : Tree → Tree → Type 0 where
  -- an expression in the head of a `for` that does nothing
  init_gone : {ss rs : List Span} {i t u b : Tree} → vars i ≡ [] → 1 ≤ weight i → LoopStep (node For ss (i ⊳ t ⊳ u ⊳ b ⊳ ε)) (node For ss (node Absent rs ε ⊳ t ⊳ u ⊳ b ⊳ ε))
  update_gone : {ss rs : List Span} {i t u b : Tree} → vars u ≡ [] → 1 ≤ weight u → LoopStep (node For ss (i ⊳ t ⊳ u ⊳ b ⊳ ε)) (node For ss (i ⊳ t ⊳ node Absent rs ε ⊳ b ⊳ ε))
  -- a test that is true, or false
  test_gone : {ss rs : List Span} {i t u b : Tree} → vars t ≡ [] → 1 ≤ weight t → LoopStep (node For ss (i ⊳ t ⊳ u ⊳ b ⊳ ε)) (node For ss (i ⊳ node Absent rs ε ⊳ u ⊳ b ⊳ ε))
  test_false : {ss rs : List Span} {i t u b : Tree} → vars t ≡ [] → is_truth_or_absent t ≡ false → LoopStep (node For ss (i ⊳ t ⊳ u ⊳ b ⊳ ε)) (node For ss (i ⊳ node (BoolLit false) rs ε ⊳ u ⊳ b ⊳ ε))
  test_true : {ss rs : List Span} {t b : Tree} → vars t ≡ [] → is_truth_or_absent t ≡ false → LoopStep (node While ss (t ⊳ b ⊳ ε)) (node While ss (node (BoolLit true) rs ε ⊳ b ⊳ ε))
  -- a body that is never run, where this makes it lighter
  for_body : {ss : List Span} {i t u b : Tree} (rs : List Span) (hs : Forest) → Hoists (b ⊳ ε) hs → weight (as_statement rs hs) < weight b → LoopStep (node For ss (i ⊳ t ⊳ u ⊳ b ⊳ ε)) (node For ss (i ⊳ t ⊳ u ⊳ as_statement rs hs ⊳ ε))
  while_body : {ss : List Span} {t b : Tree} (rs : List Span) (hs : Forest) → Hoists (b ⊳ ε) hs → weight (as_statement rs hs) < weight b → LoopStep (node While ss (t ⊳ b ⊳ ε)) (node While ss (t ⊳ as_statement rs hs ⊳ ε))
  -- a `for` that takes no turn and has no first part
  for_no_turn : {ss : List Span} {t u b : Tree} (ks rs : List Span) (hs : Forest) → vars t ≡ [] → vars u ≡ [] → Hoists (b ⊳ ε) hs → LoopStep (node For ss (node Absent ks ε ⊳ t ⊳ u ⊳ b ⊳ ε)) (as_statement rs hs)
  -- `do` whose test is true
  do_for : {ss : List Span} {b t : Tree} (ks ls ms : List Span) → vars t ≡ [] → LoopStep (node DoWhile ss (b ⊳ t ⊳ ε)) (node For ss (node Absent ks ε ⊳ node Absent ls ε ⊳ node Absent ms ε ⊳ b ⊳ ε))
  -- a label of a statement that does nothing, or only leaves it
  label_gone : {l : Text} {ss rs : List Span} {s : Tree} → vars s ≡ [] → LoopStep (node (Labeled l) ss (s ⊳ ε)) (node Empty rs ε)
  -- an empty `else`
  else_gone : {ss : List Span} {c a e : Tree} → vars e ≡ [] → 1 ≤ weight e → LoopStep (node If ss (c ⊳ a ⊳ e ⊳ ε)) (node If ss (c ⊳ a ⊳ ε))
  -- `try` with an empty block: the `var` names of the handler, and the final block, if any
  try_gone : {o : Option (Option Name)} {ss : List Span} {b h f : Tree} (rs : List Span) (hs : Forest) → vars b ≡ [] → vars f ≡ [] → Hoists (h ⊳ ε) hs → LoopStep (node (Try o) ss (b ⊳ h ⊳ f ⊳ ε)) (as_statement rs hs)
  try_final : {o : Option (Option Name)} {ss : List Span} {b h f : Tree} (rs : List Span) (hs : Forest) → vars b ≡ [] → is_plain_statement (label_of f) ≡ true → Hoists (h ⊳ ε) hs → LoopStep (node (Try o) ss (b ⊳ h ⊳ f ⊳ ε)) (as_statement rs (joined hs (f ⊳ ε)))
  try_inside : {o : Option (Option Name)} {ss fs : List Span} {b h : Tree} {cs : Forest} (rs : List Span) (hs : Forest) → vars b ≡ [] → all_plain cs ≡ true → Hoists (h ⊳ ε) hs → LoopStep (node (Try o) ss (b ⊳ h ⊳ node Block fs cs ⊳ ε)) (node Block rs (joined hs cs))
  -- no handler and an empty final block
  try_plain : {o : Option (Option Name)} {ss : List Span} {b h f : Tree} → vars h ≡ [] → vars f ≡ [] → is_plain_statement (label_of b) ≡ true → LoopStep (node (Try o) ss (b ⊳ h ⊳ f ⊳ ε)) b
  -- a block that was tidied to nothing
  tidy_hollow : {ss rs : List Span} {ts : Forest} → Tidies ts ε → LoopStep (node Block ss ts) (node Empty rs ε)
