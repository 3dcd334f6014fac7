-- What a statement becomes, its children being walked already: some statements, in order. The spans of a new node are the caller's.
use Rattle.std.specs.Prelude.{ℕ, ◌<◌, ◌≡◌, Bool, true, false, ◌&&◌, ◌||◌, List, Option, Some, None, bytes_eq}
use Rattle.swc_ast.specs.declared.Span.{Span}
use Rattle.swc_ast.specs.Tree.{Text, Name, Read, This, Arrow, BoolLit, ExprStmt, Empty, Throw, Return, Block, If, While, DoWhile, For, Absent, Labeled, Break, Continue, Switch, Try, VarDecl, FnDecl, Tree, node, Forest, ε, ◌⊳◌, label_of}
use Rattle.swc_ast.specs.Scope.{joined}
use Rattle.swc_ast.specs.Weight.{weight, is_truth_or_absent}
use Rattle.swc_utils.specs.Known.{truth}
use Rattle.swc_utils.specs.Pure.{pure}
use Rattle.static_proofs.specs.Drawn.{is_plain_statement}
use Rattle.swc_ast.specs.Labels.{is_expression}
use Rattle.branch_rules.specs.Ignored.{Ignores}
use Rattle.branch_rules.specs.Vars.{VarsOf}

-- statements in the place of one
abbrev pub as_statement : List Span → Forest → Tree
as_statement rs ε = node Empty rs ε
as_statement rs (t ⊳ ε) = t
as_statement rs (t ⊳ u ⊳ ts) = node Block rs (t ⊳ u ⊳ ts)

-- a statement that declares neither `let`, `const` nor a function
abbrev pub is_plain : Tree → Bool
is_plain t = is_plain_statement (label_of t)

abbrev mutual
  -- a statement of which no run gives a value: each statement that is a view is one
  pub gives_nothing : Tree → Bool
  gives_nothing (node Block ss cs) = true
  gives_nothing (node Empty ss cs) = true
  gives_nothing (node Throw ss cs) = true
  gives_nothing (node ExprStmt ss cs) = true
  gives_nothing (node Return ss cs) = true
  gives_nothing (node While ss cs) = true
  gives_nothing (node DoWhile ss cs) = true
  gives_nothing (node For ss cs) = true
  gives_nothing (node (Break l) ss cs) = true
  gives_nothing (node (Continue l) ss cs) = true
  gives_nothing (node (Switch ds) ss cs) = true
  gives_nothing (node (VarDecl kind) ss cs) = true
  gives_nothing (node (FnDecl x) ss cs) = true
  gives_nothing (node If ss (t ⊳ cs)) = all_give_nothing cs
  gives_nothing (node (Labeled l) ss cs) = all_give_nothing cs
  gives_nothing (node (Try None) ss (b ⊳ cs)) = gives_nothing b
  gives_nothing (node (Try (Some p)) ss (b ⊳ h ⊳ cs)) = gives_nothing b && gives_nothing h
  gives_nothing _ = false

  -- the same of several
  pub all_give_nothing : Forest → Bool
  all_give_nothing ε = true
  all_give_nothing (t ⊳ ts) = gives_nothing t && all_give_nothing ts

-- what is left of an expression as a statement; the truth value says whether that is something else than the expression
pub data Alone (mark : ℕ) : Bool → Tree → Forest → Type 0 where
  nothing_alone : (a : Tree) → Ignores mark true a None → Alone mark true a ε
  left_alone : {c : Bool} (rs : List Span) (a v : Tree) → is_expression (label_of v) ≡ true → Ignores mark c a (Some v) → Alone mark c a (node ExprStmt rs (v ⊳ ε) ⊳ ε)

-- the first part or the update of a `for` whose value is not used: nothing, or another expression
pub data Part (mark : ℕ) : Tree → Tree → Type 0 where
  part_goes : (rs : List Span) (a : Tree) → Ignores mark true a None → Part mark a (node Absent rs ε)
  part_left : (a v : Tree) → is_expression (label_of v) ≡ true → Ignores mark true a (Some v) → Part mark a v

-- which arms of a condition stay and which go, by the truth of its test
pub data Chooses : Bool → Forest → Forest → Forest → Type 0 where
  only_arm : (a : Tree) → Chooses true (a ⊳ ε) (a ⊳ ε) ε
  no_arm : (a : Tree) → Chooses false (a ⊳ ε) ε (a ⊳ ε)
  then_arm : (a b : Tree) → Chooses true (a ⊳ b ⊳ ε) (a ⊳ ε) (b ⊳ ε)
  else_arm : (a b : Tree) → Chooses false (a ⊳ b ⊳ ε) (b ⊳ ε) (a ⊳ ε)

-- each of some statements is plain
abbrev pub all_plain : Forest → Bool
all_plain ε = true
all_plain (t ⊳ ts) = is_plain t && all_plain ts

-- an absent part
abbrev pub is_absent : Tree → Bool
is_absent (node Absent ss cs) = true
is_absent _ = false

-- an expression that may be left out
abbrev pub is_optional : Tree → Bool
is_optional t = is_expression (label_of t) || is_absent t

-- a name, `this` or an arrow: it does nothing, and stays as a statement
abbrev pub is_word : Tree → Bool
is_word (node (Read x) ss cs) = true
is_word (node This ss cs) = true
is_word (node Arrow ss cs) = true
is_word _ = false

-- a statement in which no other stands, or only those of its list
abbrev pub is_flat : Tree → Bool
is_flat (node Block ss cs) = true
is_flat (node (Labeled l) ss cs) = true
is_flat (node (Switch ds) ss cs) = true
is_flat (node (VarDecl k) ss cs) = true
is_flat (node (FnDecl x) ss cs) = true
is_flat (node ExprStmt ss cs) = true
is_flat _ = false

-- the same of each of some statements
abbrev pub all_flat : Forest → Bool
all_flat ε = true
all_flat (t ⊳ ts) = is_flat t && all_flat ts

-- a statement in which others stand at most one deep
abbrev pub is_shallow : Tree → Bool
is_shallow (node If ss (t ⊳ arms)) = all_flat arms
is_shallow (node While ss (t ⊳ b ⊳ ε)) = is_flat b
is_shallow (node DoWhile ss (b ⊳ t ⊳ ε)) = is_flat b
is_shallow (node For ss (i ⊳ t ⊳ u ⊳ b ⊳ ε)) = is_flat b
is_shallow _ = true

pub data StatementStep (mark : ℕ) : Tree → Forest → Type 0 where
  -- an expression of which nothing is left, or another one; a name, `this` and an arrow stay
  expression : (ss : List Span) (a : Tree) {es : Forest} → is_expression (label_of a) ≡ true → is_word a ≡ false → Alone mark true a es → StatementStep mark (node ExprStmt ss (a ⊳ ε)) es
  -- `if` with a test of known truth: what the test does, the `var` names of the arm that goes, and the other arm
  choose : {c : Bool} (ss : List Span) (t : Tree) (known : Bool) (arms kept gone : Forest) {es vs : Forest} → is_expression (label_of t) ≡ true → truth mark t ≡ Some known → Chooses known arms kept gone → all_plain arms ≡ true → all_give_nothing arms ≡ true → Alone mark c t es → VarsOf gone vs → StatementStep mark (node If ss (t ⊳ arms)) (joined es (joined vs kept))
  -- an empty `else`, and an empty branch without `else`
  else_goes : (ss rs us : List Span) (t a : Tree) → is_expression (label_of t) ≡ true → is_plain a ≡ true → StatementStep mark (node If ss (t ⊳ a ⊳ node Empty rs ε ⊳ ε)) (node If us (t ⊳ a ⊳ ε) ⊳ ε)
  branch_goes : {c : Bool} (ss rs : List Span) (t : Tree) {es : Forest} → is_expression (label_of t) ≡ true → Alone mark c t es → StatementStep mark (node If ss (t ⊳ node Empty rs ε ⊳ ε)) es
  -- `while` with a test that is pure and true, or false: a turn is never taken, or without end
  while_true : (ss rs us : List Span) (t b : Tree) → is_expression (label_of t) ≡ true → is_truth_or_absent t ≡ false → pure mark t ≡ true → truth mark t ≡ Some true → StatementStep mark (node While ss (t ⊳ b ⊳ ε)) (node While us (node (BoolLit true) rs ε ⊳ b ⊳ ε) ⊳ ε)
  while_false : (ss rs us : List Span) (t b : Tree) {vs : Forest} → is_expression (label_of t) ≡ true → truth mark t ≡ Some false → VarsOf (b ⊳ ε) vs → weight (as_statement rs vs) < weight b → StatementStep mark (node While ss (t ⊳ b ⊳ ε)) (node While us (t ⊳ as_statement rs vs ⊳ ε) ⊳ ε)
  while_never : (ss : List Span) (t b : Tree) {vs : Forest} → is_expression (label_of t) ≡ true → pure mark t ≡ true → truth mark t ≡ Some false → VarsOf (b ⊳ ε) vs → StatementStep mark (node While ss (t ⊳ b ⊳ ε)) vs
  -- `for`: its first part and its update, whose values are not used
  for_first : (ss us : List Span) (i j t u b : Tree) → is_expression (label_of i) ≡ true → Part mark i j → StatementStep mark (node For ss (i ⊳ t ⊳ u ⊳ b ⊳ ε)) (node For us (j ⊳ t ⊳ u ⊳ b ⊳ ε) ⊳ ε)
  for_update : (ss us : List Span) (i t u v b : Tree) → is_expression (label_of u) ≡ true → Part mark u v → StatementStep mark (node For ss (i ⊳ t ⊳ u ⊳ b ⊳ ε)) (node For us (i ⊳ t ⊳ v ⊳ b ⊳ ε) ⊳ ε)
  -- `for` with a test that is pure and true goes without it; with one that is false it takes no turn
  for_true : (ss rs us : List Span) (i t u b : Tree) → is_expression (label_of t) ≡ true → pure mark t ≡ true → truth mark t ≡ Some true → StatementStep mark (node For ss (i ⊳ t ⊳ u ⊳ b ⊳ ε)) (node For us (i ⊳ node Absent rs ε ⊳ u ⊳ b ⊳ ε) ⊳ ε)
  for_false : (ss rs us : List Span) (i t u b : Tree) → is_expression (label_of t) ≡ true → is_truth_or_absent t ≡ false → pure mark t ≡ true → truth mark t ≡ Some false → StatementStep mark (node For ss (i ⊳ t ⊳ u ⊳ b ⊳ ε)) (node For us (i ⊳ node (BoolLit false) rs ε ⊳ u ⊳ b ⊳ ε) ⊳ ε)
  for_no_update : (ss ws us : List Span) (i t u b : Tree) → is_expression (label_of t) ≡ true → is_expression (label_of u) ≡ true → 0 < weight u → pure mark t ≡ true → truth mark t ≡ Some false → StatementStep mark (node For ss (i ⊳ t ⊳ u ⊳ b ⊳ ε)) (node For us (i ⊳ t ⊳ node Absent ws ε ⊳ b ⊳ ε) ⊳ ε)
  for_no_body : (ss bs us : List Span) (i t u b : Tree) {vs : Forest} → is_expression (label_of t) ≡ true → pure mark t ≡ true → truth mark t ≡ Some false → VarsOf (b ⊳ ε) vs → weight (as_statement bs vs) < weight b → StatementStep mark (node For ss (i ⊳ t ⊳ u ⊳ b ⊳ ε)) (node For us (i ⊳ t ⊳ u ⊳ as_statement bs vs ⊳ ε) ⊳ ε)
  for_never : (ss is : List Span) (t u b : Tree) {vs : Forest} → is_expression (label_of t) ≡ true → is_optional u ≡ true → pure mark t ≡ true → truth mark t ≡ Some false → VarsOf (b ⊳ ε) vs → StatementStep mark (node For ss (node Absent is ε ⊳ t ⊳ u ⊳ b ⊳ ε)) vs
  -- `do` with a test that is pure and true
  do_true : (ss ks ls ms us : List Span) (b t : Tree) → is_expression (label_of t) ≡ true → pure mark t ≡ true → truth mark t ≡ Some true → StatementStep mark (node DoWhile ss (b ⊳ t ⊳ ε)) (node For us (node Absent ks ε ⊳ node Absent ls ε ⊳ node Absent ms ε ⊳ b ⊳ ε) ⊳ ε)
  -- a label of an empty statement, or of a `break` to it
  label_empty : (l : Text) (ss rs : List Span) → StatementStep mark (node (Labeled l) ss (node Empty rs ε ⊳ ε)) ε
  label_left : (l m : Text) (ss rs : List Span) → bytes_eq l m ≡ true → StatementStep mark (node (Labeled l) ss (node (Break (Some m)) rs ε ⊳ ε)) ε
  -- a block of no statement, or of a plain and shallow one
  block_empty : (ss : List Span) → StatementStep mark (node Block ss ε) ε
  block_one : (ss : List Span) (t : Tree) → is_plain t ≡ true → is_shallow t ≡ true → gives_nothing t ≡ true → StatementStep mark (node Block ss (t ⊳ ε)) (t ⊳ ε)
  -- `try` with an empty block: the final block with the handler's `var` names in it or in front of it, or these alone
  try_inside : (p : Option (Option Name)) (ss bs fs us : List Span) (h : Tree) (cs : Forest) {vs : Forest} → all_plain cs ≡ true → VarsOf (h ⊳ ε) vs → StatementStep mark (node (Try p) ss (node Block bs ε ⊳ h ⊳ node Block fs cs ⊳ ε)) (node Block us (joined vs cs) ⊳ ε)
  try_beside : (p : Option (Option Name)) (ss bs fs : List Span) (h : Tree) (cs : Forest) {vs : Forest} → VarsOf (h ⊳ ε) vs → StatementStep mark (node (Try p) ss (node Block bs ε ⊳ h ⊳ node Block fs cs ⊳ ε)) (joined vs (node Block fs cs ⊳ ε))
  try_alone : (p : Option (Option Name)) (ss bs fs : List Span) (h : Tree) {vs : Forest} → VarsOf (h ⊳ ε) vs → StatementStep mark (node (Try p) ss (node Block bs ε ⊳ h ⊳ node Absent fs ε ⊳ ε)) vs
  -- neither a handler nor anything at the end
  try_block : (ss bs hs fs : List Span) (cs : Forest) → StatementStep mark (node (Try None) ss (node Block bs cs ⊳ node Absent hs ε ⊳ node Block fs ε ⊳ ε)) (node Block bs cs ⊳ ε)
