-- What a `switch` becomes: in front of its children, and when they are walked. The spans of a new node are the caller's.
use Rattle.std.specs.Prelude.{ℕ, ◌<◌, ◌≡◌, Bool, true, false, not, ◌&&◌, ◌||◌, if◌then◌else◌, List, [], ◌∷◌, ◌++◌, Some, None}
use Rattle.swc_ast.specs.declared.Span.{Span}
use Rattle.swc_ast.specs.Tree.{NumLit, StrLit, BoolLit, NullLit, Read, Break, VarDecl, FnDecl, CaseBody, Block, Switch, Tree, node, Forest, ε, ◌⊳◌, label_of}
use Rattle.swc_ast.specs.Value.{Value}
use Rattle.swc_ast.specs.Operators.{prim, strict_equal}
use Rattle.swc_ast.specs.Scope.{joined, vars_all, declared}
use Rattle.swc_ast.specs.Weight.{weight, is_stopper, unreached}
use Rattle.pass_rules.specs.Values.{value_of}
use Rattle.swc_utils.specs.Pure.{pure, no_trees}
use Rattle.swc_ast.specs.Labels.{is_expression}
use Rattle.static_proofs.specs.Shaped.{is_lexical}
use Rattle.branch_rules.specs.Jumps.{only, Kinds, escapes, some_escape}
use Rattle.branch_rules.specs.Lists.{all_statements}
use Rattle.branch_rules.specs.Statements.{Alone, as_statement, is_absent, all_plain, all_give_nothing}
use Rattle.branch_rules.specs.Vars.{VarsOf}

-- `break` of the switch
abbrev pub breaking : Kinds
breaking = record { breaks = true; continues = false; labelled = only []; inside = [] }

-- a case: its test, which for `default` is absent, and its statements
pub record Clause : Type 0 where
  pub is_default : Bool
  pub test : Tree
  pub spans : List Span
  pub body : Forest

-- which cases are `default`
abbrev pub kinds_of : List Clause → List Bool
kinds_of [] = []
kinds_of (k ∷ ks) = k.is_default ∷ kinds_of ks

-- the children of a switch behind its discriminant
abbrev pub trees_of : List Clause → Forest
trees_of [] = ε
trees_of (k ∷ ks) = k.test ⊳ node CaseBody k.spans k.body ⊳ trees_of ks

-- the statements of all cases
abbrev pub bodies_of : List Clause → Forest
bodies_of [] = ε
bodies_of (k ∷ ks) = joined k.body (bodies_of ks)

-- a switch
abbrev pub switch_tree : List Span → Tree → List Clause → Tree
switch_tree ss d ks = node (Switch (kinds_of ks)) ss (d ⊳ trees_of ks)

-- the test of a case is an expression, that of `default` is left out
abbrev pub has_test : Clause → Bool
has_test k = if k.is_default then is_absent k.test else is_expression (label_of k.test)

-- the same of each case
abbrev pub have_tests : List Clause → Bool
have_tests [] = true
have_tests (k ∷ ks) = has_test k && have_tests ks

-- an expression that no `break` leaves
abbrev pub is_discriminant : Tree → Bool
is_discriminant d = is_expression (label_of d) && not (escapes breaking d)

-- each test is pure
abbrev pub pure_tests : ℕ → List Clause → Bool
pure_tests mark [] = true
pure_tests mark (k ∷ ks) = (k.is_default || pure mark k.test) && pure_tests mark ks

-- none is `default`
abbrev pub no_default : List Clause → Bool
no_default [] = true
no_default (k ∷ ks) = not k.is_default && no_default ks

-- each list is empty
abbrev pub all_empty : List Clause → Bool
all_empty [] = true
all_empty (k ∷ ks) = no_trees k.body && all_empty ks

-- an unlabelled `break`
abbrev pub is_break : Tree → Bool
is_break (node (Break None) ss ε) = true
is_break _ = false

-- an empty list, or one that begins so
abbrev pub starts_with_break : Forest → Bool
starts_with_break ε = true
starts_with_break (t ⊳ ts) = is_break t

-- each list is empty or begins with an unlabelled `break`
abbrev pub nothing_runs : List Clause → Bool
nothing_runs [] = true
nothing_runs (k ∷ ks) = starts_with_break k.body && nothing_runs ks

-- a literal or a name; of `undefined` and `NaN` the value is known
abbrev pub is_fixed : Tree → Bool
is_fixed (node (NumLit z) ss ε) = true
is_fixed (node (StrLit t) ss ε) = true
is_fixed (node (BoolLit b) ss ε) = true
is_fixed (node NullLit ss ε) = true
is_fixed (node (Read x) ss ε) = true
is_fixed _ = false

-- one of a known value
pub record FixedValue (mark : ℕ) (t : Tree) (v : Value) : Type 0 where
  pub fixed : is_fixed t ≡ true
  pub known : value_of mark t ≡ Some v

-- cases that a value passes: their tests are known and unequal; `default` is passed over
pub data Passed (mark : ℕ) (v : Value) : List Clause → Type 0 where
  none_passed : Passed mark v []
  unequal : (k : Clause) (w : Value) {ks : List Clause} → k.is_default ≡ false → pure mark k.test ≡ true → FixedValue mark k.test w → strict_equal (prim v) (prim w) ≡ Some false → Passed mark v ks → Passed mark v (k ∷ ks)
  over_default : (k : Clause) {ks : List Clause} → k.is_default ≡ true → Passed mark v ks → Passed mark v (k ∷ ks)

-- a value that is known, and a test that it is found equal or unequal to
pub record Tested (mark : ℕ) (v : Value) (t : Tree) (equal : Bool) : Type 0 where
  pub value : Value
  pub pure_test : pure mark t ≡ true
  pub known : FixedValue mark t value
  pub compared : strict_equal (prim v) (prim value) ≡ Some equal

-- a case whose test a value meets
pub record IsMet (mark : ℕ) (v : Value) (k : Clause) : Type 0 where
  pub no_default : k.is_default ≡ false
  pub met : Tested mark v k.test true

-- cases that a value passes in front of the one that it selects, and this and those behind it
pub data Selects (mark : ℕ) (v : Value) : List Clause → List Clause → Type 0 where
  by_test : (fs : List Clause) (k : Clause) (ks : List Clause) → Passed mark v fs → IsMet mark v k → Selects mark v fs (k ∷ ks)
  by_default : (fs : List Clause) (k : Clause) (ks : List Clause) → Passed mark v (fs ++ k ∷ ks) → no_default fs ≡ true → k.is_default ≡ true → Selects mark v fs (k ∷ ks)

-- function declarations among some statements
abbrev pub functions_of : Forest → Forest
functions_of ε = ε
functions_of (node (FnDecl x) ss cs ⊳ ts) = node (FnDecl x) ss cs ⊳ functions_of ts
functions_of (t ⊳ ts) = functions_of ts

-- all others
abbrev pub others_of : Forest → Forest
others_of ε = ε
others_of (node (FnDecl x) ss cs ⊳ ts) = others_of ts
others_of (t ⊳ ts) = t ⊳ others_of ts

-- a declaration of names by `let` or `const`
abbrev pub is_shed : Tree → Bool
is_shed (node (VarDecl k) ss (d ⊳ ds)) = is_lexical k
is_shed _ = false

-- statements without those
abbrev pub unlet : Forest → Forest
unlet ε = ε
unlet (t ⊳ ts) = if is_shed t then unlet ts else t ⊳ unlet ts

-- whether there are some
abbrev pub has_shed : Forest → Bool
has_shed ε = false
has_shed (t ⊳ ts) = is_shed t || has_shed ts

-- whether one of some statements ends their list
abbrev pub has_stopper : Forest → Bool
has_stopper ε = false
has_stopper (t ⊳ ts) = is_stopper t || has_stopper ts

-- a case without its `let` and `const`
abbrev pub unlet_case : Clause → Clause
unlet_case k = record { is_default = k.is_default; test = k.test; spans = k.spans; body = unlet k.body }

-- cases of which some that declare no function lose `let` and `const`; the truth value says whether one does
pub data Sheds : Bool → List Clause → List Clause → Type 0 where
  no_case : Sheds false [] []
  case_stays : (k : Clause) {b : Bool} {ks ls : List Clause} → Sheds b ks ls → Sheds b (k ∷ ks) (k ∷ ls)
  case_sheds : (k : Clause) {b : Bool} {ks ls : List Clause} → functions_of k.body ≡ ε → all_statements k.body ≡ true → has_shed k.body ≡ true → Sheds b ks ls → Sheds true (k ∷ ks) (unlet_case k ∷ ls)

-- Cases that are run where the first of them is selected, and those behind them that are not: one that is run ends with a stopper.
pub data Ends : List Clause → List Clause → Type 0 where
  all_run : (ks : List Clause) → Ends ks []
  some_run : (ks ls : List Clause) → has_stopper (bodies_of ks) ≡ true → Ends ks ls

-- What a `switch` becomes in front of its children: cases that no run comes to lose their `let` and `const`.
pub data ShedStep (mark : ℕ) : Tree → Tree → Type 0 where
  -- leading cases are known to be passed
  leading_shed : (ss : List Span) (d : Tree) (v : Value) (fs gs ks : List Clause) → FixedValue mark d v → Passed mark v fs → no_default fs ≡ true → Sheds true fs gs → ShedStep mark (switch_tree ss d (fs ++ ks)) (switch_tree ss d (gs ++ ks))
  -- a case is known to be selected: those in front of it, and those behind a stopper
  selected_shed : (ss : List Span) (d : Tree) (v : Value) (fs gs ks hs ls : List Clause) {b c : Bool} → FixedValue mark d v → Selects mark v fs (ks ++ hs) → Ends ks hs → Sheds b fs gs → Sheds c hs ls → (b || c) ≡ true → ShedStep mark (switch_tree ss d (fs ++ (ks ++ hs))) (switch_tree ss d (gs ++ (ks ++ ls)))

-- Statements in a switch, what stays of them outside and what goes: a direct `break` of the switch goes, and what was not
-- reached behind it or behind another stopper, but for functions; all other `break`s in them are aimed at something in them.
pub data Unbroken : Forest → Forest → Forest → Type 0 where
  no_break : (ts : Forest) → some_escape breaking ts ≡ false → Unbroken ts ts ε
  break_goes : (ts : Forest) (ss : List Span) (us : Forest) → some_escape breaking ts ≡ false → Unbroken (joined ts (node (Break None) ss ε ⊳ us)) (joined ts (functions_of us)) (others_of us)
  stops_before : (ts : Forest) (t : Tree) (us : Forest) → some_escape breaking ts ≡ false → is_stopper t ≡ true → escapes breaking t ≡ false → Unbroken (joined ts (t ⊳ us)) (joined ts (t ⊳ functions_of us)) (others_of us)

pub data SwitchStep (mark : ℕ) : Tree → Forest → Type 0 where
  -- no case does anything
  nothing_left : {c : Bool} (ss : List Span) (d : Tree) (ks : List Clause) {es vs : Forest} → is_discriminant d ≡ true → have_tests ks ≡ true → pure_tests mark ks ≡ true → nothing_runs ks ≡ true → declared (bodies_of ks) ≡ [] → Alone mark c d es → VarsOf (bodies_of ks) vs → SwitchStep mark (switch_tree ss d ks) (joined es vs)
  -- `default` alone, or behind cases of which only the tests are run: its statements, in a block of their own where they declare something
  only_default : {c : Bool} (ss : List Span) (d : Tree) (fs : List Clause) (k : Clause) {es ts gs : Forest} → is_discriminant d ≡ true → have_tests (fs ++ k ∷ []) ≡ true → pure_tests mark (fs ++ k ∷ []) ≡ true → no_default fs ≡ true → all_empty fs ≡ true → k.is_default ≡ true → Alone mark c d es → Unbroken k.body ts gs → vars_all gs ≡ [] → declared ts ≡ declared k.body → unreached ts ≡ 0 → all_plain ts ≡ true → all_give_nothing ts ≡ true → SwitchStep mark (switch_tree ss d (fs ++ k ∷ [])) (joined es ts)
  only_default_apart : {c : Bool} (ss us : List Span) (d : Tree) (fs : List Clause) (k : Clause) {es ts gs : Forest} → is_discriminant d ≡ true → have_tests (fs ++ k ∷ []) ≡ true → pure_tests mark (fs ++ k ∷ []) ≡ true → no_default fs ≡ true → all_empty fs ≡ true → k.is_default ≡ true → Alone mark c d es → Unbroken k.body ts gs → vars_all gs ≡ [] → declared ts ≡ declared k.body → unreached ts ≡ 0 → SwitchStep mark (switch_tree ss d (fs ++ k ∷ [])) (joined es (node Block us ts ⊳ ε))
  -- a case is known to be selected
  selected_case : (ss us : List Span) (d : Tree) (v w : Value) (fs : List Clause) (k : Clause) (ks : List Clause) {ts gs vs : Forest} → is_discriminant d ≡ true → have_tests (fs ++ k ∷ ks) ≡ true → pure mark d ≡ true → FixedValue mark d v → Passed mark v fs → k.is_default ≡ false → pure mark k.test ≡ true → FixedValue mark k.test w → strict_equal (prim v) (prim w) ≡ Some true → Unbroken (bodies_of (k ∷ ks)) ts gs → declared ts ≡ declared (bodies_of (fs ++ k ∷ ks)) → VarsOf (joined (bodies_of fs) gs) vs → unreached ts ≡ 0 → SwitchStep mark (switch_tree ss d (fs ++ k ∷ ks)) (node Block us (joined vs ts) ⊳ ε)
  -- `default` is known to be selected
  selected_default : (ss us : List Span) (d : Tree) (v : Value) (fs : List Clause) (k : Clause) (ks : List Clause) {ts gs vs : Forest} → is_discriminant d ≡ true → have_tests (fs ++ k ∷ ks) ≡ true → pure mark d ≡ true → FixedValue mark d v → Passed mark v (fs ++ k ∷ ks) → no_default fs ≡ true → k.is_default ≡ true → Unbroken (bodies_of (k ∷ ks)) ts gs → declared ts ≡ declared (bodies_of (fs ++ k ∷ ks)) → VarsOf (joined (bodies_of fs) gs) vs → unreached ts ≡ 0 → SwitchStep mark (switch_tree ss d (fs ++ k ∷ ks)) (node Block us (joined vs ts) ⊳ ε)
  -- no case is selected
  none_selected : (ss : List Span) (d : Tree) (v : Value) (ks : List Clause) {vs : Forest} → is_discriminant d ≡ true → have_tests ks ≡ true → pure mark d ≡ true → FixedValue mark d v → Passed mark v ks → no_default ks ≡ true → declared (bodies_of ks) ≡ [] → VarsOf (bodies_of ks) vs → SwitchStep mark (switch_tree ss d ks) vs
  -- leading cases are known to be passed; what is left is lighter
  leading_go : (ss us rs : List Span) (d : Tree) (v : Value) (fs ks : List Clause) {vs : Forest} → is_discriminant d ≡ true → have_tests (fs ++ ks) ≡ true → FixedValue mark d v → Passed mark v fs → no_default fs ≡ true → declared (bodies_of ks) ≡ declared (bodies_of (fs ++ ks)) → VarsOf (bodies_of fs) vs → weight (as_statement rs (joined vs (switch_tree us d ks ⊳ ε))) < weight (switch_tree ss d (fs ++ ks)) → SwitchStep mark (switch_tree ss d (fs ++ ks)) (joined vs (switch_tree us d ks ⊳ ε))
