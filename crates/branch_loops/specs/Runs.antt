-- What a body that is run once becomes.
use Rattle.std.specs.Prelude.{ℕ, ◌≡◌, Bool, true, false, List, ◌∷◌, ◌++◌, length, Option, Some, None}
use Rattle.swc_ast.specs.declared.Span.{Span}
use Rattle.swc_ast.specs.declared.statements.CatchClause.{CatchClause}
use Rattle.swc_ast.specs.declared.statements.Stmt.{Stmt}
use Rattle.swc_ast.specs.Parts.{list_trees}
use Rattle.swc_ast.specs.Statements.{CaseTrees, handler_param, handler_spans, handler_tree}
use Rattle.swc_ast.specs.Tree.{Text, FnDecl, Tree, node, Forest, ε, ◌⊳◌}
use Rattle.swc_ast.specs.Views.{stmt_tree}
use Rattle.branch_rules.specs.Jumps.{Sought, some_escape}
use Rattle.branch_rules.specs.Once.{looping, is_jump, all_functions, OnceRun}
use Rattle.branch_rules.specs.Statements.{as_statement}
use Rattle.branch_rules.specs.Within.{Within, PartWithin, WithinStep}

-- a function declaration
abbrev pub is_function_tree : Tree → Bool
is_function_tree (node (FnDecl x) ss cs) = true
is_function_tree _ = false

-- the body, b before and u now, of a loop whose labels are among some
pub data Once (labels : Sought) (b u : Tree) : Option Stmt → Type 0 where
  runs_once : (rs : List Span) {us : Forest} {s : Stmt} → OnceRun labels b us → stmt_tree s ≡ as_statement rs us → Once labels b u (Some s)
  stays_round : u ≡ b → Once labels b u None

-- the first jump among some statements, with nothing but functions behind it
pub record JumpAt (labels : Sought) (i : ℕ) (ss : List Stmt) : Type 0 where
  pub front : List Stmt
  pub jump : Stmt
  pub rest : List Stmt
  pub is : ss ≡ front ++ jump ∷ rest
  pub place : length front ≡ i
  pub before : some_escape (looping labels) (list_trees stmt_tree front) ≡ false
  pub jumps : is_jump (stmt_tree jump) ≡ true
  pub functions : all_functions (list_trees stmt_tree rest) ≡ true

-- statements before the i-th, in which no jump aimed at a loop round them stands
pub record Passed (labels : Sought) (i : ℕ) (ss left : List Stmt) : Type 0 where
  pub front : List Stmt
  pub is : ss ≡ front ++ left
  pub place : length front ≡ i
  pub before : some_escape (looping labels) (list_trees stmt_tree front) ≡ false

-- a `do` in a loop's body, t before and u now, behind some labels
pub data RunsDo (mark : ℕ) (ls : List Text) (t u : Tree) : Option Stmt → Type 0 where
  do_runs : {s : Stmt} → Within mark ls true t (stmt_tree s) → RunsDo mark ls t u (Some s)
  do_stays : u ≡ t → RunsDo mark ls t u None

-- a handler in a loop's body, if there is one, h before and k now
pub record HandlerWithin (mark : ℕ) (ls : List Text) (h k : Option (CatchClause Stmt)) (c : Bool) : Type 0 where
  pub param : handler_param k ≡ handler_param h
  pub spans : handler_spans k ≡ handler_spans h
  pub block : PartWithin mark ls c (handler_tree stmt_tree h) (handler_tree stmt_tree k)

-- a case of a switch in a loop's body, p before and q now
pub record CaseWithin (mark : ℕ) (ls : List Text) (p q : CaseTrees) (c : Bool) : Type 0 where
  pub kind : q.is_default ≡ p.is_default
  pub test : q.test ≡ p.test
  pub body : PartWithin mark ls c p.body q.body

-- a loop, t before and u now
pub data RunsWithin (mark : ℕ) (t u : Tree) : Bool → Type 0 where
  runs_within : WithinStep mark t (u ⊳ ε) → RunsWithin mark t u true
  as_before : u ≡ t → RunsWithin mark t u false
