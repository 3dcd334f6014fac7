-- What a parent sees of a child beside what it does: which names it declares, and a few labels.
use Rattle.std.specs.Prelude.{ℕ, ◌≡◌, Bool, true, false, Option, Some, None, if◌then◌else◌}
use Rattle.swc_ast.specs.Tree.{Name, Label, Read, CallEval, Shorthand, TypeOfName, Assign, Update, Fn, Arrow, Method, Params, Body, Param, Block, CaseBody, Try, VarDecl, Declarator, FnDecl, Module, Script, Import, ImportNamed, ImportDefault, ImportStar, ExportDecl, ExportNamed, ExportSpecifier, ExportDefaultFn, ExportDefaultExpr, Tree, node, Forest, ε, ◌⊳◌, label_of, spans_of, children_of}
use Rattle.swc_ast.specs.Scope.{Declaration, Lexical, Function, name_or_default, default_name, has_name, declarator_name, param_names, body_declares, vars, vars_all, found, is_found, declared_by, declared, import_names_of}
use Rattle.swc_ast.specs.Meaning.{Caller, act, copied_names}
use Rattle.swc_ast.specs.Call.{each_of, behind_key}
use Rattle.swc_ast.specs.Resolved.{params_of, body_of}
use Rattle.meaning_proofs.specs.Names.{Names, Watched, Counted, Seen, Settable, Assignable}
use Rattle.meaning_proofs.specs.Exact.{Evaluation}

-- a label_of that a parent looks for, and that no rewrite of a node changes
abbrev pub is_part : Label → Bool
is_part Params = true
is_part Body = true
is_part (Param x) = true
is_part CaseBody = true
is_part (Declarator kind x) = true
is_part Module = true
is_part Script = true
is_part (Import src) = true
is_part (ImportNamed x i) = true
is_part (ImportDefault x) = true
is_part (ImportStar x) = true
is_part ExportDecl = true
is_part ExportNamed = true
is_part (ExportSpecifier x i) = true
is_part (ExportDefaultFn o) = true
is_part ExportDefaultExpr = true
is_part _ = false

-- an item of a module that is no statement
abbrev pub is_item : Label → Bool
is_item (Import src) = true
is_item ExportDecl = true
is_item ExportNamed = true
is_item (ExportDefaultFn o) = true
is_item ExportDefaultExpr = true
is_item _ = false

-- the items of a module that are no statements
abbrev pub module_items : Forest → Forest
module_items ε = ε
module_items (node l ss cs ⊳ ts) = if is_item l then node l ss cs ⊳ module_items ts else module_items ts

abbrev pub is_export : Label → Bool
is_export ExportDecl = true
is_export ExportNamed = true
is_export (ExportDefaultFn o) = true
is_export ExportDefaultExpr = true
is_export _ = false

-- a node whose children_of are rewritten one by one
abbrev pub rewrites_each : Label → Bool
rewrites_each Block = false
rewrites_each Body = false
rewrites_each CaseBody = false
rewrites_each (VarDecl kind) = false
rewrites_each (Import src) = false
rewrites_each _ = true

abbrev pub holds_function : Option Declaration → Bool
holds_function None = false
holds_function (Some (Lexical w)) = false
holds_function (Some (Function f)) = true

-- two trees declare the same, off the names that are dropped; no guarded name is a function's or a variable's of the first
-- alone
pub record SameNames (N : Names) (t u : Tree) : Type 0 where
  pub guarded_vars : (x : Name) → N.guarded x ≡ true → has_name x (vars t) ≡ true → has_name x (vars u) ≡ true
  pub vars : (x : Name) → N.dropped x ≡ false → N.slack x ≡ false → has_name x (vars t) ≡ has_name x (vars u)
  pub declares : (x : Name) → N.dropped x ≡ false → found x (declared_by t) ≡ found x (declared_by u)
  pub functions : (x : Name) → N.guarded x ≡ true → holds_function (found x (declared_by u)) ≡ false → holds_function (found x (declared_by t)) ≡ false
  pub copied : (x : Name) → N.dropped x ≡ false → is_found x (copied_names t) ≡ is_found x (copied_names u)

-- one tree may stand where the other stood
pub data Fits (N : Names) : Tree → Tree → Type 0 where
  unchanged : {t : Tree} → Fits N t t
  changed : {t u : Tree} → is_part (label_of t) ≡ false → is_part (label_of u) ≡ false → SameNames N t u → Fits N t u

-- the same of two lists
pub record SameLists (N : Names) (ts us : Forest) : Type 0 where
  pub vars : (x : Name) → N.dropped x ≡ false → N.slack x ≡ false → has_name x (vars_all ts) ≡ has_name x (vars_all us)
  pub guarded_vars : (x : Name) → N.guarded x ≡ true → has_name x (vars_all ts) ≡ true → has_name x (vars_all us) ≡ true
  pub declares : (x : Name) → N.dropped x ≡ false → found x (declared ts) ≡ found x (declared us)
  pub functions : (x : Name) → N.guarded x ≡ true → holds_function (found x (declared us)) ≡ false → holds_function (found x (declared ts)) ≡ false

-- two lists declare the same in their scope
pub record SameScope (N : Names) (ts us : Forest) : Type 0 where
  pub declares : (x : Name) → N.dropped x ≡ false → found x (declared ts) ≡ found x (declared us)
  pub functions : (x : Name) → N.guarded x ≡ true → holds_function (found x (declared us)) ≡ false → holds_function (found x (declared ts)) ≡ false

-- two lists have the same variables
pub record SameVars (N : Names) (ts us : Forest) : Type 0 where
  pub vars : (x : Name) → N.dropped x ≡ false → N.slack x ≡ false → has_name x (vars_all ts) ≡ has_name x (vars_all us)
  pub guarded_vars : (x : Name) → N.guarded x ≡ true → has_name x (vars_all ts) ≡ true → has_name x (vars_all us) ≡ true

-- a statement or a declarator declares none but dropped names, and exports nothing
pub record DeclaresNone (N : Names) (t : Tree) : Type 0 where
  pub is_no_export : is_export (label_of t) ≡ false
  pub vars : (x : Name) → Counted N x → has_name x (vars t) ≡ false
  pub declares : (x : Name) → N.dropped x ≡ false → is_found x (declared_by t) ≡ false
  pub functions : (x : Name) → N.guarded x ≡ true → holds_function (found x (declared_by t)) ≡ false
  pub is_no_declarator : (x : Name) → N.dropped x ≡ false → has_name x (declarator_name (label_of t)) ≡ false
  pub is_no_import : (x : Name) → Watched N x → has_name x (import_names_of (label_of t) (children_of t)) ≡ false

-- a declaration of a function of a name
pub data FunctionOf (x : Name) : Label → Type 0 where
  of_declaration : FunctionOf x (FnDecl x)
  of_default : FunctionOf x (ExportDefaultFn (Some x))

-- a binding that is not guarded
pub data Free (N : Names) : Option Name → Type 0 where
  no_name : Free N None
  free_name : {x : Name} → N.guarded x ≡ false → Free N (Some x)

-- What a label_of asks of its names: a node reads and writes names that are kept, or that never hold anything; what it
-- declares and initialises is not guarded.
abbrev pub Clean : Names → ℕ → Label → Type 0
Clean N mark (Read x) = Seen N mark x
Clean N mark (CallEval x) = Seen N mark x
Clean N mark (Shorthand x) = Seen N mark x
Clean N mark (TypeOfName x) = Seen N mark x
Clean N mark (Assign op x) = Assignable N mark op x
Clean N mark (Update op prefix x) = Settable N mark x
Clean N mark (Declarator kind x) = (N.dropped x ≡ false) × (N.guarded x ≡ false)
Clean N mark (Param x) = (N.dropped x ≡ false) × (N.guarded x ≡ false)
Clean N mark (FnDecl x) = N.guarded x ≡ false
Clean N mark (Fn o) = Free N o
Clean N mark (Try (Some o)) = Free N o
Clean N mark (ExportDefaultFn o) = Free N (Some (name_or_default o))
Clean N mark ExportDefaultExpr = (N.dropped default_name ≡ false) × (N.guarded default_name ≡ false)
Clean N mark _ = Unit {0}

-- the node does what its label_of says of its children_of
pub record Unfolds (mark : ℕ) (does : Evaluation) (t : Tree) : Type 0 where
  pub by : (n : ℕ) (call : Caller) → does n call t ≡ act mark n call (label_of t) (spans_of t) (children_of t) (each_of (does n call) (children_of t))

-- two functions bind alike the names that are declared at fewer places
pub record SameBody (N : Names) (cs us : Forest) : Type 0 where
  pub binds : (x : Name) → N.slack x ≡ true → has_name x (param_names (params_of cs)) ≡ false → body_declares (body_of cs) x ≡ body_declares (body_of us) x

-- so do two lists
pub record SameSlack (N : Names) (ts us : Forest) : Type 0 where
  pub binds : (x : Name) → N.slack x ≡ true → body_declares ts x ≡ body_declares us x

abbrev pub Scoped : Names → Label → Forest → Forest → Type 0
Scoped N (Fn o) cs us = SameBody N cs us
Scoped N Arrow cs us = SameBody N cs us
Scoped N Method cs us = SameBody N (behind_key cs) (behind_key us)
Scoped N (FnDecl x) cs us = SameBody N cs us
Scoped N (ExportDefaultFn o) cs us = SameBody N cs us
Scoped N _ cs us = Unit {0}
