-- A walk: what a pass makes of a node before its children, of a list of statements before them, the children of each node,
-- and what it makes of the list and of the node behind them. Where each step does the same and declares the same, off the
-- names that are dropped, so does the whole walk.
use Rattle.std.specs.Prelude.{ℕ, ◌≡◌, Bool, true, false, not, ◌&&◌, List, [], Option, Some, None}
use Rattle.swc_ast.specs.Labels.{is_declaration, is_block}
use Rattle.swc_ast.specs.declared.Span.{Span}
use Rattle.swc_ast.specs.declared.VarDeclKind.{VarDeclKind}
use Rattle.swc_ast.specs.Tree.{Name, Text, Label, Fn, Param, Block, Body, CaseBody, Try, VarDecl, Declarator, FnDecl, Module, Script, Import, ImportNamed, ImportDefault, ImportStar, ExportDecl, ExportDefaultFn, ExportDefaultExpr, Tree, node, Forest, ε, ◌⊳◌, bare, label_of}
use Rattle.swc_ast.specs.Scope.{default_name, name_or_default}
use Rattle.swc_ast.specs.Meaning.{eval}
use Rattle.swc_ast.specs.Run.{sources, once, exported, item_exports}
use Rattle.meaning_proofs.specs.Names.{Names, Exported}
use Rattle.meaning_proofs.specs.Exact.{Exact, ListExact, GivesUndefined, Trims, ListTrims, Idle, IdleAfter, Stops}
use Rattle.meaning_proofs.specs.Sameness.{heeded, ignoring}
use Rattle.meaning_proofs.specs.Roles.{is_item, module_items, Clean, Fits, SameLists, DeclaresNone}
use Rattle.meaning_proofs.specs.Rewrites.{is_exported, Specifiers, Rewrites}

-- some names are dead: they never hold anything, and their declarations may go
abbrev pub dead_names : (Name → Bool) → Names
dead_names dead = record { dropped = dead; loose = λ x. false; slack = λ x. false; guarded = dead; guard = λ x. None }

-- no name is dropped, and none is known
abbrev pub no_names : Names
no_names = dead_names (λ x. false)

abbrev pub option_lives : (Name → Bool) → Option Name → Bool
option_lives dead None = true
option_lives dead (Some x) = not (dead x)

-- a label_of binds no dead name
abbrev pub binds_living : (Name → Bool) → Label → Bool
binds_living dead (Declarator kind x) = not (dead x)
binds_living dead (Param x) = not (dead x)
binds_living dead (FnDecl x) = not (dead x)
binds_living dead (Fn o) = option_lives dead o
binds_living dead (Try (Some o)) = option_lives dead o
binds_living dead (ExportDefaultFn o) = not (dead (name_or_default o))
binds_living dead ExportDefaultExpr = not (dead default_name)
binds_living dead (ImportNamed x i) = not (dead x)
binds_living dead (ImportDefault x) = not (dead x)
binds_living dead (ImportStar x) = not (dead x)
binds_living dead _ = true

abbrev mutual
  pub all_living : (Name → Bool) → Tree → Bool
  all_living dead (node l ss cs) = binds_living dead l && all_living_in dead cs

  pub all_living_in : (Name → Bool) → Forest → Bool
  all_living_in dead ε = true
  all_living_in dead (t ⊳ ts) = all_living dead t && all_living_in dead ts

-- an import binds no guarded name
abbrev pub ImportsFree : Names → Label → Type 0
ImportsFree N (ImportNamed x i) = N.guarded x ≡ false
ImportsFree N (ImportDefault x) = N.guarded x ≡ false
ImportsFree N (ImportStar x) = N.guarded x ≡ false
ImportsFree N _ = Unit {0}

-- each node asks no more of its names than it may
abbrev mutual
  pub AllClean : Names → ℕ → Tree → Type 0
  AllClean N mark (node l ss cs) = Clean N mark l × (ImportsFree N l × AllCleanIn N mark cs)

  pub AllCleanIn : Names → ℕ → Forest → Type 0
  AllCleanIn N mark ε = Unit {0}
  AllCleanIn N mark (t ⊳ ts) = AllClean N mark t × AllCleanIn N mark ts

-- what a pass does: to a node before its children and behind them, to a list of statements before them and behind them,
-- and which items of lists and declarations go, before they are walked or behind that
pub record Steps : Type 1 where
  pub Early : Tree → Tree → Type 0
  pub Node : Tree → Tree → Type 0
  pub Before : Forest → Forest → Type 0
  pub Behind : Forest → Forest → Type 0
  pub Goes : Tree → Type 0
  pub GoesBehind : Tree → Type 0

-- a node whose children are walked as any
abbrev pub is_entered : Label → Bool
is_entered ExportDecl = false
is_entered (Import src) = false
is_entered (VarDecl kind) = false
is_entered Block = false
is_entered Body = false
is_entered CaseBody = false
is_entered _ = true

module _ (N : Names) (mark : ℕ) (H : Steps) where
  mutual
    pub data Walks : Tree → Tree → Type 0 where
      -- what is not entered stays, but for its spans
      as_it_is : {t u : Tree} → bare t ≡ bare u → AllClean N mark t → Walks t u
      -- what is told otherwise
      as_told : {t u : Tree} → Rewrites N mark (eval mark) t u → Walks t u
      early : {t u w : Tree} → H.Early t u → Walks u w → Walks t w
      at_node : (l : Label) {ss rs : List Span} {cs us : Forest} {w : Tree} → is_entered l ≡ true → Clean N mark l → WalksAll false cs us → H.Node (node l rs us) w → Walks (node l ss cs) w
      at_list : (l : Label) {ss rs : List Span} {bs cs us vs : Forest} {w : Tree} → is_block l ≡ true → H.Before bs cs → WalksAll true cs us → H.Behind us vs → H.Node (node l rs vs) w → Walks (node l ss bs) w
      at_declarators : (k : VarDeclKind) {ss rs : List Span} {cs us : Forest} {w : Tree} → WalksAll true cs us → H.Node (node (VarDecl k) rs us) w → Walks (node (VarDecl k) ss cs) w
      -- a default that gives undefined goes
      at_default : {x : Name} {ss rs : List Span} {t u : Tree} → N.dropped x ≡ false → N.guarded x ≡ false → Walks t u → GivesUndefined mark u → Walks (node (Param x) ss (t ⊳ ε)) (node (Param x) rs ε)
      at_import : (src : Text) {ss rs : List Span} {cs us : Forest} → Specifiers N cs us → Walks (node (Import src) ss cs) (node (Import src) rs us)
      -- a declaration that is exported stays one, and exports the same
      at_export : (l : Label) {ss rs qs ps : List Span} {cs us : Forest} {w : Tree} → is_declaration l ≡ true → Clean N mark l → WalksAll false cs us → H.Node (node l ps us) w → item_exports ExportDecl (node l ps us ⊳ ε) ≡ item_exports ExportDecl (w ⊳ ε) → Walks (node ExportDecl ss (node l qs cs ⊳ ε)) (node ExportDecl rs (w ⊳ ε))

    pub data WalksAll : Bool → Forest → Forest → Type 0 where
      no_more : {b : Bool} → WalksAll b ε ε
      one_more : {b : Bool} {t u : Tree} {ts us : Forest} → Walks t u → WalksAll b ts us → WalksAll b (t ⊳ ts) (u ⊳ us)
      goes : {t : Tree} {ts us : Forest} → H.Goes t → WalksAll true ts us → WalksAll true (t ⊳ ts) us
      goes_behind : {t u : Tree} {ts us : Forest} → Walks t u → H.GoesBehind u → WalksAll true ts us → WalksAll true (t ⊳ ts) us
      stops_there : {t u : Tree} {ts us : Forest} → Walks t u → Stops mark u → WalksUnreached ts us → WalksAll true (t ⊳ ts) (u ⊳ us)

    -- behind an item that never ends normally: what goes is not looked into
    pub data WalksUnreached : Forest → Forest → Type 0 where
      none_unreached : WalksUnreached ε ε
      one_unreached : {t u : Tree} {ts us : Forest} → Walks t u → WalksUnreached ts us → WalksUnreached (t ⊳ ts) (u ⊳ us)
      goes_unseen : {t : Tree} {ts us : Forest} → DeclaresNone N t → WalksUnreached ts us → WalksUnreached (t ⊳ ts) us

  -- Modules whose loads count are loaded as before, and what is exported is kept, or never holds anything.
  pub data WalksWhole (loads : Bool) : Tree → Tree → Type 0 where
    walks_module : {ss rs : List Span} {bs cs us vs : Forest} → H.Before bs cs → module_items bs ≡ module_items cs → WalksAll true cs us → H.Behind us vs → module_items us ≡ module_items vs
        → ((x : Name) → is_exported x (exported cs) ≡ true → Exported N x) → heeded (ignoring loads) (once [] (sources cs)) ≡ heeded (ignoring loads) (once [] (sources us))
        → WalksWhole loads (node Module ss bs) (node Module rs vs)
    walks_script : {ss rs : List Span} {bs cs us vs : Forest} → H.Before bs cs → WalksAll true cs us → H.Behind us vs → WalksWhole loads (node Script ss bs) (node Script rs vs)

-- each step does the same and declares the same, off the names that are dropped; no name is slack
pub record StepsRight (N : Names) (mark : ℕ) (H : Steps) : Type 0 where
  pub firm : (x : Name) → N.slack x ≡ false
  pub early_trims : (t u : Tree) → H.Early t u → Trims N (eval mark) t u
  pub early_fits : (t u : Tree) → H.Early t u → Fits N t u
  pub node_exact : (t u : Tree) → H.Node t u → Exact mark t u
  pub node_fits : (t u : Tree) → H.Node t u → Fits N t u
  pub before_trims : (ts us : Forest) → H.Before ts us → ListTrims N (eval mark) ts us
  pub before_declares : (ts us : Forest) → H.Before ts us → SameLists N ts us
  pub behind_exact : (ts us : Forest) → H.Behind ts us → ListExact mark ts us
  pub behind_declares : (ts us : Forest) → H.Behind ts us → SameLists N ts us
  pub goes_idle : (t : Tree) → H.Goes t → Idle N (eval mark) t
  pub goes_declares : (t : Tree) → H.Goes t → DeclaresNone N t
  pub goes_behind_idle : (t : Tree) → H.GoesBehind t → IdleAfter N mark t
  pub goes_behind_declares : (t : Tree) → H.GoesBehind t → DeclaresNone N t
  pub goes_behind_no_item : (t : Tree) → H.GoesBehind t → is_item (label_of t) ≡ false
