-- What a rewrite may do to a tree: a step that does the same but for names that are dropped, then each child in turn,
-- then a step that does the same.
use Rattle.std.specs.Prelude.{ℕ, ◌≡◌, Bool, true, false, ◌||◌, List, [], ◌∷◌, Some, None, Option}
use Rattle.swc_ast.specs.Labels.{is_block}
use Rattle.swc_ast.specs.declared.Span.{Span}
use Rattle.swc_ast.specs.declared.VarDeclKind.{VarDeclKind}
use Rattle.swc_ast.specs.Tree.{Name, same_name, Text, Label, Fn, Param, Switch, VarDecl, Declarator, Module, Script, Import, ExportDecl, ExportNamed, Tree, node, Forest, ε, ◌⊳◌, label_of}
use Rattle.swc_ast.specs.Value.{Value, Undefined, is_data}
use Rattle.swc_ast.specs.Scope.{has_name, own_vars, case_statements, imported_name}
use Rattle.swc_ast.specs.Run.{sources, once, exported, item_exports, specifier_exports}
use Rattle.meaning_proofs.specs.Names.{Names, Watched, Exported}
use Rattle.meaning_proofs.specs.Exact.{Evaluation, Exact, ListExact, Trims, ListTrims, Idle, IdleAfter, Yields, GivesUndefined, Discriminant, CasesTrim, Stops}
use Rattle.meaning_proofs.specs.Sameness.{heeded}
use Rattle.meaning_proofs.specs.Roles.{is_item, rewrites_each, Clean, Unfolds, Fits, SameLists, SameScope, SameVars, DeclaresNone, FunctionOf, SameBody, SameSlack, Scoped, module_items}

-- an export stands for the same names
abbrev pub SameExports : Label → Forest → Forest → Type 0
SameExports ExportDecl cs us = item_exports ExportDecl cs ≡ item_exports ExportDecl us
SameExports ExportNamed cs us = specifier_exports cs ≡ specifier_exports us
SameExports _ cs us = Unit {0}

-- whether a name is exported
abbrev pub is_exported : Name → List (Text × Name) → Bool
is_exported x [] = false
is_exported x (p ∷ ps) = same_name p.1 x || is_exported x ps

-- specifiers of an import: some may go, whose names are dropped
pub data Specifiers (N : Names) : Forest → Forest → Type 0 where
  no_more : Specifiers N ε ε
  keep : (l : Label) {ss rs : List Span} {cs ds ts us : Forest} → ((x : Name) → N.guarded x ≡ true → has_name x (imported_name l) ≡ false) → Specifiers N ts us → Specifiers N (node l ss cs ⊳ ts) (node l rs ds ⊳ us)
  skip : (l : Label) {ss : List Span} {cs ts us : Forest} → ((x : Name) → Watched N x → has_name x (imported_name l) ≡ false) → Specifiers N ts us → Specifiers N (node l ss cs ⊳ ts) us

module _ (N : Names) (mark : ℕ) (does : Evaluation) where
  mutual
    -- the same node, with its children rewritten
    pub data Kept : Tree → Tree → Type 0 where
      kept : (l : Label) {ss rs : List Span} {cs us : Forest} → rewrites_each l ≡ true → Unfolds mark does (node l ss cs) → Clean N mark l → SameExports l cs us → Scoped N l cs us → All false cs us → Kept (node l ss cs) (node l rs us)
      kept_list : (l : Label) {ss rs : List Span} {cs us : Forest} → is_block l ≡ true → Unfolds mark does (node l ss cs) → Listed cs us → Kept (node l ss cs) (node l rs us)
      kept_declarators : (k : VarDeclKind) {ss rs : List Span} {cs us : Forest} → Unfolds mark does (node (VarDecl k) ss cs) → All true cs us → Kept (node (VarDecl k) ss cs) (node (VarDecl k) rs us)
      kept_import : (src : Text) {ss rs : List Span} {cs us : Forest} → Unfolds mark does (node (Import src) ss cs) → Specifiers N cs us → Kept (node (Import src) ss cs) (node (Import src) rs us)
      -- a guarded name of `let` or `const` is initialised with what it is known to hold
      kept_known : (k : VarDeclKind) {x : Name} {v : Value} {ss rs : List Span} {t u : Tree} → Unfolds mark does (node (Declarator k x) ss (t ⊳ ε)) → own_vars (Declarator k x) ≡ [] → N.dropped x ≡ false → N.guard x ≡ Some v → is_data v ≡ true → Yields mark v u → Rewrites t u → Kept (node (Declarator k x) ss (t ⊳ ε)) (node (Declarator k x) rs (u ⊳ ε))
      -- a guarded name that is declared without a first value
      kept_unset : (k : VarDeclKind) {x : Name} {ss rs : List Span} → Unfolds mark does (node (Declarator k x) ss ε) → N.dropped x ≡ false → N.guard x ≡ Some Undefined → Kept (node (Declarator k x) ss ε) (node (Declarator k x) rs ε)
      -- a default that gives undefined goes
      kept_default : {x : Name} {ss rs : List Span} {t u : Tree} → Unfolds mark does (node (Param x) ss (t ⊳ ε)) → N.dropped x ≡ false → N.guarded x ≡ false → Rewrites t u → GivesUndefined mark u → Kept (node (Param x) ss (t ⊳ ε)) (node (Param x) rs ε)
      -- the cases of a switch may become others, before they are rewritten one by one
      kept_switch : {ds es : List Bool} {ss rs : List Span} {t u : Tree} {cs vs us : Forest} {known : Option Value} → Unfolds mark does (node (Switch ds) ss (t ⊳ cs)) → Rewrites t u → Discriminant mark u known → CasesTrim N does known ds cs es vs
          → SameScope N (case_statements (t ⊳ cs)) (case_statements (t ⊳ vs)) → SameVars N (t ⊳ cs) (t ⊳ vs) → All false vs us → Kept (node (Switch ds) ss (t ⊳ cs)) (node (Switch es) rs (u ⊳ us))
      -- a function without its own name
      drop_own : {x : Name} {ss rs : List Span} {cs us : Forest} → Unfolds mark does (node (Fn (Some x)) ss cs) → N.dropped x ≡ true → N.guarded x ≡ false → SameBody N cs us → All false cs us → Kept (node (Fn (Some x)) ss cs) (node (Fn None) rs us)

    -- what becomes of a node: it is kept, or a function of a name that nothing reads becomes another, as its body never runs
    pub data KeptOrUnseen : Tree → Tree → Type 0 where
      as_kept : {t u : Tree} → Kept t u → KeptOrUnseen t u
      unseen : {x : Name} {l : Label} {ss rs : List Span} {cs us : Forest} → FunctionOf x l → Unfolds mark does (node l ss cs) → N.loose x ≡ true → N.guarded x ≡ false → KeptOrUnseen (node l ss cs) (node l rs us)

    pub data Rewrites : Tree → Tree → Type 0 where
      step : {t u v w : Tree} → Trims N does t u → Fits N t u → KeptOrUnseen u v → Exact mark v w → Fits N v w → Rewrites t w

    -- one by one; where some may go, those go that do nothing and declare none but dropped names, and behind one that never
    -- ends normally those that declare none but dropped names
    pub data All : Bool → Forest → Forest → Type 0 where
      nil : {b : Bool} → All b ε ε
      cons : {b : Bool} {t u : Tree} {ts us : Forest} → Rewrites t u → All b ts us → All b (t ⊳ ts) (u ⊳ us)
      drop : {t : Tree} {ts us : Forest} → Idle N does t → DeclaresNone N t → All true ts us → All true (t ⊳ ts) us
      drop_rewritten : {t u : Tree} {ts us : Forest} → Rewrites t u → IdleAfter N mark u → is_item (label_of u) ≡ false → DeclaresNone N u → All true ts us → All true (t ⊳ ts) us
      stop : {t u : Tree} {ts us : Forest} → Rewrites t u → Stops mark u → Unreached ts us → All true (t ⊳ ts) (u ⊳ us)

    -- one by one, where no run comes: what goes is not looked into
    pub data Unreached : Forest → Forest → Type 0 where
      end : Unreached ε ε
      stay : {t u : Tree} {ts us : Forest} → Rewrites t u → Unreached ts us → Unreached (t ⊳ ts) (u ⊳ us)
      leave : {t : Tree} {ts us : Forest} → DeclaresNone N t → Unreached ts us → Unreached (t ⊳ ts) us

    -- statements: rewritten as a list, one by one, and as a list again
    pub data Listed : Forest → Forest → Type 0 where
      listed : {ts us vs ws : Forest} → ListTrims N does ts us → SameLists N ts us → All true us vs → ListExact mark vs ws → SameLists N vs ws → Listed ts ws

  -- What a rewrite may do to a whole module or script. Modules whose loads count are loaded as before, and what is
  -- exported is kept, or never holds anything.
  pub data Related (ignores : Text → Bool) : Tree → Tree → Type 0 where
    modules : {ss rs : List Span} {ts us vs ws : Forest} → ListTrims N does ts us → SameLists N ts us → All true us vs → ListExact mark vs ws → SameLists N vs ws
        → module_items ts ≡ module_items us → module_items vs ≡ module_items ws
        → ((x : Name) → is_exported x (exported us) ≡ true → Exported N x)
        → heeded ignores (once [] (sources us)) ≡ heeded ignores (once [] (sources vs))
        → SameSlack N ts ws
        → Related ignores (node Module ss ts) (node Module rs ws)
    scripts : {ss rs : List Span} {ts us : Forest} → Listed ts us → SameSlack N ts us → Related ignores (node Script ss ts) (node Script rs us)
