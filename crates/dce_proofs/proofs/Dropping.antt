-- Steps of the tree shaker: what declares no name that has to be kept, which P holds of, may go.
use Rattle.std.specs.Prelude.{◌≤◌, ◌≡◌, true, false, List, [], None}
use Rattle.swc_ast.specs.Labels.{is_expression}
use Rattle.swc_ast.specs.declared.Span.{Span}
use Rattle.swc_ast.specs.declared.VarDeclKind.{VarDeclKind}
use Rattle.swc_ast.specs.declared.AssignOp.{AssignOp}
use Rattle.swc_ast.specs.Tree.{Name, Text, Label, VarDecl, Import, Empty, ExprStmt, Assign, Call, Fn, Params, Body, Return, Tree, node, Forest, ε, ◌⊳◌, label_of}
use Rattle.swc_ast.specs.Scope.{vars, vars_all, declarator_names, specifier_names, import_names}
use Rattle.swc_ast.specs.Valid.{valid, count}
use Rattle.swc_ast.specs.Core.{fits}
use Rattle.swc_ast.specs.Weight.{weight, weight_all, is_list, is_stopper}
use Rattle.static_proofs.specs.Names.{names_of}
use Rattle.static_proofs.specs.Spares.{Spared}
use Rattle.static_proofs.specs.Drawn.{AllDrawn}
use Rattle.static_proofs.specs.Over.{Over}

-- an item of a list that may go
pub record MayGo (P : Name → Type 0) (t : Tree) : Type 0 where
  pub no_vars : Spared P (vars t) []
  pub no_names : Spared P (names_of t) []
  pub no_imports : Spared P (import_names (t ⊳ ε)) []
  pub no_stopper : is_stopper t ≡ false
  pub weighs : 1 ≤ weight t

-- some items go, in a list
pub data Drops (P : Name → Type 0) : Forest → Forest → Type 0 where
  none_dropped : Drops P ε ε
  item_kept : {t : Tree} {ts us : Forest} → Drops P ts us → Drops P (t ⊳ ts) (t ⊳ us)
  item_dropped : {t : Tree} {ts us : Forest} → MayGo P t → Drops P ts us → Drops P (t ⊳ ts) us

-- some trees go, in a forest
pub data Thins : Forest → Forest → Type 0 where
  none_thinned : Thins ε ε
  tree_kept : {t : Tree} {ts us : Forest} → Thins ts us → Thins (t ⊳ ts) (t ⊳ us)
  tree_dropped : {t : Tree} {ts us : Forest} → 1 ≤ weight t → Thins ts us → Thins (t ⊳ ts) us

pub data DropStep (P : Name → Type 0) : Tree → Tree → Type 0 where
  -- items of a list
  drop_items : {l : Label} {ss : List Span} {ts us : Forest} → is_list l ≡ true → Drops P ts us → (us ≡ ts → ⊥) → DropStep P (node l ss ts) (node l ss us)
  -- declarators
  drop_declarators : {kind : VarDeclKind} {ss : List Span} {ds es : Forest} → Thins ds es → Spared P (declarator_names ds) (declarator_names es) → Spared P (vars_all ds) (vars_all es) → 1 ≤ count es → (es ≡ ds → ⊥) → DropStep P (node (VarDecl kind) ss ds) (node (VarDecl kind) ss es)
  -- a declaration of which the first values stay, or nothing
  only_values : {kind : VarDeclKind} {ss rs : List Span} {ds parts : Forest} {e : Tree} → Spared P (declarator_names ds) [] → Spared P (vars_all ds) [] → AllDrawn ds parts → Over (valid (node (VarDecl kind) ss ds) ≡ true) (fits (node (VarDecl kind) ss ds) ≡ true) parts (e ⊳ ε) → weight e ≤ weight_all ds → DropStep P (node (VarDecl kind) ss ds) (node ExprStmt rs (e ⊳ ε))
  no_values : {kind : VarDeclKind} {ss rs : List Span} {ds : Forest} → Spared P (declarator_names ds) [] → Spared P (vars_all ds) [] → DropStep P (node (VarDecl kind) ss ds) (node Empty rs ε)
  -- import specifiers
  drop_specifiers : {src : Text} {ss : List Span} {ts us : Forest} → Thins ts us → Spared P (specifier_names ts) (specifier_names us) → (us ≡ ts → ⊥) → DropStep P (node (Import src) ss ts) (node (Import src) ss us)
  -- a value that is assigned in vain
  only_value : {op : AssignOp} {x : Name} {ss : List Span} {r : Tree} → is_expression (label_of r) ≡ true → DropStep P (node (Assign op x) ss (r ⊳ ε)) r
  -- a call of a function that returns an object of names
  call_object : {ss fs ps bs rs : List Span} {o : Tree} → is_expression (label_of o) ≡ true → DropStep P (node Call ss (node (Fn None) fs (node Params ps ε ⊳ node Body bs (node Return rs (o ⊳ ε) ⊳ ε) ⊳ ε) ⊳ ε)) o
