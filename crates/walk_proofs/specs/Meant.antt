-- A pass whose steps are those of a walk that keeps what a program does.
use Rattle.std.specs.Prelude.{ℕ, ◌≡◌, Bool, false, List}
use Rattle.swc_ast.specs.declared.Span.{Span}
use Rattle.swc_ast.specs.declared.VarDeclKind.{VarDeclKind}
use Rattle.swc_ast.specs.Run.{item_exports}
use Rattle.swc_ast.specs.Scope.{has_name, specifier_names}
use Rattle.swc_ast.specs.Tree.{Name, Text, Label, Param, VarDecl, Import, ExportDecl, Module, Tree, node, Forest, ε, ◌⊳◌, label_of}
use Rattle.meaning_proofs.specs.Exact.{GivesUndefined}
use Rattle.meaning_proofs.specs.Names.{Names, Watched}
use Rattle.meaning_proofs.specs.Roles.{is_item, module_items}
use Rattle.meaning_proofs.specs.Rewrites.{Specifiers}
use Rattle.meaning_proofs.specs.Walks.{Steps, AllClean}
use Rattle.static_proofs.specs.Together.{is_module}
use Rattle.tree_walk.specs.Pass.{Pass}

-- some items go
pub data Sifts (G : Tree → Type 0) : Forest → Forest → Type 0 where
  sifted : Sifts G ε ε
  stays_there : {t : Tree} {ts us : Forest} → Sifts G ts us → Sifts G (t ⊳ ts) (t ⊳ us)
  goes_there : {t : Tree} {ts us : Forest} → G t → Sifts G ts us → Sifts G (t ⊳ ts) us

-- some items of a list go, and then the list takes a step
pub data ListStep (H : Steps) : Forest → Forest → Type 0 where
  sifts_then : {ts us vs : Forest} → Sifts H.GoesBehind ts us → H.Behind us vs → ListStep H ts vs

-- an import that binds no name but dropped ones
pub data Unused (N : Names) : Tree → Type 0 where
  unused : {src : Text} {ss : List Span} {cs : Forest} → ((x : Name) → Watched N x → has_name x (specifier_names cs) ≡ false) → Unused N (node (Import src) ss cs)

-- an item of a module that goes: a statement, or where loads don't count an import
pub data ItemGoes (N : Names) (loads : Bool) (H : Steps) : Tree → Type 0 where
  statement_goes : {t : Tree} → H.GoesBehind t → ItemGoes N loads H t
  import_goes : {t : Tree} → loads ≡ false → Unused N t → ItemGoes N loads H t

-- some items of a module go, and then the list takes a step, which leaves imports and exports where they are
pub data ItemsStep (N : Names) (loads : Bool) (H : Steps) : Forest → Forest → Type 0 where
  items_then : {ts us vs : Forest} → Sifts (ItemGoes N loads H) ts us → H.Behind us vs → module_items us ≡ module_items vs → ItemsStep N loads H ts vs

-- A node takes a step, of a declaration of variables once some declarators are gone; a parameter loses a default that gives
-- undefined. Imports and exports take none, but that an import loses specifiers whose names are dropped, and a declaration
-- that is exported takes one and exports the same.
pub data NodeStep (N : Names) (mark : ℕ) (H : Steps) : Tree → Tree → Type 0 where
  alone : {t u : Tree} → is_item (label_of t) ≡ false → is_item (label_of u) ≡ false → H.Node t u → NodeStep N mark H t u
  of_declarators : {k : VarDeclKind} {ss : List Span} {ds es : Forest} {u : Tree} → is_item (label_of u) ≡ false → Sifts H.GoesBehind ds es → H.Node (node (VarDecl k) ss es) u → NodeStep N mark H (node (VarDecl k) ss ds) u
  of_default : {x : Name} {ss rs : List Span} {t : Tree} → GivesUndefined mark t → NodeStep N mark H (node (Param x) ss (t ⊳ ε)) (node (Param x) rs ε)
  of_specifiers : {src : Text} {ss rs : List Span} {cs us : Forest} → Specifiers N cs us → NodeStep N mark H (node (Import src) ss cs) (node (Import src) rs us)
  of_export : {l : Label} {ss rs qs : List Span} {us : Forest} {w : Tree} → H.Node (node l qs us) w → item_exports ExportDecl (node l qs us ⊳ ε) ≡ item_exports ExportDecl (w ⊳ ε) → NodeStep N mark H (node ExportDecl ss (node l qs us ⊳ ε)) (node ExportDecl rs (w ⊳ ε))

-- The steps of a pass are steps of the walk that keeps what a program does.
pub record Meant (X : Pass) (N : Names) (mark : ℕ) (loads : Bool) (H : Steps) : Type 0 where
  pub open_step : (t u : Tree) → X.opens t u → H.Early t u
  -- what a step in front makes is no import and no export, and asks no more of its names than it may
  pub open_no_item : (t u : Tree) → X.opens t u → is_item (label_of u) ≡ false
  pub open_clean : (t u : Tree) → X.opens t u → AllClean N mark t → AllClean N mark u
  pub node_step : (t u : Tree) → X.steps t u → NodeStep N mark H t u
  pub list_step : (l : Label) (ts us : Forest) → is_module l ≡ false → X.tidies l ts us → ListStep H ts us
  pub items_step : (ts us : Forest) → X.tidies Module ts us → ItemsStep N loads H ts us
  -- an import that goes once it is walked could have gone before
  pub unused_goes : (t : Tree) → Unused N t → H.Goes t
  -- what takes no step
  pub node_stays : (t : Tree) → H.Node t t
  pub list_stays : (ts : Forest) → H.Behind ts ts
  pub before_stays : (ts : Forest) → H.Before ts ts
