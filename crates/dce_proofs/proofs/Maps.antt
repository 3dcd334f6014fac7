-- A walk of the tree shaker is one of the rewrites that keep what a module does.
use Rattle.std.proofs.Common.{◌≡◌, ℕ, ◌≤◌, Bool, true, false, not, ◌&&◌, if◌then◌else◌, List, [], ◌∷◌, ◌++◌, refl, sym, ap, subst, ◌∙◌, arith}
use Rattle.std.proofs.lemmas.Bool.{false≢true, true≢false, and_parts, and_from}
use Rattle.swc_ast.specs.declared.Span.{Span}
use Rattle.swc_ast.specs.declared.AssignOp.TheVariants.{Assign as Plain}
use Rattle.swc_ast.specs.declared.VarDeclKind.{VarDeclKind}
use Rattle.swc_ast.specs.declared.VarDeclKind.TheVariants.{Var, Let, Const}
use Rattle.swc_ast.specs.Tree.{Text, Name, Label, NumLit, StrLit, BoolLit, NullLit, Assign, Call, Body, Block, CaseBody, For, VarDecl, Declarator, FnDecl, Import, ImportNamed, ImportDefault, ImportStar, ExportDecl, Empty, ExprStmt, Tree, node, Forest, ε, ◌⊳◌, label_of, children_of, expr}
use Rattle.swc_ast.specs.Scope.{list_binds}
use Rattle.swc_ast.specs.Resolved.{own_scopes, scopes, scopes_all}
use Rattle.swc_ast.specs.Run.{own_texts, item_exports}
use Rattle.swc_ast.specs.Meaning.{is_unresolved}
use Rattle.swc_ast.specs.Labels.{is_expression, is_block, is_declaration}
use Rattle.static_proofs.specs.Keeps.{Keeps, AllKeep, none_kept, more_kept}
use Rattle.static_proofs.specs.Names.{is_some_tree}
use Rattle.static_proofs.specs.Shaped.{is_inner, is_declarator_of, is_specifier, labels_of, all_labels, holds, is_shaped, are_shaped}
use Rattle.static_proofs.specs.Together.{KeepsAll}
use Rattle.static_proofs.proofs.Inside.{one_if_kept, list_binds_kept, keeps_inside}
use Rattle.static_proofs.proofs.Kept.{keeps_itself}
use Rattle.static_proofs.proofs.Parts.{all_scopes, all_declarators}
use Rattle.static_proofs.proofs.Together.{together, kept_then}
use Rattle.swc_utils.specs.Pure.{pure}
use Rattle.walk_proofs.specs.Meant.{Sifts, sifted, stays_there, goes_there}
use Rattle.tree_walk.specs.Pass.{walks_each}
use Rattle.tree_walk.specs.Walks as walk
use Rattle.tree_walk.specs.Walks.{Walks, Entered, ListMade, AllWalk, nothing, both}
use Rattle.dce_rules.specs.Left.{any_of, is_plain_value}
use Rattle.dce_rules.specs.Shakes as rules
use Rattle.dce_rules.specs.Shakes.{Shaker, Early, Opens, Goes as GoesBehind, Leaves, as_statement, Shakes, ItemGoes, items_go, shake_pass}
use Rattle.dce_proofs.proofs.Owes.{opens_owe, shakes_owe, dropping}
use Rattle.dce_proofs.proofs.Thinned.{drops_keep}
use Rattle.dce_proofs.proofs.Walked.{gone, is_left, Goes, no_more_of, fewer_of, Specifiers, no_more, stays, goes, empty_statement, empty_block, statements, value_alone, value_guarded, Walked, same_node, same_list, same_import, declaration, first_values, opened, called, Each, none, more, Items, no_item, item, function_goes, nothing_goes, import_goes as whole_import_goes, Declarators, no_declarator, declarator, unset_goes, early_goes, value_goes, value_left}
use Rattle.dce_proofs.proofs.Went.{Entry, here, entry_of, entries, entries_of, trees_entries, sifts_went, Fair, AllStand, AllStandIn, Bound, AllBound, went, made_went, trees_went}
use Rattle.dce_proofs.proofs.Mapped.{fair_left, fair_right, is_gone, walks_keep, all_keep, bound_inside, bound_first, bound_rest, bound_behind, bound_before, scoped, same_exports, walked_itself, specifiers_itself}

-- shapes

pub shape_here : (l : Label) (ss : List Span) (cs : Forest) → is_shaped (node l ss cs) ≡ true → holds l (labels_of cs) ≡ true
shape_here l ss cs a = (and_parts (holds l (labels_of cs)) (are_shaped cs) a).0

pub shape_below : (l : Label) (ss : List Span) (cs : Forest) → is_shaped (node l ss cs) ≡ true → are_shaped cs ≡ true
shape_below l ss cs a = (and_parts (holds l (labels_of cs)) (are_shaped cs) a).1

pub shape_first : (t : Tree) (ts : Forest) → are_shaped (t ⊳ ts) ≡ true → is_shaped t ≡ true
shape_first t ts a = (and_parts (is_shaped t) (are_shaped ts) a).0

pub shape_rest : (t : Tree) (ts : Forest) → are_shaped (t ⊳ ts) ≡ true → are_shaped ts ≡ true
shape_rest t ts a = (and_parts (is_shaped t) (are_shaped ts) a).1

-- names of declarators

module _ {G K : Name → Bool} where
  var_goes : (k : VarDeclKind) (x : Name) → Fair G K (entry_of (Declarator k x)) → Goes G K k x
  var_goes Var x f = by_left (K x) refl
    where
      by_left : (b : Bool) → K x ≡ b → Goes G K Var x
      by_left true e = fewer_of (and_from (G x) (K x) (f.goes x false here) e)
      by_left false e = no_more_of (and_from (G x) (not (K x)) (f.goes x false here) (ap not e))
  var_goes Let x f = no_more_of (is_gone x f)
  var_goes Const x f = no_more_of (is_gone x f)

-- the shaker's rewrites
abbrev pub Shaken : Shaker → (Name → Bool) → (Name → Bool) → Tree → Tree → Type 0
Shaken S G K t u = Walked G K S.unread S.mark S.drops_imports t u

abbrev pub ShakenDeclarators : Shaker → (Name → Bool) → (Name → Bool) → VarDeclKind → Bool → Forest → Forest → Type 0
ShakenDeclarators S G K k b ts us = Declarators G K S.unread S.mark S.drops_imports k b ts us

abbrev pub ShakenItems : Shaker → (Name → Bool) → (Name → Bool) → Forest → Forest → Type 0
ShakenItems S G K ts us = Items G K S.unread S.mark S.drops_imports ts us

-- what becomes of a declaration of variables
data VarMade (S : Shaker) (G K : Name → Bool) (k : VarDeclKind) (ds : Forest) : Tree → Type 0 where
  var_kept : {rs : List Span} {us : Forest} → ShakenDeclarators S G K k false ds us → VarMade S G K k ds (node (VarDecl k) rs us)
  var_left : (rs vs : List Span) (qs : Forest) → ShakenDeclarators S G K k true ds (statements qs) → VarMade S G K k ds (as_statement rs vs qs)

pub sift_labels : (p : Label → Bool) {H : Tree → Type 0} {ts us : Forest} → Sifts H ts us → all_labels p (labels_of ts) ≡ true → all_labels p (labels_of us) ≡ true
sift_labels p sifted a = a
sift_labels p (stays_there {t = node l ss cs} {ts = ts} {us = us} h) a = let q = and_parts (p l) (all_labels p (labels_of ts)) a in and_from (p l) (all_labels p (labels_of us)) q.0 (sift_labels p h q.1)
sift_labels p (goes_there {t = node l ss cs} {ts = ts} g h) a = sift_labels p h (and_parts (p l) (all_labels p (labels_of ts)) a).1

pub sift_shaped : {H : Tree → Type 0} {ts us : Forest} → Sifts H ts us → are_shaped ts ≡ true → are_shaped us ≡ true
sift_shaped sifted a = a
sift_shaped (stays_there {t = t} {ts = ts} {us = us} h) a = let q = and_parts (is_shaped t) (are_shaped ts) a in and_from (is_shaped t) (are_shaped us) q.0 (sift_shaped h q.1)
sift_shaped (goes_there {t = t} {ts = ts} g h) a = sift_shaped h (and_parts (is_shaped t) (are_shaped ts) a).1

pub sift_scopes : {H : Tree → Type 0} (x : Name) {ts us : Forest} → Sifts H ts us → scopes_all x us ≤ scopes_all x ts
sift_scopes x sifted = omega arith
sift_scopes x (stays_there h) = omega (arith, sift_scopes x h)
sift_scopes x (goes_there g h) = omega (arith, sift_scopes x h)

leaves_scopes : {S : Shaker} (x : Name) {ts qs : Forest} → Leaves S ts qs → scopes_all x qs ≤ scopes_all x ts
unfolding own_scopes
leaves_scopes x rules.nothing_left = omega arith
leaves_scopes x (rules.goes_with_value g h) = omega (arith, leaves_scopes x h)
leaves_scopes x (rules.value_left f h) = omega (arith, leaves_scopes x h)

statement_scopes : (x : Name) (rs vs : List Span) (qs : Forest) → scopes x (as_statement rs vs qs) ≡ scopes_all x qs
unfolding own_scopes
statement_scopes x rs vs ε = refl
statement_scopes x rs vs (q ⊳ ε) = omega arith
statement_scopes x rs vs (q ⊳ r ⊳ qs) = omega arith

plain_pure : (mark : ℕ) (q : Tree) → is_plain_value q ≡ true → pure mark q ≡ true
plain_pure mark (node (NumLit z) ss ε) e = refl
plain_pure mark (node (StrLit t) ss ε) e = refl
plain_pure mark (node (BoolLit b) ss ε) e = refl
plain_pure mark (node NullLit ss ε) e = refl
plain_pure mark q e = absurd (false≢true e)

unshut : (l : Label) (ss : List Span) (cs : Forest) → (rules.is_shut (node l ss ε) ≡ false) → ((t : Tree) (ts : Forest) → rules.is_shut (node l ss (t ⊳ ts)) ≡ false) → rules.is_shut (node l ss cs) ≡ false
unshut l ss ε e f = e
unshut l ss (t ⊳ ts) e f = f t ts

declarator_unshut : (k : VarDeclKind) (x : Name) (ss : List Span) (cs : Forest) → rules.is_shut (node (Declarator k x) ss cs) ≡ false
declarator_unshut k x ss cs = unshut (Declarator k x) ss cs refl (λ t ts. refl)

declaration_unshut : (k : VarDeclKind) (ss : List Span) (cs : Forest) → rules.is_shut (node (VarDecl k) ss cs) ≡ false
declaration_unshut k ss cs = unshut (VarDecl k) ss cs refl (λ t ts. refl)

pub inner_expression : (l : Label) → is_expression l ≡ true → is_inner l ≡ true
inner_expression (expr l) e = refl
inner_expression _ e = absurd (false≢true e)

-- a name that is left is bound nowhere in what goes
record Unbound (G K : Name → Bool) (t : Tree) : Type 0 where
  pub by : (x : Name) → is_left G K x ≡ true → scopes x t ≤ 0

-- an import whose specifiers were walked, some of which are gone
data ImportMade (G K : Name → Bool) : Tree → Tree → Type 0 where
  made_import : (src : Text) {ss rs : List Span} {cs us : Forest} → Specifiers (gone G K) cs us → all_labels is_specifier (labels_of us) ≡ true → ImportMade G K (node (Import src) ss cs) (node (Import src) rs us)

first_or : Tree → Forest → Tree
first_or d ε = d
first_or d (t ⊳ ts) = t

rest_of : Forest → Forest
rest_of ε = ε
rest_of (t ⊳ ts) = ts

first_is : {y q : Tree} {ts us : Forest} → ◌≡◌ {A = Forest} (y ⊳ ts) (q ⊳ us) → y ≡ q
unfolding first_or
first_is {y} i = ap (first_or y) i

no_tree_is : {q : Tree} → ◌≡◌ {A = Forest} ε (q ⊳ ε) → ⊥
no_tree_is i = false≢true (ap is_some_tree i)

more_trees_are : {y z q : Tree} {ts : Forest} → ◌≡◌ {A = Forest} (y ⊳ z ⊳ ts) (q ⊳ ε) → ⊥
unfolding rest_of
more_trees_are i = true≢false (ap (λ ts. is_some_tree (rest_of ts)) i)

export_kept : {S : Shaker} (l : Label) (rs : List Span) {c : Bool} {ts us : Forest} → is_declaration l ≡ true → AllWalk (shake_pass S) c ts us → item_exports ExportDecl (node l rs ts ⊳ ε) ≡ item_exports ExportDecl (node l rs us ⊳ ε)
export_kept (VarDecl k) rs d ws = ap own_texts (sym (all_declarators (all_keep ws)))
export_kept (FnDecl x) rs d ws = refl
export_kept l rs d ws = absurd (false≢true d)

declaration_plain : (l : Label) → is_declaration l ≡ true → walks_each l ≡ true
declaration_plain (VarDecl k) d = refl
declaration_plain (FnDecl x) d = refl
declaration_plain l d = absurd (false≢true d)

-- what a list that was walked keeps
pub list_keeps_all : {S : Shaker} {l : Label} {c : Bool} {ts vs : Forest} → ListMade (shake_pass S) l c ts vs → KeepsAll ts vs
list_keeps_all (walk.listed ws t) = together (all_keep ws)
list_keeps_all {S} (walk.tidied ws (items_go h n)) = kept_then (together (all_keep ws)) (drops_keep (dropping S h))

module _ (S : Shaker) (G K : Name → Bool) (known : (x : Name) → S.unread x ≡ true → is_unresolved S.mark x ≡ false) where
  -- declarators that go in front of the walk

  early_one : (k : VarDeclKind) {b : Bool} (t : Tree) (es : List Entry) {ts us : Forest} → is_declarator_of k (label_of t) ≡ true → Early S t → Fair G K (entries_of t ++ es) → ShakenDeclarators S G K k b ts us → ShakenDeclarators S G K k b (t ⊳ ts) us
  early_one Var (node (Declarator Var x) ss ε) es a e f d = unset_goes Var x (var_goes Var x (fair_left (entry_of (Declarator Var x)) es f)) d
  early_one Var (node (Declarator Var x) ss (r ⊳ ε)) es a e f d = early_goes Var x (var_goes Var x (fair_left (entry_of (Declarator Var x)) es f)) (and_parts (S.free x) (pure S.mark r) e).1 d
  early_one Let (node (Declarator Let x) ss ε) es a e f d = unset_goes Let x (var_goes Let x (fair_left (entry_of (Declarator Let x)) es f)) d
  early_one Let (node (Declarator Let x) ss (r ⊳ ε)) es a e f d = early_goes Let x (var_goes Let x (fair_left (entry_of (Declarator Let x)) es f)) (and_parts (S.free x) (pure S.mark r) e).1 d
  early_one Const (node (Declarator Const x) ss ε) es a e f d = unset_goes Const x (var_goes Const x (fair_left (entry_of (Declarator Const x)) es f)) d
  early_one Const (node (Declarator Const x) ss (r ⊳ ε)) es a e f d = early_goes Const x (var_goes Const x (fair_left (entry_of (Declarator Const x)) es f)) (and_parts (S.free x) (pure S.mark r) e).1 d
  early_one k (node (Declarator j x) ss (r ⊳ q ⊳ ts)) es a e f d = absurd (false≢true e)
  early_one k t es a e f d = absurd (false≢true a)

  early_left : (k : VarDeclKind) {b : Bool} {ds es us : Forest} (h : Sifts (Early S) ds es) → all_labels (is_declarator_of k) (labels_of ds) ≡ true → Fair G K (sifts_went h) → ShakenDeclarators S G K k b es us → ShakenDeclarators S G K k b ds us
  early_left k sifted a f d = d
  early_left k (stays_there {t = node l ss cs} {ts = ts} h) a f (declarator w d) = declarator w (early_left k h (and_parts (is_declarator_of k l) (all_labels (is_declarator_of k) (labels_of ts)) a).1 f d)
  early_left k (stays_there {t = node l ss cs} {ts = ts} h) a f (unset_goes j x g d) = unset_goes j x g (early_left k h (and_parts (is_declarator_of k l) (all_labels (is_declarator_of k) (labels_of ts)) a).1 f d)
  early_left k (stays_there {t = node l ss cs} {ts = ts} h) a f (early_goes j x g p d) = early_goes j x g p (early_left k h (and_parts (is_declarator_of k l) (all_labels (is_declarator_of k) (labels_of ts)) a).1 f d)
  early_left k (stays_there {t = node l ss cs} {ts = ts} h) a f (value_goes j x g w p d) = value_goes j x g w p (early_left k h (and_parts (is_declarator_of k l) (all_labels (is_declarator_of k) (labels_of ts)) a).1 f d)
  early_left k (stays_there {t = node l ss cs} {ts = ts} h) a f (value_left j x g w d) = value_left j x g w (early_left k h (and_parts (is_declarator_of k l) (all_labels (is_declarator_of k) (labels_of ts)) a).1 f d)
  early_left k (goes_there {t = node l ss cs} {ts = ts} g h) a f d =
      let p = and_parts (is_declarator_of k l) (all_labels (is_declarator_of k) (labels_of ts)) a in
      early_one k (node l ss cs) (sifts_went h) p.0 g f (early_left k h p.1 (fair_right (entries_of (node l ss cs)) (sifts_went h) f) d)

  -- specifiers of an import

  sifted_away : {cs us : Forest} (h : Sifts (GoesBehind S) cs us) → all_labels is_specifier (labels_of cs) ≡ true → Fair G K (sifts_went h) → Specifiers (gone G K) cs us
  sifted_away sifted a f = no_more
  sifted_away (stays_there {t = node l ss cs} {ts = ts} h) a f = stays l (sifted_away h (and_parts (is_specifier l) (all_labels is_specifier (labels_of ts)) a).1 f)
  sifted_away (goes_there {t = node (ImportNamed x i) ss cs} {ts = ts} g h) a f = goes (ImportNamed x i) refl (is_gone x f) (sifted_away h a (fair_right ((x, true) ∷ []) (sifts_went h) f))
  sifted_away (goes_there {t = node (ImportDefault x) ss cs} {ts = ts} g h) a f = goes (ImportDefault x) refl (is_gone x f) (sifted_away h a (fair_right ((x, true) ∷ []) (sifts_went h) f))
  sifted_away (goes_there {t = node (ImportStar x) ss cs} {ts = ts} g h) a f = goes (ImportStar x) refl (is_gone x f) (sifted_away h a (fair_right ((x, true) ∷ []) (sifts_went h) f))
  sifted_away (goes_there {t = node l ss cs} g h) a f = absurd (false≢true a)

  all_away : (cs : Forest) → all_labels is_specifier (labels_of cs) ≡ true → Fair G K (entries cs) → Specifiers (gone G K) cs ε
  all_away ε a f = no_more
  all_away (node (ImportNamed x i) ss cs ⊳ ts) a f = goes (ImportNamed x i) refl (is_gone x f) (all_away ts a (fair_right ((x, true) ∷ []) (entries ts) f))
  all_away (node (ImportDefault x) ss cs ⊳ ts) a f = goes (ImportDefault x) refl (is_gone x f) (all_away ts a (fair_right ((x, true) ∷ []) (entries ts) f))
  all_away (node (ImportStar x) ss cs ⊳ ts) a f = goes (ImportStar x) refl (is_gone x f) (all_away ts a (fair_right ((x, true) ∷ []) (entries ts) f))
  all_away (node l ss cs ⊳ ts) a f = absurd (false≢true a)

  -- what is left of an import goes too
  then_away : {cs us : Forest} → Specifiers (gone G K) cs us → Specifiers (gone G K) us ε → Specifiers (gone G K) cs ε
  then_away no_more g = g
  then_away (stays l h) (goes m e d g) = goes l e d (then_away h g)
  then_away (goes l e d h) g = goes l e d (then_away h g)

  -- statements that are made

  statement_stands : (rs vs : List Span) (qs : Forest) → AllStand G K (as_statement rs vs qs) → AllStandIn G K qs
  statement_stands rs vs ε h = tt
  statement_stands rs vs (q ⊳ ε) h = h.1.1
  statement_stands rs vs (q ⊳ r ⊳ qs) h = h.1.1.0.1.1

  plain_stands : (q : Tree) → is_plain_value q ≡ true → AllStand G K q
  plain_stands (node (NumLit z) ss ε) e = (tt, (refl, tt))
  plain_stands (node (StrLit t) ss ε) e = (tt, (refl, tt))
  plain_stands (node (BoolLit b) ss ε) e = (tt, (refl, tt))
  plain_stands (node NullLit ss ε) e = (tt, (refl, tt))
  plain_stands q e = absurd (false≢true e)

  -- places that are never shut

  -- an empty statement stays one
  empty_walk : {c : Bool} {rs : List Span} {b : Tree} → Walks (shake_pass S) c (node Empty rs ε) b → b ≡ node Empty rs ε
  empty_walk (walk.closed s) = refl
  empty_walk (walk.opened o w) = elim o [ ]
  empty_walk (walk.passes i (walk.plain p nothing)) = refl
  empty_walk (walk.stands (walk.plain p nothing) r) = refl
  empty_walk (walk.stepped (walk.plain p nothing) s) = elim s [ ]
  empty_walk (walk.passes i (walk.block e m)) = absurd (false≢true e)
  empty_walk (walk.stands (walk.block e m) r) = absurd (false≢true e)
  empty_walk (walk.stepped (walk.block e m) s) = absurd (false≢true e)

  var_done : {k : VarDeclKind} (ss : List Span) {ds : Forest} {b : Tree} → VarMade S G K k ds b → Shaken S G K (node (VarDecl k) ss ds) b
  var_done {k = k} ss (var_kept d) = declaration k d
  var_done {k = k} ss (var_left rs vs qs d) = first_values k rs vs qs d

  var_early : (k : VarDeclKind) {ds es : Forest} {b : Tree} (h : Sifts (Early S) ds es) → all_labels (is_declarator_of k) (labels_of ds) ≡ true → Fair G K (sifts_went h) → VarMade S G K k es b → VarMade S G K k ds b
  var_early k h a f (var_kept d) = var_kept (early_left k h a f d)
  var_early k h a f (var_left rs vs qs d) = var_left rs vs qs (early_left k h a f d)

  -- where a declaration steps, its values are bound as before
  values_bound : (k : VarDeclKind) {ss : List Span} {ds : Forest} (rs vs : List Span) (qs : Forest) → Bound G K (node (VarDecl k) ss ds) (as_statement rs vs qs) → AllBound G K ds qs
  unfolding own_scopes
  values_bound k rs vs qs h = record { by = λ x s. omega (arith, h.by x s, statement_scopes x rs vs qs) }

  declarators_bound : (k : VarDeclKind) {ss rs : List Span} {ds es : Forest} → Bound G K (node (VarDecl k) ss ds) (node (VarDecl k) rs es) → AllBound G K ds es
  unfolding own_scopes
  declarators_bound k h = record { by = λ x s. omega (arith, h.by x s) }

  unbound_bound : {t : Tree} (u : Tree) → Unbound G K t → Bound G K t u
  unbound_bound u h = record { by = λ x s. omega (arith, h.by x s) }

  moved : {t u b : Tree} → Opens S t u → is_expression (label_of t) ≡ true → Shaken S G K u b → Shaken S G K t b
  moved (rules.value {x = x} u e p) i h = opened (value_alone x u (known x u) e) h
  moved (rules.shielded {x = x} u e p) i h = opened (value_guarded x u (known x u) e) h
  moved (rules.value_of_value {x = x} u e o) i h = opened (value_alone x u (known x u) e) (moved o e h)
  moved (rules.declarators_open h c n) i g = absurd (false≢true i)
  moved (rules.declaration_opens c h) i g = absurd (false≢true i)

  -- what an expression becomes in front of its walk is shaped
  opened_shaped : {t u : Tree} → Opens S t u → is_expression (label_of t) ≡ true → is_shaped t ≡ true → is_shaped u ≡ true
  opened_shaped (rules.value {x = x} {ss = ss} {r = r} u e p) i a = shape_first r ε (shape_below (Assign Plain x) ss (r ⊳ ε) a)
  opened_shaped (rules.shielded {x = x} {ss = ss} {r = node l rs cs} u e p) i a = and_from (is_inner l && true) (is_shaped (node l rs cs) && true) (and_from (is_inner l) true (inner_expression l e) refl) (shape_below (Assign Plain x) ss (node l rs cs ⊳ ε) a)
  opened_shaped (rules.value_of_value {x = x} {ss = ss} {r = r} u e o) i a = opened_shaped o e (shape_first r ε (shape_below (Assign Plain x) ss (r ⊳ ε) a))
  opened_shaped (rules.declarators_open h c n) i a = absurd (false≢true i)
  opened_shaped (rules.declaration_opens c h) i a = absurd (false≢true i)

  -- what a function or an import was walked from

  no_function : {t u : Tree} (x : Name) → Opens S t u → label_of u ≡ FnDecl x → ⊥
  no_function x (rules.value u e p) q = false≢true (sym (ap is_expression q) ∙ e)
  no_function x (rules.shielded u e p) q = cc
  no_function x (rules.value_of_value u e o) q = no_function x o q
  no_function x (rules.declarators_open h c n) q = cc
  no_function x (rules.declaration_opens c h) q = cc

  no_statement_function : (x : Name) (rs vs : List Span) (qs : Forest) → label_of (as_statement rs vs qs) ≡ FnDecl x → ⊥
  no_statement_function x rs vs ε q = cc
  no_statement_function x rs vs (a ⊳ ε) q = cc
  no_statement_function x rs vs (a ⊳ b ⊳ qs) q = cc

  entered_label : {c : Bool} {t u : Tree} → Entered (shake_pass S) c t u → label_of t ≡ label_of u
  entered_label (walk.plain p ws) = refl
  entered_label (walk.exported d ws) = refl
  entered_label (walk.headed ds ws) = refl
  entered_label (walk.head_shut s ws) = refl
  entered_label (walk.imports u) = refl
  entered_label (walk.block b m) = refl

  shakes_function : {t u : Tree} (x : Name) → Shakes S t u → label_of u ≡ FnDecl x → ⊥
  shakes_function x (rules.declarators_go h c n) q = cc
  shakes_function x (rules.declaration_goes rs vs qs c h) q = no_statement_function x rs vs qs q
  shakes_function x (rules.specifiers_go h n) q = cc
  shakes_function x (rules.call_gives n) q = cc

  function_from : {c : Bool} {t u : Tree} (x : Name) → Walks (shake_pass S) c t u → label_of u ≡ FnDecl x → label_of t ≡ FnDecl x
  function_from x (walk.closed s) q = q
  function_from x (walk.opened o w) q = absurd (no_function x o (function_from x w q))
  function_from x (walk.passes i e) q = entered_label e ∙ q
  function_from x (walk.stands e r) q = entered_label e ∙ q
  function_from x (walk.stepped e s) q = absurd (shakes_function x s q)

  function_item : (t : Tree) (x : Name) {ts us : Forest} → label_of t ≡ FnDecl x → gone G K x ≡ true → ShakenItems S G K ts us → ShakenItems S G K (t ⊳ ts) us
  function_item (node l ss cs) x {ts} {us} q e d = subst (λ m. ShakenItems S G K (node m ss cs ⊳ ts) us) (sym q) (function_goes x e d)

  -- lists

  block_scopes : (l : Label) (x : Name) {ts vs : Forest} → is_block l ≡ true → KeepsAll ts vs → own_scopes x l vs ≤ own_scopes x l ts
  unfolding own_scopes
  block_scopes Block x {ts} {vs} e k = one_if_kept (list_binds ts x) (list_binds vs x) (list_binds_kept x k.list_kept)
  block_scopes Body x e k = omega arith
  block_scopes CaseBody x e k = omega arith
  block_scopes l x e k = absurd (false≢true e)

  block_bound : (l : Label) {ss rs : List Span} {ts vs : Forest} → is_block l ≡ true → KeepsAll ts vs → Bound G K (node l ss ts) (node l rs vs) → AllBound G K ts vs
  block_bound l e k h = record { by = λ x s. omega (arith, h.by x s, block_scopes l x e k) }

  -- the first item of a list of which more may go
  item_bound : {H : Tree → Type 0} {t u : Tree} {ts us vs : Forest} → AllKeep ts us → Sifts H us vs → AllBound G K (t ⊳ ts) (u ⊳ vs) → Bound G K t u
  item_bound ks h b = record { by = λ x s. omega (arith, b.by x s, all_scopes x ks, sift_scopes x h) }

  item_unbound : {H : Tree → Type 0} {t : Tree} {ts us vs : Forest} → AllKeep ts us → Sifts H us vs → AllBound G K (t ⊳ ts) vs → Unbound G K t
  item_unbound ks h b = record { by = λ x s. omega (arith, b.by x s, all_scopes x ks, sift_scopes x h) }

  left_unbound : {t : Tree} {ts us qs : Forest} → AllKeep ts us → Leaves S us qs → AllBound G K (t ⊳ ts) qs → Unbound G K t
  left_unbound ks h b = record { by = λ x s. omega (arith, b.by x s, all_scopes x ks, leaves_scopes x h) }

  left_bound : {t q : Tree} {ts us qs : Forest} → AllKeep ts us → Leaves S us qs → AllBound G K (t ⊳ ts) (q ⊳ qs) → Bound G K t q
  left_bound ks h b = record { by = λ x s. omega (arith, b.by x s, all_scopes x ks, leaves_scopes x h) }

  unbound_rest : {t : Tree} {ts us : Forest} → AllBound G K (t ⊳ ts) us → AllBound G K ts us
  unbound_rest b = record { by = λ x s. omega (arith, b.by x s) }

  declarator_value : (k : VarDeclKind) (x : Name) (ss : List Span) (r : Tree) {q : Tree} → Bound G K (node (Declarator k x) ss (r ⊳ ε)) q → Bound G K r q
  unfolding own_scopes
  declarator_value k x ss r b = record { by = λ y s. omega (arith, b.by y s) }

  declarator_nothing : (k : VarDeclKind) (x : Name) (ss : List Span) (r : Tree) → Unbound G K (node (Declarator k x) ss (r ⊳ ε)) → Unbound G K r
  unfolding own_scopes
  declarator_nothing k x ss r b = record { by = λ y s. omega (arith, b.by y s) }

  -- an import that goes

  no_import : {t u : Tree} (src : Text) → Opens S t u → label_of u ≡ Import src → ⊥
  no_import src (rules.value u e p) q = false≢true (sym (ap is_expression q) ∙ e)
  no_import src (rules.shielded u e p) q = cc
  no_import src (rules.value_of_value u e o) q = no_import src o q
  no_import src (rules.declarators_open h c n) q = cc
  no_import src (rules.declaration_opens c h) q = cc

  no_statement_import : (src : Text) (rs vs : List Span) (qs : Forest) → label_of (as_statement rs vs qs) ≡ Import src → ⊥
  no_statement_import src rs vs ε q = cc
  no_statement_import src rs vs (a ⊳ ε) q = cc
  no_statement_import src rs vs (a ⊳ b ⊳ qs) q = cc

  import_from : {c : Bool} {t u : Tree} (src : Text) → Walks (shake_pass S) c t u → label_of u ≡ Import src → label_of t ≡ Import src
  import_from src (walk.closed s) q = q
  import_from src (walk.opened o w) q = absurd (no_import src o (import_from src w q))
  import_from src (walk.passes i e) q = entered_label e ∙ q
  import_from src (walk.stands e r) q = entered_label e ∙ q
  import_from src (walk.stepped e (rules.declarators_go h c n)) q = cc
  import_from src (walk.stepped e (rules.declaration_goes rs vs qs c h)) q = absurd (no_statement_import src rs vs qs q)
  import_from src (walk.stepped e (rules.specifiers_go h n)) q = entered_label e ∙ q
  import_from src (walk.stepped e (rules.call_gives n)) q = cc

  import_here : (l : Label) (ss : List Span) (cs : Forest) (src : Text) → l ≡ Import src → is_shaped (node l ss cs) ≡ true → ImportMade G K (node l ss cs) (node l ss cs)
  import_here l ss cs src q a = subst (λ m. is_shaped (node m ss cs) ≡ true → ImportMade G K (node m ss cs) (node m ss cs)) (sym q) (λ b. made_import src (specifiers_itself (gone G K) cs) (shape_here (Import src) ss cs b)) a

  import_made : {c : Bool} {t u : Tree} (w : Walks (shake_pass S) c t u) {src : Text} → label_of u ≡ Import src → is_shaped t ≡ true → Fair G K (went S w) → ImportMade G K t u
  import_made (walk.closed {t = node l ss cs} s) {src} q a f = import_here l ss cs src q a
  import_made (walk.opened o w) {src} q a f = absurd (no_import src o (import_from src w q))
  import_made (walk.passes i (walk.plain {l = l} p ws)) q a f = absurd (false≢true (sym (ap walks_each q) ∙ p))
  import_made (walk.passes i (walk.exported d ws)) q a f = absurd (false≢true i)
  import_made (walk.passes i (walk.headed ds ws)) q a f = absurd (false≢true i)
  import_made (walk.passes i (walk.head_shut s ws)) q a f = absurd (false≢true i)
  import_made (walk.passes i (walk.imports u)) q a f = absurd (false≢true i)
  import_made (walk.passes i (walk.block e m)) q a f = absurd (false≢true (sym (ap is_block q) ∙ e))
  import_made (walk.stands (walk.plain p ws) r) q a f = absurd (false≢true (sym (ap walks_each q) ∙ p))
  import_made (walk.stands (walk.exported d ws) r) q a f = cc
  import_made (walk.stands (walk.headed ds ws) r) q a f = cc
  import_made (walk.stands (walk.head_shut s ws) r) q a f = cc
  import_made (walk.stands (walk.imports {src = src} {ss = ss} {ts = ts} u) r) q a f = import_here (Import src) ss ts src refl a
  import_made (walk.stands (walk.block e m) r) q a f = absurd (false≢true (sym (ap is_block q) ∙ e))
  import_made (walk.stepped e (rules.declarators_go h c n)) q a f = cc
  import_made (walk.stepped e (rules.declaration_goes rs vs qs c h)) {src} q a f = absurd (no_statement_import src rs vs qs q)
  import_made (walk.stepped e (rules.call_gives n)) q a f = cc
  import_made (walk.stepped (walk.plain p ws) (rules.specifiers_go h n)) q a f = absurd (false≢true p)
  import_made (walk.stepped (walk.block e m) (rules.specifiers_go h n)) q a f = absurd (false≢true e)
  import_made (walk.stepped (walk.imports {src = src} {ss = ss} {ts = ts} u) (rules.specifiers_go h n)) q a f =
      let p = shape_here (Import src) ss ts a in
      made_import src (sifted_away h p (fair_left (sifts_went h) [] f)) (sift_labels is_specifier h p)

  import_item : (cs : Forest) {src : Text} {rs : List Span} {t : Tree} {ts vs : Forest} → ImportMade G K t (node (Import src) rs cs) → S.drops_imports ≡ true → Fair G K (entries cs) → ShakenItems S G K ts vs → ShakenItems S G K (t ⊳ ts) vs
  import_item cs (made_import src h p) e f d = whole_import_goes src e (then_away h (all_away cs p f)) d

  -- declarations

  declaration_shaped : {H : Tree → Type 0} (k : VarDeclKind) (ss : List Span) {ds es : Forest} → Sifts H ds es → is_shaped (node (VarDecl k) ss ds) ≡ true → is_shaped (node (VarDecl k) ss es) ≡ true
  declaration_shaped k ss {ds} {es} h a = and_from (all_labels (is_declarator_of k) (labels_of es)) (are_shaped es) (sift_labels (is_declarator_of k) h (shape_here (VarDecl k) ss ds a)) (sift_shaped h (shape_below (VarDecl k) ss ds a))

  goes_plain : (k : VarDeclKind) (x : Name) (ss : List Span) (q : Tree) → GoesBehind S (node (Declarator k x) ss (q ⊳ ε)) → is_plain_value q ≡ true
  goes_plain k x ss q e = by_value (is_plain_value q) refl
    where
      by_value : (b : Bool) → is_plain_value q ≡ b → b ≡ true
      by_value true i = refl
      by_value false i = absurd (false≢true (sym (ap (λ b. any_of S.free (if b then x ∷ [] else [])) i) ∙ e))

  -- what stands behind a declarator of which the first value is left
  value_rest : {k : VarDeclKind} {x : Name} {ss : List Span} {t q : Tree} {ts qs : Forest} → Keeps t (node (Declarator k x) ss (q ⊳ ε)) → AllBound G K (t ⊳ ts) (q ⊳ qs) → AllBound G K ts qs
  unfolding own_scopes
  value_rest k b = record { by = λ y s. omega (arith, b.by y s, k.scopes_kept y) }

  open_keeps : {t u : Tree} → Opens S t u → Keeps t u
  open_keeps {t} {u} o = (opens_owe {S = S} {t = t} {u = u} o).keeps

  shake_keeps : {t u : Tree} → Shakes S t u → Keeps t u
  shake_keeps {t} {u} o = (shakes_owe {S = S} {t = t} {u = u} o).keeps

  -- a node whose children are walked one by one
  node_done : (l : Label) (ss : List Span) {ts us : Forest} → walks_each l ≡ true → AllKeep ts us → AllStand G K (node l ss us) → Bound G K (node l ss ts) (node l ss us) → (AllBound G K ts us → Each G K S.unread S.mark S.drops_imports ts us) → ((k : VarDeclKind) → AllBound G K ts us → ShakenDeclarators S G K k false ts us) → Shaken S G K (node l ss ts) (node l ss us)
  node_done (VarDecl k) ss p ks st b e d = declaration k (d k (declarators_bound k b))
  node_done Block ss p ks st b e d = absurd (false≢true p)
  node_done Body ss p ks st b e d = absurd (false≢true p)
  node_done CaseBody ss p ks st b e d = absurd (false≢true p)
  node_done ExportDecl ss p ks st b e d = absurd (false≢true p)
  node_done (Import src) ss p ks st b e d = absurd (false≢true p)
  node_done l ss p ks st b e d = same_node l refl st.0 (same_exports l p ks) (scoped G K S.unread l ks st.1.0 b) (e (bound_inside l ks b))

  -- a node whose children are statements
  block_done : (l : Label) (ss : List Span) {ts vs : Forest} → is_block l ≡ true → KeepsAll ts vs → Bound G K (node l ss ts) (node l ss vs) → (AllBound G K ts vs → ShakenItems S G K ts vs) → Shaken S G K (node l ss ts) (node l ss vs)
  block_done Block ss e k b h = same_list Block refl (h (block_bound Block refl k b))
  block_done Body ss e k b h = same_list Body refl (h (block_bound Body refl k b))
  block_done CaseBody ss e k b h = same_list CaseBody refl (h (block_bound CaseBody refl k b))
  block_done l ss e k b h = absurd (false≢true e)

  -- an item that goes
  one_item : (u : Tree) {c : Bool} {t : Tree} {ts vs : Forest} (w : Walks (shake_pass S) c t u) → ItemGoes S u → is_shaped t ≡ true → Unbound G K t → Fair G K (entries_of u) → Fair G K (went S w) → (AllStand G K u → Bound G K t u → Shaken S G K t u) → ShakenItems S G K ts vs → ShakenItems S G K (t ⊳ ts) vs
  one_item (node (FnDecl x) ss cs) {t = t} w e a b f g h d = function_item t x (function_from x w refl) (is_gone x f) d
  one_item (node Empty ss ε) w e a b f g h d = nothing_goes (h (tt, (refl, tt)) (unbound_bound (node Empty ss ε) b)) empty_statement d
  one_item (node Block ss ε) w e a b f g h d = nothing_goes (h (tt, (refl, tt)) (unbound_bound (node Block ss ε) b)) empty_block d
  one_item (node (Import src) ss cs) w e a b f g h d = import_item cs (import_made w refl a g) (and_parts S.drops_imports (rules.nothing_stays S cs) e).0 f d
  one_item (node l ss cs) w e a b f g h d = absurd (false≢true e)

  mutual
    pub mapped : {c : Bool} {t u : Tree} (w : Walks (shake_pass S) c t u) → is_shaped t ≡ true → AllStand G K u → Bound G K t u → Fair G K (went S w) → Shaken S G K t u
    mapped (walk.closed {t = t} s) a st b f = walked_itself t st
    mapped (walk.opened (rules.value {x = x} {ss = ss} {r = r} u e p) w) a st b f = moved (rules.value {x = x} {ss = ss} {r = r} u e p) refl (mapped w (opened_shaped (rules.value {x = x} {ss = ss} {r = r} u e p) refl a) st (bound_behind (open_keeps (rules.value {x = x} {ss = ss} {r = r} u e p)) b) f)
    mapped (walk.opened (rules.shielded {x = x} {ss = ss} {rs = rs} {zs = zs} {r = r} u e p) w) a st b f = moved (rules.shielded {x = x} {ss = ss} {rs = rs} {zs = zs} {r = r} u e p) refl (mapped w (opened_shaped (rules.shielded {x = x} {ss = ss} {rs = rs} {zs = zs} {r = r} u e p) refl a) st (bound_behind (open_keeps (rules.shielded {x = x} {ss = ss} {rs = rs} {zs = zs} {r = r} u e p)) b) f)
    mapped (walk.opened (rules.value_of_value {x = x} {ss = ss} {r = r} {u = v} u e o) w) a st b f = moved (rules.value_of_value {x = x} {ss = ss} {r = r} {u = v} u e o) refl (mapped w (opened_shaped (rules.value_of_value {x = x} {ss = ss} {r = r} {u = v} u e o) refl a) st (bound_behind (open_keeps (rules.value_of_value {x = x} {ss = ss} {r = r} {u = v} u e o)) b) f)
    mapped (walk.opened (rules.declarators_open {k = k} {ss = ss} {ds = ds} {es = es} h c n) w) a st b f = var_done ss (var_early k h (shape_here (VarDecl k) ss ds a) (fair_left (sifts_went h) (went S w) f) (var_mapped k ss w (declaration_shaped k ss h a) st (bound_behind (open_keeps (rules.declarators_open {k = k} {ss = ss} {ds = ds} {es = es} h c n)) b) (fair_right (sifts_went h) (went S w) f)))
    mapped (walk.opened (rules.declaration_opens {k = k} {ss = ss} {rs = rs} {ds = ds} c h) w) a st b f = subst (λ z. Shaken S G K (node (VarDecl k) ss ds) z) (sym (empty_walk w)) (var_done ss (var_left rs [] ε (early_left k h (shape_here (VarDecl k) ss ds a) (fair_left (sifts_went h) (went S w) f) no_declarator)))
    mapped (walk.passes i (walk.plain {l = l} {ss = ss} {ts = ts} p ws)) a st b f = node_done l ss p (all_keep ws) st b (λ bb. each_mapped ws (shape_below l ss ts a) st.1.1 bb f) (λ k bb. declarators_mapped k ws (shape_below l ss ts a) st.1.1 bb f)
    mapped (walk.passes i (walk.exported d ws)) a st b f = absurd (false≢true i)
    mapped (walk.passes i (walk.headed ds ws)) a st b f = absurd (false≢true i)
    mapped (walk.passes i (walk.head_shut s ws)) a st b f = absurd (false≢true i)
    mapped (walk.passes i (walk.imports u)) a st b f = absurd (false≢true i)
    mapped (walk.passes i (walk.block {l = l} {ss = ss} {ts = ts} e m)) a st b f = block_done l ss e (list_keeps_all m) b (λ bb. list_mapped m (shape_below l ss ts a) st.1.1 bb f)
    mapped (walk.stands (walk.plain {l = l} {ss = ss} {ts = ts} p ws) r) a st b f = node_done l ss p (all_keep ws) st b (λ bb. each_mapped ws (shape_below l ss ts a) st.1.1 bb f) (λ k bb. declarators_mapped k ws (shape_below l ss ts a) st.1.1 bb f)
    mapped (walk.stands (walk.exported {l = l} {ss = ss} {rs = rs} {ts = ts} d ws) r) a st b f = same_node ExportDecl refl tt (export_kept l rs d ws) tt (more (node_done l rs (declaration_plain l d) (all_keep ws) st.1.1.0 (bound_first none_kept (bound_inside ExportDecl (more_kept (keeps_inside l rs (all_keep ws)) none_kept) b)) (λ bb. each_mapped ws (shape_below l rs ts (shape_first (node l rs ts) ε (shape_below ExportDecl ss (node l rs ts ⊳ ε) a))) st.1.1.0.1.1 bb f) (λ k bb. declarators_mapped k ws (shape_below l rs ts (shape_first (node l rs ts) ε (shape_below ExportDecl ss (node l rs ts ⊳ ε) a))) st.1.1.0.1.1 bb f)) none)
    mapped (walk.stands (walk.headed {k = k} {ss = ss} {rs = rs} {ds = ds} {ts = ts} dw ws) r) a st b f =
        let ks = bound_inside For (more_kept (keeps_inside (VarDecl k) rs (all_keep dw)) (all_keep ws)) b in
        let sh = shape_below For ss (node (VarDecl k) rs ds ⊳ ts) a in
        same_node For refl tt tt tt (more (declaration k (declarators_mapped k dw (shape_below (VarDecl k) rs ds (shape_first (node (VarDecl k) rs ds) ts sh)) st.1.1.0.1.1 (declarators_bound k (bound_first (all_keep ws) ks)) (fair_left (trees_went S dw) (trees_went S ws) f))) (each_mapped ws (shape_rest (node (VarDecl k) rs ds) ts sh) st.1.1.1 (bound_rest (keeps_inside (VarDecl k) rs (all_keep dw)) ks) (fair_right (trees_went S dw) (trees_went S ws) f)))
    mapped (walk.stands (walk.head_shut {h = h} {ss = ss} {ts = ts} s ws) r) a st b f =
        let ks = bound_inside For (more_kept (keeps_itself h) (all_keep ws)) b in
        same_node For refl tt tt tt (more (walked_itself h st.1.1.0) (each_mapped ws (shape_rest h ts (shape_below For ss (h ⊳ ts) a)) st.1.1.1 (bound_rest (keeps_itself h) ks) f))
    mapped (walk.stands (walk.imports {src = src} {ts = ts} u) r) a st b f = same_import src (specifiers_itself (gone G K) ts)
    mapped (walk.stands (walk.block {l = l} {ss = ss} {ts = ts} e m) r) a st b f = block_done l ss e (list_keeps_all m) b (λ bb. list_mapped m (shape_below l ss ts a) st.1.1 bb f)
    mapped (walk.stepped (walk.plain {ts = ts} p ws) (rules.declarators_go {k = k} {ss = ss} h c n)) a st b f = declaration k (sifted_declarators k ws h (shape_here (VarDecl k) ss ts a) (shape_below (VarDecl k) ss ts a) st.1.1 (declarators_bound k b) (fair_left (sifts_went h) (trees_went S ws) f) (fair_right (sifts_went h) (trees_went S ws) f))
    mapped (walk.stepped (walk.plain {ts = ts} p ws) (rules.declaration_goes {k = k} {ss = ss} {ds = ds} rs vs qs c h)) a st b f = first_values k rs vs qs (values_mapped k ws h (shape_here (VarDecl k) ss ts a) (shape_below (VarDecl k) ss ts a) (statement_stands rs vs qs st) (values_bound k rs vs qs b) (fair_left (trees_entries ds) (trees_went S ws) f) (fair_right (trees_entries ds) (trees_went S ws) f))
    mapped (walk.stepped (walk.plain p ws) (rules.specifiers_go h n)) a st b f = absurd (false≢true p)
    mapped (walk.stepped (walk.plain {ts = ts} p ws) (rules.call_gives {ss = ss} {fs = fs} {ps = ps} {bs = bs} {rs = rs} {os = os} {props = props} n)) a st b f =
        called {ss = ss} {fs = fs} {ps = ps} {bs = bs} {rs = rs} {os = os} n (same_node Call refl tt tt tt (each_mapped ws (shape_below Call ss ts a) ((tt, (refl, ((tt, (refl, tt)), ((tt, (refl, ((tt, (refl, (st, tt))), tt))), tt)))), tt) (bound_inside Call (all_keep ws) (bound_before (shake_keeps (rules.call_gives {ss = ss} {fs = fs} {ps = ps} {bs = bs} {rs = rs} {os = os} {props = props} n)) b)) f))
    mapped (walk.stepped (walk.exported d ws) s) a st b f = elim s [ ]
    mapped (walk.stepped (walk.headed ds ws) s) a st b f = elim s [ ]
    mapped (walk.stepped (walk.head_shut i ws) s) a st b f = elim s [ ]
    mapped (walk.stepped (walk.imports {src = src} {ss = ss} {ts = ts} u) (rules.specifiers_go h n)) a st b f = same_import src (sifted_away h (shape_here (Import src) ss ts a) (fair_left (sifts_went h) [] f))
    mapped (walk.stepped (walk.block e m) (rules.declarators_go h c n)) a st b f = absurd (false≢true e)
    mapped (walk.stepped (walk.block e m) (rules.declaration_goes rs vs qs c h)) a st b f = absurd (false≢true e)
    mapped (walk.stepped (walk.block e m) (rules.specifiers_go h n)) a st b f = absurd (false≢true e)
    mapped (walk.stepped (walk.block e m) (rules.call_gives n)) a st b f = absurd (false≢true e)

    each_mapped : {c : Bool} {ts us : Forest} (ws : AllWalk (shake_pass S) c ts us) → are_shaped ts ≡ true → AllStandIn G K us → AllBound G K ts us → Fair G K (trees_went S ws) → Each G K S.unread S.mark S.drops_imports ts us
    each_mapped nothing a st b f = none
    each_mapped (both {t = t} {ts = ts} w ws) a st b f = more (mapped w (shape_first t ts a) st.0 (bound_first (all_keep ws) b) (fair_left (went S w) (trees_went S ws) f)) (each_mapped ws (shape_rest t ts a) st.1 (bound_rest (walks_keep w) b) (fair_right (went S w) (trees_went S ws) f))

    declarators_mapped : (k : VarDeclKind) {c : Bool} {ts us : Forest} (ws : AllWalk (shake_pass S) c ts us) → are_shaped ts ≡ true → AllStandIn G K us → AllBound G K ts us → Fair G K (trees_went S ws) → ShakenDeclarators S G K k false ts us
    declarators_mapped k nothing a st b f = no_declarator
    declarators_mapped k (both {t = t} {ts = ts} w ws) a st b f = declarator (mapped w (shape_first t ts a) st.0 (bound_first (all_keep ws) b) (fair_left (went S w) (trees_went S ws) f)) (declarators_mapped k ws (shape_rest t ts a) st.1 (bound_rest (walks_keep w) b) (fair_right (went S w) (trees_went S ws) f))

    -- lists
    pub list_mapped : {l : Label} {c : Bool} {ts vs : Forest} (m : ListMade (shake_pass S) l c ts vs) → are_shaped ts ≡ true → AllStandIn G K vs → AllBound G K ts vs → Fair G K (made_went S m) → ShakenItems S G K ts vs
    list_mapped (walk.listed ws t) a st b f = items_mapped ws a st b f
    list_mapped (walk.tidied ws (items_go h n)) a st b f = sifted_items ws h a st b (fair_left (sifts_went h) (trees_went S ws) f) (fair_right (sifts_went h) (trees_went S ws) f)

    items_mapped : {c : Bool} {ts us : Forest} (ws : AllWalk (shake_pass S) c ts us) → are_shaped ts ≡ true → AllStandIn G K us → AllBound G K ts us → Fair G K (trees_went S ws) → ShakenItems S G K ts us
    items_mapped nothing a st b f = no_item
    items_mapped (both {t = t} {ts = ts} w ws) a st b f = item (mapped w (shape_first t ts a) st.0 (bound_first (all_keep ws) b) (fair_left (went S w) (trees_went S ws) f)) (items_mapped ws (shape_rest t ts a) st.1 (bound_rest (walks_keep w) b) (fair_right (went S w) (trees_went S ws) f))

    sifted_items : {c : Bool} {ts us vs : Forest} (ws : AllWalk (shake_pass S) c ts us) (h : Sifts (ItemGoes S) us vs) → are_shaped ts ≡ true → AllStandIn G K vs → AllBound G K ts vs → Fair G K (sifts_went h) → Fair G K (trees_went S ws) → ShakenItems S G K ts vs
    sifted_items nothing sifted a st b f g = no_item
    sifted_items (both {t = t} {ts = ts} w ws) (stays_there h) a st b f g = item (mapped w (shape_first t ts a) st.0 (item_bound (all_keep ws) h b) (fair_left (went S w) (trees_went S ws) g)) (sifted_items ws h (shape_rest t ts a) st.1 (bound_rest (walks_keep w) b) f (fair_right (went S w) (trees_went S ws) g))
    sifted_items (both {t = t} {u = u} {ts = ts} w ws) (goes_there e h) a st b f g = one_item u w e (shape_first t ts a) (item_unbound (all_keep ws) h b) (fair_left (entries_of u) (sifts_went h) f) (fair_left (went S w) (trees_went S ws) g) (λ st bb. mapped w (shape_first t ts a) st bb (fair_left (went S w) (trees_went S ws) g)) (sifted_items ws h (shape_rest t ts a) st (unbound_rest b) (fair_right (entries_of u) (sifts_went h) f) (fair_right (went S w) (trees_went S ws) g))

    -- declarations
    var_mapped : (k : VarDeclKind) (ss : List Span) {c : Bool} {ds : Forest} {u : Tree} (w : Walks (shake_pass S) c (node (VarDecl k) ss ds) u) → is_shaped (node (VarDecl k) ss ds) ≡ true → AllStand G K u → Bound G K (node (VarDecl k) ss ds) u → Fair G K (went S w) → VarMade S G K k ds u
    var_mapped k ss {ds = ds} (walk.closed s) a st b f = absurd (false≢true (sym (declaration_unshut k ss ds) ∙ s))
    var_mapped k ss {ds = ds} (walk.opened (rules.declarators_open {es = es} h c n) w) a st b f = var_early k h (shape_here (VarDecl k) ss ds a) (fair_left (sifts_went h) (went S w) f) (var_mapped k ss w (declaration_shaped k ss h a) st (bound_behind (open_keeps (rules.declarators_open {k = k} {ss = ss} {ds = ds} {es = es} h c n)) b) (fair_right (sifts_went h) (went S w) f))
    var_mapped k ss {ds = ds} (walk.opened (rules.declaration_opens {rs = rs} c h) w) a st b f = subst (λ z. VarMade S G K k ds z) (sym (empty_walk w)) (var_left rs [] ε (early_left k h (shape_here (VarDecl k) ss ds a) (fair_left (sifts_went h) (went S w) f) no_declarator))
    var_mapped k ss (walk.passes i (walk.plain p ws)) a st b f = absurd (false≢true i)
    var_mapped k ss (walk.passes i (walk.block e m)) a st b f = absurd (false≢true e)
    var_mapped k ss {ds = ds} (walk.stands (walk.plain p ws) r) a st b f = var_kept (declarators_mapped k ws (shape_below (VarDecl k) ss ds a) st.1.1 (declarators_bound k b) f)
    var_mapped k ss (walk.stands (walk.block e m) r) a st b f = absurd (false≢true e)
    var_mapped k ss {ds = ds} (walk.stepped (walk.plain p ws) (rules.declarators_go h c n)) a st b f = var_kept (sifted_declarators k ws h (shape_here (VarDecl k) ss ds a) (shape_below (VarDecl k) ss ds a) st.1.1 (declarators_bound k b) (fair_left (sifts_went h) (trees_went S ws) f) (fair_right (sifts_went h) (trees_went S ws) f))
    var_mapped k ss {ds = ds} (walk.stepped (walk.plain p ws) (rules.declaration_goes {ds = es} rs vs qs c h)) a st b f = var_left rs vs qs (values_mapped k ws h (shape_here (VarDecl k) ss ds a) (shape_below (VarDecl k) ss ds a) (statement_stands rs vs qs st) (values_bound k rs vs qs b) (fair_left (trees_entries es) (trees_went S ws) f) (fair_right (trees_entries es) (trees_went S ws) f))
    var_mapped k ss (walk.stepped (walk.block e m) s) a st b f = absurd (false≢true e)

    sifted_declarators : (k : VarDeclKind) {c : Bool} {ts us vs : Forest} (ws : AllWalk (shake_pass S) c ts us) (h : Sifts (GoesBehind S) us vs) → all_labels (is_declarator_of k) (labels_of ts) ≡ true → are_shaped ts ≡ true → AllStandIn G K vs → AllBound G K ts vs → Fair G K (sifts_went h) → Fair G K (trees_went S ws) → ShakenDeclarators S G K k false ts vs
    sifted_declarators k nothing sifted p a st b f g = no_declarator
    sifted_declarators k (both {t = node l ss cs} {ts = ts} w ws) (stays_there h) p a st b f g = declarator (mapped w (shape_first (node l ss cs) ts a) st.0 (item_bound (all_keep ws) h b) (fair_left (went S w) (trees_went S ws) g)) (sifted_declarators k ws h (and_parts (is_declarator_of k l) (all_labels (is_declarator_of k) (labels_of ts)) p).1 (shape_rest (node l ss cs) ts a) st.1 (bound_rest (walks_keep w) b) f (fair_right (went S w) (trees_went S ws) g))
    sifted_declarators Var (both {t = node (Declarator Var x) ss cs} {u = u} {ts = ts} w ws) (goes_there e h) p a st b f g = this_declarator Var x ss cs u w e (shape_first (node (Declarator Var x) ss cs) ts a) (item_unbound (all_keep ws) h b) (fair_left (entries_of u) (sifts_went h) f) (fair_left (went S w) (trees_went S ws) g) (sifted_declarators Var ws h p (shape_rest (node (Declarator Var x) ss cs) ts a) st (unbound_rest b) (fair_right (entries_of u) (sifts_went h) f) (fair_right (went S w) (trees_went S ws) g))
    sifted_declarators Let (both {t = node (Declarator Let x) ss cs} {u = u} {ts = ts} w ws) (goes_there e h) p a st b f g = this_declarator Let x ss cs u w e (shape_first (node (Declarator Let x) ss cs) ts a) (item_unbound (all_keep ws) h b) (fair_left (entries_of u) (sifts_went h) f) (fair_left (went S w) (trees_went S ws) g) (sifted_declarators Let ws h p (shape_rest (node (Declarator Let x) ss cs) ts a) st (unbound_rest b) (fair_right (entries_of u) (sifts_went h) f) (fair_right (went S w) (trees_went S ws) g))
    sifted_declarators Const (both {t = node (Declarator Const x) ss cs} {u = u} {ts = ts} w ws) (goes_there e h) p a st b f g = this_declarator Const x ss cs u w e (shape_first (node (Declarator Const x) ss cs) ts a) (item_unbound (all_keep ws) h b) (fair_left (entries_of u) (sifts_went h) f) (fair_left (went S w) (trees_went S ws) g) (sifted_declarators Const ws h p (shape_rest (node (Declarator Const x) ss cs) ts a) st (unbound_rest b) (fair_right (entries_of u) (sifts_went h) f) (fair_right (went S w) (trees_went S ws) g))
    sifted_declarators k (both {t = node l ss cs} w ws) (goes_there e h) p a st b f g = absurd (false≢true p)

    values_mapped : (k : VarDeclKind) {c : Bool} {ts us qs : Forest} (ws : AllWalk (shake_pass S) c ts us) (h : Leaves S us qs) → all_labels (is_declarator_of k) (labels_of ts) ≡ true → are_shaped ts ≡ true → AllStandIn G K qs → AllBound G K ts qs → Fair G K (trees_entries us) → Fair G K (trees_went S ws) → ShakenDeclarators S G K k true ts (statements qs)
    values_mapped k nothing rules.nothing_left p a st b f g = no_declarator
    values_mapped Var (both {t = node (Declarator Var x) ss cs} {u = u} {ts = ts} {us = us} w ws) (rules.goes_with_value e h) p a st b f g = this_declarator Var x ss cs u w e (shape_first (node (Declarator Var x) ss cs) ts a) (left_unbound (all_keep ws) h b) (fair_left (entries_of u) (trees_entries us) f) (fair_left (went S w) (trees_went S ws) g) (values_mapped Var ws h p (shape_rest (node (Declarator Var x) ss cs) ts a) st (unbound_rest b) (fair_right (entries_of u) (trees_entries us) f) (fair_right (went S w) (trees_went S ws) g))
    values_mapped Let (both {t = node (Declarator Let x) ss cs} {u = u} {ts = ts} {us = us} w ws) (rules.goes_with_value e h) p a st b f g = this_declarator Let x ss cs u w e (shape_first (node (Declarator Let x) ss cs) ts a) (left_unbound (all_keep ws) h b) (fair_left (entries_of u) (trees_entries us) f) (fair_left (went S w) (trees_went S ws) g) (values_mapped Let ws h p (shape_rest (node (Declarator Let x) ss cs) ts a) st (unbound_rest b) (fair_right (entries_of u) (trees_entries us) f) (fair_right (went S w) (trees_went S ws) g))
    values_mapped Const (both {t = node (Declarator Const x) ss cs} {u = u} {ts = ts} {us = us} w ws) (rules.goes_with_value e h) p a st b f g = this_declarator Const x ss cs u w e (shape_first (node (Declarator Const x) ss cs) ts a) (left_unbound (all_keep ws) h b) (fair_left (entries_of u) (trees_entries us) f) (fair_left (went S w) (trees_went S ws) g) (values_mapped Const ws h p (shape_rest (node (Declarator Const x) ss cs) ts a) st (unbound_rest b) (fair_right (entries_of u) (trees_entries us) f) (fair_right (went S w) (trees_went S ws) g))
    values_mapped k (both {t = node l ss cs} w ws) (rules.goes_with_value e h) p a st b f g = absurd (false≢true p)
    values_mapped Var (both {t = node (Declarator Var x) ss cs} {u = u} {ts = ts} {us = us} w ws) (rules.value_left {r = r} e h) p a st b f g = this_value Var x ss cs u w r refl (shape_first (node (Declarator Var x) ss cs) ts a) st.0 (left_bound (all_keep ws) h b) (fair_left (entries_of u) (trees_entries us) f) (fair_left (went S w) (trees_went S ws) g) (values_mapped Var ws h p (shape_rest (node (Declarator Var x) ss cs) ts a) st.1 (value_rest (walks_keep w) b) (fair_right (entries_of u) (trees_entries us) f) (fair_right (went S w) (trees_went S ws) g))
    values_mapped Let (both {t = node (Declarator Let x) ss cs} {u = u} {ts = ts} {us = us} w ws) (rules.value_left {r = r} e h) p a st b f g = this_value Let x ss cs u w r refl (shape_first (node (Declarator Let x) ss cs) ts a) st.0 (left_bound (all_keep ws) h b) (fair_left (entries_of u) (trees_entries us) f) (fair_left (went S w) (trees_went S ws) g) (values_mapped Let ws h p (shape_rest (node (Declarator Let x) ss cs) ts a) st.1 (value_rest (walks_keep w) b) (fair_right (entries_of u) (trees_entries us) f) (fair_right (went S w) (trees_went S ws) g))
    values_mapped Const (both {t = node (Declarator Const x) ss cs} {u = u} {ts = ts} {us = us} w ws) (rules.value_left {r = r} e h) p a st b f g = this_value Const x ss cs u w r refl (shape_first (node (Declarator Const x) ss cs) ts a) st.0 (left_bound (all_keep ws) h b) (fair_left (entries_of u) (trees_entries us) f) (fair_left (went S w) (trees_went S ws) g) (values_mapped Const ws h p (shape_rest (node (Declarator Const x) ss cs) ts a) st.1 (value_rest (walks_keep w) b) (fair_right (entries_of u) (trees_entries us) f) (fair_right (went S w) (trees_went S ws) g))
    values_mapped k (both {t = node l ss cs} w ws) (rules.value_left e h) p a st b f g = absurd (false≢true p)

    -- a declarator that goes
    this_declarator : (k : VarDeclKind) (x : Name) (ss : List Span) (cs : Forest) (u : Tree) {c d : Bool} {ts vs : Forest} (w : Walks (shake_pass S) c (node (Declarator k x) ss cs) u) → GoesBehind S u → is_shaped (node (Declarator k x) ss cs) ≡ true → Unbound G K (node (Declarator k x) ss cs) → Fair G K (entries_of u) → Fair G K (went S w) → ShakenDeclarators S G K k d ts vs → ShakenDeclarators S G K k d (node (Declarator k x) ss cs ⊳ ts) vs
    this_declarator k x ss cs u (walk.closed s) e a b f g r = absurd (false≢true (sym (declarator_unshut k x ss cs) ∙ s))
    this_declarator k x ss cs u (walk.opened o w) e a b f g r = elim o [ ]
    this_declarator k x ss cs u (walk.passes i (walk.plain p nothing)) e a b f g r = unset_goes k x (var_goes k x f) r
    this_declarator k x ss cs u (walk.passes i (walk.plain p (both {t = v} {u = q} w nothing))) e a b f g r = value_goes k x (var_goes k x f) (mapped w (shape_first v ε (shape_below (Declarator k x) ss (v ⊳ ε) a)) (plain_stands q (goes_plain k x ss q e)) (unbound_bound q (declarator_nothing k x ss v b)) (fair_left (went S w) [] g)) (plain_pure S.mark q (goes_plain k x ss q e)) r
    this_declarator k x ss cs u (walk.passes i (walk.plain p (both w (both v ws)))) e a b f g r = absurd (false≢true e)
    this_declarator k x ss cs u (walk.passes i (walk.block z m)) e a b f g r = absurd (false≢true z)
    this_declarator k x ss cs u (walk.stands (walk.plain p nothing) z) e a b f g r = unset_goes k x (var_goes k x f) r
    this_declarator k x ss cs u (walk.stands (walk.plain p (both {t = v} {u = q} w nothing)) z) e a b f g r = value_goes k x (var_goes k x f) (mapped w (shape_first v ε (shape_below (Declarator k x) ss (v ⊳ ε) a)) (plain_stands q (goes_plain k x ss q e)) (unbound_bound q (declarator_nothing k x ss v b)) (fair_left (went S w) [] g)) (plain_pure S.mark q (goes_plain k x ss q e)) r
    this_declarator k x ss cs u (walk.stands (walk.plain p (both w (both v ws))) z) e a b f g r = absurd (false≢true e)
    this_declarator k x ss cs u (walk.stands (walk.block z m) y) e a b f g r = absurd (false≢true z)
    this_declarator k x ss cs u (walk.stepped (walk.plain p ws) s) e a b f g r = elim s [ ]
    this_declarator k x ss cs u (walk.stepped (walk.block z m) s) e a b f g r = absurd (false≢true z)

    -- a declarator of which the first value is left
    this_value : (k : VarDeclKind) (x : Name) (ss : List Span) (cs : Forest) (u : Tree) {c : Bool} {ts vs : Forest} (w : Walks (shake_pass S) c (node (Declarator k x) ss cs) u) (q : Tree) → children_of u ≡ (q ⊳ ε) → is_shaped (node (Declarator k x) ss cs) ≡ true → AllStand G K q → Bound G K (node (Declarator k x) ss cs) q → Fair G K (entries_of u) → Fair G K (went S w) → ShakenDeclarators S G K k true ts vs → ShakenDeclarators S G K k true (node (Declarator k x) ss cs ⊳ ts) (node ExprStmt [] (q ⊳ ε) ⊳ vs)
    this_value k x ss cs u (walk.closed s) q i a st b f g r = absurd (false≢true (sym (declarator_unshut k x ss cs) ∙ s))
    this_value k x ss cs u (walk.opened o w) q i a st b f g r = elim o [ ]
    this_value k x ss cs u (walk.passes j (walk.plain p nothing)) q i a st b f g r = absurd (no_tree_is i)
    this_value k x ss cs u {ts = ts} {vs = vs} (walk.passes j (walk.plain p (both {t = v} {u = y} w nothing))) q i a st b f g r = subst (λ z. ShakenDeclarators S G K k true (node (Declarator k x) ss (v ⊳ ε) ⊳ ts) (node ExprStmt [] (z ⊳ ε) ⊳ vs)) (first_is i) (value_left k x (var_goes k x f) (mapped w (shape_first v ε (shape_below (Declarator k x) ss (v ⊳ ε) a)) (subst (λ z. AllStand G K z) (sym (first_is i)) st) (declarator_value k x ss v (subst (λ z. Bound G K (node (Declarator k x) ss (v ⊳ ε)) z) (sym (first_is i)) b)) (fair_left (went S w) [] g)) r)
    this_value k x ss cs u (walk.passes j (walk.plain p (both w (both v ws)))) q i a st b f g r = absurd (more_trees_are i)
    this_value k x ss cs u (walk.passes j (walk.block z m)) q i a st b f g r = absurd (false≢true z)
    this_value k x ss cs u (walk.stands (walk.plain p nothing) z) q i a st b f g r = absurd (no_tree_is i)
    this_value k x ss cs u {ts = ts} {vs = vs} (walk.stands (walk.plain p (both {t = v} {u = y} w nothing)) z) q i a st b f g r = subst (λ z. ShakenDeclarators S G K k true (node (Declarator k x) ss (v ⊳ ε) ⊳ ts) (node ExprStmt [] (z ⊳ ε) ⊳ vs)) (first_is i) (value_left k x (var_goes k x f) (mapped w (shape_first v ε (shape_below (Declarator k x) ss (v ⊳ ε) a)) (subst (λ z. AllStand G K z) (sym (first_is i)) st) (declarator_value k x ss v (subst (λ z. Bound G K (node (Declarator k x) ss (v ⊳ ε)) z) (sym (first_is i)) b)) (fair_left (went S w) [] g)) r)
    this_value k x ss cs u (walk.stands (walk.plain p (both w (both v ws))) z) q i a st b f g r = absurd (more_trees_are i)
    this_value k x ss cs u (walk.stands (walk.block z m) y) q i a st b f g r = absurd (false≢true z)
    this_value k x ss cs u (walk.stepped (walk.plain p ws) s) q i a st b f g r = elim s [ ]
    this_value k x ss cs u (walk.stepped (walk.block z m) s) q i a st b f g r = absurd (false≢true z)
