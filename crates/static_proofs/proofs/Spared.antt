-- What a walk by sparing steps makes spares the same names.
use Rattle.std.proofs.Common.{◌≡◌, Bool, true, false, ◌||◌, if◌then◌else◌, List, [], ◌∷◌, ◌++◌, Option, Some, None, refl, sym, ap, ap₂, subst, ◌∙◌, ◌⊎◌, inl, inr}
use Rattle.std.proofs.lemmas.Bool.{and_parts, and_from, or_cases, or_left, or_right, false≢true}
use Rattle.swc_ast.specs.declared.Span.{Span}
use Rattle.swc_ast.specs.declared.VarDeclKind.TheVariants.{Var, Let, Const}
use Rattle.swc_ast.specs.Tree.{Name, same_name, Label, Import, ImportNamed, ImportDefault, ImportStar, ExportNamed, ExportSpecifier, ExportDecl, FnDecl, ExportDefaultFn, ExportDefaultExpr, VarDecl, Declarator, Module, Tree, node, Forest, ε, ◌⊳◌, children_of, Absent}
use Rattle.swc_ast.specs.Scope.{has_name, vars_all, own_vars, holds_statements, declared, declared_by_label, as_lexicals, declarator_name, declarator_names, imported_name, specifier_names, import_names_of, import_names, list_binds, body_declares, module_binds}
use Rattle.swc_ast.specs.Resolved.{first_names, specifier_bound, exports_bound, own_exports_bound}
use Rattle.swc_ast.specs.Core.{list_names}
use Rattle.static_proofs.specs.Names.{Within, names_of, frame_label, frame}
use Rattle.static_proofs.specs.Spares.{Spared, export_name, export_names, exports_by, exports_all, exports_of, SparedPart, Spares, AllSpare, none_spared, more_spared}
use Rattle.static_proofs.specs.Walks.{Walks, AllWalk, inside, then, early, nothing, both}
use Rattle.static_proofs.proofs.Names.{within_same, within_append, within_trans, same_name_path, same_name_itself, has_name_append, found_first}
use Rattle.static_proofs.proofs.Parts.{names_cons}

-- names of lists

pub spared_same : {P : Name → Type 0} (xs : List Name) → Spared P xs xs
spared_same xs = record { by = λ x p h. h }

pub spared_path : {P : Name → Type 0} {xs ys : List Name} → xs ≡ ys → Spared P xs ys
spared_path {P} {xs} {ys} e = record { by = λ x p h. subst (λ z. has_name x z ≡ true) e h }

pub spared_none : {P : Name → Type 0} (ys : List Name) → Spared P [] ys
spared_none ys = record { by = λ x p h. absurd (false≢true h) }

pub spared_then : {P : Name → Type 0} {xs ys zs : List Name} → Spared P xs ys → Spared P ys zs → Spared P xs zs
spared_then f g = record { by = λ x p h. g.by x p (f.by x p h) }

pub spared_append : {P : Name → Type 0} {xs ys us vs : List Name} → Spared P xs us → Spared P ys vs → Spared P (xs ++ ys) (us ++ vs)
spared_append {P} {xs} {ys} {us} {vs} f g = record { by = λ x p h. sides x p (or_cases (has_name x xs) (has_name x ys) (sym (has_name_append x xs ys) ∙ h)) }
  where
    sides : (x : Name) → P x → (has_name x xs ≡ true) ⊎ (has_name x ys ≡ true) → has_name x (us ++ vs) ≡ true
    sides x p (inl h) = has_name_append x us vs ∙ or_left (has_name x us) (has_name x vs) (f.by x p h)
    sides x p (inr h) = has_name_append x us vs ∙ or_right (has_name x us) (has_name x vs) (g.by x p h)

pub spared_vars : {P : Name → Type 0} {ts us : Forest} → AllSpare P ts us → Spared P (vars_all ts) (vars_all us)
spared_vars none_spared = spared_same []
spared_vars (more_spared k ks) = spared_append k.vars_spared (spared_vars ks)

pub spared_names : {P : Name → Type 0} {ts us : Forest} → AllSpare P ts us → Spared P (list_names ts) (list_names us)
spared_names none_spared = spared_same []
spared_names {P} (more_spared {t = t} {u = u} {ts = ts} {us = us} k ks) = subst (λ z. Spared P z (list_names (u ⊳ us))) (sym (names_cons t ts)) (subst (λ z. Spared P (names_of t ++ list_names ts) z) (sym (names_cons u us)) (spared_append k.names_spared (spared_names ks)))

-- parts by their frames

abbrev declarators_by : Option Label → List Name
declarators_by (Some (Declarator kind x)) = x ∷ []
declarators_by _ = []

declarators_of_label : (l : Label) → declarator_name l ≡ declarators_by (frame_label l)
declarators_of_label (Declarator kind x) = refl
declarators_of_label ExportNamed = refl
declarators_of_label l = refl

same_declarators : {P : Name → Type 0} {ts us : Forest} → AllSpare P ts us → declarator_names ts ≡ declarator_names us
same_declarators none_spared = refl
same_declarators (more_spared {t = node l ss cs} {u = node m rs ds} k ks) = ap₂ ◌++◌ (declarators_of_label l ∙ ap declarators_by (sym k.frame_spared) ∙ sym (declarators_of_label m)) (same_declarators ks)

abbrev specifiers_by : Option Label → List Name
specifiers_by (Some (ImportNamed x i)) = x ∷ []
specifiers_by (Some (ImportDefault x)) = x ∷ []
specifiers_by (Some (ImportStar x)) = x ∷ []
specifiers_by _ = []

specifiers_of_label : (l : Label) → imported_name l ≡ specifiers_by (frame_label l)
specifiers_of_label (ImportNamed x i) = refl
specifiers_of_label (ImportDefault x) = refl
specifiers_of_label (ImportStar x) = refl
specifiers_of_label Absent = refl
specifiers_of_label l = refl

same_specifiers : {P : Name → Type 0} {ts us : Forest} → AllSpare P ts us → specifier_names ts ≡ specifier_names us
same_specifiers none_spared = refl
same_specifiers (more_spared {t = node l ss cs} {u = node m rs ds} k ks) = ap₂ ◌++◌ (specifiers_of_label l ∙ ap specifiers_by (sym k.frame_spared) ∙ sym (specifiers_of_label m)) (same_specifiers ks)

abbrev exported_by : Option Label → List Name
exported_by (Some (ExportSpecifier x i)) = x ∷ []
exported_by _ = []

exported_of_label : (l : Label) → export_name l ≡ exported_by (frame_label l)
exported_of_label (ExportSpecifier x i) = refl
exported_of_label Absent = refl
exported_of_label l = refl

same_exported : {P : Name → Type 0} {ts us : Forest} → AllSpare P ts us → export_names us ≡ export_names ts
same_exported none_spared = refl
same_exported (more_spared {t = node l ss cs} {u = node m rs ds} k ks) = ap₂ ◌++◌ (exported_of_label m ∙ ap exported_by k.frame_spared ∙ sym (exported_of_label l)) (same_exported ks)

abbrev imports_in : Option Label → Forest → List Name
imports_in (Some (Import src)) cs = specifier_names cs
imports_in _ cs = []

imports_of_label : (l : Label) (cs : Forest) → import_names_of l cs ≡ imports_in (frame_label l) cs
imports_of_label (Import src) cs = refl
imports_of_label Absent cs = refl
imports_of_label l cs = refl

imports_spared : {P : Name → Type 0} (f : Option Label) (cs ds : Forest) → SparedPart P f cs ds → Spared P (imports_in f cs) (imports_in f ds)
imports_spared (Some (Import src)) cs ds h = h
imports_spared f cs ds h = spared_same []

pub spared_imports : {P : Name → Type 0} {ts us : Forest} → AllSpare P ts us → Spared P (import_names ts) (import_names us)
spared_imports none_spared = spared_same []
spared_imports {P} (more_spared {t = node l ss cs} {u = node m rs ds} k ks) = spared_append (spared_then (spared_path (imports_of_label l cs)) (spared_then (imports_spared (frame_label l) cs ds k.part_spared) (spared_path (ap (λ f. imports_in f ds) (sym k.frame_spared) ∙ sym (imports_of_label m ds))))) (spared_imports ks)

abbrev exports_in : Option Label → Forest → List Name
exports_in (Some ExportNamed) cs = export_names cs
exports_in _ cs = []

exports_of_label : (l : Label) (cs : Forest) → exports_by l cs ≡ exports_in (frame_label l) cs
exports_of_label ExportNamed cs = refl
exports_of_label Absent cs = refl
exports_of_label l cs = refl

exports_within : (P : Name → Type 0) (f : Option Label) (cs ds : Forest) → SparedPart P f cs ds → Within (exports_in f ds) (exports_in f cs)
exports_within P (Some ExportNamed) cs ds h = h
exports_within P f cs ds h = within_same []

pub all_exports : {P : Name → Type 0} {ts us : Forest} → AllSpare P ts us → Within (exports_all us) (exports_all ts)
all_exports none_spared = within_same []
all_exports {P} (more_spared {t = node l ss cs} {u = node m rs ds} k ks) = within_append (subst (λ z. Within z (exports_by l cs)) (sym (exports_of_label m ds ∙ ap (λ f. exports_in f ds) k.frame_spared)) (subst (λ z. Within (exports_in (frame_label l) ds) z) (sym (exports_of_label l cs)) (exports_within P (frame_label l) cs ds k.part_spared))) (all_exports ks)

-- what is exported is bound

specifiers_said : (b : Name → Bool) (ts : Forest) → specifier_bound b ts ≡ true → (x : Name) → has_name x (export_names ts) ≡ true → b x ≡ true
specifiers_said b ε h x i = absurd (false≢true i)
specifiers_said b (node (ExportSpecifier y o) ss cs ⊳ ts) h x i =
    let p = and_parts (b y) (specifier_bound b ts) h in
    sides p.0 (specifiers_said b ts p.1 x) (or_cases (same_name x y) (has_name x (export_names ts)) i)
  where
    sides : b y ≡ true → (has_name x (export_names ts) ≡ true → b x ≡ true) → (same_name x y ≡ true) ⊎ (has_name x (export_names ts) ≡ true) → b x ≡ true
    sides e rest (inl s) = subst (λ z. b z ≡ true) (sym (same_name_path x y s)) e
    sides e rest (inr s) = rest s
specifiers_said b (node l ss cs ⊳ ts) h x i = specifiers_said b ts h x i

specifiers_show : (b : Name → Bool) (ts : Forest) → ((x : Name) → has_name x (export_names ts) ≡ true → b x ≡ true) → specifier_bound b ts ≡ true
specifiers_show b ε f = refl
specifiers_show b (node (ExportSpecifier y o) ss cs ⊳ ts) f = and_from (b y) (specifier_bound b ts) (f y (or_left (same_name y y) (has_name y (export_names ts)) (same_name_itself y))) (specifiers_show b ts (λ x h. f x (or_right (same_name x y) (has_name x (export_names ts)) h)))
specifiers_show b (node l ss cs ⊳ ts) f = specifiers_show b ts f

pub exports_said : (b : Name → Bool) (ts : Forest) → exports_bound b ts ≡ true → (x : Name) → has_name x (exports_all ts) ≡ true → b x ≡ true
exports_said b ε h x i = absurd (false≢true i)
exports_said b (node ExportNamed ss cs ⊳ ts) h x i =
    let p = and_parts (specifier_bound b cs) (exports_bound b ts) h in
    sides (specifiers_said b cs p.0 x) (exports_said b ts p.1 x) (or_cases (has_name x (export_names cs)) (has_name x (exports_all ts)) (sym (has_name_append x (export_names cs) (exports_all ts)) ∙ i))
  where
    sides : (has_name x (export_names cs) ≡ true → b x ≡ true) → (has_name x (exports_all ts) ≡ true → b x ≡ true) → (has_name x (export_names cs) ≡ true) ⊎ (has_name x (exports_all ts) ≡ true) → b x ≡ true
    sides f g (inl s) = f s
    sides f g (inr s) = g s
exports_said b (node l ss cs ⊳ ts) h x i = exports_said b ts h x i

pub exports_show : (b : Name → Bool) (ts : Forest) → ((x : Name) → has_name x (exports_all ts) ≡ true → b x ≡ true) → exports_bound b ts ≡ true
exports_show b ε f = refl
exports_show b (node ExportNamed ss cs ⊳ ts) f = and_from (specifier_bound b cs) (exports_bound b ts) (specifiers_show b cs (λ x h. f x (has_name_append x (export_names cs) (exports_all ts) ∙ or_left (has_name x (export_names cs)) (has_name x (exports_all ts)) h))) (exports_show b ts (λ x h. f x (has_name_append x (export_names cs) (exports_all ts) ∙ or_right (has_name x (export_names cs)) (has_name x (exports_all ts)) h)))
exports_show b (node l ss cs ⊳ ts) f = exports_show b ts f

or_spared : (a b c d : Bool) → (c ≡ true → a ≡ true) → (d ≡ true → b ≡ true) → (c || d) ≡ true → (a || b) ≡ true
or_spared a b true d h i e = or_left a b (h refl)
or_spared a b false d h i e = or_right a b (i e)

-- a module's own scope binds what it bound
pub module_binds_spared : {P : Name → Type 0} (ts us : Forest) → Spared P (import_names ts) (import_names us) → Spared P (vars_all ts) (vars_all us) → Spared P (list_names ts) (list_names us) → (x : Name) → P x → module_binds ts x ≡ true → module_binds us x ≡ true
module_binds_spared ts us f g h x p = or_spared (has_name x (import_names us)) (body_declares us x) (has_name x (import_names ts)) (body_declares ts x) (f.by x p) (or_spared (has_name x (vars_all us)) (list_binds us x) (has_name x (vars_all ts)) (list_binds ts x) (g.by x p) (λ e. found_first x (declared us) ∙ h.by x p (sym (found_first x (declared ts)) ∙ e)))

-- a node whose children spare

spared_in : {P : Name → Type 0} (b : Bool) (xs : List Name) (ts us : Forest) → Spared P (vars_all ts) (vars_all us) → Spared P (xs ++ (if b then vars_all ts else [])) (xs ++ (if b then vars_all us else []))
spared_in true xs ts us h = spared_append (spared_same xs) h
spared_in false xs ts us h = spared_same (xs ++ [])

names_by_label : {P : Name → Type 0} (l : Label) (ss : List Span) {ts us : Forest} → AllSpare P ts us → Spared P (first_names (declared_by_label l ss ts)) (first_names (declared_by_label l ss us))
names_by_label (VarDecl Let) ss ks = spared_path (ap (λ xs. first_names (as_lexicals true xs)) (same_declarators ks))
names_by_label (VarDecl Const) ss ks = spared_path (ap (λ xs. first_names (as_lexicals false xs)) (same_declarators ks))
names_by_label (VarDecl Var) ss ks = spared_same []
names_by_label (FnDecl x) ss ks = spared_same (x ∷ [])
names_by_label (ExportDefaultFn None) ss ks = spared_same _
names_by_label (ExportDefaultFn (Some x)) ss ks = spared_same _
names_by_label ExportDefaultExpr ss ks = spared_same _
names_by_label l ss ks = spared_same []

names_inside : {P : Name → Type 0} (l : Label) (ss : List Span) {ts us : Forest} → AllSpare P ts us → Spared P (names_of (node l ss ts)) (names_of (node l ss us))
names_inside ExportDecl ss none_spared = spared_same []
names_inside ExportDecl ss (more_spared {t = node l rs cs} {u = node m qs ds} k ks) = k.own_spared
names_inside l ss ks = names_by_label l ss ks

part_inside : {P : Name → Type 0} (l : Label) {ts us : Forest} → AllSpare P ts us → SparedPart P (frame_label l) ts us
part_inside (Import src) ks = spared_path (same_specifiers ks)
part_inside ExportNamed {ts} {us} ks = subst (λ z. Within z (export_names ts)) (sym (same_exported ks)) (within_same _)
part_inside Absent ks = tt
part_inside l ks = tt

exports_inside : {P : Name → Type 0} (l : Label) (ss : List Span) {ts us : Forest} → AllSpare P ts us → Within (exports_of (node l ss us)) (exports_of (node l ss ts))
exports_inside Module ss ks = all_exports ks
exports_inside l ss ks = within_same []

bound_inside : {P : Name → Type 0} (l : Label) (ss : List Span) {ts us : Forest} → AllSpare P ts us → ((x : Name) → has_name x (exports_of (node l ss ts)) ≡ true → P x) → own_exports_bound (node l ss ts) ≡ true → own_exports_bound (node l ss us) ≡ true
bound_inside Module ss {ts} {us} ks p h = exports_show (module_binds us) us (λ x i. let j = (all_exports ks).by x i in module_binds_spared ts us (spared_imports ks) (spared_vars ks) (spared_names ks) x (p x j) (exports_said (module_binds ts) ts h x j))
bound_inside l ss ks p h = refl

pub spares_inside : {P : Name → Type 0} (l : Label) (ss : List Span) {ts us : Forest} → AllSpare P ts us → Spares P (node l ss ts) (node l ss us)
spares_inside l ss {ts} {us} ks = record {
  vars_spared = spared_in (holds_statements l) (own_vars l) ts us (spared_vars ks);
  names_spared = names_inside l ss ks;
  own_spared = names_by_label l ss ks;
  frame_spared = refl;
  part_spared = part_inside l ks;
  exports_kept = exports_inside l ss ks;
  exports_bound_kept = bound_inside l ss ks;
}

part_then : (P : Name → Type 0) (f : Option Label) (ts us vs : Forest) → SparedPart P f ts us → SparedPart P f us vs → SparedPart P f ts vs
part_then P (Some (Import src)) ts us vs h i = spared_then h i
part_then P (Some ExportNamed) ts us vs h i = within_trans i h
part_then P f ts us vs h i = h

pub spares_then : {P : Name → Type 0} {a b c : Tree} → Spares P a b → Spares P b c → Spares P a c
spares_then {P} {a} {b} {c} h i = record {
  vars_spared = spared_then h.vars_spared i.vars_spared;
  names_spared = spared_then h.names_spared i.names_spared;
  own_spared = spared_then h.own_spared i.own_spared;
  frame_spared = i.frame_spared ∙ h.frame_spared;
  part_spared = part_then P (frame a) (children_of a) (children_of b) (children_of c) h.part_spared (subst (λ f. SparedPart P f (children_of b) (children_of c)) h.frame_spared i.part_spared);
  exports_kept = within_trans i.exports_kept h.exports_kept;
  exports_bound_kept = λ p e. i.exports_bound_kept (λ x j. p x (h.exports_kept.by x j)) (h.exports_bound_kept p e);
}

mutual
  pub walk_spares : {P : Name → Type 0} {X : Tree → Tree → Type 0} {t u : Tree} → ((a b : Tree) → X a b → Spares P a b) → Walks X t u → Spares P t u
  walk_spares f (inside {l = l} {ss = ss} h) = spares_inside l ss (all_walk_spare f h)
  walk_spares f ((then) {b = b} {c = c} h x) = spares_then (walk_spares f h) (f b c x)
  walk_spares f (early {a = a} {b = b} x h) = spares_then (f a b x) (walk_spares f h)

  pub all_walk_spare : {P : Name → Type 0} {X : Tree → Tree → Type 0} {ts us : Forest} → ((a b : Tree) → X a b → Spares P a b) → AllWalk X ts us → AllSpare P ts us
  all_walk_spare f nothing = none_spared
  all_walk_spare f (both h hs) = more_spared (walk_spares f h) (all_walk_spare f hs)
