-- What a parent reads of its children's names, where each child is kept.
use Rattle.std.proofs.Common.{◌≡◌, suc, ◌≤◌, Bool, true, false, not, ◌||◌, if◌then◌else◌, List, [], ◌∷◌, ◌++◌, Option, Some, refl, sym, ap, ap₂, subst, ◌∙◌, arith, append_assoc, ◌⊎◌, inl, inr}
use Rattle.std.proofs.lemmas.Bool.{and_parts, and_from, or_cases, or_left, or_right, false≢true}
use Rattle.swc_ast.specs.Tree.{Name, Label, Params, Body, CaseBody, Param, Absent, Declarator, Import, ImportNamed, ImportDefault, ImportStar, Tree, node, Forest, ε, ◌⊳◌, children_of, ExportNamed}
use Rattle.swc_ast.specs.Scope.{vars, vars_all, declared_by, declared, declarator_name, declarator_names, param_name, param_names, imported_name, specifier_names, import_names_of, import_names, joined, body_statements, case_statements}
use Rattle.swc_ast.specs.Meaning.{head_names, first_tree}
use Rattle.swc_ast.specs.Valid.{count, is_absent, is_last_absent, is_listed, none_listed, last_not_listed, valid, valid_all}
use Rattle.swc_ast.specs.Resolved.{first_names, has_default, params_of, body_of, scopes_all, Targets, aimed, aimed_all, apart, apart_all}
use Rattle.swc_ast.specs.Core.{list_names, fits, fits_all}
use Rattle.static_proofs.specs.Names.{Within, Fewer, names_of, frame_label, frame, KeptList, KeptParams, KeptPart, is_some_tree}
use Rattle.static_proofs.specs.Keeps.{Keeps, AllKeep, none_kept, more_kept}
use Rattle.static_proofs.proofs.Names.{within_same, within_append, fewer_same, fewer_append, first_names_append}

-- sums and lists over all children

pub all_scopes : (x : Name) {ts us : Forest} → AllKeep ts us → scopes_all x us ≤ scopes_all x ts
all_scopes x none_kept = omega arith
all_scopes x (more_kept k ks) = omega (arith, k.scopes_kept x, all_scopes x ks)

pub all_vars : {ts us : Forest} → AllKeep ts us → Within (vars_all us) (vars_all ts)
all_vars none_kept = within_same []
all_vars (more_kept k ks) = within_append k.vars_kept (all_vars ks)

pub names_cons : (t : Tree) (ts : Forest) → list_names (t ⊳ ts) ≡ names_of t ++ list_names ts
names_cons t ts = first_names_append (declared_by t) (declared ts)

pub all_names : {ts us : Forest} → AllKeep ts us → Fewer (list_names us) (list_names ts)
all_names none_kept = fewer_same []
all_names (more_kept {t = t} {u = u} {ts = ts} {us = us} k ks) = subst (λ z. Fewer z (list_names (t ⊳ ts))) (sym (names_cons u us)) (subst (λ z. Fewer (names_of u ++ list_names us) z) (sym (names_cons t ts)) (fewer_append k.names_kept (all_names ks)))

pub head_kept : {ts us : Forest} → AllKeep ts us → Fewer (first_names (head_names (first_tree us))) (first_names (head_names (first_tree ts)))
head_kept none_kept = fewer_same []
head_kept (more_kept {t = t} {u = u} {ts = ts} {us = us} k ks) = all_names (more_kept k none_kept)

-- parts by their frames

abbrev params_by : Option Label → List Name
params_by (Some (Param x)) = x ∷ []
params_by _ = []

params_of_label : (l : Label) → param_name l ≡ params_by (frame_label l)
params_of_label (Param x) = refl
params_of_label ExportNamed = refl
params_of_label l = refl

pub all_params : {ts us : Forest} → AllKeep ts us → param_names us ≡ param_names ts
all_params none_kept = refl
all_params (more_kept {t = node l ss cs} {u = node m rs ds} k ks) = ap₂ ◌++◌ (params_of_label m ∙ ap params_by k.frame_kept ∙ sym (params_of_label l)) (all_params ks)

abbrev defaults_by : Option Label → Forest → Bool
defaults_by (Some (Param x)) cs = is_some_tree cs
defaults_by _ cs = false

default_cons : (t : Tree) (ts : Forest) → has_default (t ⊳ ts) ≡ (defaults_by (frame t) (children_of t) || has_default ts)
default_cons (node (Param x) ss ε) ts = refl
default_cons (node (Param x) ss (d ⊳ ds)) ts = refl
default_cons (node ExportNamed ss cs) ts = refl
default_cons (node l ss cs) ts = refl

defaults_kept : (f : Option Label) (cs ds : Forest) → KeptPart f cs ds → defaults_by f ds ≡ true → defaults_by f cs ≡ true
defaults_kept (Some (Param x)) cs ds h e = h e
defaults_kept f cs ds h e = absurd (false≢true e)

pub all_defaults : {ts us : Forest} → AllKeep ts us → has_default us ≡ true → has_default ts ≡ true
all_defaults none_kept h = h
all_defaults (more_kept {t = t} {u = u} {ts = ts} {us = us} k ks) h =
    default_cons t ts ∙ by_case (or_cases (defaults_by (frame u) (children_of u)) (has_default us) (sym (default_cons u us) ∙ h)) (all_defaults ks)
  where
    by_case : (defaults_by (frame u) (children_of u) ≡ true) ⊎ (has_default us ≡ true) → (has_default us ≡ true → has_default ts ≡ true) → (defaults_by (frame t) (children_of t) || has_default ts) ≡ true
    by_case (inl e) rest = or_left (defaults_by (frame t) (children_of t)) (has_default ts) (defaults_kept (frame t) (children_of t) (children_of u) k.part_kept (subst (λ f. defaults_by f (children_of u) ≡ true) k.frame_kept e))
    by_case (inr e) rest = or_right (defaults_by (frame t) (children_of t)) (has_default ts) (rest e)

pub kept_params : {ts us : Forest} → AllKeep ts us → KeptParams ts us
kept_params ks = record { same_params = all_params ks; no_new_default = all_defaults ks }

pub kept_list : {ts us : Forest} → AllKeep ts us → KeptList ts us
kept_list ks = record { vars_kept = all_vars ks; names_kept = all_names ks }

abbrev declarators_by : Option Label → List Name
declarators_by (Some (Declarator kind x)) = x ∷ []
declarators_by _ = []

declarators_of_label : (l : Label) → declarator_name l ≡ declarators_by (frame_label l)
declarators_of_label (Declarator kind x) = refl
declarators_of_label ExportNamed = refl
declarators_of_label l = refl

pub all_declarators : {ts us : Forest} → AllKeep ts us → declarator_names us ≡ declarator_names ts
all_declarators none_kept = refl
all_declarators (more_kept {t = node l ss cs} {u = node m rs ds} k ks) = ap₂ ◌++◌ (declarators_of_label m ∙ ap declarators_by k.frame_kept ∙ sym (declarators_of_label l)) (all_declarators ks)

abbrev specifiers_by : Option Label → List Name
specifiers_by (Some (ImportNamed x i)) = x ∷ []
specifiers_by (Some (ImportDefault x)) = x ∷ []
specifiers_by (Some (ImportStar x)) = x ∷ []
specifiers_by _ = []

specifiers_of_label : (l : Label) → imported_name l ≡ specifiers_by (frame_label l)
specifiers_of_label (ImportNamed x i) = refl
specifiers_of_label (ImportDefault x) = refl
specifiers_of_label (ImportStar x) = refl
specifiers_of_label Absent = refl
specifiers_of_label l = refl

pub all_specifiers : {ts us : Forest} → AllKeep ts us → specifier_names us ≡ specifier_names ts
all_specifiers none_kept = refl
all_specifiers (more_kept {t = node l ss cs} {u = node m rs ds} k ks) = ap₂ ◌++◌ (specifiers_of_label m ∙ ap specifiers_by k.frame_kept ∙ sym (specifiers_of_label l)) (all_specifiers ks)

abbrev imports_by : Option Label → Forest → List Name
imports_by (Some (Import src)) cs = specifier_names cs
imports_by _ cs = []

imports_of_label : (l : Label) (cs : Forest) → import_names_of l cs ≡ imports_by (frame_label l) cs
imports_of_label (Import src) cs = refl
imports_of_label Absent cs = refl
imports_of_label l cs = refl

imports_kept : (f : Option Label) (cs ds : Forest) → KeptPart f cs ds → Fewer (imports_by f ds) (imports_by f cs)
imports_kept (Some (Import src)) cs ds h = h
imports_kept f cs ds h = fewer_same []

pub all_imports : {ts us : Forest} → AllKeep ts us → Fewer (import_names us) (import_names ts)
all_imports none_kept = fewer_same []
all_imports (more_kept {t = node l ss cs} {u = node m rs ds} k ks) = fewer_append (subst (λ z. Fewer z (import_names_of l cs)) (sym (imports_of_label m ds ∙ ap (λ f. imports_by f ds) k.frame_kept)) (subst (λ z. Fewer (imports_by (frame_label l) ds) z) (sym (imports_of_label l cs)) (imports_kept (frame_label l) cs ds k.part_kept))) (all_imports ks)

-- the parameters and the body of a function

abbrev is_params_frame : Option Label → Bool
is_params_frame (Some Params) = true
is_params_frame _ = false

abbrev pub is_body_frame : Option Label → Bool
is_body_frame (Some Body) = true
is_body_frame _ = false

params_cons : (t : Tree) (ts : Forest) → params_of (t ⊳ ts) ≡ (if is_params_frame (frame t) then children_of t else params_of ts)
params_cons (node Params ss cs) ts = refl
params_cons (node ExportNamed ss cs) ts = refl
params_cons (node l ss cs) ts = refl

pub body_cons : (t : Tree) (ts : Forest) → body_of (t ⊳ ts) ≡ (if is_body_frame (frame t) then children_of t else body_of ts)
body_cons (node Body ss cs) ts = refl
body_cons (node ExportNamed ss cs) ts = refl
body_cons (node l ss cs) ts = refl

pick_params : (f : Option Label) (cs ds ps qs : Forest) → KeptPart f cs ds → KeptParams ps qs → KeptParams (if is_params_frame f then cs else ps) (if is_params_frame f then ds else qs)
pick_params (Some Params) cs ds ps qs h i = h
pick_params f cs ds ps qs h i = i

pick_body : (f : Option Label) (cs ds ps qs : Forest) → KeptPart f cs ds → KeptList ps qs → KeptList (if is_body_frame f then cs else ps) (if is_body_frame f then ds else qs)
pick_body (Some Body) cs ds ps qs h i = h
pick_body f cs ds ps qs h i = i

pub params_kept : {ts us : Forest} → AllKeep ts us → KeptParams (params_of ts) (params_of us)
params_kept none_kept = record { same_params = refl; no_new_default = λ h. h }
params_kept (more_kept {t = t} {u = u} {ts = ts} {us = us} k ks) = subst (λ z. KeptParams z (params_of (u ⊳ us))) (sym (params_cons t ts)) (subst (λ z. KeptParams (if is_params_frame (frame t) then children_of t else params_of ts) z) (sym (params_cons u us ∙ ap (λ f. if is_params_frame f then children_of u else params_of us) k.frame_kept)) (pick_params (frame t) (children_of t) (children_of u) (params_of ts) (params_of us) k.part_kept (params_kept ks)))

pub body_kept : {ts us : Forest} → AllKeep ts us → KeptList (body_of ts) (body_of us)
body_kept none_kept = record { vars_kept = within_same []; names_kept = fewer_same [] }
body_kept (more_kept {t = t} {u = u} {ts = ts} {us = us} k ks) = subst (λ z. KeptList z (body_of (u ⊳ us))) (sym (body_cons t ts)) (subst (λ z. KeptList (if is_body_frame (frame t) then children_of t else body_of ts) z) (sym (body_cons u us ∙ ap (λ f. if is_body_frame f then children_of u else body_of us) k.frame_kept)) (pick_body (frame t) (children_of t) (children_of u) (body_of ts) (body_of us) k.part_kept (body_kept ks)))

-- the statements of a switch

pub vars_joined : (ts us : Forest) → vars_all (joined ts us) ≡ vars_all ts ++ vars_all us
vars_joined ε us = refl
vars_joined (t ⊳ ts) us = ap (λ z. vars t ++ z) (vars_joined ts us) ∙ sym (append_assoc (vars t) (vars_all ts) (vars_all us))

pub names_joined : (ts us : Forest) → list_names (joined ts us) ≡ list_names ts ++ list_names us
names_joined ε us = refl
names_joined (t ⊳ ts) us = names_cons t (joined ts us) ∙ ap (λ z. names_of t ++ z) (names_joined ts us) ∙ sym (append_assoc (names_of t) (list_names ts) (list_names us)) ∙ ap (λ z. z ++ list_names us) (sym (names_cons t ts))

abbrev cases_by : Option Label → Forest → Forest
cases_by (Some CaseBody) cs = cs
cases_by _ cs = ε

cases_of_label : (l : Label) (cs : Forest) → body_statements l cs ≡ cases_by (frame_label l) cs
cases_of_label CaseBody cs = refl
cases_of_label ExportNamed cs = refl
cases_of_label l cs = refl

kept_empty : KeptList ε ε
kept_empty = record { vars_kept = within_same []; names_kept = fewer_same [] }

case_kept : (f : Option Label) (cs ds : Forest) → KeptPart f cs ds → KeptList (cases_by f cs) (cases_by f ds)
case_kept (Some CaseBody) cs ds h = h
case_kept f cs ds h = kept_empty

kept_joined : {ts us ps qs : Forest} → KeptList ts us → KeptList ps qs → KeptList (joined ts ps) (joined us qs)
kept_joined {ts} {us} {ps} {qs} h i = record {
  vars_kept = subst (λ z. Within z (vars_all (joined ts ps))) (sym (vars_joined us qs)) (subst (λ z. Within (vars_all us ++ vars_all qs) z) (sym (vars_joined ts ps)) (within_append h.vars_kept i.vars_kept));
  names_kept = subst (λ z. Fewer z (list_names (joined ts ps))) (sym (names_joined us qs)) (subst (λ z. Fewer (list_names us ++ list_names qs) z) (sym (names_joined ts ps)) (fewer_append h.names_kept i.names_kept));
}

pub cases_kept : {ts us : Forest} → AllKeep ts us → KeptList (case_statements ts) (case_statements us)
cases_kept none_kept = kept_empty
cases_kept (more_kept {t = node l ss cs} {u = node m rs ds} {ts = ts} {us = us} k ks) = kept_joined (subst (λ z. KeptList z (body_statements m ds)) (sym (cases_of_label l cs)) (subst (λ z. KeptList (cases_by (frame_label l) cs) z) (sym (cases_of_label m ds ∙ ap (λ f. cases_by f ds) k.frame_kept)) (case_kept (frame_label l) cs ds k.part_kept))) (cases_kept ks)

-- shapes

pub all_count : {ts us : Forest} → AllKeep ts us → count us ≡ count ts
all_count none_kept = refl
all_count (more_kept k ks) = ap suc (all_count ks)

abbrev absent_by : Option Label → Bool
absent_by (Some Absent) = true
absent_by _ = false

absent_of : (t : Tree) → is_absent t ≡ absent_by (frame t)
absent_of (node Absent ss cs) = refl
absent_of (node ExportNamed ss cs) = refl
absent_of (node l ss cs) = refl

pub absent_kept : {t u : Tree} → Keeps t u → is_absent u ≡ is_absent t
absent_kept {t} {u} k = absent_of u ∙ ap absent_by k.frame_kept ∙ sym (absent_of t)

pub last_absent_kept : {ts us : Forest} → AllKeep ts us → is_last_absent us ≡ is_last_absent ts
last_absent_kept none_kept = refl
last_absent_kept (more_kept k none_kept) = absent_kept k
last_absent_kept (more_kept k (more_kept j ks)) = last_absent_kept (more_kept j ks)

not_listed : {t u : Tree} → Keeps t u → not (is_listed t) ≡ true → not (is_listed u) ≡ true
not_listed {t} {u} k h = by_case (is_listed u) (is_listed t) k.listed_kept h
  where
    by_case : (b c : Bool) → (b ≡ true → c ≡ true) → not c ≡ true → not b ≡ true
    by_case false c f h' = refl
    by_case true true f h' = h'
    by_case true false f h' = absurd (false≢true (f refl))

pub none_listed_kept : {ts us : Forest} → AllKeep ts us → none_listed ts ≡ true → none_listed us ≡ true
none_listed_kept none_kept h = refl
none_listed_kept (more_kept {t = t} {u = u} {ts = ts} {us = us} k ks) h = let p = and_parts (not (is_listed t)) (none_listed ts) h in and_from (not (is_listed u)) (none_listed us) (not_listed k p.0) (none_listed_kept ks p.1)

pub last_listed_kept : {ts us : Forest} → AllKeep ts us → last_not_listed ts ≡ true → last_not_listed us ≡ true
last_listed_kept none_kept h = refl
last_listed_kept (more_kept k none_kept) h = not_listed k h
last_listed_kept (more_kept k (more_kept j ks)) h = last_listed_kept (more_kept j ks) h

-- what holds of each child

pub all_valid : {ts us : Forest} → AllKeep ts us → valid_all ts ≡ true → valid_all us ≡ true
all_valid none_kept h = refl
all_valid (more_kept {t = t} {u = u} {ts = ts} {us = us} k ks) h = let p = and_parts (valid t) (valid_all ts) h in and_from (valid u) (valid_all us) (k.valid_kept p.0) (all_valid ks p.1)

pub all_aimed : (g : Targets) {ts us : Forest} → AllKeep ts us → aimed_all g ts ≡ true → aimed_all g us ≡ true
all_aimed g none_kept h = refl
all_aimed g (more_kept {t = t} {u = u} {ts = ts} {us = us} k ks) h = let p = and_parts (aimed g t) (aimed_all g ts) h in and_from (aimed g u) (aimed_all g us) (k.aimed_kept g p.0) (all_aimed g ks p.1)

pub all_apart : {ts us : Forest} → AllKeep ts us → apart_all ts ≡ true → apart_all us ≡ true
all_apart none_kept h = refl
all_apart (more_kept {t = t} {u = u} {ts = ts} {us = us} k ks) h = let p = and_parts (apart t) (apart_all ts) h in and_from (apart u) (apart_all us) (k.apart_kept p.0) (all_apart ks p.1)

pub all_fit : {ts us : Forest} → AllKeep ts us → fits_all ts ≡ true → fits_all us ≡ true
all_fit none_kept h = refl
all_fit (more_kept {t = t} {u = u} {ts = ts} {us = us} k ks) h = let p = and_parts (fits t) (fits_all ts) h in and_from (fits u) (fits_all us) (k.fits_kept p.0) (all_fit ks p.1)
