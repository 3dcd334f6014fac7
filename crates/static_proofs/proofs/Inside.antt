-- A node whose children are kept is kept, and so is what a walk by kept steps makes.
use Rattle.std.proofs.Common.{◌≡◌, ℕ, ◌+◌, ◌≤◌, Bool, true, false, not, ◌&&◌, ◌||◌, nat_le, if◌then◌else◌, List, [], ◌∷◌, ◌++◌, Some, None, refl, sym, ap, subst, ◌∙◌, arith}
use Rattle.std.proofs.lemmas.Bool.{and_parts, and_from, or_left, or_right, false≢true}
use Rattle.swc_ast.specs.declared.Span.{Span}
use Rattle.swc_ast.specs.declared.VarDeclKind.TheVariants.{Var, Let, Const}
use Rattle.swc_ast.specs.Tree.{Name, Label, Invalid, Template, Seq, If, While, DoWhile, For, Labeled, Params, Body, CaseBody, Param, Import, Fn, Arrow, Method, FnDecl, ExportDefaultFn, ExportDefaultExpr, ExportDecl, Block, Switch, Try, Module, Script, VarDecl, node, Forest}
use Rattle.swc_ast.specs.Scope.{is_function, has_name, vars_all, own_vars, holds_statements, Declared, declared, declared_by_label, as_lexicals, declarator_names, list_binds, is_found, param_names, specifier_names, body_declares, import_names, module_binds, case_statements, option_name}
use Rattle.swc_ast.specs.Meaning.{head_names, first_tree}
use Rattle.swc_ast.specs.Valid.{good_names, good_shape, good_texts, is_listed, valid, valid_all}
use Rattle.swc_ast.specs.Resolved.{first_names, one_if, has_default, params_of, body_of, function_scopes, own_scopes, Targets, below, jump_is_aimed, aimed, aimed_all, declared_names, none_declared, params_apart, apart, apart_all}
use Rattle.swc_ast.specs.Core.{once_each, none_in, list_names, good_list, good_body, good_scope, numbers_fit, fits, fits_all}
use Rattle.static_proofs.specs.Names.{Within, Fewer, names_of, frame_label, KeptList, KeptPart, is_some_tree}
use Rattle.static_proofs.specs.Keeps.{Keeps, AllKeep, none_kept, more_kept}
use Rattle.static_proofs.proofs.Names.{within_same, within_append, fewer_same, fewer_within, found_first, once_fewer, none_within, apart_within}
use Rattle.static_proofs.proofs.Parts.{all_scopes, all_vars, head_kept, kept_params, kept_list, all_declarators, all_specifiers, all_imports, params_kept, body_kept, cases_kept, all_count, last_absent_kept, none_listed_kept, last_listed_kept, all_valid, all_aimed, all_apart, all_fit}

-- scopes

pub one_if_kept : (a b : Bool) → (b ≡ true → a ≡ true) → one_if b ≤ one_if a
one_if_kept true true h = omega arith
one_if_kept true false h = omega arith
one_if_kept false false h = omega arith
one_if_kept false true h = absurd (false≢true (h refl))

function_kept : (d e p a b : Bool) → (e ≡ true → d ≡ true) → (b ≡ true → a ≡ true) → (if e then one_if p + one_if b else one_if (p || b)) ≤ (if d then one_if p + one_if a else one_if (p || a))
function_kept true true p a b h i = omega (arith, one_if_kept a b i)
function_kept false true p a b h i = absurd (false≢true (h refl))
function_kept true false true a b h i = omega arith
function_kept true false false a b h i = omega (arith, one_if_kept a b i)
function_kept false false true a b h i = omega arith
function_kept false false false a b h i = one_if_kept a b i

abbrev FoundKept : List Declared → List Declared → Type 0
FoundKept ps qs = (x : Name) → is_found x qs ≡ true → is_found x ps ≡ true

found_kept : (ps qs : List Declared) → Fewer (first_names qs) (first_names ps) → FoundKept ps qs
found_kept ps qs f x h = found_first x ps ∙ (fewer_within f).by x (sym (found_first x qs) ∙ h)

pub or_kept : (a b c d : Bool) → (c ≡ true → a ≡ true) → (d ≡ true → b ≡ true) → (c || d) ≡ true → (a || b) ≡ true
or_kept a b true d h i e = or_left a b (h refl)
or_kept a b false d h i e = or_right a b (i e)

pub list_binds_kept : (x : Name) {ts us : Forest} → KeptList ts us → list_binds us x ≡ true → list_binds ts x ≡ true
list_binds_kept x {ts} {us} k = found_kept (declared ts) (declared us) k.names_kept x

pub body_declares_kept : (x : Name) {ts us : Forest} → KeptList ts us → body_declares us x ≡ true → body_declares ts x ≡ true
body_declares_kept x {ts} {us} k = or_kept (has_name x (vars_all ts)) (list_binds ts x) (has_name x (vars_all us)) (list_binds us x) (k.vars_kept.by x) (list_binds_kept x k)

pub function_scopes_kept : (x : Name) {ts us : Forest} → AllKeep ts us → function_scopes x us ≤ function_scopes x ts
function_scopes_kept x {ts} {us} ks =
    let p = params_kept ks in
    subst (λ xs. (if has_default (params_of us) then one_if (has_name x xs) + one_if (body_declares (body_of us) x) else one_if (has_name x xs || body_declares (body_of us) x)) ≤ function_scopes x ts) (sym p.same_params)
    (function_kept (has_default (params_of ts)) (has_default (params_of us)) (has_name x (param_names (params_of ts))) (body_declares (body_of ts) x) (body_declares (body_of us) x) p.no_new_default (body_declares_kept x (body_kept ks)))

pub own_scopes_kept : (x : Name) (l : Label) {ts us : Forest} → AllKeep ts us → own_scopes x l us ≤ own_scopes x l ts
unfolding own_scopes
own_scopes_kept x (Fn o) ks = omega (arith, function_scopes_kept x ks)
own_scopes_kept x Arrow ks = function_scopes_kept x ks
own_scopes_kept x Method ks = function_scopes_kept x ks
own_scopes_kept x (FnDecl f) ks = function_scopes_kept x ks
own_scopes_kept x (ExportDefaultFn o) ks = function_scopes_kept x ks
own_scopes_kept x Block {ts} {us} ks = one_if_kept (list_binds ts x) (list_binds us x) (list_binds_kept x (kept_list ks))
own_scopes_kept x For {ts} {us} ks = one_if_kept (is_found x (head_names (first_tree ts))) (is_found x (head_names (first_tree us))) (found_kept (head_names (first_tree ts)) (head_names (first_tree us)) (head_kept ks) x)
own_scopes_kept x (Switch ds) {ts} {us} ks = one_if_kept (list_binds (case_statements ts) x) (list_binds (case_statements us) x) (list_binds_kept x (cases_kept ks))
own_scopes_kept x (Try o) ks = omega arith
own_scopes_kept x Module {ts} {us} ks = one_if_kept (module_binds ts x) (module_binds us x) (or_kept (has_name x (import_names ts)) (body_declares ts x) (has_name x (import_names us)) (body_declares us x) ((fewer_within (all_imports ks)).by x) (body_declares_kept x (kept_list ks)))
own_scopes_kept x Script {ts} {us} ks = one_if_kept (body_declares ts x) (body_declares us x) (body_declares_kept x (kept_list ks))
own_scopes_kept x l ks = omega arith

-- names

vars_in : (b : Bool) (xs : List Name) (ts us : Forest) → Within (vars_all us) (vars_all ts) → Within (xs ++ (if b then vars_all us else [])) (xs ++ (if b then vars_all ts else []))
vars_in true xs ts us h = within_append (within_same xs) h
vars_in false xs ts us h = within_same (xs ++ [])

names_by_label : (l : Label) (ss rs : List Span) {ts us : Forest} → AllKeep ts us → Fewer (first_names (declared_by_label l ss us)) (first_names (declared_by_label l rs ts))
names_by_label (VarDecl Let) ss rs {ts} {us} ks = subst (λ xs. Fewer (first_names (as_lexicals true xs)) (first_names (as_lexicals true (declarator_names ts)))) (sym (all_declarators ks)) (fewer_same _)
names_by_label (VarDecl Const) ss rs {ts} {us} ks = subst (λ xs. Fewer (first_names (as_lexicals false xs)) (first_names (as_lexicals false (declarator_names ts)))) (sym (all_declarators ks)) (fewer_same _)
names_by_label (VarDecl Var) ss rs ks = fewer_same []
names_by_label (FnDecl x) ss rs ks = fewer_same (x ∷ [])
names_by_label (ExportDefaultFn None) ss rs ks = fewer_same _
names_by_label (ExportDefaultFn (Some x)) ss rs ks = fewer_same _
names_by_label ExportDefaultExpr ss rs ks = fewer_same _
names_by_label l ss rs ks = fewer_same []

names_inside : (l : Label) (ss : List Span) {ts us : Forest} → AllKeep ts us → Fewer (names_of (node l ss us)) (names_of (node l ss ts))
names_inside ExportDecl ss none_kept = fewer_same []
names_inside ExportDecl ss (more_kept {t = node l rs cs} {u = node m qs ds} k ks) = k.own_kept
names_inside l ss ks = names_by_label l ss ss ks

-- parts

some_kept : {ts us : Forest} → AllKeep ts us → is_some_tree us ≡ true → is_some_tree ts ≡ true
some_kept none_kept h = h
some_kept (more_kept k ks) h = refl

part_inside : (l : Label) {ts us : Forest} → AllKeep ts us → KeptPart (frame_label l) ts us
part_inside Params ks = kept_params ks
part_inside Body ks = kept_list ks
part_inside CaseBody ks = kept_list ks
part_inside (Param x) ks = some_kept ks
part_inside (Import src) {ts} {us} ks = subst (λ xs. Fewer xs (specifier_names ts)) (sym (all_specifiers ks)) (fewer_same _)
part_inside l ks = tt

-- validity

listed_inside : (l : Label) (ss rs : List Span) (ts us : Forest) → is_listed (node l ss us) ≡ is_listed (node l rs ts)
listed_inside (VarDecl Let) ss rs ts us = refl
listed_inside (VarDecl Const) ss rs ts us = refl
listed_inside (VarDecl Var) ss rs ts us = refl
listed_inside (FnDecl x) ss rs ts us = refl
listed_inside l ss rs ts us = refl

texts_kept : (qs : List (List ℕ × Bool)) {ts us : Forest} → AllKeep ts us → good_texts qs us ≡ good_texts qs ts
texts_kept [] ks = refl
texts_kept (q ∷ []) none_kept = refl
texts_kept (q ∷ []) (more_kept k ks) = refl
texts_kept (q ∷ r ∷ qs) none_kept = refl
texts_kept (q ∷ r ∷ qs) (more_kept k ks) = ap (λ b. not q.1 && b) (texts_kept (r ∷ qs) ks)

shape_inside : (l : Label) {ts us : Forest} → AllKeep ts us → good_shape l ts ≡ true → good_shape l us ≡ true
shape_inside Invalid ks h = h
shape_inside (Template qs) ks h = texts_kept qs ks ∙ h
shape_inside Seq ks h = ap (nat_le 2) (all_count ks) ∙ h
shape_inside (VarDecl kind) ks h = ap (nat_le 1) (all_count ks) ∙ h
shape_inside (Try None) ks h = ap not (last_absent_kept ks) ∙ h
shape_inside (Try (Some o)) ks h = refl
shape_inside If ks h = none_listed_kept ks h
shape_inside While ks h = none_listed_kept ks h
shape_inside DoWhile ks h = none_listed_kept ks h
shape_inside (Labeled t) ks h = none_listed_kept ks h
shape_inside For ks h = last_listed_kept ks h
shape_inside l ks h = refl

valid_inside : (l : Label) (ss : List Span) {ts us : Forest} → AllKeep ts us → valid (node l ss ts) ≡ true → valid (node l ss us) ≡ true
valid_inside l ss {ts} {us} ks h =
    let p = and_parts (good_names l && good_shape l ts) (valid_all ts) h in
    let q = and_parts (good_names l) (good_shape l ts) p.0 in
    and_from (good_names l && good_shape l us) (valid_all us) (and_from (good_names l) (good_shape l us) q.0 (shape_inside l ks q.1)) (all_valid ks p.1)

-- jumps

aimed_inside : (l : Label) (ss : List Span) {ts us : Forest} → AllKeep ts us → (g : Targets) → aimed g (node l ss ts) ≡ true → aimed g (node l ss us) ≡ true
aimed_inside l ss {ts} {us} ks g h = let p = and_parts (jump_is_aimed l g) (aimed_all (below l g) ts) h in and_from (jump_is_aimed l g) (aimed_all (below l g) us) p.0 (all_aimed (below l g) ks p.1)

-- parameters apart

declared_kept : {ts us : Forest} → KeptList ts us → Within (declared_names us) (declared_names ts)
declared_kept k = within_append k.vars_kept (fewer_within k.names_kept)

apart_by : (d e : Bool) (ps : List Name) {xs ys : List Name} → (e ≡ true → d ≡ true) → Within ys xs → (if d then none_declared ps xs else true) ≡ true → (if e then none_declared ps ys else true) ≡ true
apart_by d false ps h w i = refl
apart_by true true ps h w i = apart_within ps w i
apart_by false true ps h w i = absurd (false≢true (h refl))

params_apart_kept : {ts us : Forest} → AllKeep ts us → params_apart ts ≡ true → params_apart us ≡ true
params_apart_kept {ts} {us} ks h =
    let p = params_kept ks in
    subst (λ xs. (if has_default (params_of us) then none_declared xs (declared_names (body_of us)) else true) ≡ true) (sym p.same_params)
    (apart_by (has_default (params_of ts)) (has_default (params_of us)) (param_names (params_of ts)) p.no_new_default (declared_kept (body_kept ks)) h)

if_kept : (b : Bool) {x y : Bool} → (x ≡ true → y ≡ true) → (if b then x else true) ≡ true → (if b then y else true) ≡ true
if_kept true h i = h i
if_kept false h i = refl

apart_inside : (l : Label) (ss : List Span) {ts us : Forest} → AllKeep ts us → apart (node l ss ts) ≡ true → apart (node l ss us) ≡ true
apart_inside l ss {ts} {us} ks h = let p = and_parts (if is_function l then params_apart ts else true) (apart_all ts) h in and_from (if is_function l then params_apart us else true) (apart_all us) (if_kept (is_function l) (params_apart_kept ks) p.0) (all_apart ks p.1)

-- the core

pub good_list_kept : {ts us : Forest} → KeptList ts us → good_list ts ≡ true → good_list us ≡ true
good_list_kept {ts} {us} k h =
    let p = and_parts (once_each (list_names ts) (list_names ts)) (none_in (list_names ts) (vars_all ts)) h in
    and_from (once_each (list_names us) (list_names us)) (none_in (list_names us) (vars_all us)) (once_fewer k.names_kept p.0) (none_within (fewer_within k.names_kept) k.vars_kept p.1)

pub good_body_kept : {xs ys : List Name} {ts us : Forest} → Fewer ys xs → KeptList ts us → good_body xs ts ≡ true → good_body ys us ≡ true
good_body_kept {xs} {ys} {ts} {us} f k h =
    let p = and_parts (good_list ts) (once_each xs xs && none_in (list_names ts) xs) h in
    let q = and_parts (once_each xs xs) (none_in (list_names ts) xs) p.1 in
    and_from (good_list us) (once_each ys ys && none_in (list_names us) ys) (good_list_kept k p.0) (and_from (once_each ys ys) (none_in (list_names us) ys) (once_fewer f q.0) (none_within (fewer_within k.names_kept) (fewer_within f) q.1))

function_good : {ts us : Forest} → AllKeep ts us → good_body (param_names (params_of ts)) (body_of ts) ≡ true → good_body (param_names (params_of us)) (body_of us) ≡ true
function_good {ts} {us} ks h = good_body_kept (subst (λ xs. Fewer xs (param_names (params_of ts))) (sym (params_kept ks).same_params) (fewer_same _)) (body_kept ks) h

scope_inside : (l : Label) {ts us : Forest} → AllKeep ts us → good_scope l ts ≡ true → good_scope l us ≡ true
scope_inside Block ks h = good_list_kept (kept_list ks) h
scope_inside (Switch ds) ks h = good_list_kept (cases_kept ks) h
scope_inside For {ts} {us} ks h =
    let p = and_parts (once_each (first_names (head_names (first_tree ts))) (first_names (head_names (first_tree ts)))) (none_in (first_names (head_names (first_tree ts))) (vars_all ts)) h in
    and_from (once_each (first_names (head_names (first_tree us))) (first_names (head_names (first_tree us)))) (none_in (first_names (head_names (first_tree us))) (vars_all us)) (once_fewer (head_kept ks) p.0) (none_within (fewer_within (head_kept ks)) (all_vars ks) p.1)
scope_inside Module {ts} {us} ks h =
    let p = and_parts (good_body (import_names ts) ts) (none_in (import_names ts) (vars_all ts)) h in
    and_from (good_body (import_names us) us) (none_in (import_names us) (vars_all us)) (good_body_kept (all_imports ks) (kept_list ks) p.0) (none_within (fewer_within (all_imports ks)) (all_vars ks) p.1)
scope_inside Script ks h = good_list_kept (kept_list ks) h
scope_inside (Try None) ks h = refl
scope_inside (Try (Some o)) ks h = none_within (within_same (option_name o)) (all_vars ks) h
scope_inside (Fn o) ks h = function_good ks h
scope_inside Arrow ks h = function_good ks h
scope_inside Method ks h = function_good ks h
scope_inside (FnDecl x) ks h = function_good ks h
scope_inside (ExportDefaultFn o) ks h = function_good ks h
scope_inside l ks h = refl

fits_inside : (l : Label) (ss : List Span) {ts us : Forest} → AllKeep ts us → fits (node l ss ts) ≡ true → fits (node l ss us) ≡ true
fits_inside l ss {ts} {us} ks h =
    let p = and_parts (numbers_fit l) (good_scope l ts && fits_all ts) h in
    let q = and_parts (good_scope l ts) (fits_all ts) p.1 in
    and_from (numbers_fit l) (good_scope l us && fits_all us) p.0 (and_from (good_scope l us) (fits_all us) (scope_inside l ks q.0) (all_fit ks q.1))

-- a node

pub keeps_inside : (l : Label) (ss : List Span) {ts us : Forest} → AllKeep ts us → Keeps (node l ss ts) (node l ss us)
keeps_inside l ss {ts} {us} ks = record {
  scopes_kept = λ x. omega (arith, own_scopes_kept x l ks, all_scopes x ks);
  vars_kept = vars_in (holds_statements l) (own_vars l) ts us (all_vars ks);
  names_kept = names_inside l ss ks;
  own_kept = names_by_label l ss ss ks;
  frame_kept = refl;
  part_kept = part_inside l ks;
  listed_kept = λ h. sym (listed_inside l ss ss ts us) ∙ h;
  valid_kept = valid_inside l ss ks;
  aimed_kept = aimed_inside l ss ks;
  apart_kept = apart_inside l ss ks;
  fits_kept = fits_inside l ss ks;
}
