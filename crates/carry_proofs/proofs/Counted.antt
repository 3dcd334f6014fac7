-- Each node of a valid shaped tree that declares a name is held by a scope of the tree, or shown to the node around it.
use Rattle.std.proofs.Common.{◌≡◌, ◌+◌, ◌≤◌, Bool, true, false, not, ◌&&◌, ◌||◌, List, [], ◌∷◌, refl, ap, arith}
use Rattle.std.proofs.lemmas.Bool.{and_parts, and_from, or_left, or_right, false≢true, true≢false, not-true}
use Rattle.swc_ast.specs.Labels.{is_declaration, is_body, is_param}
use Rattle.swc_ast.specs.declared.Span.{Span}
use Rattle.swc_ast.specs.declared.VarDeclKind.{VarDeclKind}
use Rattle.swc_ast.specs.declared.VarDeclKind.TheVariants.{Var, Let, Const}
use Rattle.swc_ast.specs.Tree.{Name, Label, Fn, Arrow, Method, FnDecl, ExportDecl, ExportDefaultFn, ExportDefaultExpr, Import, ImportNamed, ImportDefault, ImportStar, If, While, DoWhile, For, Labeled, Try, Params, Body, Param, Block, Switch, CaseBody, VarDecl, Declarator, Module, Script, Tree, node, Forest, ε, ◌⊳◌}
use Rattle.swc_ast.specs.Scope.{vars, vars_all, declarator_name, declarator_names, param_name, param_names, imported_name, specifier_names, import_names_of, import_names, case_statements}
use Rattle.swc_ast.specs.Valid.{valid, valid_all, good_names, good_shape, is_listed, none_listed, last_not_listed}
use Rattle.swc_ast.specs.Resolved.{params_of, body_of}
use Rattle.swc_ast.specs.Core.{times_in, list_names}
use Rattle.swc_ast.specs.Meaning.{first_tree}
use Rattle.static_proofs.specs.Names.{names_of}
use Rattle.static_proofs.specs.Shaped.{is_inner, is_holder, is_statement, is_whole_item, is_block_or_inner, is_case_or_inner, is_head, is_body_or_inner, is_declarator_of, is_specifier, is_one_declaration, are_loop_parts, are_parts, are_method_parts, labels_of, all_labels, holds, is_shaped, are_shaped}
use Rattle.static_proofs.proofs.Names.{times_append}
use Rattle.static_proofs.proofs.Parts.{names_cons, names_joined}
use Rattle.static_proofs.proofs.Lost.{lexical_names}
use Rattle.static_proofs.proofs.ShapedParts.{a_body}
use Rattle.carry_rules.proofs.Varying.{bare_vars, inner_bare}
use Rattle.carry_proofs.proofs.Declaring.{declares_by, times, times_all, shared_part, single_part, shared_shown, shared_shown_all, single_shown, single_shown_all, shared_function, shared_here, single_here, shared_held, shared_held_all, single_held, single_held_all}

-- nodes that show nothing

none_times : (x : Name) {xs : List Name} → xs ≡ [] → times_in x xs ≡ 0
none_times x e = ap (times_in x) e

inner_shared : (x : Name) (l : Label) (ss : List Span) (cs : Forest) → is_inner l ≡ true → shared_shown x (node l ss cs) ≡ 0
inner_shared x l ss cs e = omega (arith, none_times x (bare_vars l ss cs (inner_bare l e)), none_times x (part l e))
  where
    part : (m : Label) → is_inner m ≡ true → shared_part m cs ≡ []
    part Params i = absurd (false≢true i)
    part (Param y) i = absurd (false≢true i)
    part Body i = absurd (false≢true i)
    part m i = refl

inner_single : (x : Name) (l : Label) (ss : List Span) (cs : Forest) → is_inner l ≡ true → single_shown x (node l ss cs) ≡ 0
inner_single x Params ss cs e = absurd (false≢true e)
inner_single x Body ss cs e = absurd (false≢true e)
inner_single x (Param y) ss cs e = absurd (false≢true e)
inner_single x CaseBody ss cs e = absurd (false≢true e)
inner_single x (VarDecl k) ss cs e = absurd (false≢true e)
inner_single x (Declarator k y) ss cs e = absurd (false≢true e)
inner_single x (FnDecl y) ss cs e = absurd (false≢true e)
inner_single x (Import src) ss cs e = absurd (false≢true e)
inner_single x (ImportNamed y i) ss cs e = absurd (false≢true e)
inner_single x (ImportDefault y) ss cs e = absurd (false≢true e)
inner_single x (ImportStar y) ss cs e = absurd (false≢true e)
inner_single x ExportDecl ss cs e = absurd (false≢true e)
inner_single x (ExportDefaultFn o) ss cs e = absurd (false≢true e)
inner_single x ExportDefaultExpr ss cs e = absurd (false≢true e)
inner_single x l ss cs e = omega arith

block_single : (x : Name) (l : Label) (ss : List Span) (cs : Forest) → is_block_or_inner l ≡ true → single_shown x (node l ss cs) ≡ 0
block_single x Block ss cs e = omega arith
block_single x l ss cs e = inner_single x l ss cs e

specifier_shared : (x : Name) (l : Label) (ss : List Span) (cs : Forest) → is_specifier l ≡ true → shared_shown x (node l ss cs) ≡ 0
specifier_shared x (ImportNamed y i) ss cs e = omega arith
specifier_shared x (ImportDefault y) ss cs e = omega arith
specifier_shared x (ImportStar y) ss cs e = omega arith
specifier_shared x l ss cs e = absurd (false≢true e)

no_shared : (x : Name) (p : Label → Bool) → ((l : Label) (ss : List Span) (cs : Forest) → p l ≡ true → shared_shown x (node l ss cs) ≡ 0) → (ts : Forest) → all_labels p (labels_of ts) ≡ true → shared_shown_all x ts ≡ 0
no_shared x p f ε a = refl
no_shared x p f (node l ss cs ⊳ ts) a = let q = and_parts (p l) (all_labels p (labels_of ts)) a in omega (arith, f l ss cs q.0, no_shared x p f ts q.1)

no_single : (x : Name) (p : Label → Bool) → ((l : Label) (ss : List Span) (cs : Forest) → p l ≡ true → single_shown x (node l ss cs) ≡ 0) → (ts : Forest) → all_labels p (labels_of ts) ≡ true → single_shown_all x ts ≡ 0
no_single x p f ε a = refl
no_single x p f (node l ss cs ⊳ ts) a = let q = and_parts (p l) (all_labels p (labels_of ts)) a in omega (arith, f l ss cs q.0, no_single x p f ts q.1)

-- `var`s

-- what shows its `var`s alone
abbrev shows_vars : Label → Bool
shows_vars Params = false
shows_vars (Param x) = false
shows_vars Body = false
shows_vars _ = true

statement_shows : (l : Label) → is_statement l ≡ true → shows_vars l ≡ true
statement_shows Params e = absurd (false≢true e)
statement_shows (Param x) e = absurd (false≢true e)
statement_shows Body e = absurd (false≢true e)
statement_shows l e = refl

item_shows : (l : Label) → is_whole_item l ≡ true → shows_vars l ≡ true
item_shows Params e = absurd (false≢true e)
item_shows (Param x) e = absurd (false≢true e)
item_shows Body e = absurd (false≢true e)
item_shows l e = refl

block_shows : (l : Label) → is_block_or_inner l ≡ true → shows_vars l ≡ true
block_shows Params e = absurd (false≢true e)
block_shows (Param x) e = absurd (false≢true e)
block_shows Body e = absurd (false≢true e)
block_shows l e = refl

case_shows : (l : Label) → is_case_or_inner l ≡ true → shows_vars l ≡ true
case_shows Params e = absurd (false≢true e)
case_shows (Param x) e = absurd (false≢true e)
case_shows Body e = absurd (false≢true e)
case_shows l e = refl

declarator_shows : (k : VarDeclKind) (l : Label) → is_declarator_of k l ≡ true → shows_vars l ≡ true
declarator_shows k (Declarator j x) e = refl
declarator_shows Var l e = absurd (false≢true e)
declarator_shows Let l e = absurd (false≢true e)
declarator_shows Const l e = absurd (false≢true e)

vars_shared : (x : Name) (p : Label → Bool) → ((l : Label) → p l ≡ true → shows_vars l ≡ true) → (ts : Forest) → all_labels p (labels_of ts) ≡ true → shared_shown_all x ts ≡ times_in x (vars_all ts)
vars_shared x p f ε a = refl
vars_shared x p f (node l ss cs ⊳ ts) a =
    let q = and_parts (p l) (all_labels p (labels_of ts)) a in
    omega (arith, none_times x (part l (f l q.0)), vars_shared x p f ts q.1, times_append x (vars (node l ss cs)) (vars_all ts))
  where
    part : (m : Label) → shows_vars m ≡ true → shared_part m cs ≡ []
    part Params i = absurd (false≢true i)
    part (Param y) i = absurd (false≢true i)
    part Body i = absurd (false≢true i)
    part m i = refl

head_statement : (l : Label) → is_head l ≡ true → is_statement l ≡ true
head_statement (VarDecl k) e = refl
head_statement l e = or_left (is_inner l) (is_holder l || is_declaration l) e

loop_statements : (ls : List Label) → are_loop_parts ls ≡ true → all_labels is_statement ls ≡ true
loop_statements (i ∷ t ∷ u ∷ b ∷ []) e =
    let p = and_parts (is_head i) (is_inner t && (is_inner u && is_statement b)) e in
    let q = and_parts (is_inner t) (is_inner u && is_statement b) p.1 in
    let r = and_parts (is_inner u) (is_statement b) q.1 in
    and_from (is_statement i) _ (head_statement i p.0) (and_from (is_statement t) _ (or_left (is_inner t) (is_holder t || is_declaration t) q.0) (and_from (is_statement u) _ (or_left (is_inner u) (is_holder u || is_declaration u) r.0) (and_from (is_statement b) true r.1 refl)))
loop_statements [] e = absurd (false≢true e)
loop_statements (i ∷ []) e = absurd (false≢true e)
loop_statements (i ∷ t ∷ []) e = absurd (false≢true e)
loop_statements (i ∷ t ∷ u ∷ []) e = absurd (false≢true e)
loop_statements (i ∷ t ∷ u ∷ b ∷ c ∷ ls) e = absurd (false≢true e)

one_statement : (ls : List Label) → is_one_declaration ls ≡ true → all_labels is_statement ls ≡ true
one_statement (l ∷ []) e = and_from (is_statement l) true (or_right (is_inner l) (is_holder l || is_declaration l) (or_right (is_holder l) (is_declaration l) e)) refl
one_statement [] e = absurd (false≢true e)
one_statement (l ∷ m ∷ ls) e = absurd (false≢true e)

-- parameters

param_shared : (x : Name) (l : Label) (ss : List Span) (cs : Forest) → is_param l ≡ true → shared_shown x (node l ss cs) ≡ times_in x (param_name l)
param_shared x (Param y) ss cs e = omega arith
param_shared x l ss cs e = absurd (false≢true e)

params_shared : (x : Name) (ts : Forest) → all_labels is_param (labels_of ts) ≡ true → shared_shown_all x ts ≡ times_in x (param_names ts)
params_shared x ε a = refl
params_shared x (node l ss cs ⊳ ts) a =
    let q = and_parts (is_param l) (all_labels is_param (labels_of ts)) a in
    omega (arith, param_shared x l ss cs q.0, params_shared x ts q.1, times_append x (param_name l) (param_names ts))

-- functions

params_behind : (l : Label) (ss : List Span) (cs ts : Forest) → is_inner l ≡ true → params_of (node l ss cs ⊳ ts) ≡ params_of ts
params_behind Params ss cs ts e = absurd (false≢true e)
params_behind l ss cs ts e = refl

body_behind : (l : Label) (ss : List Span) (cs ts : Forest) → is_inner l ≡ true → body_of (node l ss cs ⊳ ts) ≡ body_of ts
body_behind Body ss cs ts e = absurd (false≢true e)
body_behind l ss cs ts e = refl

body_shared : (x : Name) (l : Label) (ss : List Span) (cs : Forest) → is_body_or_inner l ≡ true → shared_shown x (node l ss cs) ≤ times_in x (vars_all (body_of (node l ss cs ⊳ ε)))
body_shared x Body ss cs e = omega arith
body_shared x l ss cs e = omega (arith, inner_shared x l ss cs e)

body_single : (x : Name) (l : Label) (ss : List Span) (cs : Forest) → is_body_or_inner l ≡ true → single_shown x (node l ss cs) ≤ times_in x (list_names (body_of (node l ss cs ⊳ ε)))
body_single x Body ss cs e = omega arith
body_single x l ss cs e = omega (arith, inner_single x l ss cs e)

parts_shared : (x : Name) (body : Label → Bool) → ((l : Label) → body l ≡ true → is_body_or_inner l ≡ true) → (cs : Forest) → are_parts body (labels_of cs) ≡ true → shared_shown_all x cs ≤ shared_function x cs
parts_shared x body f (node Params ss ps ⊳ node m rs ds ⊳ ε) a = omega (arith, body_shared x m rs ds (f m a))
parts_shared x body f ε a = absurd (false≢true a)
parts_shared x body f (node l ss cs ⊳ ε) a = absurd (false≢true a)
parts_shared x body f (node l ss cs ⊳ node m rs ds ⊳ node k qs es ⊳ ts) a = absurd (false≢true a)
parts_shared x body f (node l ss cs ⊳ node m rs ds ⊳ ε) a = absurd (false≢true a)

parts_single : (x : Name) (body : Label → Bool) → ((l : Label) → body l ≡ true → is_body_or_inner l ≡ true) → (cs : Forest) → are_parts body (labels_of cs) ≡ true → single_shown_all x cs ≤ times_in x (list_names (body_of cs))
parts_single x body f (node Params ss ps ⊳ node m rs ds ⊳ ε) a = omega (arith, body_single x m rs ds (f m a))
parts_single x body f ε a = absurd (false≢true a)
parts_single x body f (node l ss cs ⊳ ε) a = absurd (false≢true a)
parts_single x body f (node l ss cs ⊳ node m rs ds ⊳ node k qs es ⊳ ts) a = absurd (false≢true a)
parts_single x body f (node l ss cs ⊳ node m rs ds ⊳ ε) a = absurd (false≢true a)

method_shared : (x : Name) (cs : Forest) → are_method_parts (labels_of cs) ≡ true → shared_shown_all x cs ≤ shared_function x cs
method_shared x ε a = absurd (false≢true a)
method_shared x (node l ss ks ⊳ ts) a =
    let p = and_parts (is_inner l) (are_parts is_body (labels_of ts)) a in
    omega (arith, inner_shared x l ss ks p.0, parts_shared x is_body a_body ts p.1, ap (λ ps. times_in x (param_names ps)) (params_behind l ss ks ts p.0), ap (λ bs. times_in x (vars_all bs)) (body_behind l ss ks ts p.0))

method_single : (x : Name) (cs : Forest) → are_method_parts (labels_of cs) ≡ true → single_shown_all x cs ≤ times_in x (list_names (body_of cs))
method_single x ε a = absurd (false≢true a)
method_single x (node l ss ks ⊳ ts) a =
    let p = and_parts (is_inner l) (are_parts is_body (labels_of ts)) a in
    omega (arith, inner_single x l ss ks p.0, parts_single x is_body a_body ts p.1, ap (λ bs. times_in x (list_names bs)) (body_behind l ss ks ts p.0))

-- lists

statement_part : (l : Label) (cs : Forest) → is_statement l ≡ true → single_part l cs ≡ []
statement_part (Declarator k x) cs e = absurd (false≢true e)
statement_part Body cs e = absurd (false≢true e)
statement_part CaseBody cs e = absurd (false≢true e)
statement_part (Import src) cs e = absurd (false≢true e)
statement_part (ImportNamed x i) cs e = absurd (false≢true e)
statement_part (ImportDefault x) cs e = absurd (false≢true e)
statement_part (ImportStar x) cs e = absurd (false≢true e)
statement_part l cs e = refl

item_part : (l : Label) (cs : Forest) → is_whole_item l ≡ true → single_part l cs ≡ import_names_of l cs
item_part (Declarator k x) cs e = absurd (false≢true e)
item_part Body cs e = absurd (false≢true e)
item_part CaseBody cs e = absurd (false≢true e)
item_part (Import src) cs e = refl
item_part (ImportNamed x i) cs e = absurd (false≢true e)
item_part (ImportDefault x) cs e = absurd (false≢true e)
item_part (ImportStar x) cs e = absurd (false≢true e)
item_part l cs e = refl

statements_single : (x : Name) (ts : Forest) → all_labels is_statement (labels_of ts) ≡ true → single_shown_all x ts ≡ times_in x (list_names ts)
statements_single x ε a = refl
statements_single x (node l ss cs ⊳ ts) a =
    let q = and_parts (is_statement l) (all_labels is_statement (labels_of ts)) a in
    omega (arith, none_times x (statement_part l cs q.0), statements_single x ts q.1, ap (times_in x) (names_cons (node l ss cs) ts), times_append x (names_of (node l ss cs)) (list_names ts))

items_single : (x : Name) (ts : Forest) → all_labels is_whole_item (labels_of ts) ≡ true → single_shown_all x ts ≡ times_in x (import_names ts) + times_in x (list_names ts)
items_single x ε a = refl
items_single x (node l ss cs ⊳ ts) a =
    let q = and_parts (is_whole_item l) (all_labels is_whole_item (labels_of ts)) a in
    omega (arith, ap (times_in x) (item_part l cs q.0), items_single x ts q.1, ap (times_in x) (names_cons (node l ss cs) ts), times_append x (names_of (node l ss cs)) (list_names ts), times_append x (import_names_of l cs) (import_names ts))

-- a statement that stands outside lists
unlisted_single : (x : Name) (l : Label) (ss : List Span) (cs : Forest) → is_statement l ≡ true → is_listed (node l ss cs) ≡ false → single_shown x (node l ss cs) ≡ 0
unlisted_single x (VarDecl Var) ss cs e u = omega arith
unlisted_single x (VarDecl Let) ss cs e u = absurd (true≢false u)
unlisted_single x (VarDecl Const) ss cs e u = absurd (true≢false u)
unlisted_single x (FnDecl y) ss cs e u = absurd (true≢false u)
unlisted_single x (Declarator k y) ss cs e u = absurd (false≢true e)
unlisted_single x (Param y) ss cs e u = absurd (false≢true e)
unlisted_single x Body ss cs e u = absurd (false≢true e)
unlisted_single x CaseBody ss cs e u = absurd (false≢true e)
unlisted_single x Params ss cs e u = absurd (false≢true e)
unlisted_single x (Import src) ss cs e u = absurd (false≢true e)
unlisted_single x (ImportNamed y i) ss cs e u = absurd (false≢true e)
unlisted_single x (ImportDefault y) ss cs e u = absurd (false≢true e)
unlisted_single x (ImportStar y) ss cs e u = absurd (false≢true e)
unlisted_single x ExportDecl ss cs e u = absurd (false≢true e)
unlisted_single x (ExportDefaultFn o) ss cs e u = absurd (false≢true e)
unlisted_single x ExportDefaultExpr ss cs e u = absurd (false≢true e)
unlisted_single x l ss cs e u = omega arith

unlisted_all : (x : Name) (ts : Forest) → all_labels is_statement (labels_of ts) ≡ true → none_listed ts ≡ true → single_shown_all x ts ≡ 0
unlisted_all x ε a u = refl
unlisted_all x (node l ss cs ⊳ ts) a u =
    let q = and_parts (is_statement l) (all_labels is_statement (labels_of ts)) a in
    let w = and_parts (not (is_listed (node l ss cs))) (none_listed ts) u in
    omega (arith, unlisted_single x l ss cs q.0 (not-true (is_listed (node l ss cs)) w.0), unlisted_all x ts q.1 w.1)

-- the parts of a `for`

head_single : (x : Name) (l : Label) (ss : List Span) (cs : Forest) → is_head l ≡ true → single_shown x (node l ss cs) ≤ times_in x (list_names (node l ss cs ⊳ ε))
head_single x (VarDecl k) ss cs e = omega (arith, ap (times_in x) (names_cons (node (VarDecl k) ss cs) ε), times_append x (names_of (node (VarDecl k) ss cs)) [])
head_single x l ss cs e = omega (arith, inner_single x l ss cs e)

loop_single : (x : Name) (cs : Forest) → are_loop_parts (labels_of cs) ≡ true → last_not_listed cs ≡ true → single_shown_all x cs ≤ times_in x (list_names (first_tree cs ⊳ ε))
loop_single x (node i ss is ⊳ node t rs ts ⊳ node u qs us ⊳ node b ps bs ⊳ ε) a v =
    let p = and_parts (is_head i) (is_inner t && (is_inner u && is_statement b)) a in
    let q = and_parts (is_inner t) (is_inner u && is_statement b) p.1 in
    let r = and_parts (is_inner u) (is_statement b) q.1 in
    omega (arith, head_single x i ss is p.0, inner_single x t rs ts q.0, inner_single x u qs us r.0, unlisted_single x b ps bs r.1 (not-true (is_listed (node b ps bs)) v))
loop_single x ε a v = absurd (false≢true a)
loop_single x (node i ss is ⊳ ε) a v = absurd (false≢true a)
loop_single x (node i ss is ⊳ node t rs ts ⊳ ε) a v = absurd (false≢true a)
loop_single x (node i ss is ⊳ node t rs ts ⊳ node u qs us ⊳ ε) a v = absurd (false≢true a)
loop_single x (node i ss is ⊳ node t rs ts ⊳ node u qs us ⊳ node b ps bs ⊳ node c os cs ⊳ ds) a v = absurd (false≢true a)

-- cases

cases_single : (x : Name) (ts : Forest) → all_labels is_case_or_inner (labels_of ts) ≡ true → single_shown_all x ts ≤ times_in x (list_names (case_statements ts))
cases_single x ε a = omega arith
cases_single x (node CaseBody ss cs ⊳ ts) a = omega (arith, cases_single x ts a, ap (times_in x) (names_joined cs (case_statements ts)), times_append x (list_names cs) (list_names (case_statements ts)))
cases_single x (node l ss cs ⊳ ts) a = let p = and_parts (is_inner l) (all_labels is_case_or_inner (labels_of ts)) a in inner_case l ss cs ts p.0 (cases_single x ts p.1)
  where
    inner_case : (m : Label) (rs : List Span) (ds us : Forest) → is_inner m ≡ true → single_shown_all x us ≤ times_in x (list_names (case_statements us)) → single_shown_all x (node m rs ds ⊳ us) ≤ times_in x (list_names (case_statements (node m rs ds ⊳ us)))
    inner_case CaseBody rs ds us i h = absurd (false≢true i)
    inner_case m rs ds us i h = omega (arith, inner_single x m rs ds i)

-- declarators and specifiers

var_single : (x : Name) (l : Label) (ss : List Span) (cs : Forest) → is_declarator_of Var l ≡ true → single_shown x (node l ss cs) ≡ 0
var_single x (Declarator Var y) ss cs e = omega arith
var_single x l ss cs e = absurd (false≢true e)

let_single : (x : Name) (l : Label) (ss : List Span) (cs : Forest) → is_declarator_of Let l ≡ true → single_shown x (node l ss cs) ≡ times_in x (declarator_name l)
let_single x (Declarator Let y) ss cs e = omega arith
let_single x l ss cs e = absurd (false≢true e)

const_single : (x : Name) (l : Label) (ss : List Span) (cs : Forest) → is_declarator_of Const l ≡ true → single_shown x (node l ss cs) ≡ times_in x (declarator_name l)
const_single x (Declarator Const y) ss cs e = omega arith
const_single x l ss cs e = absurd (false≢true e)

declarators_single : (x : Name) (p : Label → Bool) → ((l : Label) (ss : List Span) (cs : Forest) → p l ≡ true → single_shown x (node l ss cs) ≡ times_in x (declarator_name l)) → (ts : Forest) → all_labels p (labels_of ts) ≡ true → single_shown_all x ts ≡ times_in x (declarator_names ts)
declarators_single x p f ε a = refl
declarators_single x p f (node l ss cs ⊳ ts) a =
    let q = and_parts (p l) (all_labels p (labels_of ts)) a in
    omega (arith, f l ss cs q.0, declarators_single x p f ts q.1, times_append x (declarator_name l) (declarator_names ts))

declaration_single : (x : Name) (k : VarDeclKind) (ss : List Span) (cs : Forest) → all_labels (is_declarator_of k) (labels_of cs) ≡ true → single_shown_all x cs ≤ times_in x (names_of (node (VarDecl k) ss cs))
declaration_single x Var ss cs a = omega (arith, no_single x (is_declarator_of Var) (var_single x) cs a)
declaration_single x Let ss cs a = omega (arith, declarators_single x (is_declarator_of Let) (let_single x) cs a, ap (times_in x) (lexical_names Let ss cs refl))
declaration_single x Const ss cs a = omega (arith, declarators_single x (is_declarator_of Const) (const_single x) cs a, ap (times_in x) (lexical_names Const ss cs refl))

specifier_single : (x : Name) (l : Label) (ss : List Span) (cs : Forest) → is_specifier l ≡ true → single_shown x (node l ss cs) ≡ times_in x (imported_name l)
specifier_single x (ImportNamed y i) ss cs e = omega arith
specifier_single x (ImportDefault y) ss cs e = omega arith
specifier_single x (ImportStar y) ss cs e = omega arith
specifier_single x l ss cs e = absurd (false≢true e)

specifiers_single : (x : Name) (ts : Forest) → all_labels is_specifier (labels_of ts) ≡ true → single_shown_all x ts ≡ times_in x (specifier_names ts)
specifiers_single x ε a = refl
specifiers_single x (node l ss cs ⊳ ts) a =
    let q = and_parts (is_specifier l) (all_labels is_specifier (labels_of ts)) a in
    omega (arith, specifier_single x l ss cs q.0, specifiers_single x ts q.1, times_append x (imported_name l) (specifier_names ts))

param_single : (x : Name) (l : Label) (ss : List Span) (cs : Forest) → is_param l ≡ true → single_shown x (node l ss cs) ≡ 0
param_single x (Param y) ss cs e = omega arith
param_single x l ss cs e = absurd (false≢true e)

-- what is exported

export_single : (x : Name) (ss : List Span) (cs : Forest) → is_one_declaration (labels_of cs) ≡ true → single_shown_all x cs ≤ times_in x (names_of (node ExportDecl ss cs))
export_single x ss (node (VarDecl k) rs ds ⊳ ε) a = omega arith
export_single x ss (node (FnDecl y) rs ds ⊳ ε) a = omega arith
export_single x ss ε a = absurd (false≢true a)
export_single x ss (node l rs ds ⊳ node m qs es ⊳ ts) a = absurd (false≢true a)
export_single x ss (node l rs ds ⊳ ε) a = absurd (false≢true a)

-- any node

shared_at : (x : Name) (l : Label) (ss : List Span) (cs : Forest) → holds l (labels_of cs) ≡ true → times_in x (declares_by l false) + shared_shown_all x cs ≤ shared_shown x (node l ss cs) + shared_here x l cs
shared_at x Block ss cs a = omega (arith, vars_shared x is_statement statement_shows cs a)
shared_at x Body ss cs a = omega (arith, vars_shared x is_statement statement_shows cs a)
shared_at x CaseBody ss cs a = omega (arith, vars_shared x is_statement statement_shows cs a)
shared_at x Script ss cs a = omega (arith, vars_shared x is_statement statement_shows cs a)
shared_at x Module ss cs a = omega (arith, vars_shared x is_whole_item item_shows cs a)
shared_at x If ss cs a = omega (arith, vars_shared x is_statement statement_shows cs a)
shared_at x While ss cs a = omega (arith, vars_shared x is_statement statement_shows cs a)
shared_at x DoWhile ss cs a = omega (arith, vars_shared x is_statement statement_shows cs a)
shared_at x (Labeled t) ss cs a = omega (arith, vars_shared x is_statement statement_shows cs a)
shared_at x For ss cs a = omega (arith, vars_shared x is_statement statement_shows cs (loop_statements (labels_of cs) a))
shared_at x (Switch ds) ss cs a = omega (arith, vars_shared x is_case_or_inner case_shows cs a)
shared_at x (Try o) ss cs a = omega (arith, vars_shared x is_block_or_inner block_shows cs a)
shared_at x (VarDecl k) ss cs a = omega (arith, vars_shared x (is_declarator_of k) (declarator_shows k) cs a)
shared_at x (Fn o) ss cs a = omega (arith, parts_shared x is_body a_body cs a)
shared_at x (FnDecl f) ss cs a = omega (arith, parts_shared x is_body a_body cs a)
shared_at x (ExportDefaultFn o) ss cs a = omega (arith, parts_shared x is_body a_body cs a)
shared_at x Arrow ss cs a = omega (arith, parts_shared x is_body_or_inner (λ l e. e) cs a)
shared_at x Method ss cs a = omega (arith, method_shared x cs a)
shared_at x Params ss cs a = omega (arith, params_shared x cs a)
shared_at x (Import src) ss cs a = omega (arith, no_shared x is_specifier (specifier_shared x) cs a)
shared_at x ExportDecl ss cs a = omega (arith, vars_shared x is_statement statement_shows cs (one_statement (labels_of cs) a))
shared_at x (Declarator Var y) ss cs a = omega (arith, no_shared x is_inner (inner_shared x) cs a)
shared_at x l ss cs a = omega (arith, no_shared x is_inner (inner_shared x) cs a)

single_at : (x : Name) (l : Label) (ss : List Span) (cs : Forest) → holds l (labels_of cs) ≡ true → good_shape l cs ≡ true → times_in x (declares_by l true) + single_shown_all x cs ≤ single_shown x (node l ss cs) + single_here x l cs
single_at x Block ss cs a v = omega (arith, statements_single x cs a)
single_at x Body ss cs a v = omega (arith, statements_single x cs a)
single_at x CaseBody ss cs a v = omega (arith, statements_single x cs a)
single_at x Script ss cs a v = omega (arith, statements_single x cs a)
single_at x Module ss cs a v = omega (arith, items_single x cs a)
single_at x If ss cs a v = omega (arith, unlisted_all x cs a v)
single_at x While ss cs a v = omega (arith, unlisted_all x cs a v)
single_at x DoWhile ss cs a v = omega (arith, unlisted_all x cs a v)
single_at x (Labeled t) ss cs a v = omega (arith, unlisted_all x cs a v)
single_at x For ss cs a v = omega (arith, loop_single x cs a v)
single_at x (Switch ds) ss cs a v = omega (arith, cases_single x cs a)
single_at x (Try o) ss cs a v = omega (arith, no_single x is_block_or_inner (block_single x) cs a)
single_at x (VarDecl k) ss cs a v = omega (arith, declaration_single x k ss cs a)
single_at x (Fn o) ss cs a v = omega (arith, parts_single x is_body a_body cs a)
single_at x (FnDecl f) ss cs a v = omega (arith, parts_single x is_body a_body cs a)
single_at x (ExportDefaultFn o) ss cs a v = omega (arith, parts_single x is_body a_body cs a)
single_at x Arrow ss cs a v = omega (arith, parts_single x is_body_or_inner (λ l e. e) cs a)
single_at x Method ss cs a v = omega (arith, method_single x cs a)
single_at x Params ss cs a v = omega (arith, no_single x is_param (param_single x) cs a)
single_at x (Import src) ss cs a v = omega (arith, specifiers_single x cs a)
single_at x ExportDecl ss cs a v = omega (arith, export_single x ss cs a)
single_at x (Declarator Var y) ss cs a v = omega (arith, no_single x is_inner (inner_single x) cs a)
single_at x (Declarator Let y) ss cs a v = omega (arith, no_single x is_inner (inner_single x) cs a)
single_at x (Declarator Const y) ss cs a v = omega (arith, no_single x is_inner (inner_single x) cs a)
single_at x l ss cs a v = omega (arith, no_single x is_inner (inner_single x) cs a)

mutual
  pub shared_counted : (x : Name) (t : Tree) → is_shaped t ≡ true → times false x t ≤ shared_shown x t + shared_held x t
  shared_counted x (node l ss cs) a =
      let p = and_parts (holds l (labels_of cs)) (are_shaped cs) a in
      omega (arith, shared_at x l ss cs p.0, shared_counted_all x cs p.1)

  shared_counted_all : (x : Name) (ts : Forest) → are_shaped ts ≡ true → times_all false x ts ≤ shared_shown_all x ts + shared_held_all x ts
  shared_counted_all x ε a = omega arith
  shared_counted_all x (t ⊳ ts) a =
      let p = and_parts (is_shaped t) (are_shaped ts) a in
      omega (arith, shared_counted x t p.0, shared_counted_all x ts p.1)

mutual
  pub single_counted : (x : Name) (t : Tree) → is_shaped t ≡ true → valid t ≡ true → times true x t ≤ single_shown x t + single_held x t
  single_counted x (node l ss cs) a v =
      let p = and_parts (holds l (labels_of cs)) (are_shaped cs) a in
      let q = and_parts (good_names l && good_shape l cs) (valid_all cs) v in
      omega (arith, single_at x l ss cs p.0 (and_parts (good_names l) (good_shape l cs) q.0).1, single_counted_all x cs p.1 q.1)

  single_counted_all : (x : Name) (ts : Forest) → are_shaped ts ≡ true → valid_all ts ≡ true → times_all true x ts ≤ single_shown_all x ts + single_held_all x ts
  single_counted_all x ε a v = omega arith
  single_counted_all x (t ⊳ ts) a v =
      let p = and_parts (is_shaped t) (are_shaped ts) a in
      let q = and_parts (valid t) (valid_all ts) v in
      omega (arith, single_counted x t p.0 q.0, single_counted_all x ts p.1 q.1)
