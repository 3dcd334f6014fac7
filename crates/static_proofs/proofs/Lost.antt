-- A name that goes from a tree of the core with its declaration is bound in fewer scopes of what is left.
use Rattle.std.proofs.Common.{◌≡◌, ℕ, ◌+◌, ◌<◌, Bool, true, false, ◌&&◌, ◌||◌, if◌then◌else◌, List, [], ◌∷◌, refl, sym, ap, ◌∙◌, arith, ◌⊎◌, inl, inr}
use Rattle.std.proofs.lemmas.Bool.{and_parts, and_from, or_cases, or_left, or_right, or_from, false≢true, true≢false}
use Rattle.swc_ast.specs.Labels.{is_declaration, is_params, is_body, is_param}
use Rattle.swc_ast.specs.declared.Span.{Span}
use Rattle.swc_ast.specs.declared.VarDeclKind.{VarDeclKind}
use Rattle.swc_ast.specs.declared.VarDeclKind.TheVariants.{Var, Let, Const}
use Rattle.swc_ast.specs.Tree.{Name, Label, Fn, Arrow, Method, FnDecl, ExportDefaultFn, ExportDecl, Import, If, While, DoWhile, For, Labeled, Try, Params, Body, Block, Switch, CaseBody, VarDecl, Module, Script, Tree, node, Forest, ε, ◌⊳◌, label_of, children_of, ExportNamed}
use Rattle.swc_ast.specs.Scope.{has_name, option_name, vars_all, declarator_names, declared, as_lexicals, list_binds, param_names, body_declares, import_names, module_binds, body_statements, case_statements}
use Rattle.swc_ast.specs.Resolved.{first_names, one_if, has_default, params_of, body_of, function_scopes, own_scopes, scopes, scopes_all}
use Rattle.swc_ast.specs.Core.{times_in, once_each, none_in, list_names, good_list, good_body, good_scope, numbers_fit, fits, fits_all}
use Rattle.swc_ast.specs.Weight.{is_list}
use Rattle.static_proofs.specs.Names.{names_of, KeptList, frame_label, frame}
use Rattle.static_proofs.specs.Keeps.{Keeps, AllKeep, none_kept, more_kept}
use Rattle.static_proofs.specs.Together.{KeepsAll}
use Rattle.static_proofs.specs.Shaped.{is_inner, is_holder, is_statement, is_whole_item, is_block_or_inner, is_case_or_inner, is_head, is_body_or_inner, is_declarator_of, is_lexical, is_specifier, is_one_declaration, are_loop_parts, labels_of, all_labels, are_parts, are_method_parts, holds, is_shaped, are_shaped}
use Rattle.static_proofs.proofs.Names.{has_times, times_has, times_append, once_said, none_said, found_first, fewer_within, has_name_append}
use Rattle.static_proofs.proofs.Parts.{all_scopes, names_cons, names_joined, params_kept, body_kept, is_body_frame, body_cons, cases_kept}
use Rattle.static_proofs.proofs.Inside.{one_if_kept, or_kept, own_scopes_kept, list_binds_kept, body_declares_kept}
use Rattle.static_proofs.proofs.ShapedParts.{a_body, statement_item}
use Rattle.static_proofs.proofs.Thinned.{Thinned, inside, a_list, ThinnedAll, none_thinned, more_thinned, ThinnedList, no_item, item_stays, item_goes, thinned_keeps, thinned_all_keep, thinned_list_keeps}

-- the body of a function or of a case, whose scope is that of the function or the `switch`
abbrev pub is_section : Label → Bool
is_section Body = true
is_section CaseBody = true
is_section _ = false

-- bound in fewer scopes, or declared less often by such a body
pub data Lost (x : Name) : Tree → Tree → Type 0 where
  deep : {t u : Tree} → scopes x u < scopes x t → Lost x t u
  shallow : {l : Label} {ss rs : List Span} {cs ds : Forest} → is_section l ≡ true → times_in x (list_names ds) < times_in x (list_names cs) → Lost x (node l ss cs) (node l rs ds)

-- the same of a list, in its own scope or below
data ListLost (x : Name) (ts us : Forest) : Type 0 where
  below : scopes_all x us < scopes_all x ts → ListLost x ts us
  here : times_in x (list_names us) < times_in x (list_names ts) → ListLost x ts us

-- the same of one of some children
data LostIn (x : Name) : Forest → Forest → Type 0 where
  this : {t u : Tree} {ts us : Forest} → Lost x t u → AllKeep ts us → LostIn x (t ⊳ ts) (u ⊳ us)
  later : {t u : Tree} {ts us : Forest} → Keeps t u → LostIn x ts us → LostIn x (t ⊳ ts) (u ⊳ us)

-- a name that a list declares once, and then no more

not_there : (x : Name) (xs : List Name) → times_in x xs < 1 → has_name x xs ≡ false
not_there x xs h = go (has_name x xs) refl
  where
    go : (b : Bool) → has_name x xs ≡ b → b ≡ false
    go false e = refl
    go true e = absurd (omega (arith, h, has_times x xs e))

absent_of : (a b : Bool) → (b ≡ true → a ≡ true) → a ≡ false → b ≡ false
absent_of a false f e = refl
absent_of a true f e = absurd (true≢false (sym (f refl) ∙ e))

-- what is known of such a name in a good list
record Gone (x : Name) (ts us : Forest) : Type 0 where
  pub was_declared : list_binds ts x ≡ true
  pub was_named : has_name x (list_names ts) ≡ true
  pub no_var : has_name x (vars_all ts) ≡ false
  pub is_declared_no_more : list_binds us x ≡ false

gone : (x : Name) (ts us : Forest) → good_list ts ≡ true → times_in x (list_names us) < times_in x (list_names ts) → Gone x ts us
gone x ts us g h =
    let p = and_parts (once_each (list_names ts) (list_names ts)) (none_in (list_names ts) (vars_all ts)) g in
    let was = times_has x (list_names ts) (omega (arith, h)) in
    record {
      was_declared = found_first x (declared ts) ∙ was;
      was_named = was;
      no_var = none_said (list_names ts) (vars_all ts) p.1 x was;
      is_declared_no_more = found_first x (declared us) ∙ not_there x (list_names us) (omega (arith, h, once_said (list_names ts) (list_names ts) p.0 x was));
    }

one_less : (a b : Bool) → a ≡ true → b ≡ false → one_if b < one_if a
one_less true false e f = omega arith
one_less true true e f = absurd (true≢false f)
one_less false b e f = absurd (false≢true e)

body_was : {x : Name} {ts us : Forest} → Gone x ts us → body_declares ts x ≡ true
body_was {x} {ts} g = or_right (has_name x (vars_all ts)) (list_binds ts x) g.was_declared

body_is_not : {x : Name} {ts us : Forest} → Gone x ts us → KeptList ts us → body_declares us x ≡ false
body_is_not {x} {ts} {us} g k = or_from (has_name x (vars_all us)) (list_binds us x) (absent_of (has_name x (vars_all ts)) (has_name x (vars_all us)) (k.vars_kept.by x) g.no_var) g.is_declared_no_more

-- lists

list_at : (l : Label) (x : Name) (ss rs : List Span) {ts us : Forest} → is_list l ≡ true → good_scope l ts ≡ true → KeepsAll ts us → ListLost x ts us → Lost x (node l ss ts) (node l rs us)
unfolding own_scopes
list_at Block x ss rs {ts} {us} e g k (below h) = deep (omega (arith, h, one_if_kept (list_binds ts x) (list_binds us x) (list_binds_kept x k.list_kept)))
list_at Block x ss rs {ts} {us} e g k (here h) =
    let o = gone x ts us g h in
    deep (omega (arith, k.scopes_kept x, one_less (list_binds ts x) (list_binds us x) o.was_declared o.is_declared_no_more))
list_at Body x ss rs e g k (below h) = deep (omega (arith, h))
list_at Body x ss rs e g k (here h) = shallow refl h
list_at CaseBody x ss rs e g k (below h) = deep (omega (arith, h))
list_at CaseBody x ss rs e g k (here h) = shallow refl h
list_at Script x ss rs {ts} {us} e g k (below h) = deep (omega (arith, h, one_if_kept (body_declares ts x) (body_declares us x) (body_declares_kept x k.list_kept)))
list_at Script x ss rs {ts} {us} e g k (here h) =
    let o = gone x ts us g h in
    deep (omega (arith, k.scopes_kept x, one_less (body_declares ts x) (body_declares us x) (body_was o) (body_is_not o k.list_kept)))
list_at Module x ss rs {ts} {us} e g k (below h) = deep (omega (arith, h, one_if_kept (module_binds ts x) (module_binds us x) (or_kept (has_name x (import_names ts)) (body_declares ts x) (has_name x (import_names us)) (body_declares us x) ((fewer_within k.imports_kept).by x) (body_declares_kept x k.list_kept))))
list_at Module x ss rs {ts} {us} e g k (here h) =
    let p = (and_parts (good_body (import_names ts) ts) (none_in (import_names ts) (vars_all ts)) g).0 in
    let q = and_parts (good_list ts) (once_each (import_names ts) (import_names ts) && none_in (list_names ts) (import_names ts)) p in
    let r = (and_parts (once_each (import_names ts) (import_names ts)) (none_in (list_names ts) (import_names ts)) q.1).1 in
    let o = gone x ts us q.0 h in
    let i = none_said (list_names ts) (import_names ts) r x o.was_named in
    deep (omega (arith, k.scopes_kept x, one_less (module_binds ts x) (module_binds us x) (or_right (has_name x (import_names ts)) (body_declares ts x) (body_was o)) (or_from (has_name x (import_names us)) (body_declares us x) (absent_of (has_name x (import_names ts)) (has_name x (import_names us)) ((fewer_within k.imports_kept).by x) i) (body_is_not o k.list_kept))))
list_at l x ss rs e g k h = absurd (false≢true e)

-- children of which none is such a body

all_below : (x : Name) (p : Label → Bool) → ((l : Label) → p l ≡ true → is_section l ≡ false) → {ts us : Forest} → all_labels p (labels_of ts) ≡ true → LostIn x ts us → scopes_all x us < scopes_all x ts
all_below x p f a (this (deep h) ks) = omega (arith, h, all_scopes x ks)
all_below x p f {ts = node l ss cs ⊳ ts} a (this (shallow e h) ks) = absurd (true≢false (sym e ∙ f l (and_parts (p l) (all_labels p (labels_of ts)) a).0))
all_below x p f {ts = node l ss cs ⊳ ts} a (later k h) = omega (arith, k.scopes_kept x, all_below x p f (and_parts (p l) (all_labels p (labels_of ts)) a).1 h)

inner_is_none : (l : Label) → is_inner l ≡ true → is_section l ≡ false
inner_is_none Body e = absurd (false≢true e)
inner_is_none CaseBody e = absurd (false≢true e)
inner_is_none l e = refl

statement_is_none : (l : Label) → is_statement l ≡ true → is_section l ≡ false
statement_is_none Body e = absurd (false≢true e)
statement_is_none CaseBody e = absurd (false≢true e)
statement_is_none l e = refl

item_is_none : (l : Label) → is_whole_item l ≡ true → is_section l ≡ false
item_is_none Body e = absurd (false≢true e)
item_is_none CaseBody e = absurd (false≢true e)
item_is_none l e = refl

-- functions

data FunctionLost (x : Name) (ts us : Forest) : Type 0 where
  below_function : scopes_all x us < scopes_all x ts → FunctionLost x ts us
  in_body : times_in x (list_names (body_of us)) < times_in x (list_names (body_of ts)) → FunctionLost x ts us

-- the frame of a tree that is no body
no_body : (l : Label) → (is_params l || is_inner l) ≡ true → is_body_frame (frame_label l) ≡ false
no_body Body e = absurd (false≢true e)
no_body ExportNamed e = refl
no_body l e = refl

body_later : (t : Tree) (ts : Forest) → is_body_frame (frame t) ≡ false → body_of (t ⊳ ts) ≡ body_of ts
body_later t ts e = body_cons t ts ∙ ap (λ b. if b then children_of t else body_of ts) e

front_lost : {x : Name} (l : Label) (ss : List Span) (cs : Forest) {u : Tree} {ts us : Forest} → (is_params l || is_inner l) ≡ true → Keeps (node l ss cs) u → FunctionLost x ts us → FunctionLost x (node l ss cs ⊳ ts) (u ⊳ us)
front_lost {x} l ss cs e k (below_function h) = below_function (omega (arith, h, k.scopes_kept x))
front_lost {x} l ss cs {u} {ts} {us} e k (in_body h) = in_body (omega (arith, h, ap (λ bs. times_in x (list_names bs)) (body_later (node l ss cs) ts (no_body l e)), ap (λ bs. times_in x (list_names bs)) (body_later u us (ap is_body_frame k.frame_kept ∙ no_body l e))))

front_is_none : (l : Label) → (is_params l || is_inner l) ≡ true → is_section l ≡ false
front_is_none Body e = absurd (false≢true e)
front_is_none CaseBody e = absurd (false≢true e)
front_is_none l e = refl

last_lost : {x : Name} {l : Label} {ss : List Span} {cs : Forest} {us : Forest} → is_body_or_inner l ≡ true → LostIn x (node l ss cs ⊳ ε) us → FunctionLost x (node l ss cs ⊳ ε) us
last_lost {x} e (this (deep h) ks) = below_function (omega (arith, h, all_scopes x ks))
last_lost {l = Body} e (this (shallow i h) ks) = in_body h
last_lost {l = CaseBody} e (this (shallow i h) ks) = absurd (false≢true e)
last_lost {l = l} e (this (shallow i h) ks) = absurd (false≢true i)
last_lost e (later k h) = elim h [ ]

parts_lost : {x : Name} (body : Label → Bool) → ((l : Label) → body l ≡ true → is_body_or_inner l ≡ true) → (ts : Forest) {us : Forest} → are_parts body (labels_of ts) ≡ true → LostIn x ts us → FunctionLost x ts us
parts_lost {x} body f (node l ss cs ⊳ node m rs ds ⊳ ε) a (this (deep h) ks) = below_function (omega (arith, h, all_scopes x ks))
parts_lost body f (node l ss cs ⊳ node m rs ds ⊳ ε) a (this (shallow e h) ks) = absurd (true≢false (sym e ∙ front_is_none l (or_left (is_params l) (is_inner l) (and_parts (is_params l) (body m) a).0)))
parts_lost body f (node l ss cs ⊳ node m rs ds ⊳ ε) a (later k h) =
    let p = and_parts (is_params l) (body m) a in
    front_lost l ss cs (or_left (is_params l) (is_inner l) p.0) k (last_lost (f m p.1) h)
parts_lost body f ε a h = absurd (false≢true a)
parts_lost body f (node l ss cs ⊳ ε) a h = absurd (false≢true a)
parts_lost body f (node l ss cs ⊳ node m rs ds ⊳ node k qs es ⊳ ts) a h = absurd (false≢true a)

method_lost : {x : Name} (ts : Forest) {us : Forest} → are_method_parts (labels_of ts) ≡ true → LostIn x ts us → FunctionLost x ts us
method_lost ε a h = absurd (false≢true a)
method_lost {x} (node l ss cs ⊳ ts) a (this (deep h) ks) = below_function (omega (arith, h, all_scopes x ks))
method_lost (node l ss cs ⊳ ts) a (this (shallow e h) ks) = absurd (true≢false (sym e ∙ inner_is_none l (and_parts (is_inner l) (are_parts is_body (labels_of ts)) a).0))
method_lost (node l ss cs ⊳ ts) a (later k h) =
    let p = and_parts (is_inner l) (are_parts is_body (labels_of ts)) a in
    front_lost l ss cs (or_right (is_params l) (is_inner l) p.0) k (parts_lost is_body a_body ts p.1 h)

bound_by_function : (d p a : Bool) → p ≡ false → a ≡ true → (if d then one_if p + one_if a else one_if (p || a)) ≡ 1
bound_by_function true false true e f = refl
bound_by_function false false true e f = refl
bound_by_function d true a e f = absurd (true≢false e)
bound_by_function d p false e f = absurd (false≢true f)

unbound_by_function : (d p a : Bool) → p ≡ false → a ≡ false → (if d then one_if p + one_if a else one_if (p || a)) ≡ 0
unbound_by_function true false false e f = refl
unbound_by_function false false false e f = refl
unbound_by_function d true a e f = absurd (true≢false e)
unbound_by_function d p true e f = absurd (true≢false f)

function_less : (x : Name) {ts us : Forest} → AllKeep ts us → good_body (param_names (params_of ts)) (body_of ts) ≡ true → times_in x (list_names (body_of us)) < times_in x (list_names (body_of ts)) → function_scopes x us < function_scopes x ts
function_less x {ts} {us} ks g h =
    let ps = param_names (params_of ts) in
    let q = and_parts (good_list (body_of ts)) (once_each ps ps && none_in (list_names (body_of ts)) ps) g in
    let r = (and_parts (once_each ps ps) (none_in (list_names (body_of ts)) ps) q.1).1 in
    let o = gone x (body_of ts) (body_of us) q.0 h in
    let i = none_said (list_names (body_of ts)) ps r x o.was_named in
    omega (arith, bound_by_function (has_default (params_of ts)) (has_name x ps) (body_declares (body_of ts) x) i (body_was o), unbound_by_function (has_default (params_of us)) (has_name x (param_names (params_of us))) (body_declares (body_of us) x) (ap (has_name x) (params_kept ks).same_params ∙ i) (body_is_not o (body_kept ks)))

-- switches

case_names : (x : Name) (t : Tree) (ts : Forest) → times_in x (list_names (case_statements (t ⊳ ts))) ≡ times_in x (list_names (case_statements (t ⊳ ε))) + times_in x (list_names (case_statements ts))
case_names x (node l ss cs) ts =
    omega (arith, ap (times_in x) (names_joined (body_statements l cs) (case_statements ts)), ap (times_in x) (names_joined (body_statements l cs) ε), times_append x (list_names (body_statements l cs)) (list_names (case_statements ts)), times_append x (list_names (body_statements l cs)) [])

cases_lost : {x : Name} (ts : Forest) {us : Forest} → all_labels is_case_or_inner (labels_of ts) ≡ true → LostIn x ts us → (scopes_all x us < scopes_all x ts) ⊎ (times_in x (list_names (case_statements us)) < times_in x (list_names (case_statements ts)))
cases_lost {x} ts a (this (deep h) ks) = inl (omega (arith, h, all_scopes x ks))
cases_lost {x} (node CaseBody ss cs ⊳ ts) {us = u ⊳ us} a (this (shallow {rs = rs} {ds = ds} e h) ks) =
    inr (omega (arith, h, (cases_kept ks).names_kept.by x, case_names x (node CaseBody ss cs) ts, case_names x (node CaseBody rs ds) us, ap (times_in x) (names_joined cs ε), ap (times_in x) (names_joined ds ε), times_append x (list_names cs) [], times_append x (list_names ds) []))
cases_lost (node Body ss cs ⊳ ts) a (this (shallow e h) ks) = absurd (false≢true a)
cases_lost (node l ss cs ⊳ ts) a (this (shallow e h) ks) = absurd (false≢true e)
cases_lost {x} (node l ss cs ⊳ ts) {us = u ⊳ us} a (later k h) = go (cases_lost ts (and_parts (is_case_or_inner l) (all_labels is_case_or_inner (labels_of ts)) a).1 h)
  where
    go : (scopes_all x us < scopes_all x ts) ⊎ (times_in x (list_names (case_statements us)) < times_in x (list_names (case_statements ts))) → (scopes_all x (u ⊳ us) < scopes_all x (node l ss cs ⊳ ts)) ⊎ (times_in x (list_names (case_statements (u ⊳ us))) < times_in x (list_names (case_statements (node l ss cs ⊳ ts))))
    go (inl i) = inl (omega (arith, i, k.scopes_kept x))
    go (inr i) = inr (omega (arith, i, (cases_kept (more_kept k none_kept)).names_kept.by x, case_names x (node l ss cs) ts, case_names x u us))

-- any node

function_at : {x : Name} (o : ℕ) (l : Label) (ss rs : List Span) {ts us : Forest} → AllKeep ts us → good_body (param_names (params_of ts)) (body_of ts) ≡ true → own_scopes x l ts ≡ o + function_scopes x ts → own_scopes x l us ≡ o + function_scopes x us → FunctionLost x ts us → Lost x (node l ss ts) (node l rs us)
function_at {x} o l ss rs ks g e f (below_function h) = deep (omega (arith, h, own_scopes_kept x l ks))
function_at {x} o l ss rs ks g e f (in_body h) = deep (omega (arith, e, f, all_scopes x ks, function_less x ks g h))

below_at : {x : Name} (l : Label) (ss rs : List Span) {ts us : Forest} → AllKeep ts us → scopes_all x us < scopes_all x ts → Lost x (node l ss ts) (node l rs us)
below_at {x} l ss rs ks h = deep (omega (arith, h, own_scopes_kept x l ks))

block_is_none : (l : Label) → is_block_or_inner l ≡ true → is_section l ≡ false
block_is_none Body e = absurd (false≢true e)
block_is_none CaseBody e = absurd (false≢true e)
block_is_none l e = refl

param_is_none : (l : Label) → is_param l ≡ true → is_section l ≡ false
param_is_none Body e = absurd (false≢true e)
param_is_none CaseBody e = absurd (false≢true e)
param_is_none l e = refl

specifier_is_none : (l : Label) → is_specifier l ≡ true → is_section l ≡ false
specifier_is_none Body e = absurd (false≢true e)
specifier_is_none CaseBody e = absurd (false≢true e)
specifier_is_none l e = refl

declarator_is_none : (k : VarDeclKind) (l : Label) → is_declarator_of k l ≡ true → is_section l ≡ false
declarator_is_none Var Body e = absurd (false≢true e)
declarator_is_none Let Body e = absurd (false≢true e)
declarator_is_none Const Body e = absurd (false≢true e)
declarator_is_none Var CaseBody e = absurd (false≢true e)
declarator_is_none Let CaseBody e = absurd (false≢true e)
declarator_is_none Const CaseBody e = absurd (false≢true e)
declarator_is_none k l e = refl

head_is_statement : (l : Label) → is_head l ≡ true → is_statement l ≡ true
head_is_statement (VarDecl k) e = refl
head_is_statement l e = or_left (is_inner l) (is_holder l || is_declaration l) e

loop_is_statements : (ls : List Label) → are_loop_parts ls ≡ true → all_labels is_statement ls ≡ true
loop_is_statements (i ∷ t ∷ u ∷ b ∷ []) e =
    let p = and_parts (is_head i) (is_inner t && (is_inner u && is_statement b)) e in
    let q = and_parts (is_inner t) (is_inner u && is_statement b) p.1 in
    let r = and_parts (is_inner u) (is_statement b) q.1 in
    and_from (is_statement i) _ (head_is_statement i p.0) (and_from (is_statement t) _ (or_left (is_inner t) (is_holder t || is_declaration t) q.0) (and_from (is_statement u) _ (or_left (is_inner u) (is_holder u || is_declaration u) r.0) (and_from (is_statement b) true r.1 refl)))
loop_is_statements [] e = absurd (false≢true e)
loop_is_statements (i ∷ []) e = absurd (false≢true e)
loop_is_statements (i ∷ t ∷ []) e = absurd (false≢true e)
loop_is_statements (i ∷ t ∷ u ∷ []) e = absurd (false≢true e)
loop_is_statements (i ∷ t ∷ u ∷ b ∷ c ∷ ls) e = absurd (false≢true e)

declared_is_statement : (ls : List Label) → is_one_declaration ls ≡ true → all_labels is_statement ls ≡ true
declared_is_statement (l ∷ []) e = and_from (is_statement l) true (or_right (is_inner l) (is_holder l || is_declaration l) (or_right (is_holder l) (is_declaration l) e)) refl
declared_is_statement [] e = absurd (false≢true e)
declared_is_statement (l ∷ m ∷ ls) e = absurd (false≢true e)

switch_at : {x : Name} (ds : List Bool) (ss rs : List Span) {ts us : Forest} → AllKeep ts us → good_list (case_statements ts) ≡ true → (scopes_all x us < scopes_all x ts) ⊎ (times_in x (list_names (case_statements us)) < times_in x (list_names (case_statements ts))) → Lost x (node (Switch ds) ss ts) (node (Switch ds) rs us)
unfolding own_scopes
switch_at ds ss rs ks g (inl h) = below_at (Switch ds) ss rs ks h
switch_at {x} ds ss rs {ts} {us} ks g (inr h) =
    let o = gone x (case_statements ts) (case_statements us) g h in
    deep (omega (arith, all_scopes x ks, one_less (list_binds (case_statements ts) x) (list_binds (case_statements us) x) o.was_declared o.is_declared_no_more))

node_at : (x : Name) (l : Label) (ss rs : List Span) {ts us : Forest} → holds l (labels_of ts) ≡ true → good_scope l ts ≡ true → AllKeep ts us → LostIn x ts us → Lost x (node l ss ts) (node l rs us)
unfolding own_scopes
node_at x Block ss rs a g ks h = below_at Block ss rs ks (all_below x is_statement statement_is_none a h)
node_at x Body ss rs a g ks h = below_at Body ss rs ks (all_below x is_statement statement_is_none a h)
node_at x CaseBody ss rs a g ks h = below_at CaseBody ss rs ks (all_below x is_statement statement_is_none a h)
node_at x Script ss rs a g ks h = below_at Script ss rs ks (all_below x is_statement statement_is_none a h)
node_at x Module ss rs a g ks h = below_at Module ss rs ks (all_below x is_whole_item item_is_none a h)
node_at x If ss rs a g ks h = below_at If ss rs ks (all_below x is_statement statement_is_none a h)
node_at x While ss rs a g ks h = below_at While ss rs ks (all_below x is_statement statement_is_none a h)
node_at x DoWhile ss rs a g ks h = below_at DoWhile ss rs ks (all_below x is_statement statement_is_none a h)
node_at x (Labeled t) ss rs a g ks h = below_at (Labeled t) ss rs ks (all_below x is_statement statement_is_none a h)
node_at x For ss rs {ts} a g ks h = below_at For ss rs ks (all_below x is_statement statement_is_none (loop_is_statements (labels_of ts) a) h)
node_at x (Switch ds) ss rs {ts} a g ks h = switch_at ds ss rs ks g (cases_lost ts a h)
node_at x (Try o) ss rs a g ks h = below_at (Try o) ss rs ks (all_below x is_block_or_inner block_is_none a h)
node_at x (VarDecl k) ss rs a g ks h = below_at (VarDecl k) ss rs ks (all_below x (is_declarator_of k) (declarator_is_none k) a h)
node_at x (Fn o) ss rs {ts} a g ks h = function_at {x = x} (one_if (has_name x (option_name o))) (Fn o) ss rs ks g refl refl (parts_lost is_body a_body ts a h)
node_at x (FnDecl y) ss rs {ts} a g ks h = function_at {x = x} 0 (FnDecl y) ss rs ks g (omega arith) (omega arith) (parts_lost is_body a_body ts a h)
node_at x (ExportDefaultFn o) ss rs {ts} a g ks h = function_at {x = x} 0 (ExportDefaultFn o) ss rs ks g (omega arith) (omega arith) (parts_lost is_body a_body ts a h)
node_at x Arrow ss rs {ts} a g ks h = function_at {x = x} 0 Arrow ss rs ks g (omega arith) (omega arith) (parts_lost is_body_or_inner (λ l e. e) ts a h)
node_at x Method ss rs {ts} a g ks h = function_at {x = x} 0 Method ss rs ks g (omega arith) (omega arith) (method_lost ts a h)
node_at x Params ss rs a g ks h = below_at Params ss rs ks (all_below x is_param param_is_none a h)
node_at x (Import src) ss rs a g ks h = below_at (Import src) ss rs ks (all_below x is_specifier specifier_is_none a h)
node_at x ExportDecl ss rs {ts} a g ks h = below_at ExportDecl ss rs ks (all_below x is_statement statement_is_none (declared_is_statement (labels_of ts) a) h)
node_at x l ss rs a g ks h = below_at l ss rs ks (all_below x is_inner inner_is_none a h)

-- trees

first_lexicals : (w : Bool) (xs : List Name) → first_names (as_lexicals w xs) ≡ xs
first_lexicals w [] = refl
first_lexicals w (x ∷ xs) = ap (λ ys. x ∷ ys) (first_lexicals w xs)

pub lexical_names : (k : VarDeclKind) (ss : List Span) (ds : Forest) → is_lexical k ≡ true → names_of (node (VarDecl k) ss ds) ≡ declarator_names ds
lexical_names Var ss ds e = absurd (false≢true e)
lexical_names Let ss ds e = first_lexicals true (declarator_names ds)
lexical_names Const ss ds e = first_lexicals false (declarator_names ds)

statements_are_items : (ls : List Label) → all_labels is_statement ls ≡ true → all_labels is_whole_item ls ≡ true
statements_are_items [] a = refl
statements_are_items (l ∷ ls) a = let p = and_parts (is_statement l) (all_labels is_statement ls) a in and_from (is_whole_item l) (all_labels is_whole_item ls) (statement_item l p.0) (statements_are_items ls p.1)

list_labels : (l : Label) (ls : List Label) → is_list l ≡ true → holds l ls ≡ true → all_labels is_whole_item ls ≡ true
list_labels Block ls e a = statements_are_items ls a
list_labels Body ls e a = statements_are_items ls a
list_labels CaseBody ls e a = statements_are_items ls a
list_labels Script ls e a = statements_are_items ls a
list_labels Module ls e a = a
list_labels l ls e a = absurd (false≢true e)

either_lost : {x : Name} {xs ys : List Name} {t u : Tree} {ts us : Forest} → Thinned xs t u → ThinnedAll ys ts us → (has_name x xs ≡ true → Lost x t u) → (has_name x ys ≡ true → LostIn x ts us) → (has_name x xs ≡ true) ⊎ (has_name x ys ≡ true) → LostIn x (t ⊳ ts) (u ⊳ us)
either_lost h hs f g (inl e) = this (f e) (thinned_all_keep hs)
either_lost h hs f g (inr e) = later (thinned_keeps h) (g e)

stays_lost : {x : Name} {xs ys : List Name} {t u : Tree} {ts us : Forest} → is_section (label_of t) ≡ false → Thinned xs t u → ThinnedList ys ts us → (has_name x xs ≡ true → Lost x t u) → (has_name x ys ≡ true → ListLost x ts us) → (has_name x xs ≡ true) ⊎ (has_name x ys ≡ true) → ListLost x (t ⊳ ts) (u ⊳ us)
stays_lost {x} {xs} {ys} {t} {u} {ts} {us} n h hs f g (inl e) = at_item n (f e)
  where
    at_item : {v w : Tree} → is_section (label_of v) ≡ false → Lost x v w → ListLost x (v ⊳ ts) (w ⊳ us)
    at_item m (deep i) = below (omega (arith, i, (thinned_list_keeps hs).scopes_kept x))
    at_item m (shallow j i) = absurd (true≢false (sym j ∙ m))
stays_lost {x} {xs} {ys} {t} {u} {ts} {us} n h hs f g (inr e) = behind (g e)
  where
    behind : ListLost x ts us → ListLost x (t ⊳ ts) (u ⊳ us)
    behind (below i) = below (omega (arith, i, (thinned_keeps h).scopes_kept x))
    behind (here i) = here (omega (arith, i, (thinned_keeps h).names_kept.by x, ap (times_in x) (names_cons t ts), ap (times_in x) (names_cons u us), times_append x (names_of t) (list_names ts), times_append x (names_of u) (list_names us)))

goes_lost : {x : Name} {xs ys : List Name} (t : Tree) {ts us : Forest} → names_of t ≡ xs → ThinnedList ys ts us → (has_name x ys ≡ true → ListLost x ts us) → (has_name x xs ≡ true) ⊎ (has_name x ys ≡ true) → ListLost x (t ⊳ ts) us
goes_lost {x} {xs} t {ts} {us} n hs g (inl e) = here (omega (arith, has_times x xs e, ap (times_in x) n, (thinned_list_keeps hs).list_kept.names_kept.by x, ap (times_in x) (names_cons t ts), times_append x (names_of t) (list_names ts)))
goes_lost {x} t {ts} {us} n hs g (inr e) = behind (g e)
  where
    behind : ListLost x ts us → ListLost x (t ⊳ ts) us
    behind (below i) = below (omega (arith, i))
    behind (here i) = here (omega (arith, i, ap (times_in x) (names_cons t ts), times_append x (names_of t) (list_names ts)))

mutual
  thinned_lost : (x : Name) {xs : List Name} {t u : Tree} → Thinned xs t u → is_shaped t ≡ true → fits t ≡ true → has_name x xs ≡ true → Lost x t u
  thinned_lost x (inside {l = l} {ss = ss} {cs = cs} h) a f e =
      let p = and_parts (holds l (labels_of cs)) (are_shaped cs) a in
      let q = and_parts (good_scope l cs) (fits_all cs) (and_parts (numbers_fit l) (good_scope l cs && fits_all cs) f).1 in
      node_at x l ss ss p.0 q.0 (thinned_all_keep h) (all_lost x h p.1 q.1 e)
  thinned_lost x (a_list {l = l} {ss = ss} {cs = cs} i h) a f e =
      let p = and_parts (holds l (labels_of cs)) (are_shaped cs) a in
      let q = and_parts (good_scope l cs) (fits_all cs) (and_parts (numbers_fit l) (good_scope l cs && fits_all cs) f).1 in
      list_at l x ss ss i q.0 (thinned_list_keeps h) (list_lost x h (list_labels l (labels_of cs) i p.0) p.1 q.1 e)

  all_lost : (x : Name) {xs : List Name} {ts us : Forest} → ThinnedAll xs ts us → are_shaped ts ≡ true → fits_all ts ≡ true → has_name x xs ≡ true → LostIn x ts us
  all_lost x none_thinned a f e = absurd (false≢true e)
  all_lost x (more_thinned {xs = xs} {ys = ys} {t = t} {ts = ts} h hs) a f e =
      let p = and_parts (is_shaped t) (are_shaped ts) a in
      let q = and_parts (fits t) (fits_all ts) f in
      either_lost h hs (thinned_lost x h p.0 q.0) (all_lost x hs p.1 q.1) (or_cases (has_name x xs) (has_name x ys) (sym (has_name_append x xs ys) ∙ e))

  list_lost : (x : Name) {xs : List Name} {ts us : Forest} → ThinnedList xs ts us → all_labels is_whole_item (labels_of ts) ≡ true → are_shaped ts ≡ true → fits_all ts ≡ true → has_name x xs ≡ true → ListLost x ts us
  list_lost x no_item i a f e = absurd (false≢true e)
  list_lost x (item_stays {xs = xs} {ys = ys} {t = node l ss cs} {ts = ts} h hs) i a f e =
      let p = and_parts (is_shaped (node l ss cs)) (are_shaped ts) a in
      let q = and_parts (fits (node l ss cs)) (fits_all ts) f in
      let r = and_parts (is_whole_item l) (all_labels is_whole_item (labels_of ts)) i in
      stays_lost (item_is_none l r.0) h hs (thinned_lost x h p.0 q.0) (list_lost x hs r.1 p.1 q.1) (or_cases (has_name x xs) (has_name x ys) (sym (has_name_append x xs ys) ∙ e))
  list_lost x (item_goes {k = k} {ss = ss} {ds = ds} {ts = ts} {xs = xs} j hs) i a f e =
      let p = and_parts (is_shaped (node (VarDecl k) ss ds)) (are_shaped ts) a in
      let q = and_parts (fits (node (VarDecl k) ss ds)) (fits_all ts) f in
      let r = and_parts (is_whole_item (VarDecl k)) (all_labels is_whole_item (labels_of ts)) i in
      goes_lost (node (VarDecl k) ss ds) (lexical_names k ss ds j) hs (list_lost x hs r.1 p.1 q.1) (or_cases (has_name x (declarator_names ds)) (has_name x xs) (sym (has_name_append x (declarator_names ds) xs) ∙ e))

-- a name that goes is bound in fewer scopes of the whole
pub thinned_less : {xs : List Name} {t u : Tree} → Thinned xs t u → is_section (label_of t) ≡ false → is_shaped t ≡ true → fits t ≡ true → (x : Name) → has_name x xs ≡ true → scopes x u < scopes x t
thinned_less {xs} {t} {u} h n a f x e = go n (thinned_lost x h a f e)
  where
    go : {v w : Tree} → is_section (label_of v) ≡ false → Lost x v w → scopes x w < scopes x v
    go m (deep i) = i
    go m (shallow j i) = absurd (true≢false (sym j ∙ m))
