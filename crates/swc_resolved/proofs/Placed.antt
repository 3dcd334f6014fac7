-- A resolved module or script is core where each of its nodes is so by itself. A `var` in a scope of a body is bound by the scope of
-- the whole body, so the scope inside, which would bind the name once more, doesn't declare it.
use Rattle.std.proofs.Common.{◌≡◌, ℕ, ◌+◌, ◌≤◌, Bool, true, false, ◌&&◌, ◌||◌, if◌then◌else◌, List, [], ◌++◌, refl, sym, ap, ap₂, ◌∙◌, arith, ◌⊎◌, inl, inr}
use Rattle.std.proofs.lemmas.Bool.{false≢true, and_parts, or_cases, or_left, or_right}
use Rattle.std.proofs.lemmas.List.{append-nil}
use Rattle.std.specs.Prelude.{Some, None}
use Rattle.swc_ast.specs.declared.Span.{Span}
use Rattle.swc_ast.specs.declared.VarDeclKind.{VarDeclKind}
use Rattle.swc_ast.specs.declared.VarDeclKind.TheVariants.{Var, Let, Const}
use Rattle.swc_ast.specs.Tree.{Name, Label, Fn, Arrow, Method, FnDecl, ExportDefaultFn, ExportDecl, Import, ImportNamed, ImportDefault, ImportStar, If, While, DoWhile, For, Labeled, Try, Params, Param, Body, Block, Switch, CaseBody, VarDecl, Declarator, Module, Script, Tree, node, Forest, ε, ◌⊳◌, label_of}
use Rattle.swc_ast.specs.Core.{numbers_fit, list_names, none_in, good_scope, fits, fits_all}
use Rattle.swc_ast.specs.Meaning.{head_names, first_tree}
use Rattle.swc_ast.specs.Resolved.{first_names, one_if, has_default, params_of, body_of, function_scopes, own_scopes, scopes, scopes_all, IsResolved}
use Rattle.swc_ast.specs.Scope.{has_name, option_name, own_vars, holds_statements, vars, vars_all, declared, list_binds, is_found, param_names, body_declares, import_names, module_binds, body_statements, case_statements}
use Rattle.swc_ast.specs.Labels.{is_declaration, is_params, is_body, is_param}
use Rattle.static_proofs.specs.Shaped.{is_inner, is_statement, is_whole_item, is_block_or_inner, is_case_or_inner, is_head, is_body_or_inner, is_declarator_of, is_specifier, is_one_declaration, are_loop_parts, labels_of, all_labels, are_parts, are_method_parts, holds, is_shaped, are_shaped}
use Rattle.static_proofs.proofs.Names.{found_first, has_name_append, none_show}
use Rattle.static_proofs.proofs.Parts.{vars_joined}
use Rattle.swc_resolved.specs.Here.{distinct, named_once, core_here, all_core_here}

grouped : (a b c : Bool) → (a && (b && c)) ≡ ((a && b) && c)
grouped true b c = refl
grouped false b c = refl

-- which nodes show `var`s to the node round them

abbrev holds_vars : Label → Bool
holds_vars (Declarator k x) = true
holds_vars l = holds_statements l

inner_shows : (l : Label) → is_inner l ≡ true → holds_vars l ≡ false
inner_shows (Declarator k x) h = absurd (false≢true h)
inner_shows Block h = absurd (false≢true h)
inner_shows If h = absurd (false≢true h)
inner_shows While h = absurd (false≢true h)
inner_shows DoWhile h = absurd (false≢true h)
inner_shows For h = absurd (false≢true h)
inner_shows (Labeled t) h = absurd (false≢true h)
inner_shows (Switch ds) h = absurd (false≢true h)
inner_shows CaseBody h = absurd (false≢true h)
inner_shows (Try o) h = absurd (false≢true h)
inner_shows (VarDecl k) h = absurd (false≢true h)
inner_shows ExportDecl h = absurd (false≢true h)
inner_shows l h = refl

param_shows : (l : Label) → is_param l ≡ true → holds_vars l ≡ false
param_shows (Param x) h = refl
param_shows l h = absurd (false≢true h)

specifier_shows : (l : Label) → is_specifier l ≡ true → holds_vars l ≡ false
specifier_shows (ImportNamed x i) h = refl
specifier_shows (ImportDefault x) h = refl
specifier_shows (ImportStar x) h = refl
specifier_shows l h = absurd (false≢true h)

no_own : (l : Label) → holds_vars l ≡ false → own_vars l ≡ []
no_own (Declarator k x) h = absurd (false≢true (sym h))
no_own l h = refl

not_holder : (l : Label) → holds_vars l ≡ false → holds_statements l ≡ false
not_holder (Declarator k x) h = absurd (false≢true (sym h))
not_holder l h = h

no_vars : (l : Label) (ss : List Span) (cs : Forest) → holds_vars l ≡ false → vars (node l ss cs) ≡ []
no_vars l ss cs h = ap₂ (λ xs b. xs ++ (if b then vars_all cs else [])) (no_own l h) (not_holder l h)

-- the `var`s that a node shows, and those of a function's body

abbrev pub seen : Tree → List Name
seen (node l ss cs) = if is_body l then vars_all cs else vars (node l ss cs)

abbrev seen_all : Forest → List Name
seen_all ε = []
seen_all (t ⊳ ts) = seen t ++ seen_all ts

no_body : (p : Label → Bool) → p Body ≡ false → (l : Label) → p l ≡ true → is_body l ≡ false
no_body p e Body h = absurd (false≢true (sym e ∙ h))
no_body p e l h = refl

-- where no function's body stands among some trees, they show their `var`s
shown : (p : Label → Bool) → p Body ≡ false → (ts : Forest) → all_labels p (labels_of ts) ≡ true → seen_all ts ≡ vars_all ts
shown p e ε h = refl
shown p e (node l ss cs ⊳ ts) h =
    let q = and_parts (p l) (all_labels p (labels_of ts)) h in
    ap₂ (λ b xs. (if b then vars_all cs else vars (node l ss cs)) ++ xs) (no_body p e l q.0) (shown p e ts q.1)

none_seen_of : (l : Label) (ss : List Span) (cs : Forest) → is_body l ≡ false → holds_vars l ≡ false → seen (node l ss cs) ≡ []
none_seen_of l ss cs body h = ap (λ b. if b then vars_all cs else vars (node l ss cs)) body ∙ no_vars l ss cs h

none_seen : (p : Label → Bool) → p Body ≡ false → ((l : Label) → p l ≡ true → holds_vars l ≡ false) → (ts : Forest) → all_labels p (labels_of ts) ≡ true → seen_all ts ≡ []
none_seen p e f ε h = refl
none_seen p e f (node l ss cs ⊳ ts) h =
    let q = and_parts (p l) (all_labels p (labels_of ts)) h in
    ap₂ ◌++◌ (none_seen_of l ss cs (no_body p e l q.0) (f l q.0)) (none_seen p e f ts q.1)

declarator_of_body : (k : VarDeclKind) → is_declarator_of k Body ≡ false
declarator_of_body Var = refl
declarator_of_body Let = refl
declarator_of_body Const = refl

declared_no_body : (l : Label) → is_declaration l ≡ true → is_body l ≡ false
declared_no_body = no_body is_declaration refl

one_shown : (ts : Forest) → is_one_declaration (labels_of ts) ≡ true → seen_all ts ≡ vars_all ts
one_shown ε h = absurd (false≢true h)
one_shown (node l ss cs ⊳ ε) h = ap (λ b. (if b then vars_all cs else vars (node l ss cs)) ++ []) (declared_no_body l h)
one_shown (node l ss cs ⊳ node k rs ds ⊳ ts) h = absurd (false≢true h)

loop_shown : (ts : Forest) → are_loop_parts (labels_of ts) ≡ true → seen_all ts ≡ vars_all ts
loop_shown (node i si ci ⊳ node t st ct ⊳ node u su cu ⊳ node b sb cb ⊳ ε) h =
    let p = and_parts (is_head i) (is_inner t && (is_inner u && is_statement b)) h in
    let q = and_parts (is_inner t) (is_inner u && is_statement b) p.1 in
    let r = and_parts (is_inner u) (is_statement b) q.1 in
    ap₂ ◌++◌ (one i si ci (no_body is_head refl i p.0))
    (ap₂ ◌++◌ (one t st ct (no_body is_inner refl t q.0))
    (ap₂ ◌++◌ (one u su cu (no_body is_inner refl u r.0))
    (ap (λ xs. xs ++ []) (one b sb cb (no_body is_statement refl b r.1)))))
  where
    one : (l : Label) (ss : List Span) (cs : Forest) → is_body l ≡ false → seen (node l ss cs) ≡ vars (node l ss cs)
    one l ss cs body = ap (λ b. if b then vars_all cs else vars (node l ss cs)) body
loop_shown ε h = absurd (false≢true h)
loop_shown (node i si ci ⊳ ε) h = absurd (false≢true h)
loop_shown (node i si ci ⊳ node t st ct ⊳ ε) h = absurd (false≢true h)
loop_shown (node i si ci ⊳ node t st ct ⊳ node u su cu ⊳ ε) h = absurd (false≢true h)
loop_shown (node i si ci ⊳ node t st ct ⊳ node u su cu ⊳ node b sb cb ⊳ node c sc cc ⊳ ts) h = absurd (false≢true h)

-- parameters and a body: what they show is what the body has

nowhere : {P : Type 0} (x : Name) (xs : List Name) → xs ≡ [] → has_name x xs ≡ true → P
nowhere x xs is h = absurd (false≢true (sym (ap (has_name x) is) ∙ h))

parts_seen : (body : Label → Bool) → ((l : Label) → body l ≡ true → (is_body l ≡ true) ⊎ ((is_body l ≡ false) × (holds_vars l ≡ false))) → (cs : Forest) → are_parts body (labels_of cs) ≡ true → (x : Name) → has_name x (seen_all cs) ≡ true → has_name x (vars_all (body_of cs)) ≡ true
parts_seen body f (node p sp cp ⊳ node b sb cb ⊳ ε) h x i = let q = and_parts (is_params p) (body b) h in of_params p sp cp b sb cb q.0 (f b q.1) x i
  where
    of_body : (b : Label) (sb : List Span) (cb : Forest) → (is_body b ≡ true) ⊎ ((is_body b ≡ false) × (holds_vars b ≡ false)) → (x : Name) → has_name x (seen (node b sb cb) ++ []) ≡ true → has_name x (vars_all (body_of (node b sb cb ⊳ ε))) ≡ true
    of_body Body sb cb e x i = sym (ap (has_name x) (append-nil (vars_all cb))) ∙ i
    of_body b sb cb (inl e) x i = absurd (false≢true e)
    of_body b sb cb (inr e) x i = nowhere x (seen (node b sb cb) ++ []) (ap (λ xs. xs ++ []) (none_seen_of b sb cb e.0 e.1)) i

    of_params : (p : Label) (sp : List Span) (cp : Forest) (b : Label) (sb : List Span) (cb : Forest) → is_params p ≡ true → (is_body b ≡ true) ⊎ ((is_body b ≡ false) × (holds_vars b ≡ false)) → (x : Name) → has_name x (seen_all (node p sp cp ⊳ node b sb cb ⊳ ε)) ≡ true → has_name x (vars_all (body_of (node p sp cp ⊳ node b sb cb ⊳ ε))) ≡ true
    of_params Params sp cp b sb cb e g x i = of_body b sb cb g x i
    of_params p sp cp b sb cb e g x i = absurd (false≢true e)
parts_seen body f ε h x i = absurd (false≢true h)
parts_seen body f (node p sp cp ⊳ ε) h x i = absurd (false≢true h)
parts_seen body f (node p sp cp ⊳ node b sb cb ⊳ node c sc cc ⊳ ts) h x i = absurd (false≢true h)

a_body : (l : Label) → is_body l ≡ true → (is_body l ≡ true) ⊎ ((is_body l ≡ false) × (holds_vars l ≡ false))
a_body l h = inl h

body_or_inner : (l : Label) → is_body_or_inner l ≡ true → (is_body l ≡ true) ⊎ ((is_body l ≡ false) × (holds_vars l ≡ false))
body_or_inner Body h = inl refl
body_or_inner l h = inr (refl, inner_shows l h)

-- a key stands in front of the parts of a method
method_seen : (cs : Forest) → are_method_parts (labels_of cs) ≡ true → (x : Name) → has_name x (seen_all cs) ≡ true → has_name x (vars_all (body_of cs)) ≡ true
method_seen ε h x i = absurd (false≢true h)
method_seen (node k sk ck ⊳ ts) h x i =
    let q = and_parts (is_inner k) (are_parts is_body (labels_of ts)) h in
    ap (λ us. has_name x (vars_all us)) (behind k sk ck ts q.0)
    ∙ parts_seen is_body a_body ts q.1 x (sym (ap (λ xs. has_name x (xs ++ seen_all ts)) (none_seen_of k sk ck (no_body is_inner refl k q.0) (inner_shows k q.0))) ∙ i)
  where
    behind : (k : Label) (sk : List Span) (ck ts : Forest) → is_inner k ≡ true → body_of (node k sk ck ⊳ ts) ≡ body_of ts
    behind Body sk ck ts e = absurd (false≢true e)
    behind k sk ck ts e = refl

-- `var`s of cases are among those of the `switch`

case_here : (x : Name) (l : Label) (ss : List Span) (ds : Forest) → has_name x (vars_all (body_statements l ds)) ≡ true → has_name x (vars (node l ss ds)) ≡ true
case_here x CaseBody ss ds h = h
case_here x l ss ds h = absurd (false≢true h)

case_or_behind : (x : Name) (l : Label) (ss : List Span) (ds ts : Forest) → (has_name x (vars_all (case_statements ts)) ≡ true → has_name x (vars_all ts) ≡ true) → (has_name x (vars_all (body_statements l ds)) ≡ true) ⊎ (has_name x (vars_all (case_statements ts)) ≡ true) → (has_name x (vars (node l ss ds)) || has_name x (vars_all ts)) ≡ true
case_or_behind x l ss ds ts behind (inl h) = or_left (has_name x (vars (node l ss ds))) (has_name x (vars_all ts)) (case_here x l ss ds h)
case_or_behind x l ss ds ts behind (inr h) = or_right (has_name x (vars (node l ss ds))) (has_name x (vars_all ts)) (behind h)

case_vars : (x : Name) (cs : Forest) → has_name x (vars_all (case_statements cs)) ≡ true → has_name x (vars_all cs) ≡ true
case_vars x ε h = h
case_vars x (node l ss ds ⊳ ts) h =
    has_name_append x (vars (node l ss ds)) (vars_all ts)
    ∙ case_or_behind x l ss ds ts (case_vars x ts) (or_cases (has_name x (vars_all (body_statements l ds))) (has_name x (vars_all (case_statements ts))) (sym (ap (has_name x) (vars_joined (body_statements l ds) (case_statements ts)) ∙ has_name_append x (vars_all (body_statements l ds)) (vars_all (case_statements ts))) ∙ h))

-- names that a scope binds and names that are bound outside it

apart_by : (ns vs : List Name) (own : Name → ℕ) → ((x : Name) → has_name x ns ≡ true → 1 ≤ own x) → ((x : Name) → has_name x vs ≡ true → own x ≡ 0) → none_in ns vs ≡ true
apart_by ns vs own binds free = none_show ns vs (λ x i. by_case x i (has_name x vs) refl)
  where
    by_case : (x : Name) → has_name x ns ≡ true → (b : Bool) → has_name x vs ≡ b → has_name x vs ≡ false
    by_case x i false is = is
    by_case x i true is = absurd (let most = free x is in let least = binds x i in omega (arith, most, least))

one_of : (b : Bool) → b ≡ true → 1 ≤ one_if b
one_of true h = omega arith
one_of false h = absurd (false≢true h)

and_truth : (a b : Bool) → b ≡ true → (a && b) ≡ a
and_truth true b h = h
and_truth false b h = refl

good_as : (ns vs : List Name) → none_in ns vs ≡ true → (distinct ns && none_in ns vs) ≡ distinct ns
good_as ns vs h = and_truth (distinct ns) (none_in ns vs) h

body_binds : (x : Name) (cs : Forest) → has_name x (vars_all (body_of cs)) ≡ true → 1 ≤ function_scopes x cs
body_binds x cs h = by_default (has_default (params_of cs)) (has_name x (param_names (params_of cs))) (body_declares (body_of cs) x) (or_left (has_name x (vars_all (body_of cs))) (list_binds (body_of cs) x) h)
  where
    by_default : (d p b : Bool) → b ≡ true → 1 ≤ (if d then one_if p + one_if b else one_if (p || b))
    by_default true p true h = omega arith
    by_default false true b h = omega arith
    by_default false false true h = omega arith
    by_default d p false h = absurd (false≢true h)

more : (a b : ℕ) → 1 ≤ b → 1 ≤ a + b
more a b h = omega (arith, h)

-- one node, where its children are core just where each is by itself

module _ (l : Label) (ss : List Span) (cs : Forest) where
  abbrev Children : Type 0
  Children = ((x : Name) → has_name x (seen_all cs) ≡ true → scopes_all x cs ≡ 0) → fits_all cs ≡ all_core_here cs

  abbrev Free : Type 0
  Free = (x : Name) → has_name x (seen (node l ss cs)) ≡ true → own_scopes x l cs + scopes_all x cs ≡ 0

  abbrev Once : Type 0
  Once = (x : Name) → own_scopes x l cs + scopes_all x cs ≤ 1

  abbrev Goal : Type 0
  Goal = fits (node l ss cs) ≡ core_here (node l ss cs)

  made : good_scope l cs ≡ named_once l cs → fits_all cs ≡ all_core_here cs → Goal
  made scope below = ap₂ (λ a b. numbers_fit l && (a && b)) scope below ∙ grouped (numbers_fit l) (named_once l cs) (all_core_here cs)

  -- a node whose `var`s are those of its children
  held : good_scope l cs ≡ named_once l cs → seen (node l ss cs) ≡ vars_all cs → seen_all cs ≡ vars_all cs → Free → Children → Goal
  held scope here below free f = made scope (f (λ x h. let none = free x (ap (has_name x) here ∙ sym (ap (has_name x) below) ∙ h) in omega (arith, none)))

  -- a node whose children show none
  bare : good_scope l cs ≡ named_once l cs → seen_all cs ≡ [] → Children → Goal
  bare scope none f = made scope (f (λ x h. nowhere x (seen_all cs) none h))

  -- a node that binds the `var`s of its children
  bound : good_scope l cs ≡ named_once l cs → ((x : Name) → has_name x (seen_all cs) ≡ true → 1 ≤ own_scopes x l cs) → Once → Children → Goal
  bound scope binds once f = made scope (f (λ x h. let most = once x in let least = binds x h in omega (arith, most, least)))

-- each kind of node

scope_of : (l : Label) (ss : List Span) (cs : Forest) → holds l (labels_of cs) ≡ true → Once l ss cs → Free l ss cs → Children l ss cs → Goal l ss cs
unfolding own_scopes
scope_of Block ss cs h once free f = held Block ss cs (good_as (list_names cs) (vars_all cs) (apart_by (list_names cs) (vars_all cs) (λ x. one_if (list_binds cs x)) (λ x i. one_of (list_binds cs x) (found_first x (declared cs) ∙ i)) (λ x i. let none : one_if (list_binds cs x) + scopes_all x cs ≡ 0 = free x i in omega (arith, none)))) refl (shown is_statement refl cs h) free f
scope_of For ss cs h once free f =
    let ps = head_names (first_tree cs) in
    held For ss cs (good_as (first_names ps) (vars_all cs) (apart_by (first_names ps) (vars_all cs) (λ x. one_if (is_found x ps)) (λ x i. one_of (is_found x ps) (found_first x ps ∙ i)) (λ x i. let none : one_if (is_found x ps) + scopes_all x cs ≡ 0 = free x i in omega (arith, none)))) refl (loop_shown cs h) free f
scope_of (Switch ds) ss cs h once free f =
    let us = case_statements cs in
    held (Switch ds) ss cs (good_as (list_names us) (vars_all us) (apart_by (list_names us) (vars_all us) (λ x. one_if (list_binds us x)) (λ x i. one_of (list_binds us x) (found_first x (declared us) ∙ i)) (λ x i. let none : one_if (list_binds us x) + scopes_all x cs ≡ 0 = free x (case_vars x cs i) in omega (arith, none)))) refl (shown is_case_or_inner refl cs h) free f
scope_of (Try None) ss cs h once free f = held (Try None) ss cs refl refl (shown is_block_or_inner refl cs h) free f
scope_of (Try (Some o)) ss cs h once free f = held (Try (Some o)) ss cs (apart_by (option_name o) (vars_all cs) (λ x. one_if (has_name x (option_name o))) (λ x i. one_of (has_name x (option_name o)) i) (λ x i. let none : one_if (has_name x (option_name o)) + scopes_all x cs ≡ 0 = free x i in omega (arith, none))) refl (shown is_block_or_inner refl cs h) free f
scope_of If ss cs h once free f = held If ss cs refl refl (shown is_statement refl cs h) free f
scope_of While ss cs h once free f = held While ss cs refl refl (shown is_statement refl cs h) free f
scope_of DoWhile ss cs h once free f = held DoWhile ss cs refl refl (shown is_statement refl cs h) free f
scope_of (Labeled t) ss cs h once free f = held (Labeled t) ss cs refl refl (shown is_statement refl cs h) free f
scope_of CaseBody ss cs h once free f = held CaseBody ss cs refl refl (shown is_statement refl cs h) free f
scope_of Body ss cs h once free f = held Body ss cs refl refl (shown is_statement refl cs h) free f
scope_of (VarDecl k) ss cs h once free f = held (VarDecl k) ss cs refl refl (shown (is_declarator_of k) (declarator_of_body k) cs h) free f
scope_of ExportDecl ss cs h once free f = held ExportDecl ss cs refl refl (one_shown cs h) free f
scope_of (Fn o) ss cs h once free f = bound (Fn o) ss cs refl (λ x i. more (one_if (has_name x (option_name o))) (function_scopes x cs) (body_binds x cs (parts_seen is_body a_body cs h x i))) once f
scope_of (FnDecl g) ss cs h once free f = bound (FnDecl g) ss cs refl (λ x i. body_binds x cs (parts_seen is_body a_body cs h x i)) once f
scope_of (ExportDefaultFn o) ss cs h once free f = bound (ExportDefaultFn o) ss cs refl (λ x i. body_binds x cs (parts_seen is_body a_body cs h x i)) once f
scope_of Arrow ss cs h once free f = bound Arrow ss cs refl (λ x i. body_binds x cs (parts_seen is_body_or_inner body_or_inner cs h x i)) once f
scope_of Method ss cs h once free f = bound Method ss cs refl (λ x i. body_binds x cs (method_seen cs h x i)) once f
scope_of Module ss cs h once free f = bound Module ss cs refl (λ x i. one_of (module_binds cs x) (or_right (has_name x (import_names cs)) (body_declares cs x) (or_left (has_name x (vars_all cs)) (list_binds cs x) (sym (ap (has_name x) (shown is_whole_item refl cs h)) ∙ i)))) once f
scope_of Script ss cs h once free f = bound Script ss cs refl (λ x i. one_of (body_declares cs x) (or_left (has_name x (vars_all cs)) (list_binds cs x) (sym (ap (has_name x) (shown is_statement refl cs h)) ∙ i))) once f
scope_of Params ss cs h once free f = bare Params ss cs refl (none_seen is_param refl param_shows cs h) f
scope_of (Import src) ss cs h once free f = bare (Import src) ss cs refl (none_seen is_specifier refl specifier_shows cs h) f
scope_of l ss cs h once free f = bare l ss cs refl (none_seen is_inner refl inner_shows cs h) f

-- all nodes

less_all : (x : Name) (t : Tree) (ts : Forest) (n : ℕ) → scopes_all x (t ⊳ ts) ≤ n → (scopes x t ≤ n) × (scopes_all x ts ≤ n)
less_all x t ts n h = (omega (arith, h), omega (arith, h))

mutual
  here : (t : Tree) → is_shaped t ≡ true → ((x : Name) → scopes x t ≤ 1) → ((x : Name) → has_name x (seen t) ≡ true → scopes x t ≡ 0) → fits t ≡ core_here t
  here (node l ss cs) h once free =
      let q = and_parts (holds l (labels_of cs)) (are_shaped cs) h in
      scope_of l ss cs q.0 once free (all_here cs q.1 (λ x. let most = once x in omega (arith, most)))

  all_here : (ts : Forest) → are_shaped ts ≡ true → ((x : Name) → scopes_all x ts ≤ 1) → ((x : Name) → has_name x (seen_all ts) ≡ true → scopes_all x ts ≡ 0) → fits_all ts ≡ all_core_here ts
  all_here ε h once free = refl
  all_here (t ⊳ ts) h once free =
      let q = and_parts (is_shaped t) (are_shaped ts) h in
      ap₂ ◌&&◌
      (here t q.0 (λ x. (less_all x t ts 1 (once x)).0) (λ x i. let none = free x (has_name_append x (seen t) (seen_all ts) ∙ or_left (has_name x (seen t)) (has_name x (seen_all ts)) i) in omega (arith, none)))
      (all_here ts q.1 (λ x. (less_all x t ts 1 (once x)).1) (λ x i. let none = free x (has_name_append x (seen t) (seen_all ts) ∙ or_right (has_name x (seen t)) (has_name x (seen_all ts)) i) in omega (arith, none)))

-- a whole module or script, which shows no `var`
pub resolved_here : (n : ℕ) (t : Tree) → is_shaped t ≡ true → seen t ≡ [] → IsResolved n t → fits t ≡ core_here t
resolved_here n t h none r = here t h r.bound_once (λ x i. nowhere x (seen t) none i)

-- an expression by itself shows none
pub unseen : (t : Tree) → is_inner (label_of t) ≡ true → seen t ≡ []
unseen (node l ss cs) h = ap (λ b. if b then vars_all cs else vars (node l ss cs)) (no_body is_inner refl l h) ∙ no_vars l ss cs (inner_shows l h)
