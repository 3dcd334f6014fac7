-- In a valid tree whose nodes stand where they may, no label binds a name that no scope binds and that the tree doesn't show to
-- the node around it.
use Rattle.std.proofs.Common.{◌≡◌, ◌+◌, Bool, true, false, not, ◌&&◌, ◌||◌, if◌then◌else◌, List, [], ◌∷◌, ◌++◌, Option, Some, None, refl, sym, ap, ◌∙◌, arith}
use Rattle.std.proofs.lemmas.Bool.{and_parts, and_from, or_parts, or_from, false≢true, not-true}
use Rattle.swc_ast.specs.Labels.{is_body, is_param}
use Rattle.swc_ast.specs.declared.Span.{Span}
use Rattle.swc_ast.specs.declared.VarDeclKind.{VarDeclKind}
use Rattle.swc_ast.specs.declared.VarDeclKind.TheVariants.{Var, Let, Const}
use Rattle.swc_ast.specs.Tree.{Name, Label, Fn, Arrow, Method, FnDecl, ExportDecl, ExportDefaultFn, ExportDefaultExpr, Import, ImportNamed, ImportDefault, ImportStar, If, While, DoWhile, For, Labeled, Try, Params, Body, Param, Block, Switch, CaseBody, VarDecl, Declarator, Module, Script, Tree, node, Forest, ε, ◌⊳◌}
use Rattle.swc_ast.specs.Scope.{has_name, option_name, name_or_default, default_name, vars, vars_all, declared, list_binds, is_found, param_names, body_declares, specifier_names, import_names_of, import_names, module_binds, case_statements}
use Rattle.swc_ast.specs.Meaning.{head_names, first_tree}
use Rattle.swc_ast.specs.Valid.{valid, valid_all, good_names, good_shape, is_listed, last_not_listed}
use Rattle.swc_ast.specs.Resolved.{one_if, has_default, params_of, body_of, declared_names, function_scopes, own_scopes, scopes, scopes_all}
use Rattle.swc_ast.specs.Core.{list_names}
use Rattle.static_proofs.specs.Names.{names_of}
use Rattle.static_proofs.specs.Shaped.{is_inner, is_statement, is_whole_item, is_block_or_inner, is_case_or_inner, is_head, is_body_or_inner, is_declarator_of, is_specifier, is_one_declaration, are_loop_parts, are_parts, are_method_parts, labels_of, all_labels, holds, is_shaped, are_shaped}
use Rattle.static_proofs.proofs.Names.{has_name_append, found_first, same_name_itself}
use Rattle.static_proofs.proofs.Parts.{names_cons, names_joined}
use Rattle.static_proofs.proofs.Lost.{lexical_names}
use Rattle.static_proofs.proofs.ShapedParts.{a_body}
use Rattle.walk_proofs.proofs.Shown.{part_shown, shown, shown_all, not_one, inner_vars, inner_shown, param_vars, specifier_vars, block_shown, no_vars, none_shown, params_shown, specifiers_shown, declarators_shown, vars_of, item_shown, statement_shown, unlisted_shown, unlisted_all}
use Rattle.meaning_proofs.specs.Walks.{option_lives, binds_living, all_living, all_living_in}

-- a list of names in which none is dead
pub record NoneDead (dead : Name → Bool) (xs : List Name) : Type 0 where
  pub by : (y : Name) → dead y ≡ true → has_name y xs ≡ false

-- no dead name is bound by a scope of a tree, or shown to the node around it
pub record Hidden (dead : Name → Bool) (t : Tree) : Type 0 where
  pub unbound : (y : Name) → dead y ≡ true → scopes y t ≡ 0
  pub no_var : NoneDead dead (vars t)
  pub not_shown : NoneDead dead (shown t)

abbrev HiddenAll : (Name → Bool) → Forest → Type 0
HiddenAll dead ε = Unit {0}
HiddenAll dead (t ⊳ ts) = Hidden dead t × HiddenAll dead ts

function_unbound : (d p b : Bool) → (if d then one_if p + one_if b else one_if (p || b)) ≡ 0 → (p ≡ false) × (b ≡ false)
function_unbound true false false e = (refl, refl)
function_unbound false false false e = (refl, refl)
function_unbound true true b e = absurd (omega (arith, e))
function_unbound true false true e = absurd (omega (arith, e))
function_unbound false true b e = absurd (omega (arith, e))
function_unbound false false true e = absurd (omega (arith, e))

params_behind : (l : Label) (ss : List Span) (cs ts : Forest) → is_inner l ≡ true → params_of (node l ss cs ⊳ ts) ≡ params_of ts
params_behind Params ss cs ts e = absurd (false≢true e)
params_behind l ss cs ts e = refl

body_behind : (l : Label) (ss : List Span) (cs ts : Forest) → is_inner l ≡ true → body_of (node l ss cs ⊳ ts) ≡ body_of ts
body_behind Body ss cs ts e = absurd (false≢true e)
body_behind l ss cs ts e = refl

-- what is known inside a node: no `var` of its children is dead, and none of the names that they show
abbrev Inside : (Name → Bool) → Forest → Type 0
Inside dead cs = NoneDead dead (vars_all cs) × NoneDead dead (shown_all cs)

-- no dead name is bound by a function
record Unbound (dead : Name → Bool) (cs : Forest) : Type 0 where
  pub params : NoneDead dead (param_names (params_of cs))
  pub body : NoneDead dead (declared_names (body_of cs))

module _ {dead : Name → Bool} where
  no_names : NoneDead dead []
  no_names = record { by = λ y e. refl }

  path : {xs ys : List Name} → xs ≡ ys → NoneDead dead ys → NoneDead dead xs
  path {xs} {ys} e h = record { by = λ y d. ap (has_name y) e ∙ h.by y d }

  nothing : {xs : List Name} → xs ≡ [] → NoneDead dead xs
  nothing e = path e no_names

  first_of : (xs ys : List Name) → NoneDead dead (xs ++ ys) → NoneDead dead xs
  first_of xs ys h = record { by = λ y d. (or_parts (has_name y xs) (has_name y ys) (sym (has_name_append y xs ys) ∙ h.by y d)).0 }

  rest_of : (xs ys : List Name) → NoneDead dead (xs ++ ys) → NoneDead dead ys
  rest_of xs ys h = record { by = λ y d. (or_parts (has_name y xs) (has_name y ys) (sym (has_name_append y xs ys) ∙ h.by y d)).1 }

  both : (xs ys : List Name) → NoneDead dead xs → NoneDead dead ys → NoneDead dead (xs ++ ys)
  both xs ys h g = record { by = λ y d. has_name_append y xs ys ∙ or_from (has_name y xs) (has_name y ys) (h.by y d) (g.by y d) }

  -- a name that is shown is not dead
  one_lives : (x : Name) → NoneDead dead (x ∷ []) → not (dead x) ≡ true
  one_lives x h = go (dead x) refl
    where
      go : (b : Bool) → dead x ≡ b → not b ≡ true
      go false e = refl
      go true e = absurd (false≢true (sym (h.by x e) ∙ ap (λ b. b || false) (same_name_itself x)))

  option_shown : (o : Option Name) → NoneDead dead (option_name o) → option_lives dead o ≡ true
  option_shown None h = refl
  option_shown (Some x) h = one_lives x h

  each_hidden : (ts : Forest) → ((y : Name) → dead y ≡ true → scopes_all y ts ≡ 0) → NoneDead dead (vars_all ts) → NoneDead dead (shown_all ts) → HiddenAll dead ts
  each_hidden ε u v s = tt
  each_hidden (t ⊳ ts) u v s = (record { unbound = λ y d. omega (arith, u y d); no_var = first_of (vars t) (vars_all ts) v; not_shown = first_of (shown t) (shown_all ts) s }, each_hidden ts (λ y d. omega (arith, u y d)) (rest_of (vars t) (vars_all ts) v) (rest_of (shown t) (shown_all ts) s))

  unbound_list : (ts : Forest) → ((y : Name) → dead y ≡ true → list_binds ts y ≡ false) → NoneDead dead (list_names ts)
  unbound_list ts h = record { by = λ y d. sym (found_first y (declared ts)) ∙ h y d }

  names_shown : (k : VarDeclKind) (ss : List Span) (ds : Forest) → all_labels (is_declarator_of k) (labels_of ds) ≡ true → Hidden dead (node (VarDecl k) ss ds) → NoneDead dead (shown_all ds)
  names_shown Var ss ds a h = path (declarators_shown Var ds a ∙ vars_of ds a) h.no_var
  names_shown Let ss ds a h = path (declarators_shown Let ds a ∙ sym (lexical_names Let ss ds refl)) h.not_shown
  names_shown Const ss ds a h = path (declarators_shown Const ds a ∙ sym (lexical_names Const ss ds refl)) h.not_shown

  items_shown : (ts : Forest) → all_labels is_whole_item (labels_of ts) ≡ true → NoneDead dead (import_names ts) → NoneDead dead (list_names ts) → NoneDead dead (shown_all ts)
  items_shown ε a i n = no_names
  items_shown (node l ss cs ⊳ ts) a i n =
      let q = and_parts (is_whole_item l) (all_labels is_whole_item (labels_of ts)) a in
      let m = path (sym (names_cons (node l ss cs) ts)) n in
      both (shown (node l ss cs)) (shown_all ts)
      (both (part_shown l cs) (names_of (node l ss cs)) (path (item_shown l cs q.0) (first_of (import_names_of l cs) (import_names ts) i)) (first_of (names_of (node l ss cs)) (list_names ts) m))
      (items_shown ts q.1 (rest_of (import_names_of l cs) (import_names ts) i) (rest_of (names_of (node l ss cs)) (list_names ts) m))

  statements_shown : (ts : Forest) → all_labels is_statement (labels_of ts) ≡ true → NoneDead dead (list_names ts) → NoneDead dead (shown_all ts)
  statements_shown ε a n = no_names
  statements_shown (node l ss cs ⊳ ts) a n =
      let q = and_parts (is_statement l) (all_labels is_statement (labels_of ts)) a in
      let m = path (sym (names_cons (node l ss cs) ts)) n in
      both (shown (node l ss cs)) (shown_all ts)
      (both (part_shown l cs) (names_of (node l ss cs)) (nothing (statement_shown l cs q.0)) (first_of (names_of (node l ss cs)) (list_names ts) m))
      (statements_shown ts q.1 (rest_of (names_of (node l ss cs)) (list_names ts) m))

  -- functions

  unbound_function : (cs : Forest) → ((y : Name) → dead y ≡ true → function_scopes y cs ≡ 0) → Unbound dead cs
  unbound_function cs h = record {
    params = record { by = λ y d. (parts y d).0 };
    body = both (vars_all (body_of cs)) (list_names (body_of cs)) (record { by = λ y d. (declared_parts y d).0 }) (unbound_list (body_of cs) (λ y d. (declared_parts y d).1));
  }
    where
      parts : (y : Name) → dead y ≡ true → (has_name y (param_names (params_of cs)) ≡ false) × (body_declares (body_of cs) y ≡ false)
      parts y d = function_unbound (has_default (params_of cs)) (has_name y (param_names (params_of cs))) (body_declares (body_of cs) y) (h y d)

      declared_parts : (y : Name) → dead y ≡ true → (has_name y (vars_all (body_of cs)) ≡ false) × (list_binds (body_of cs) y ≡ false)
      declared_parts y d = or_parts (has_name y (vars_all (body_of cs))) (list_binds (body_of cs) y) (parts y d).1

  body_inside : (l : Label) (ss : List Span) (cs : Forest) → is_body_or_inner l ≡ true → NoneDead dead (declared_names (body_of (node l ss cs ⊳ ε))) → Inside dead (node l ss cs ⊳ ε)
  body_inside Body ss cs e h = (no_names, both (declared_names cs ++ []) [] (both (declared_names cs) [] h no_names) no_names)
  body_inside l ss cs e h = (nothing (ap (λ xs. xs ++ []) (inner_vars l ss cs e)), nothing (ap (λ xs. xs ++ []) (inner_shown l ss cs e)))

  parts_inside : (body : Label → Bool) → ((l : Label) → body l ≡ true → is_body_or_inner l ≡ true) → (cs : Forest) → are_parts body (labels_of cs) ≡ true → Unbound dead cs → Inside dead cs
  parts_inside body f (node Params ss ps ⊳ node m rs ds ⊳ ε) a h =
      let r = body_inside m rs ds (f m a) h.body in
      (r.0, both (param_names ps ++ []) (shown_all (node m rs ds ⊳ ε)) (both (param_names ps) [] h.params no_names) r.1)
  parts_inside body f ε a h = absurd (false≢true a)
  parts_inside body f (node l ss cs ⊳ ε) a h = absurd (false≢true a)
  parts_inside body f (node l ss cs ⊳ node m rs ds ⊳ node k qs es ⊳ ts) a h = absurd (false≢true a)
  parts_inside body f (node l ss cs ⊳ node m rs ds ⊳ ε) a h = absurd (false≢true a)

  method_inside : (cs : Forest) → are_method_parts (labels_of cs) ≡ true → Unbound dead cs → Inside dead cs
  method_inside ε a h = absurd (false≢true a)
  method_inside (node l ss ks ⊳ ts) a h =
      let p = and_parts (is_inner l) (are_parts is_body (labels_of ts)) a in
      let r = parts_inside is_body a_body ts p.1 (record { params = path (ap param_names (sym (params_behind l ss ks ts p.0))) h.params; body = path (ap declared_names (sym (body_behind l ss ks ts p.0))) h.body }) in
      (both (vars (node l ss ks)) (vars_all ts) (nothing (inner_vars l ss ks p.0)) r.0, both (shown (node l ss ks)) (shown_all ts) (nothing (inner_shown l ss ks p.0)) r.1)

  -- switches

  cases_shown : (ts : Forest) → all_labels is_case_or_inner (labels_of ts) ≡ true → NoneDead dead (list_names (case_statements ts)) → NoneDead dead (shown_all ts)
  cases_shown ε a h = no_names
  cases_shown (node CaseBody ss cs ⊳ ts) a h =
      let n = path (sym (names_joined cs (case_statements ts))) h in
      both (list_names cs ++ []) (shown_all ts) (both (list_names cs) [] (first_of (list_names cs) (list_names (case_statements ts)) n) no_names) (cases_shown ts a (rest_of (list_names cs) (list_names (case_statements ts)) n))
  cases_shown (node l ss cs ⊳ ts) a h =
      let p = and_parts (is_inner l) (all_labels is_case_or_inner (labels_of ts)) a in
      both (shown (node l ss cs)) (shown_all ts) (nothing (inner_shown l ss cs p.0)) (cases_shown ts p.1 h)

  -- the first part of a `for`

  head_shown : (l : Label) (ss : List Span) (cs : Forest) → is_head l ≡ true → NoneDead dead (list_names (node l ss cs ⊳ ε)) → NoneDead dead (shown (node l ss cs))
  head_shown (VarDecl k) ss cs e h = first_of (names_of (node (VarDecl k) ss cs)) [] (path (sym (names_cons (node (VarDecl k) ss cs) ε)) h)
  head_shown l ss cs e h = nothing (inner_shown l ss cs e)

  loop_shown : (cs : Forest) → are_loop_parts (labels_of cs) ≡ true → last_not_listed cs ≡ true → NoneDead dead (list_names (first_tree cs ⊳ ε)) → NoneDead dead (shown_all cs)
  loop_shown (node i ss is ⊳ node t rs ts ⊳ node u qs us ⊳ node b ps bs ⊳ ε) a v h =
      let p = and_parts (is_head i) (is_inner t && (is_inner u && is_statement b)) a in
      let q = and_parts (is_inner t) (is_inner u && is_statement b) p.1 in
      let r = and_parts (is_inner u) (is_statement b) q.1 in
      both (shown (node i ss is)) _ (head_shown i ss is p.0 h)
      (both (shown (node t rs ts)) _ (nothing (inner_shown t rs ts q.0))
      (both (shown (node u qs us)) _ (nothing (inner_shown u qs us r.0))
      (both (shown (node b ps bs)) [] (nothing (unlisted_shown b ps bs r.1 (not-true (is_listed (node b ps bs)) v))) no_names)))
  loop_shown ε a v h = absurd (false≢true a)
  loop_shown (node i ss is ⊳ ε) a v h = absurd (false≢true a)
  loop_shown (node i ss is ⊳ node t rs ts ⊳ ε) a v h = absurd (false≢true a)
  loop_shown (node i ss is ⊳ node t rs ts ⊳ node u qs us ⊳ ε) a v h = absurd (false≢true a)
  loop_shown (node i ss is ⊳ node t rs ts ⊳ node u qs us ⊳ node b ps bs ⊳ node c os cs ⊳ ds) a v h = absurd (false≢true a)

  export_shown : (ss : List Span) (cs : Forest) → is_one_declaration (labels_of cs) ≡ true → NoneDead dead (names_of (node ExportDecl ss cs)) → NoneDead dead (shown_all cs)
  export_shown ss (node (VarDecl k) rs ds ⊳ ε) a h = both (names_of (node (VarDecl k) rs ds)) [] h no_names
  export_shown ss (node (FnDecl x) rs ds ⊳ ε) a h = both (x ∷ []) [] h no_names
  export_shown ss ε a h = absurd (false≢true a)
  export_shown ss (node l rs ds ⊳ node m qs es ⊳ ts) a h = absurd (false≢true a)
  export_shown ss (node l rs ds ⊳ ε) a h = absurd (false≢true a)

  -- any node

  own_none : (l : Label) (ss : List Span) (cs : Forest) → Hidden dead (node l ss cs) → (y : Name) → dead y ≡ true → own_scopes y l cs ≡ 0
  own_none l ss cs h y d = omega (arith, h.unbound y d)

  inside_of : (l : Label) (ss : List Span) (cs : Forest) → holds l (labels_of cs) ≡ true → good_shape l cs ≡ true → Hidden dead (node l ss cs) → Inside dead cs
  unfolding own_scopes
  inside_of Block ss cs a v h = (h.no_var, statements_shown cs a (unbound_list cs (λ y d. not_one (list_binds cs y) (own_none Block ss cs h y d))))
  inside_of Body ss cs a v h = let n = first_of (declared_names cs) [] h.not_shown in (first_of (vars_all cs) (list_names cs) n, statements_shown cs a (rest_of (vars_all cs) (list_names cs) n))
  inside_of CaseBody ss cs a v h = (h.no_var, statements_shown cs a (first_of (list_names cs) [] h.not_shown))
  inside_of Script ss cs a v h =
      let parts : (y : Name) → dead y ≡ true → (has_name y (vars_all cs) ≡ false) × (list_binds cs y ≡ false) = λ y d. or_parts (has_name y (vars_all cs)) (list_binds cs y) (not_one (body_declares cs y) (own_none Script ss cs h y d)) in
      (record { by = λ y d. (parts y d).0 }, statements_shown cs a (unbound_list cs (λ y d. (parts y d).1)))
  inside_of Module ss cs a v h =
      let whole : (y : Name) → dead y ≡ true → (has_name y (import_names cs) ≡ false) × (body_declares cs y ≡ false) = λ y d. or_parts (has_name y (import_names cs)) (body_declares cs y) (not_one (module_binds cs y) (own_none Module ss cs h y d)) in
      let parts : (y : Name) → dead y ≡ true → (has_name y (vars_all cs) ≡ false) × (list_binds cs y ≡ false) = λ y d. or_parts (has_name y (vars_all cs)) (list_binds cs y) (whole y d).1 in
      (record { by = λ y d. (parts y d).0 }, items_shown cs a (record { by = λ y d. (whole y d).0 }) (unbound_list cs (λ y d. (parts y d).1)))
  inside_of If ss cs a v h = (h.no_var, nothing (unlisted_all cs a v))
  inside_of While ss cs a v h = (h.no_var, nothing (unlisted_all cs a v))
  inside_of DoWhile ss cs a v h = (h.no_var, nothing (unlisted_all cs a v))
  inside_of (Labeled t) ss cs a v h = (h.no_var, nothing (unlisted_all cs a v))
  inside_of For ss cs a v h = (h.no_var, loop_shown cs a v (unbound_list (first_tree cs ⊳ ε) (λ y d. not_one (is_found y (head_names (first_tree cs))) (own_none For ss cs h y d))))
  inside_of (Switch ds) ss cs a v h = (h.no_var, cases_shown cs a (unbound_list (case_statements cs) (λ y d. not_one (list_binds (case_statements cs) y) (own_none (Switch ds) ss cs h y d))))
  inside_of (Try o) ss cs a v h = (h.no_var, nothing (none_shown is_block_or_inner block_shown cs a))
  inside_of (VarDecl k) ss cs a v h = (h.no_var, names_shown k ss cs a h)
  inside_of (Fn o) ss cs a v h = parts_inside is_body a_body cs a (unbound_function cs (λ y d. omega (arith, own_none (Fn o) ss cs h y d)))
  inside_of (FnDecl x) ss cs a v h = parts_inside is_body a_body cs a (unbound_function cs (λ y d. own_none (FnDecl x) ss cs h y d))
  inside_of (ExportDefaultFn o) ss cs a v h = parts_inside is_body a_body cs a (unbound_function cs (λ y d. own_none (ExportDefaultFn o) ss cs h y d))
  inside_of Arrow ss cs a v h = parts_inside is_body_or_inner (λ l e. e) cs a (unbound_function cs (λ y d. own_none Arrow ss cs h y d))
  inside_of Method ss cs a v h = method_inside cs a (unbound_function cs (λ y d. own_none Method ss cs h y d))
  inside_of Params ss cs a v h = (nothing (no_vars is_param param_vars cs a), path (params_shown cs a) (first_of (param_names cs) [] h.not_shown))
  inside_of (Import src) ss cs a v h = (nothing (no_vars is_specifier specifier_vars cs a), path (specifiers_shown cs a) (first_of (specifier_names cs) [] h.not_shown))
  inside_of ExportDecl ss cs a v h = (h.no_var, export_shown ss cs a h.not_shown)
  inside_of l ss cs a v h = (nothing (no_vars is_inner inner_vars cs a), nothing (none_shown is_inner inner_shown cs a))

  -- the label itself
  own_lives : (l : Label) (ss : List Span) (cs : Forest) → Hidden dead (node l ss cs) → binds_living dead l ≡ true
  unfolding own_scopes
  own_lives (Declarator k x) ss cs h = one_lives x (first_of (x ∷ []) _ h.not_shown)
  own_lives (Param x) ss cs h = one_lives x (first_of (x ∷ []) _ h.not_shown)
  own_lives (FnDecl x) ss cs h = one_lives x h.not_shown
  own_lives (Fn o) ss cs h = option_shown o (record { by = λ y d. not_one (has_name y (option_name o)) (omega (arith, own_none (Fn o) ss cs h y d)) })
  own_lives (Try (Some o)) ss cs h = option_shown o (record { by = λ y d. not_one (has_name y (option_name o)) (own_none (Try (Some o)) ss cs h y d) })
  own_lives (ExportDefaultFn o) ss cs h = one_lives (name_or_default o) h.not_shown
  own_lives ExportDefaultExpr ss cs h = one_lives default_name h.not_shown
  own_lives (ImportNamed x i) ss cs h = one_lives x (first_of (x ∷ []) _ h.not_shown)
  own_lives (ImportDefault x) ss cs h = one_lives x (first_of (x ∷ []) _ h.not_shown)
  own_lives (ImportStar x) ss cs h = one_lives x (first_of (x ∷ []) _ h.not_shown)
  own_lives l ss cs h = refl

mutual
  pub living : (dead : Name → Bool) (t : Tree) → is_shaped t ≡ true → valid t ≡ true → Hidden dead t → all_living dead t ≡ true
  living dead (node l ss cs) a v h =
      let p = and_parts (holds l (labels_of cs)) (are_shaped cs) a in
      let q = and_parts (good_names l && good_shape l cs) (valid_all cs) v in
      let r = inside_of l ss cs p.0 (and_parts (good_names l) (good_shape l cs) q.0).1 h in
      and_from (binds_living dead l) (all_living_in dead cs) (own_lives l ss cs h) (living_in dead cs p.1 q.1 (each_hidden cs (λ y d. omega (arith, h.unbound y d)) r.0 r.1))

  living_in : (dead : Name → Bool) (ts : Forest) → are_shaped ts ≡ true → valid_all ts ≡ true → HiddenAll dead ts → all_living_in dead ts ≡ true
  living_in dead ε a v h = refl
  living_in dead (t ⊳ ts) a v h =
      let p = and_parts (is_shaped t) (are_shaped ts) a in
      let q = and_parts (valid t) (valid_all ts) v in
      and_from (all_living dead t) (all_living_in dead ts) (living dead t p.0 q.0 h.0) (living_in dead ts p.1 q.1 h.1)
