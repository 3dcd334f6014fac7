-- In a tree of the core in which one list at most binds a name, a node that declares the name as one that a list may declare only
-- once is the only node that declares it in lists and among parameters.
use Rattle.std.proofs.Common.{◌≡◌, ℕ, zero, suc, ◌+◌, ◌≤◌, Bool, true, false, ◌&&◌, ◌||◌, if◌then◌else◌, List, refl, sym, ◌∙◌, arith}
use Rattle.std.proofs.lemmas.Bool.{and_parts, or_parts, false≢true}
use Rattle.swc_ast.specs.declared.Span.{Span}
use Rattle.swc_ast.specs.Tree.{Name, Label, Fn, Arrow, Method, FnDecl, ExportDefaultFn, Block, For, Switch, Module, Script, Tree, node, Forest, ε, ◌⊳◌}
use Rattle.swc_ast.specs.Scope.{has_name, vars_all, declared, list_binds, is_found, param_names, body_declares, import_names, module_binds, case_statements}
use Rattle.swc_ast.specs.Meaning.{head_names, first_tree}
use Rattle.swc_ast.specs.Valid.{valid}
use Rattle.swc_ast.specs.Resolved.{first_names, one_if, has_default, params_of, body_of, function_scopes}
use Rattle.swc_ast.specs.Core.{times_in, once_each, none_in, list_names, good_list, good_body, good_scope, numbers_fit, fits, fits_all}
use Rattle.static_proofs.specs.Shaped.{is_shaped}
use Rattle.static_proofs.proofs.Names.{times_has, once_said, none_said, found_first}
use Rattle.swc_ast.specs.Labels.{is_whole}
use Rattle.carry_proofs.proofs.Declaring.{times, shared_shown, single_shown, shared_here, single_here, shared_held, shared_held_all, single_held, single_held_all}
use Rattle.carry_proofs.proofs.Counted.{shared_counted, single_counted}

-- names in lists

pub not_in : (x : Name) (xs : List Name) → has_name x xs ≡ false → times_in x xs ≡ 0
not_in x xs h = go (times_in x xs) refl
  where
    go : (n : ℕ) → times_in x xs ≡ n → n ≡ 0
    go zero e = refl
    go (suc n) e = absurd (false≢true (sym h ∙ times_has x xs (omega (arith, e))))

unbound_list : (x : Name) (ts : Forest) → list_binds ts x ≡ false → times_in x (list_names ts) ≡ 0
unbound_list x ts h = not_in x (list_names ts) (sym (found_first x (declared ts)) ∙ h)

at_most_once : (x : Name) (xs : List Name) → once_each xs xs ≡ true → times_in x xs ≤ 1
at_most_once x xs h = go (has_name x xs) refl
  where
    go : (b : Bool) → has_name x xs ≡ b → times_in x xs ≤ 1
    go true e = once_said xs xs h x e
    go false e = omega (arith, not_in x xs e)

-- where one list has a name, another has not
not_both : (x : Name) (xs ys : List Name) → none_in xs ys ≡ true → 1 ≤ times_in x xs → times_in x ys ≡ 0
not_both x xs ys h i = not_in x ys (none_said xs ys h x (times_has x xs i))

-- two counts of which the first is one alone, if it is one at all
record Alone (single shared : ℕ) : Type 0 where
  pub by : 1 ≤ single → single + shared ≤ 1

list_alone : (x : Name) (ts : Forest) → good_list ts ≡ true → Alone (times_in x (list_names ts)) (times_in x (vars_all ts))
list_alone x ts g =
    let p = and_parts (once_each (list_names ts) (list_names ts)) (none_in (list_names ts) (vars_all ts)) g in
    record { by = λ h. omega (arith, at_most_once x (list_names ts) p.0, not_both x (list_names ts) (vars_all ts) p.1 h) }

body_alone : (x : Name) (others : List Name) (ts : Forest) → good_body others ts ≡ true → Alone (times_in x (list_names ts)) (times_in x others + times_in x (vars_all ts))
body_alone x others ts g =
    let p = and_parts (good_list ts) (once_each others others && none_in (list_names ts) others) g in
    let q = and_parts (once_each others others) (none_in (list_names ts) others) p.1 in
    record { by = λ h. omega (arith, (list_alone x ts p.0).by h, not_both x (list_names ts) others q.1 h) }

module_alone : (x : Name) (ts : Forest) → good_body (import_names ts) ts ≡ true → none_in (import_names ts) (vars_all ts) ≡ true → Alone (times_in x (import_names ts) + times_in x (list_names ts)) (times_in x (vars_all ts))
module_alone x ts g n = record { by = λ h. by_case h (times_in x (list_names ts)) refl }
  where
    once_imported : times_in x (import_names ts) ≤ 1
    once_imported =
        let p = and_parts (good_list ts) (once_each (import_names ts) (import_names ts) && none_in (list_names ts) (import_names ts)) g in
        at_most_once x (import_names ts) (and_parts (once_each (import_names ts) (import_names ts)) (none_in (list_names ts) (import_names ts)) p.1).0

    by_case : 1 ≤ times_in x (import_names ts) + times_in x (list_names ts) → (n : ℕ) → times_in x (list_names ts) ≡ n → times_in x (import_names ts) + times_in x (list_names ts) + times_in x (vars_all ts) ≤ 1
    by_case h zero e = omega (arith, h, e, once_imported, not_both x (import_names ts) (vars_all ts) n (omega (arith, h, e)))
    by_case h (suc m) e = omega (arith, (body_alone x (import_names ts) ts g).by (omega (arith, e)))

-- scopes that bind none

not_one : (b : Bool) → one_if b ≡ 0 → b ≡ false
not_one false e = refl
not_one true e = absurd (omega (arith, e))

function_unbound : (d p b : Bool) → (if d then one_if p + one_if b else one_if (p || b)) ≡ 0 → (p ≡ false) × (b ≡ false)
function_unbound true false false e = (refl, refl)
function_unbound false false false e = (refl, refl)
function_unbound true true b e = absurd (omega (arith, e))
function_unbound true false true e = absurd (omega (arith, e))
function_unbound false true b e = absurd (omega (arith, e))
function_unbound false false true e = absurd (omega (arith, e))

body_unbound : (x : Name) (ts : Forest) → body_declares ts x ≡ false → times_in x (vars_all ts) + times_in x (list_names ts) ≡ 0
body_unbound x ts h =
    let p = or_parts (has_name x (vars_all ts)) (list_binds ts x) h in
    omega (arith, not_in x (vars_all ts) p.0, unbound_list x ts p.1)

-- In how many scopes of lists and parameters a name is bound: names of their own, which functions have and handlers, are left out.
abbrev pub list_scopes : Name → Label → Forest → ℕ
list_scopes x (Fn o) cs = function_scopes x cs
list_scopes x Arrow cs = function_scopes x cs
list_scopes x Method cs = function_scopes x cs
list_scopes x (FnDecl f) cs = function_scopes x cs
list_scopes x (ExportDefaultFn o) cs = function_scopes x cs
list_scopes x Block cs = one_if (list_binds cs x)
list_scopes x For cs = one_if (is_found x (head_names (first_tree cs)))
list_scopes x (Switch ds) cs = one_if (list_binds (case_statements cs) x)
list_scopes x Module cs = one_if (module_binds cs x)
list_scopes x Script cs = one_if (body_declares cs x)
list_scopes x _ cs = 0

abbrev mutual
  pub listed : Name → Tree → ℕ
  listed x (node l ss cs) = list_scopes x l cs + listed_all x cs

  pub listed_all : Name → Forest → ℕ
  listed_all x ε = 0
  listed_all x (t ⊳ ts) = listed x t + listed_all x ts

-- what a node's scope holds of a name: nothing if it doesn't bind it, and one node that may stand alone
record Sole (x : Name) (l : Label) (cs : Forest) : Type 0 where
  pub none : list_scopes x l cs ≡ 0 → shared_here x l cs + single_here x l cs ≡ 0
  pub one : 1 ≤ single_here x l cs → single_here x l cs + shared_here x l cs ≤ 1

function_none : (x : Name) (cs : Forest) → function_scopes x cs ≡ 0 → times_in x (param_names (params_of cs)) + times_in x (vars_all (body_of cs)) + times_in x (list_names (body_of cs)) ≡ 0
function_none x cs h =
    let p = function_unbound (has_default (params_of cs)) (has_name x (param_names (params_of cs))) (body_declares (body_of cs) x) h in
    omega (arith, not_in x (param_names (params_of cs)) p.0, body_unbound x (body_of cs) p.1)

sole : (x : Name) (l : Label) (cs : Forest) → good_scope l cs ≡ true → Sole x l cs
sole x (Fn o) cs g = record { none = λ h. omega (arith, function_none x cs h); one = λ h. omega (arith, (body_alone x (param_names (params_of cs)) (body_of cs) g).by h) }
sole x Arrow cs g = record { none = λ h. omega (arith, function_none x cs h); one = λ h. omega (arith, (body_alone x (param_names (params_of cs)) (body_of cs) g).by h) }
sole x Method cs g = record { none = λ h. omega (arith, function_none x cs h); one = λ h. omega (arith, (body_alone x (param_names (params_of cs)) (body_of cs) g).by h) }
sole x (FnDecl f) cs g = record { none = λ h. omega (arith, function_none x cs h); one = λ h. omega (arith, (body_alone x (param_names (params_of cs)) (body_of cs) g).by h) }
sole x (ExportDefaultFn o) cs g = record { none = λ h. omega (arith, function_none x cs h); one = λ h. omega (arith, (body_alone x (param_names (params_of cs)) (body_of cs) g).by h) }
sole x Block cs g = record { none = λ h. omega (arith, unbound_list x cs (not_one (list_binds cs x) h)); one = λ h. omega (arith, (list_alone x cs g).by h) }
sole x (Switch ds) cs g = record { none = λ h. omega (arith, unbound_list x (case_statements cs) (not_one (list_binds (case_statements cs) x) h)); one = λ h. omega (arith, (list_alone x (case_statements cs) g).by h) }
sole x For cs g =
    let p = and_parts (once_each (first_names (head_names (first_tree cs))) (first_names (head_names (first_tree cs)))) (none_in (first_names (head_names (first_tree cs))) (vars_all cs)) g in
    record { none = λ h. omega (arith, unbound_list x (first_tree cs ⊳ ε) (not_one (is_found x (head_names (first_tree cs))) h)); one = λ h. omega (arith, at_most_once x (list_names (first_tree cs ⊳ ε)) p.0) }
sole x Module cs g =
    let p = and_parts (good_body (import_names cs) cs) (none_in (import_names cs) (vars_all cs)) g in
    record { none = λ h. none_bound (or_parts (has_name x (import_names cs)) (body_declares cs x) (not_one (module_binds cs x) h)); one = λ h. omega (arith, (module_alone x cs p.0 p.1).by h) }
  where
    none_bound : (has_name x (import_names cs) ≡ false) × (body_declares cs x ≡ false) → times_in x (vars_all cs) + (times_in x (import_names cs) + times_in x (list_names cs)) ≡ 0
    none_bound p = omega (arith, not_in x (import_names cs) p.0, body_unbound x cs p.1)
sole x Script cs g = record { none = λ h. omega (arith, body_unbound x cs (not_one (body_declares cs x) h)); one = λ h. omega (arith, (list_alone x cs g).by h) }
sole x l cs g = record { none = λ h. refl; one = λ h. absurd (omega (arith, h)) }

-- the same of all scopes of a tree

record Held (scoped shared single : ℕ) : Type 0 where
  pub none : scoped ≡ 0 → shared + single ≡ 0
  pub one : scoped ≤ 1 → 1 ≤ single → single + shared ≤ 1

either_held : {a b c d e f : ℕ} → Held a b c → Held d e f → Held (a + d) (b + e) (c + f)
either_held {a} {b} {c} {d} {e} {f} h g = record { none = λ i. omega (arith, h.none (omega (arith, i)), g.none (omega (arith, i))); one = λ i j. by_first a refl d refl i j }
  where
    by_first : (m : ℕ) → a ≡ m → (n : ℕ) → d ≡ n → a + d ≤ 1 → 1 ≤ c + f → c + f + (b + e) ≤ 1
    by_first zero p n q i j = omega (arith, h.none p, g.one (omega (arith, i)) (omega (arith, j, h.none p)))
    by_first (suc m) p zero q i j = omega (arith, g.none q, h.one (omega (arith, i)) (omega (arith, j, g.none q)))
    by_first (suc m) p (suc n) q i j = absurd (omega (arith, p, q, i))

own_held : (x : Name) (l : Label) (cs : Forest) → good_scope l cs ≡ true → Held (list_scopes x l cs) (shared_here x l cs) (single_here x l cs)
own_held x l cs g = record { none = (sole x l cs g).none; one = λ i. (sole x l cs g).one }

mutual
  held : (x : Name) (t : Tree) → fits t ≡ true → Held (listed x t) (shared_held x t) (single_held x t)
  held x (node l ss cs) f =
      let q = and_parts (good_scope l cs) (fits_all cs) (and_parts (numbers_fit l) (good_scope l cs && fits_all cs) f).1 in
      either_held (own_held x l cs q.0) (held_all x cs q.1)

  held_all : (x : Name) (ts : Forest) → fits_all ts ≡ true → Held (listed_all x ts) (shared_held_all x ts) (single_held_all x ts)
  held_all x ε f = record { none = λ h. refl; one = λ i h. absurd (omega (arith, h)) }
  held_all x (t ⊳ ts) f = let q = and_parts (fits t) (fits_all ts) f in either_held (held x t q.0) (held_all x ts q.1)

-- a module or a script shows nothing

whole_shared : (x : Name) (l : Label) (ss : List Span) (cs : Forest) → is_whole l ≡ true → shared_shown x (node l ss cs) ≡ 0
whole_shared x Module ss cs i = omega arith
whole_shared x Script ss cs i = omega arith
whole_shared x l ss cs i = absurd (false≢true i)

whole_single : (x : Name) (l : Label) (ss : List Span) (cs : Forest) → is_whole l ≡ true → single_shown x (node l ss cs) ≡ 0
whole_single x Module ss cs i = omega arith
whole_single x Script ss cs i = omega arith
whole_single x l ss cs i = absurd (false≢true i)

module _ (x : Name) (l : Label) (ss : List Span) (cs : Forest) (i : is_whole l ≡ true) (a : is_shaped (node l ss cs) ≡ true) (v : valid (node l ss cs) ≡ true) (f : fits (node l ss cs) ≡ true) where
  -- a name that no scope binds, no node declares
  pub none_declared : listed x (node l ss cs) ≡ 0 → times false x (node l ss cs) + times true x (node l ss cs) ≡ 0
  none_declared h = omega (arith, (held x (node l ss cs) f).none h, shared_counted x (node l ss cs) a, single_counted x (node l ss cs) a v, whole_shared x l ss cs i, whole_single x l ss cs i)

  -- a name that one scope binds, and that one may declare only once, one node alone declares
  pub one_declared : listed x (node l ss cs) ≤ 1 → 1 ≤ times true x (node l ss cs) → times false x (node l ss cs) + times true x (node l ss cs) ≤ 1
  one_declared h k = omega (arith, (held x (node l ss cs) f).one h (omega (arith, k, single_counted x (node l ss cs) a v, whole_single x l ss cs i)), shared_counted x (node l ss cs) a, single_counted x (node l ss cs) a v, whole_shared x l ss cs i, whole_single x l ss cs i)
