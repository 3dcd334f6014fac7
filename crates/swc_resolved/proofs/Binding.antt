-- Scopes that are bound one by one: what is taken behind them, and what is bound twice.
use Rattle.std.proofs.Common.{◌≡◌, ℕ, ◌+◌, ◌≤◌, Bool, true, false, ◌||◌, List, [], ◌++◌, refl, sym, ap, ◌∙◌, arith}
use Rattle.std.proofs.lemmas.Bool.{false≢true}
use Rattle.std.specs.Prelude.{if◌then◌else◌}
use Rattle.swc_ast.specs.Tree as tree
use Rattle.swc_ast.specs.Tree.{Name, Label, Tree, node, Forest, ε, ◌⊳◌, label_of, children_of}
use Rattle.swc_ast.specs.Scope.{is_function, has_name, is_found, vars_all, declared, body_declares, module_binds, import_names, param_names, case_statements}
use Rattle.swc_ast.specs.Meaning.{head_names, first_tree}
use Rattle.swc_ast.specs.Resolved.{one_if, catch_name, has_default, params_of, body_of, first_names, declared_names, function_scopes, own_scopes, scopes, scopes_all}
use Rattle.static_proofs.proofs.Names.{has_name_append, found_first}
use Rattle.swc_resolved.specs.declared.names.Name.{Name as Key}
use Rattle.swc_resolved.specs.Names.{names}
use Rattle.swc_resolved.specs.Scopes.{own_names, opens_scope, Binds}

-- scopes behind scopes

pub binds_as : (b : Bool) (old new : Name → Bool) (more all : Name → ℕ) → ((x : Name) → more x ≡ all x) → Binds b old new more → Binds b old new all
binds_as true old new more all e h = λ x. h x ∙ ap (λ n. one_if (old x) + n) (e x)
binds_as false old new more all e h = (h.0, (let same = e h.0 in let least = h.1 in omega (arith, same, least)))

pub binds_then : (b : Bool) (old mid new : Name → Bool) (first more all : Name → ℕ) → ((x : Name) → all x ≡ first x + more x) → Binds true old mid first → Binds b mid new more → Binds b old new all
binds_then true old mid new first more all e h i = λ x. let f = h x in let g = i x in let k = e x in omega (arith, f, g, k)
binds_then false old mid new first more all e h i = (i.0, (let f = h i.0 in let g = i.1 in let k = e i.0 in omega (arith, f, g, k)))

pub stops_here : (old mid new : Name → Bool) (first more all : Name → ℕ) → ((x : Name) → all x ≡ first x + more x) → Binds false old mid first → Binds false old new all
stops_here old mid new first more all e h = (h.0, (let g = h.1 in let k = e h.0 in omega (arith, g, k)))

-- a function's scopes

body_names : (x : Name) (ts : Forest) → body_declares ts x ≡ has_name x (declared_names ts)
body_names x ts = ap (λ b. has_name x (vars_all ts) || b) (found_first x (declared ts)) ∙ sym (has_name_append x (vars_all ts) (first_names (declared ts)))

function_as : (b : Bool) (x : Name) (cs : Forest) → has_default (params_of cs) ≡ b → function_scopes x cs ≡ (if b then one_if (has_name x (param_names (params_of cs))) + one_if (body_declares (body_of cs) x) else one_if (has_name x (param_names (params_of cs)) || body_declares (body_of cs) x))
function_as b x cs is = ap (λ d. if d then one_if (has_name x (param_names (params_of cs))) + one_if (body_declares (body_of cs) x) else one_if (has_name x (param_names (params_of cs)) || body_declares (body_of cs) x)) is

pub two_scopes : (x : Name) (cs : Forest) → has_default (params_of cs) ≡ true → function_scopes x cs ≡ one_if (has_name x (param_names (params_of cs))) + one_if (has_name x (declared_names (body_of cs)))
two_scopes x cs is = function_as true x cs is ∙ ap (λ b. one_if (has_name x (param_names (params_of cs))) + one_if b) (body_names x (body_of cs))

pub one_scope : (x : Name) (cs : Forest) → has_default (params_of cs) ≡ false → one_if (has_name x (param_names (params_of cs) ++ declared_names (body_of cs))) ≡ function_scopes x cs
one_scope x cs is = sym (function_as false x cs is ∙ ap one_if (ap (λ b. has_name x (param_names (params_of cs)) || b) (body_names x (body_of cs)) ∙ sym (has_name_append x (param_names (params_of cs)) (declared_names (body_of cs)))))

-- the scopes of a node

abbrev pub if_function : Name → Label → Forest → ℕ
if_function x l cs = if is_function l then function_scopes x cs else 0

alone : (x : Name) (b : Bool) (xs : List Name) → b ≡ has_name x xs → one_if b ≡ one_if (has_name x xs) + 0
alone x b xs is = let h = ap one_if is in omega (arith, h)

none_first : (n : ℕ) → n ≡ 0 + n
none_first n = omega arith

pub own_scopes_are : (x : Name) (l : Label) (cs : Forest) → own_scopes x l cs ≡ one_if (has_name x (own_names l cs)) + if_function x l cs
unfolding own_scopes
own_scopes_are x (tree.Fn o) cs = refl
own_scopes_are x tree.Arrow cs = none_first (function_scopes x cs)
own_scopes_are x tree.Method cs = none_first (function_scopes x cs)
own_scopes_are x (tree.FnDecl f) cs = none_first (function_scopes x cs)
own_scopes_are x (tree.ExportDefaultFn o) cs = none_first (function_scopes x cs)
own_scopes_are x tree.Block cs = alone x (is_found x (declared cs)) (first_names (declared cs)) (found_first x (declared cs))
own_scopes_are x tree.For cs = alone x (is_found x (head_names (first_tree cs))) (first_names (head_names (first_tree cs))) (found_first x (head_names (first_tree cs)))
own_scopes_are x (tree.Switch ds) cs = alone x (is_found x (declared (case_statements cs))) (first_names (declared (case_statements cs))) (found_first x (declared (case_statements cs)))
own_scopes_are x (tree.Try o) cs = alone x (has_name x (catch_name o)) (catch_name o) refl
own_scopes_are x tree.Module cs = alone x (module_binds cs x) (import_names cs ++ declared_names cs) (ap (λ b. has_name x (import_names cs) || b) (body_names x cs) ∙ sym (has_name_append x (import_names cs) (declared_names cs)))
own_scopes_are x tree.Script cs = alone x (body_declares cs x) (declared_names cs) (body_names x cs)
own_scopes_are x l cs = refl

none_behind : (n m : ℕ) → m ≡ 0 → n ≡ n + m
none_behind n m is = omega (arith, is)

pub no_function : (x : Name) (l : Label) (cs : Forest) → is_function l ≡ false → one_if (has_name x (own_names l cs)) ≡ own_scopes x l cs
no_function x l cs is = none_behind (one_if (has_name x (own_names l cs))) (if_function x l cs) (ap (λ b. if b then function_scopes x cs else 0) is) ∙ sym (own_scopes_are x l cs)

pub with_function : (x : Name) (l : Label) (cs : Forest) → is_function l ≡ true → own_scopes x l cs ≡ one_if (has_name x (own_names l cs)) + function_scopes x cs
with_function x l cs is = own_scopes_are x l cs ∙ ap (λ b. one_if (has_name x (own_names l cs)) + (if b then function_scopes x cs else 0)) is

no_scopes : (x : Name) (l : Label) (cs : Forest) → opens_scope l ≡ false → own_scopes x l cs ≡ 0
unfolding own_scopes
no_scopes x (tree.Fn o) cs h = absurd (false≢true (sym h))
no_scopes x tree.Arrow cs h = absurd (false≢true (sym h))
no_scopes x tree.Method cs h = absurd (false≢true (sym h))
no_scopes x (tree.FnDecl f) cs h = absurd (false≢true (sym h))
no_scopes x (tree.ExportDefaultFn o) cs h = absurd (false≢true (sym h))
no_scopes x tree.Block cs h = absurd (false≢true (sym h))
no_scopes x tree.For cs h = absurd (false≢true (sym h))
no_scopes x (tree.Switch ds) cs h = absurd (false≢true (sym h))
no_scopes x (tree.Try o) cs h = absurd (false≢true (sym h))
no_scopes x tree.Module cs h = absurd (false≢true (sym h))
no_scopes x tree.Script cs h = absurd (false≢true (sym h))
no_scopes x l cs h = refl

pub none_opened : (old : Name → Bool) (l : Label) (cs : Forest) → opens_scope l ≡ false → Binds true old old (λ x. own_scopes x l cs)
none_opened old l cs h = λ x. none_behind (one_if (old x)) (own_scopes x l cs) (no_scopes x l cs h)

-- the scopes of a tree

scopes_split : (x : Name) (t : Tree) → scopes x t ≡ own_scopes x (label_of t) (children_of t) + scopes_all x (children_of t)
scopes_split x (node l ss cs) = refl

pub scopes_as : (x : Name) (t : Tree) (l : Label) (cs : Forest) → label_of t ≡ l → children_of t ≡ cs → scopes x t ≡ own_scopes x l cs + scopes_all x cs
scopes_as x t l cs labelled held = scopes_split x t ∙ cc (labelled, held)

pub bind_next : (cur new : Name → Bool) (g : Name → ℕ) (t : Tree) (ts us : Forest) → us ≡ t ⊳ ts → Binds true cur new (λ x. scopes x t) → ((x : Name) → one_if (cur x) + scopes_all x us ≡ g x) → (x : Name) → one_if (new x) + scopes_all x ts ≡ g x
bind_next cur new g t ts us is bound h x = let f = ap (scopes_all x) is in let b = bound x in let k = h x in omega (arith, f, b, k)

pub bind_stops : (old cur new : Name → Bool) (all : Name → ℕ) (t : Tree) (ts us : Forest) → us ≡ t ⊳ ts → Binds false cur new (λ x. scopes x t) → ((x : Name) → one_if (cur x) + scopes_all x us ≡ one_if (old x) + all x) → (x : Name) × (2 ≤ one_if (old x) + all x)
bind_stops old cur new all t ts us is bound h = (bound.0, (let f = ap (scopes_all bound.0) is in let b = bound.1 in let k = h bound.0 in omega (arith, f, b, k)))

pub bind_ends : (new : Name → Bool) (g : Name → ℕ) (us : Forest) → us ≡ ε → ((x : Name) → one_if (new x) + scopes_all x us ≡ g x) → (x : Name) → one_if (new x) ≡ g x
bind_ends new g us is h x = let f = ap (scopes_all x) is in let k = h x in omega (arith, f, k)

-- lists that are gathered from nothing

pub gathered_one : (start : List Key) (all xs : List Name) → start ≡ [] → all ≡ names start ++ xs → all ≡ xs
gathered_one start all xs is e = e ∙ ap (λ ks. names ks ++ xs) is
