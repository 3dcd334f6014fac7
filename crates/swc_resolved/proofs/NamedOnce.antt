-- Scopes that declare no name twice, by the names that are bound.
use Rattle.std.proofs.Common.{◌≡◌, ℕ, ◌+◌, ◌≤◌, Bool, true, false, not, ◌||◌, List, [], ◌∷◌, ◌++◌, length, take, drop, refl, sym, ap, ap₂, ◌∙◌, arith}
use Rattle.std.proofs.lemmas.Bool.{false≢true, and_parts, or_right}
use Rattle.std.proofs.lemmas.List.{append_assoc, length-append, length-map, take-append-drop, take_at, drop_at}
use Rattle.std.proofs.lemmas.Result.{IfOk-weaker}
use Rattle.std.specs.Prelude.{◌&&◌, if◌then◌else◌, Option, Some, None, Result, IfOk}
use Rattle.swc_ast.specs.Statements.{handler_param}
use Rattle.swc_ast.specs.Tree as tree
use Rattle.swc_ast.specs.Tree.{Name, Label, Forest}
use Rattle.swc_ast.specs.Core.{none_in, list_names, good_list, good_body}
use Rattle.swc_ast.specs.Scope.{is_function, has_name, option_name, vars_all, import_names, param_names}
use Rattle.swc_ast.specs.Resolved.{one_if, catch_name, declared_names, params_of, body_of, own_scopes}
use Rattle.static_proofs.proofs.Names.{has_name_append, none_show}
use Rattle.tree_visit.specs.Kinds.{kind_label}
use Rattle.tree_visit.specs.declared.kind.Kind.{Kind}
use Rattle.tree_visit.specs.declared.kind.Kind.TheVariants as kind
use Rattle.swc_resolved.specs.declared.names.Name.{Name as Key}
use Rattle.swc_resolved.specs.Names.{name, names}
use Rattle.swc_resolved.specs.Here.{distinct, stand_apart, named_once}
use Rattle.swc_resolved.specs.Scopes.{own_names, opens_scope, Binds, BindsNamed, both}
use Rattle.swc_resolved.specs.declared.scopes.Bound.{Bound}
use Rattle.swc_resolved.specs.declared.scopes.Bound.TheVariants as bound
use Rattle.swc_resolved.proofs.Binding.{binds_as, binds_then, stops_here, no_function, gathered_one}
use Rattle.swc_resolved.proofs.Lists.{none_swapped}
use Rattle.swc_resolved.proofs.Once.{none_in_none, once_joined, one_alone}

-- names in a list, by how many stand in front

front_and_back : (n : ℕ) (xs : List Name) → distinct xs ≡ true → (distinct (take n xs) && (distinct (drop n xs) && none_in (drop n xs) (take n xs))) ≡ true
front_and_back n xs once = sym (once_joined (take n xs) (drop n xs)) ∙ ap distinct (take-append-drop n xs) ∙ once

-- names that stand once each
pub once_apart : (strict loose : ℕ) (xs : List Name) → distinct xs ≡ true → stand_apart strict loose xs ≡ true
once_apart strict loose xs once = ap₂ (λ a b. a && b)
    (and_parts (distinct (take loose xs)) (distinct (drop loose xs) && none_in (drop loose xs) (take loose xs)) (front_and_back loose xs once)).1
    (and_parts (distinct (take strict xs)) (distinct (drop strict xs) && none_in (drop strict xs) (take strict xs)) (front_and_back strict xs once)).0

and_true : (a : Bool) → (a && true) ≡ a
and_true true = refl
and_true false = refl

-- names of which none may be declared again
pub none_loose : (xs : List Name) → stand_apart 0 0 xs ≡ distinct xs
none_loose xs = and_true (distinct xs && none_in xs []) ∙ ap (λ b. distinct xs && b) (none_in_none xs) ∙ and_true (distinct xs)

none_joined : (xs ys zs : List Name) → none_in (xs ++ ys) zs ≡ (none_in xs zs && none_in ys zs)
none_joined [] ys zs = refl
none_joined (x ∷ xs) ys zs = ap (λ b. not (has_name x zs) && b) (none_joined xs ys zs) ∙ turned (not (has_name x zs)) (none_in xs zs) (none_in ys zs)
  where
    turned : (a b c : Bool) → (a && (b && c)) ≡ ((a && b) && c)
    turned true b c = refl
    turned false b c = refl

none_in_joined : (xs ys zs : List Name) → none_in zs (xs ++ ys) ≡ (none_in zs xs && none_in zs ys)
none_in_joined xs ys zs = none_swapped (xs ++ ys) zs ∙ none_joined xs ys zs ∙ ap₂ (λ a b. a && b) (none_swapped zs xs) (none_swapped zs ys)

-- three lists in a row

strict_first : (os vs ds : List Name) → stand_apart (length os) (length (os ++ vs)) ((os ++ vs) ++ ds) ≡ ((distinct ds && none_in ds (os ++ vs)) && distinct os)
strict_first os vs ds = ap₂ (λ a b. a && b)
    (ap₂ (λ us ws. distinct us && none_in us ws) (drop_at (os ++ vs) ds (length (os ++ vs)) refl) (take_at (os ++ vs) ds (length (os ++ vs)) refl))
    (ap distinct (ap (take (length os)) (append_assoc os vs ds) ∙ take_at os (vs ++ ds) (length os) refl))

loose_first : (vs os ds : List Name) → stand_apart 0 (length vs) ((vs ++ os) ++ ds) ≡ (distinct (os ++ ds) && none_in (os ++ ds) vs)
loose_first vs os ds = and_true _ ∙ ap₂ (λ us ws. distinct us && none_in us ws)
    (ap (drop (length vs)) (append_assoc vs os ds) ∙ drop_at vs (os ++ ds) (length vs) refl)
    (ap (take (length vs)) (append_assoc vs os ds) ∙ take_at vs (os ++ ds) (length vs) refl)

-- a list of names that was gathered part by part

pub longer : (ks ms : List Key) (xs : List Name) → names ms ≡ names ks ++ xs → length ks ≤ length ms
longer ks ms xs is = let e = ap length is in omega (arith, e, length-append (names ks) xs, length-map ks name, length-map ms name)

many : (n : ℕ) (ks : List Key) (xs : List Name) → n ≡ length ks → names ks ≡ xs → n ≡ length xs
many n ks xs is are = is ∙ sym (length-map ks name) ∙ ap length are

pub body_names_are : (os mid all : List Key) (ts : Forest) → names mid ≡ names os ++ vars_all ts → names all ≡ names mid ++ list_names ts → names all ≡ names os ++ declared_names ts
body_names_are os mid all ts vars list = list ∙ ap (λ xs. xs ++ list_names ts) vars ∙ append_assoc (names os) (vars_all ts) (list_names ts)

-- other names and a body in one scope
pub body_stands : (strict loose : ℕ) (os mid all : List Key) (ts : Forest) → strict ≡ length os → loose ≡ length mid → names mid ≡ names os ++ vars_all ts → names all ≡ names mid ++ list_names ts → stand_apart strict loose (names all) ≡ good_body (names os) ts
body_stands strict loose os mid all ts first second vars list =
    let xs = names os in let vs = vars_all ts in let ds = list_names ts in
    ap₂ (λ n m. stand_apart n m (names all)) (many strict os xs first refl) (many loose mid (xs ++ vs) second vars)
    ∙ ap (stand_apart (length xs) (length (xs ++ vs))) (list ∙ ap (λ us. us ++ ds) vars)
    ∙ strict_first xs vs ds
    ∙ ap (λ b. (distinct ds && b) && distinct xs) (none_in_joined xs vs ds)
    ∙ sorted (distinct ds) (none_in ds xs) (none_in ds vs) (distinct xs)
  where
    sorted : (a b c d : Bool) → ((a && (b && c)) && d) ≡ ((a && c) && (d && b))
    sorted false b c d = refl
    sorted true true true true = refl
    sorted true true true false = refl
    sorted true true false d = refl
    sorted true false true true = refl
    sorted true false true false = refl
    sorted true false false d = refl

-- a body alone
pub no_others : (ts : Forest) → good_body [] ts ≡ good_list ts
no_others ts = ap (λ b. good_list ts && b) (none_in_none (list_names ts)) ∙ and_true (good_list ts)

-- a module
in_a_row : (start first mid all : List Key) (vs is ds : List Name) → start ≡ [] → names first ≡ names start ++ vs → names mid ≡ names first ++ is → names all ≡ names mid ++ ds → names all ≡ (vs ++ is) ++ ds
in_a_row start first mid all vs is ds none vars imports list = list ∙ ap (λ us. us ++ ds) (imports ∙ ap (λ us. us ++ is) (gathered_one start (names first) vs none vars))

pub module_binds_as : (x : Name) (start first mid all : List Key) (cs : Forest) → start ≡ [] → names first ≡ names start ++ vars_all cs → names mid ≡ names first ++ import_names cs → names all ≡ names mid ++ list_names cs → one_if (has_name x (names all)) ≡ own_scopes x tree.Module cs
module_binds_as x start first mid all cs none vars imports list =
    let vs = vars_all cs in let is = import_names cs in let ds = list_names cs in
    let here = has_name_append x (vs ++ is) ds ∙ ap (λ b. b || has_name x ds) (has_name_append x vs is) in
    let there = has_name_append x is (vs ++ ds) ∙ ap (λ b. has_name x is || b) (has_name_append x vs ds) in
    ap (λ us. one_if (has_name x us)) (in_a_row start first mid all vs is ds none vars imports list)
    ∙ ap one_if (here ∙ turned (has_name x vs) (has_name x is) (has_name x ds) ∙ sym there)
    ∙ no_function x tree.Module cs refl
  where
    turned : (a b c : Bool) → ((a || b) || c) ≡ (b || (a || c))
    turned true true c = refl
    turned true false c = refl
    turned false b c = refl

pub module_stands : (loose : ℕ) (start first mid all : List Key) (cs : Forest) → loose ≡ length first → start ≡ [] → names first ≡ names start ++ vars_all cs → names mid ≡ names first ++ import_names cs → names all ≡ names mid ++ list_names cs → stand_apart 0 loose (names all) ≡ named_once tree.Module cs
module_stands loose start first mid all cs count none vars imports list =
    let vs = vars_all cs in let is = import_names cs in let ds = list_names cs in
    ap₂ (stand_apart 0) (many loose first vs count (gathered_one start (names first) vs none vars)) (in_a_row start first mid all vs is ds none vars imports list)
    ∙ loose_first vs is ds
    ∙ ap₂ (λ a b. a && b) (once_joined is ds) (none_joined is ds vs)
    ∙ sorted (distinct is) (distinct ds) (none_in ds is) (none_in is vs) (none_in ds vs)
  where
    sorted : (a b c d e : Bool) → ((a && (b && c)) && (d && e)) ≡ (((b && e) && (a && c)) && d)
    sorted false false c d e = refl
    sorted false true c d true = refl
    sorted false true c d false = refl
    sorted true false c d e = refl
    sorted true true false d true = refl
    sorted true true false d false = refl
    sorted true true true true true = refl
    sorted true true true true false = refl
    sorted true true true false true = refl
    sorted true true true false false = refl

-- parameters and a body as two scopes, one behind the other

none_yet : (o m n p b : Bool) → one_if m ≡ one_if o + one_if p → one_if n ≡ one_if m + one_if b → b ≡ true → p ≡ false
none_yet o m n true b first more is = let f = ap one_if is in absurd (omega (arith, first, more, f, at_most_one n))
  where
    at_most_one : (b : Bool) → one_if b ≤ 1
    at_most_one true = omega arith
    at_most_one false = omega arith
none_yet o m n false b first more is = refl

in_body : (x : Name) (ts : Forest) → has_name x (list_names ts) ≡ true → has_name x (declared_names ts) ≡ true
in_body x ts is = has_name_append x (vars_all ts) (list_names ts) ∙ or_right (has_name x (vars_all ts)) (has_name x (list_names ts)) is

-- no name of the body was a parameter, since each of its names was new
pub apart_from_params : (old mid new : Name → Bool) (ps : List Name) (ts : Forest) → Binds true old mid (λ x. one_if (has_name x ps)) → Binds true mid new (λ x. one_if (has_name x (declared_names ts))) → good_body ps ts ≡ (distinct ps && good_list ts)
apart_from_params old mid new ps ts first more =
    ap (λ b. good_list ts && (distinct ps && b)) (none_show (list_names ts) ps (λ x is. none_yet (old x) (mid x) (new x) (has_name x ps) (has_name x (declared_names ts)) (first x) (more x) (in_body x ts is)))
    ∙ turned (good_list ts) (distinct ps)
  where
    turned : (a b : Bool) → (a && (b && true)) ≡ (b && a)
    turned true true = refl
    turned true false = refl
    turned false true = refl
    turned false false = refl

-- a node's scope

-- one name at most
option_once : (o : Option Name) → distinct (option_name o) ≡ true
option_once None = refl
option_once (Some x) = one_alone x

catch_once : (o : Option (Option Name)) → distinct (catch_name o) ≡ true
catch_once None = refl
catch_once (Some o) = option_once o

-- of a node that is no module, no script and no function, by the names that it binds itself
pub plain_named : (k : Kind) (cs : Forest) → (k ≡ kind.Module → ⊥) → (k ≡ kind.Script → ⊥) → is_function (kind_label k) ≡ false → distinct (own_names (kind_label k) cs) ≡ named_once (kind_label k) cs
plain_named kind.Module cs m s plain = absurd (m refl)
plain_named kind.Script cs m s plain = absurd (s refl)
plain_named (kind.Fn n) cs m s plain = absurd (false≢true (sym plain))
plain_named kind.Block cs m s plain = refl
plain_named kind.For cs m s plain = refl
plain_named (kind.Switch n) cs m s plain = refl
plain_named (kind.Try h) cs m s plain = catch_once (handler_param h.now)
plain_named k cs m s plain = sym (ap (λ b. if b then good_body (param_names (params_of cs)) (body_of cs) else true) plain)

-- of a function, by its own name, its parameters and its body
pub function_named : (l : Label) (cs : Forest) → is_function l ≡ true → named_once l cs ≡ (distinct (own_names l cs) && good_body (param_names (params_of cs)) (body_of cs))
function_named (tree.Fn o) cs is = ap (λ b. b && good_body (param_names (params_of cs)) (body_of cs)) (sym (option_once o))
function_named tree.Block cs is = absurd (false≢true is)
function_named tree.For cs is = absurd (false≢true is)
function_named (tree.Switch ds) cs is = absurd (false≢true is)
function_named (tree.Try o) cs is = absurd (false≢true is)
function_named tree.Module cs is = absurd (false≢true is)
function_named tree.Script cs is = absurd (false≢true is)
function_named l cs is = ap (λ b. if b then good_body (param_names (params_of cs)) (body_of cs) else true) is

-- of a node that opens no scope
pub unopened_once : (l : Label) (cs : Forest) → opens_scope l ≡ false → named_once l cs ≡ true
unopened_once tree.Block cs none = absurd (false≢true (sym none))
unopened_once tree.For cs none = absurd (false≢true (sym none))
unopened_once (tree.Switch ds) cs none = absurd (false≢true (sym none))
unopened_once (tree.Try o) cs none = refl
unopened_once tree.Module cs none = absurd (false≢true (sym none))
unopened_once tree.Script cs none = absurd (false≢true (sym none))
unopened_once l cs none = ap (λ b. if b then good_body (param_names (params_of cs)) (body_of cs) else true) none

-- how scopes were bound, by what they bind

-- the same scopes, said in other words
pub named_as : (b : Bound) (old new : Name → Bool) (more all : Name → ℕ) (good whole : Bool) → ((x : Name) → more x ≡ all x) → good ≡ whole → BindsNamed b old new more good → BindsNamed b old new all whole
named_as bound.Once old new more all good whole e f h = (binds_as true old new more all e h.0, sym f ∙ h.1)
named_as bound.Again old new more all good whole e f h = (binds_as true old new more all e h.0, sym f ∙ h.1)
named_as bound.Taken old new more all good whole e f h = binds_as false old new more all e h

pub last_named_as : {E : Type 0} (r : Result Bound E) (old new : Name → Bool) (more all : Name → ℕ) (good whole : Bool) → ((x : Name) → more x ≡ all x) → good ≡ whole → IfOk r (λ b. BindsNamed b old new more good) → IfOk r (λ b. BindsNamed b old new all whole)
last_named_as r old new more all good whole e f h = IfOk-weaker r (λ b. BindsNamed b old new more good) (λ b. BindsNamed b old new all whole) (λ b. named_as b old new more all good whole e f) h

-- and others behind them
pub named_then : (a b : Bound) (old mid new : Name → Bool) (first more all : Name → ℕ) (good fine whole : Bool) → ((x : Name) → all x ≡ first x + more x) → (Binds true old mid first → Binds true mid new more → whole ≡ (good && fine)) → BindsNamed a old mid first good → BindsNamed b mid new more fine → BindsNamed (both a b) old new all whole
named_then bound.Once bound.Once old mid new first more all good fine whole e f h i = (binds_then true old mid new first more all e h.0 i.0, f h.0 i.0 ∙ ap₂ (λ a b. a && b) h.1 i.1)
named_then bound.Once bound.Again old mid new first more all good fine whole e f h i = (binds_then true old mid new first more all e h.0 i.0, f h.0 i.0 ∙ ap₂ (λ a b. a && b) h.1 i.1)
named_then bound.Once bound.Taken old mid new first more all good fine whole e f h i = binds_then false old mid new first more all e h.0 i
named_then bound.Again bound.Once old mid new first more all good fine whole e f h i = (binds_then true old mid new first more all e h.0 i.0, f h.0 i.0 ∙ ap₂ (λ a b. a && b) h.1 i.1)
named_then bound.Again bound.Again old mid new first more all good fine whole e f h i = (binds_then true old mid new first more all e h.0 i.0, f h.0 i.0 ∙ ap₂ (λ a b. a && b) h.1 i.1)
named_then bound.Again bound.Taken old mid new first more all good fine whole e f h i = binds_then false old mid new first more all e h.0 i
named_then bound.Taken b old mid new first more all good fine whole e f h i = stops_here old mid new first more all e h
