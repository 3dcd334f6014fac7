-- A pure expression changes no state, asks the host nothing and never jumps.
use Rattle.std.proofs.Common.{◌≡◌, ℕ, zero, suc, Bool, true, false, not, ◌&&◌, ◌||◌, if◌then◌else◌, List, [], ◌∷◌, ◌++◌, Option, Some, None, refl, bytes_eq, codes}
use Rattle.std.proofs.lemmas.Bool.{and_parts, false≢true}
use Rattle.swc_ast.specs.declared.UnaryOp.TheVariants.{Delete}
use Rattle.swc_ast.specs.declared.BinaryOp.{BinaryOp}
use Rattle.swc_ast.specs.declared.BinaryOp.TheVariants.{In, InstanceOf}
use Rattle.swc_ast.specs.declared.Span.{Span}
use Rattle.swc_ast.specs.Tree.{Name, ItemKind, Plain, Spread, Hole, NumLit, StrLit, BoolLit, NullLit, This, Read, Template, Array, Object, KeyValue, Shorthand, Method, PlainKey, ComputedKey, Fn, Arrow, Params, Body, Unary, TypeOfName, Binary, Cond, Seq, Call, Tree, node, Forest, ε, ◌⊳◌}
use Rattle.swc_ast.specs.Value.{Reads, Env, Value, Undefined, NaN, ScriptThis, Record, Function, Items, Values, ∅, ◌▹◌, Fields, nofield, Cell, State, Outcome, Done, Jumps, Outside, Cut, Run, and_then, Context, Meaning}
use Rattle.swc_ast.specs.Meaning.{◌>>=◌, gives, leaves, ask, read, read_bound, held_value, cell_at, is_unresolved, Caller, call_value, read_this, in_scope, shape0, shape1, shape2, shape3, all_values, in_turn, run_all, spread_items, item_values, array_items, merged, object_fields, one_field, operate, short_circuits, template_text, type_of_name, act, eval, evals, at_return}
use Rattle.swc_ast.specs.Operators.{truthy, to_text}
use Rattle.swc_ast.specs.Call.{invoke, run_function, run_children, bind_params, at_call, call_at}
use Rattle.swc_utils.specs.Globals.{is_host_name}
use Rattle.swc_utils.specs.Pure.{no_trees, has_spread, is_no_params, is_empty_body, is_pure_callee, does_nothing, pure, pure_all}
use Rattle.swc_utils.proofs.Ends.{keeps_then, keeps_gives, keeps_leaves, core_keeps, keeps_if, keeps_shortened}
use Rattle.swc_utils.specs.Holds.{Any, Quiet, Keeps, Still}

abbrev pub AllStill : List Meaning → Type 0
AllStill [] = Unit {0}
AllStill (m ∷ ms) = Still m × AllStill ms

-- calls of a pure callee change nothing
pub record QuietCalls (call : Caller) : Type 0 where
  pub by : (f : Tree) (e : Env) (outer this : Value) (args : Values) → is_pure_callee f ≡ true → Keeps Any (call (Function f e outer) this args)

-- shapes

still0 : {f : Meaning} (ms : List Meaning) → Still f → Still (shape0 f ms)
still0 [] h c = h c
still0 (m ∷ ms) h c = keeps_leaves

still1 : {f : Meaning → Meaning} (ms : List Meaning) → AllStill ms → ((a : Meaning) → Still a → Still (f a)) → Still (shape1 f ms)
still1 [] hs h c = keeps_leaves
still1 (a ∷ []) hs h c = h a hs.0 c
still1 (a ∷ b ∷ ms) hs h c = keeps_leaves

still2 : {f : Meaning → Meaning → Meaning} (ms : List Meaning) → AllStill ms → ((a b : Meaning) → Still a → Still b → Still (f a b)) → Still (shape2 f ms)
still2 [] hs h c = keeps_leaves
still2 (a ∷ []) hs h c = keeps_leaves
still2 (a ∷ b ∷ []) hs h c = h a b hs.0 hs.1.0 c
still2 (a ∷ b ∷ d ∷ ms) hs h c = keeps_leaves

still3 : {f : Meaning → Meaning → Meaning → Meaning} (ms : List Meaning) → AllStill ms → ((a b d : Meaning) → Still a → Still b → Still d → Still (f a b d)) → Still (shape3 f ms)
still3 [] hs h c = keeps_leaves
still3 (a ∷ []) hs h c = keeps_leaves
still3 (a ∷ b ∷ []) hs h c = keeps_leaves
still3 (a ∷ b ∷ d ∷ []) hs h c = h a b d hs.0 hs.1.0 hs.1.1.0 c
still3 (a ∷ b ∷ d ∷ e ∷ ms) hs h c = keeps_leaves

-- names

held_still : (o : Option Cell) → Keeps Any (held_value o)
held_still None = keeps_leaves
held_still (Some cell) = core_keeps cell.held

bound_still : (x : Name) (k : Option ℕ) → Keeps Any (read_bound x k)
bound_still x None = keeps_leaves
bound_still x (Some k) = record { by = λ s. (held_still (cell_at s x k)).by s }

-- an unresolved name that is no host name
chosen_still : (host m : Run Value) (u a b i g : Bool) → not (u && not (a || (b || i))) ≡ true → Keeps Any m → Keeps Any (if u then (if a then gives Undefined else (if b then gives NaN else (if i || g then leaves else host))) else m)
chosen_still host m false a b i g h hm = hm
chosen_still host m true true b i g h hm = keeps_gives Undefined tt
chosen_still host m true false true i g h hm = keeps_gives NaN tt
chosen_still host m true false false true g h hm = keeps_leaves
chosen_still host m true false false false g h hm = absurd (false≢true h)

pub read_still : (mark : ℕ) (x : Name) → not (is_host_name mark x) ≡ true → Still (read mark x)
unfolding read
read_still mark x h c = chosen_still (ask (Reads x.text)) (read_bound x (c.env x)) (is_unresolved mark x) (bytes_eq x.text (codes "undefined")) (bytes_eq x.text (codes "NaN")) (bytes_eq x.text (codes "Infinity")) (bytes_eq x.text (codes "arguments")) h (bound_still x (c.env x))

-- `typeof` asks about host names alone
no_host_still : (host m : Run Value) (u a b i g : Bool) → not (u && not (a || (b || i))) ≡ true → Keeps Any m → Keeps Any (if u && not (a || (b || (i || g))) then host else m)
no_host_still host m false a b i g h hm = hm
no_host_still host m true true b i g h hm = hm
no_host_still host m true false true i g h hm = hm
no_host_still host m true false false true g h hm = hm
no_host_still host m true false false false g h hm = absurd (false≢true h)

pub type_still : (mark : ℕ) (x : Name) → not (is_host_name mark x) ≡ true → Still (type_of_name mark x)
unfolding type_of_name
type_still mark x h c = no_host_still _ _ (is_unresolved mark x) (bytes_eq x.text (codes "undefined")) (bytes_eq x.text (codes "NaN")) (bytes_eq x.text (codes "Infinity")) (bytes_eq x.text (codes "arguments")) h (keeps_then (read_still mark x h c) (λ v _. core_keeps _))

this_still : (v : Value) → Keeps Any (read_this v)
this_still ScriptThis = keeps_leaves
this_still v = keeps_gives v tt

-- lists

values_still : (ms : List Meaning) → AllStill ms → (c : Context) → Keeps Any (all_values ms c)
unfolding all_values
values_still [] hs c = keeps_gives ∅ tt
values_still (m ∷ ms) hs c = keeps_then (hs.0 c) (λ v _. keeps_then (values_still ms hs.1 c) (λ vs _. keeps_gives (v ▹ vs) tt))

turn_still : (ms : List Meaning) → AllStill ms → Still (in_turn ms)
unfolding in_turn
turn_still [] hs c = keeps_gives Undefined tt
turn_still (m ∷ []) hs c = hs.0 c
turn_still (m ∷ n ∷ ms) hs c = keeps_then (hs.0 c) (λ v _. turn_still (n ∷ ms) hs.1 c)

spread_still : (v : Value) → Keeps Any (spread_items v)
spread_still (Items vs) = keeps_gives vs tt
spread_still _ = keeps_leaves

item_still : (k : ItemKind) (v : Value) → Keeps Any (item_values k v)
item_still Spread v = spread_still v
item_still Plain v = keeps_gives (v ▹ ∅) tt
item_still Hole v = keeps_gives (v ▹ ∅) tt

pub items_still : (ks : List ItemKind) (ms : List Meaning) → AllStill ms → (c : Context) → Keeps Any (array_items ks ms c)
unfolding array_items
items_still [] [] hs c = keeps_gives ∅ tt
items_still [] (m ∷ ms) hs c = keeps_leaves
items_still (Hole ∷ ks) ms hs c = keeps_leaves
items_still (k ∷ ks) [] hs c = keeps_leaves
items_still (k ∷ ks) (m ∷ ms) hs c = keeps_then (hs.0 c) (λ v _. keeps_then (item_still k v) (λ vs _. keeps_then (items_still ks ms hs.1 c) (λ ws _. keeps_gives _ tt)))

merged_still : (fs : Fields) (v : Value) → Keeps Any (merged fs v)
merged_still fs (Record gs) = keeps_gives _ tt
merged_still fs _ = keeps_leaves

fields_still : (ms : List Meaning) (fs : Fields) → AllStill ms → (c : Context) → Keeps Any (object_fields ms fs c)
unfolding object_fields
fields_still [] fs hs c = keeps_gives fs tt
fields_still (m ∷ ms) fs hs c = keeps_then (hs.0 c) (λ v _. keeps_then (merged_still fs v) (λ gs _. fields_still ms gs hs.1 c))

one_field_still : (k : List ℕ) (v : Value) → Keeps Any (one_field k v)
one_field_still k v = keeps_if (bytes_eq k (codes "__proto__")) keeps_leaves (keeps_gives _ tt)

template_still : (qs : List (List ℕ × Bool)) (ms : List Meaning) → AllStill ms → (c : Context) → Keeps Any (template_text qs ms c)
unfolding template_text
template_still [] ms hs c = keeps_leaves
template_still (q ∷ []) [] hs c = keeps_gives q.0 tt
template_still (q ∷ r ∷ qs) [] hs c = keeps_leaves
template_still (q ∷ qs) (m ∷ ms) hs c = keeps_then (hs.0 c) (λ v _. keeps_then (core_keeps (to_text v)) (λ t _. keeps_then (template_still qs ms hs.1 c) (λ rest _. keeps_gives (q.0 ++ t ++ rest) tt)))

-- operators

operate_still : (op : BinaryOp) (v : Value) (right : Run Value) → Keeps Any right → Keeps Any (operate op v right)
unfolding operate
operate_still op v right h = keeps_shortened (short_circuits op v) (keeps_gives v tt) h (keeps_then h (λ b _. core_keeps _))

-- expressions

module _ (mark n : ℕ) (call : Caller) (quiet : QuietCalls call) where
  nameless_still : (ts : Forest) (f : Tree) (e : Env) (outer : Value) → is_pure_callee f ≡ true → AllStill (evals mark n call ts) → (c : Context) → Keeps Any (all_values (evals mark n call ts) c >>= λ vs. call_value call (Function f e outer) Undefined vs)
  unfolding call_value
  nameless_still ts f e outer h hs c = keeps_then (values_still _ hs c) (λ vs _. quiet.by f e outer Undefined vs h)

  call_still : (f : Tree) (ss : List Span) (ts : Forest) → is_pure_callee f ≡ true → AllStill (evals mark n call ts) → Still (eval mark n call (node Call ss (f ⊳ ts)))
  unfolding eval act and_then
  call_still (node (Fn None) rs us) ss ts h hs c = nameless_still ts (node (Fn None) rs us) c.env Undefined h hs c
  call_still (node Arrow rs us) ss ts h hs c = nameless_still ts (node Arrow rs us) c.env c.this h hs c
  call_still _ ss ts h hs c = absurd (false≢true h)

  mutual
    unfolding eval act

    pub still : (t : Tree) → pure mark t ≡ true → Still (eval mark n call t)
    still (node (NumLit z) ss ts) h c = still0 (evals mark n call ts) (λ d. keeps_gives _ tt) c
    still (node (StrLit t) ss ts) h c = still0 (evals mark n call ts) (λ d. keeps_gives _ tt) c
    still (node (BoolLit b) ss ts) h c = still0 (evals mark n call ts) (λ d. keeps_gives _ tt) c
    still (node NullLit ss ts) h c = still0 (evals mark n call ts) (λ d. keeps_gives _ tt) c
    still (node This ss ts) h c = still0 (evals mark n call ts) (λ d. this_still d.this) c
    still (node (Fn o) ss ts) h c = keeps_gives _ tt
    still (node Arrow ss ts) h c = keeps_gives _ tt
    still (node (Read x) ss ts) h c = still0 (evals mark n call ts) (read_still mark x h) c
    still (node (TypeOfName x) ss ts) h c = still0 (evals mark n call ts) (type_still mark x h) c
    still (node (Template qs) ss ts) h c = keeps_then (template_still qs _ (stills ts h) c) (λ t _. keeps_gives _ tt)
    still (node (Array ks) ss ts) h c = keeps_then (items_still ks _ (stills ts (and_parts (not (has_spread ks)) _ h).1) c) (λ vs _. keeps_gives _ tt)
    still (node Object ss ts) h c = keeps_then (fields_still _ nofield (stills ts h) c) (λ fs _. keeps_gives _ tt)
    still (node KeyValue ss ts) h c = still2 (evals mark n call ts) (stills ts h) (λ k m hk hm d. keeps_then (hk d) (λ w _. keeps_then (core_keeps (to_text w)) (λ t _. keeps_then (hm d) (λ v _. one_field_still t v)))) c
    still (node Method ss (k ⊳ p ⊳ b ⊳ ε)) h c = keeps_then (still k h c) (λ w _. keeps_then (core_keeps (to_text w)) (λ t _. one_field_still t _))
    still (node (Shorthand x) ss ts) h c = still0 (evals mark n call ts) (λ d. keeps_then (read_still mark x h d) (λ v _. one_field_still x.text v)) c
    still (node (PlainKey k) ss ts) h c = still0 (evals mark n call ts) (λ d. keeps_gives _ tt) c
    still (node ComputedKey ss ts) h c = still1 (evals mark n call ts) (stills ts h) (λ m hm. hm) c
    still (node (Unary Delete) ss ts) h c = absurd (false≢true h)
    still (node (Unary op) ss ts) h c = still1 (evals mark n call ts) (stills ts h) (λ m hm d. keeps_then (hm d) (λ v _. core_keeps _)) c
    still (node (Binary In) ss ts) h c = absurd (false≢true h)
    still (node (Binary InstanceOf) ss ts) h c = absurd (false≢true h)
    still (node (Binary op) ss ts) h c = still2 (evals mark n call ts) (stills ts h) (λ a b ha hb d. keeps_then (ha d) (λ v _. operate_still op v _ (hb d))) c
    still (node Cond ss ts) h c = still3 (evals mark n call ts) (stills ts h) (λ t a b ht ha hb d. keeps_then (ht d) (λ v _. keeps_if (truthy v) (ha d) (hb d))) c
    still (node Seq ss ts) h c = turn_still _ (stills ts h) c
    still (node Call ss (f ⊳ ts)) h c = let p = and_parts _ _ h in call_still f ss ts p.0 (stills ts p.1) c
    still _ h c = absurd (false≢true h)

    pub stills : (ts : Forest) → pure_all mark ts ≡ true → AllStill (evals mark n call ts)
    stills ε h = tt
    stills (t ⊳ ts) h = let p = and_parts _ _ h in (still t p.0, stills ts p.1)

-- calls

module _ (does : Tree → Meaning) where
  no_trees_parts : (ss rs : List Span) (ps bs : Forest) (args : Values) (c : Context) → no_trees ps ≡ true → no_trees bs ≡ true → (s : State) → Quiet Any s (run_children does (node Params ss ps ⊳ node Body rs bs ⊳ ε) args c s)
  unfolding run_function bind_params in_scope run_all at_return and_then
  no_trees_parts ss rs ε ε args c h i s = (refl, tt)
  no_trees_parts ss rs (p ⊳ ps) bs args c h i s = absurd (false≢true h)
  no_trees_parts ss rs ε (b ⊳ bs) args c h i s = absurd (false≢true i)

  parts_done : (p b : Tree) (args : Values) (c : Context) → is_no_params p ≡ true → is_empty_body b ≡ true → (s : State) → Quiet Any s (run_children does (p ⊳ b ⊳ ε) args c s)
  parts_done (node Params ss ps) (node Body rs bs) args c h i s = no_trees_parts ss rs ps bs args c h i s
  parts_done (node Params ss ps) _ args c h i s = absurd (false≢true i)
  parts_done _ b args c h i s = absurd (false≢true h)

  nothing_done : (ts : Forest) (args : Values) (c : Context) → does_nothing ts ≡ true → (s : State) → Quiet Any s (run_children does ts args c s)
  nothing_done (p ⊳ b ⊳ ε) args c h s = let q = and_parts _ _ h in parts_done p b args c q.0 q.1 s
  nothing_done _ args c h s = absurd (false≢true h)

  callee_quiet : (f : Tree) (e : Env) (outer this : Value) (args : Values) → is_pure_callee f ≡ true → (s : State) → Quiet Any s (invoke does f e outer this args s)
  unfolding invoke in_scope
  callee_quiet (node (Fn None) ss ts) e outer this args h s = nothing_done ts args _ h s
  callee_quiet (node Arrow ss ts) e outer this args h s = nothing_done ts args _ h s
  callee_quiet _ e outer this args h s = absurd (false≢true h)

call_ended : (s : State) (o : Outcome Value) → Quiet Any s o → Quiet Any s (at_call o)
call_ended s (Done v t) h = h
call_ended s (Jumps j t) h = absurd h
call_ended s Outside h = tt
call_ended s Cut h = tt

-- a call of a pure callee is done in the state that it began in, or is cut
pub calls_quiet : (mark n d : ℕ) → QuietCalls (call_at (eval mark n) d)
unfolding call_at
calls_quiet mark n zero = record { by = λ f e outer this args h. record { by = λ s. tt } }
calls_quiet mark n (suc d) = record { by = λ f e outer this args h. record { by = λ s. call_ended s _ (callee_quiet (eval mark n (call_at (eval mark n) d)) f e outer this args h s) } }

-- a pure expression is done in the state that it began in, or it leaves the core or is cut
pub pure_is_still : (mark n d : ℕ) (t : Tree) → pure mark t ≡ true → Still (eval mark n (call_at (eval mark n) d) t)
pure_is_still mark n d = still mark n (call_at (eval mark n) d) (calls_quiet mark n d)
