-- A tree does the same under labels with which no `continue` goes out of it.
use Rattle.std.proofs.Common.{◌≡◌, ℕ, zero, suc, Bool, true, false, not, ◌&&◌, ◌||◌, if◌then◌else◌, List, [], ◌∷◌, Option, Some, None, refl, sym, ap, ◌∙◌, bytes_eq}
use Rattle.std.proofs.lemmas.Bool.{false≢true}
use Rattle.swc_ast.specs.declared.Span.{Span}
use Rattle.swc_ast.specs.declared.UnaryOp.TheVariants.{Delete}
use Rattle.swc_ast.specs.declared.VarDeclKind.{VarDeclKind}
use Rattle.swc_ast.specs.declared.VarDeclKind.TheVariants.{Var, Let, Const}
use Rattle.swc_ast.specs.Tree.{Text, Name, ItemKind, Hole, Label, NumLit, StrLit, BoolLit, NullLit, This, Read, Template, Array, Object, SpreadRecord, KeyValue, Shorthand, Method, PlainKey, ComputedKey, Fn, Arrow, Body, Unary, TypeOfName, Binary, Cond, Seq, Dot, Index, Call, New, CallEval, CallDot, CallIndex, Assign, AssignDot, AssignIndex, Update, UpdateDot, UpdateIndex, Block, Empty, Throw, ExprStmt, Return, If, While, DoWhile, For, Absent, Labeled, Break, Continue, Switch, CaseBody, Try, VarDecl, Declarator, FnDecl, ExportDecl, Import, ExportNamed, ExportDefaultFn, ExportDefaultExpr, Tree, node, Forest, ε, ◌⊳◌}
use Rattle.swc_ast.specs.Value.{Env, Value, Undefined, Values, Fields, nofield, State, Broken, Continued, Returned, Thrown, Outcome, Done, Jumps, Outside, Cut, Run, Context, Meaning}
use Rattle.swc_ast.specs.Operators.{truthy, to_text, strict_equal, prim}
use Rattle.swc_ast.specs.Scope.{case_statements, default_name}
use Rattle.swc_ast.specs.Meaning.{◌>>=◌, gives, in_core, is_unresolved, read, write, initialise, Scope, numbered, in_scope, get, put, Caller, get_at, put_at, shape0, shape1, shape2, shape3, shape1+, shape2+, all_values, in_turn, run_all, item_values, array_items, merged, object_fields, key_text, operate, operator_of, assign, in_list_scope, plain, has_label, after_jump, turn, turns, do_turns, copies, at_label, at_break, Case, cases_of, bodies_from, default_bodies, chosen, selected, switch, handled, resume, finally, try_catch, declare, copied_names, first_tree, for_loop, shape_if, shape_return, template_text, type_of_name, act, eval, evals}
use Rattle.pass_proofs.proofs.Runs.{bind_same, bind_chain}
use Rattle.branch_rules.specs.Jumps.{Sought, is_sought, Kinds, in_loop, escapes_behind, escapes, some_escape}
use Rattle.branch_proofs.proofs.Leaving.{Stays, Keeps}
use Rattle.branch_rules.specs.Once.{labelling}
use Rattle.branch_proofs.proofs.Loops.{given}
use Rattle.branch_proofs.proofs.Relabelled.{relabel, Follows, copies_follow, gives_follow, followed, Covered, covered_itself, covered_label, not_not}
use Rattle.branch_proofs.proofs.JumpParts.{or_left, or_right}
use Rattle.branch_proofs.proofs.Jumps.{passes, tree_keeps}
use mathlib.Core.Path.{fun_ext}

same_then : {A B : Type 0} {m m' : Run A} {k k' : A → Run B} → m ≡ m' → ((a : A) → k a ≡ k' a) → (m >>= k) ≡ (m' >>= k')
same_then {m' = m'} {k} e h = ap (λ r. r >>= k) e ∙ bind_same m' h

run_same : {m k : Run Value} → m ≡ k → (s : State) → m s ≡ k s
run_same e s = ap (λ r. r s) e

if_run_same : (b : Bool) {m m' k k' : Run Value} → m ≡ m' → k ≡ k' → (if b then m else k) ≡ (if b then m' else k')
if_run_same true e h = e
if_run_same false e h = h

chosen_same : (b : Bool) (ms : List Meaning) (x y : Run (List Meaning)) (f g : List Meaning → Run Value) → f ms ≡ g ms → (x >>= f) ≡ (y >>= g) → (chosen b ms x >>= f) ≡ (chosen b ms y >>= g)
chosen_same true ms x y f g e h = given ms f ∙ e ∙ sym (given ms g)
chosen_same false ms x y f g e h = h

env_same : (ls ks : List (List ℕ)) (binds : Name → Bool) (cells : Env → Scope) (m : Meaning) (c : Context) → ((e : Env) → m (relabel ls (record c { env = e })) ≡ m (relabel ks (record c { env = e }))) → in_scope binds cells m (relabel ls c) ≡ in_scope binds cells m (relabel ks c)
unfolding in_scope
env_same ls ks binds cells m c h = fun_ext (λ s. run_same (h (numbered binds c.env s)) _)

-- which labels pass on what their children do, and put no label in front of them
abbrev unlabelled : Label → Bool
unlabelled (Labeled l) = false
unlabelled l = passes l

-- under some labels as under others
module _ (here there : List (List ℕ)) where
  -- the labels do not matter
  abbrev Steady : Meaning → Type 0
  Steady m = (c : Context) → m (relabel here c) ≡ m (relabel there c)

  abbrev Each : List Meaning → Type 0
  Each [] = Unit {0}
  Each (m ∷ ms) = Steady m × Each ms

  one_same : (f : Meaning → Meaning) (ms : List Meaning) → Each ms → ((a : Meaning) → Steady a → Steady (f a)) → Steady (shape1 f ms)
  one_same f [] hs h c = refl
  one_same f (a ∷ []) hs h c = h a hs.0 c
  one_same f (a ∷ b ∷ ms) hs h c = refl

  zero_same : (f : Meaning) (ms : List Meaning) → Steady f → Steady (shape0 f ms)
  zero_same f [] h c = h c
  zero_same f (m ∷ ms) h c = refl

  two_same : (f : Meaning → Meaning → Meaning) (ms : List Meaning) → Each ms → ((a b : Meaning) → Steady a → Steady b → Steady (f a b)) → Steady (shape2 f ms)
  two_same f [] hs h c = refl
  two_same f (a ∷ []) hs h c = refl
  two_same f (a ∷ b ∷ []) hs h c = h a b hs.0 hs.1.0 c
  two_same f (a ∷ b ∷ d ∷ ms) hs h c = refl

  three_same : (f : Meaning → Meaning → Meaning → Meaning) (ms : List Meaning) → Each ms → ((a b d : Meaning) → Steady a → Steady b → Steady d → Steady (f a b d)) → Steady (shape3 f ms)
  three_same f [] hs h c = refl
  three_same f (a ∷ []) hs h c = refl
  three_same f (a ∷ b ∷ []) hs h c = refl
  three_same f (a ∷ b ∷ d ∷ []) hs h c = h a b d hs.0 hs.1.0 hs.1.1.0 c
  three_same f (a ∷ b ∷ d ∷ e ∷ ms) hs h c = refl

  some_same : (f : Meaning → List Meaning → Meaning) (ms : List Meaning) → Each ms → ((a : Meaning) (ks : List Meaning) → Steady a → Each ks → Steady (f a ks)) → Steady (shape1+ f ms)
  some_same f [] hs h c = refl
  some_same f (a ∷ ms) hs h c = h a ms hs.0 hs.1 c

  more_same : (f : Meaning → Meaning → List Meaning → Meaning) (ms : List Meaning) → Each ms → ((a b : Meaning) (ks : List Meaning) → Steady a → Steady b → Each ks → Steady (f a b ks)) → Steady (shape2+ f ms)
  more_same f [] hs h c = refl
  more_same f (a ∷ []) hs h c = refl
  more_same f (a ∷ b ∷ ms) hs h c = h a b ms hs.0 hs.1.0 hs.1.1 c

  values_same : (ms : List Meaning) → Each ms → (c : Context) → all_values ms (relabel here c) ≡ all_values ms (relabel there c)
  unfolding all_values
  values_same [] hs c = refl
  values_same (m ∷ ms) hs c = same_then (hs.0 c) (λ v. same_then (values_same ms hs.1 c) (λ vs. refl))

  turn_same : (ms : List Meaning) → Each ms → Steady (in_turn ms)
  unfolding in_turn
  turn_same [] hs c = refl
  turn_same (m ∷ []) hs c = hs.0 c
  turn_same (m ∷ k ∷ ms) hs c = same_then (hs.0 c) (λ v. turn_same (k ∷ ms) hs.1 c)

  all_same : (ms : List Meaning) → Each ms → Steady (run_all ms)
  unfolding run_all
  all_same [] hs c = refl
  all_same (m ∷ ms) hs c = same_then (hs.0 c) (λ v. all_same ms hs.1 c)

  items_same : (ks : List ItemKind) (ms : List Meaning) → Each ms → (c : Context) → array_items ks ms (relabel here c) ≡ array_items ks ms (relabel there c)
  unfolding array_items
  items_same [] [] hs c = refl
  items_same [] (m ∷ ms) hs c = refl
  items_same (Hole ∷ ks) ms hs c = refl
  items_same (k ∷ ks) [] hs c = refl
  items_same (k ∷ ks) (m ∷ ms) hs c = same_then (hs.0 c) (λ v. bind_same (item_values k v) (λ vs. same_then (items_same ks ms hs.1 c) (λ ws. refl)))

  fields_same : (ms : List Meaning) (fs : Fields) → Each ms → (c : Context) → object_fields ms fs (relabel here c) ≡ object_fields ms fs (relabel there c)
  unfolding object_fields
  fields_same [] fs hs c = refl
  fields_same (m ∷ ms) fs hs c = same_then (hs.0 c) (λ v. bind_same (merged fs v) (λ gs. fields_same ms gs hs.1 c))

  template_same : (qs : List (Text × Bool)) (ms : List Meaning) → Each ms → (c : Context) → template_text qs ms (relabel here c) ≡ template_text qs ms (relabel there c)
  unfolding template_text
  template_same [] ms hs c = refl
  template_same (q ∷ []) [] hs c = refl
  template_same (q ∷ r ∷ qs) [] hs c = refl
  template_same (q ∷ qs) (m ∷ ms) hs c = same_then (hs.0 c) (λ v. bind_same (in_core (to_text v)) (λ t. same_then (template_same qs ms hs.1 c) (λ rest. refl)))

  scope_same : (binds : Name → Bool) (cells : Env → Scope) (m : Meaning) → Steady m → (c : Context) → in_scope binds cells m (relabel here c) ≡ in_scope binds cells m (relabel there c)
  scope_same binds cells m h c = env_same here there binds cells m c (λ e. h (record c { env = e }))

  list_scope_same : (ts : Forest) (m : Meaning) → Steady m → Steady (in_list_scope ts m)
  unfolding in_list_scope
  list_scope_same ts m h c = scope_same _ _ m h c

  if_same : (ms : List Meaning) → Each ms → Steady (shape_if ms)
  if_same [] hs c = refl
  if_same (t ∷ []) hs c = refl
  if_same (t ∷ a ∷ []) hs c = same_then (hs.0 c) (λ v. if_run_same (truthy v) (hs.1.0 c) refl)
  if_same (t ∷ a ∷ b ∷ []) hs c = same_then (hs.0 c) (λ v. if_run_same (truthy v) (hs.1.0 c) (hs.1.1.0 c))
  if_same (t ∷ a ∷ b ∷ d ∷ ms) hs c = refl

  return_same : (ms : List Meaning) → Each ms → Steady (shape_return ms)
  return_same [] hs c = refl
  return_same (m ∷ []) hs c = same_then (hs.0 c) (λ v. refl)
  return_same (m ∷ k ∷ ms) hs c = refl

  declare_same : (kind : VarDeclKind) (x : Name) (ms : List Meaning) → Each ms → Steady (declare kind x ms)
  unfolding declare initialise
  declare_same Var x [] hs c = refl
  declare_same Let x [] hs c = refl
  declare_same Const x [] hs c = refl
  declare_same kind x (m ∷ ms) hs c = same_then (hs.0 c) (λ v. refl)

  handled_same : (p : Option (Option Name)) (m : Meaning) → Steady m → (c : Context) (o : Outcome Value) → handled p m (relabel here c) o ≡ handled p m (relabel there c) o
  handled_same None m h c o = refl
  handled_same (Some q) m h c (Jumps (Thrown v) s) = ap (λ (r : Run Value). r s) (scope_same _ _ m h c)
  handled_same (Some q) m h c (Jumps (Broken l) s) = refl
  handled_same (Some q) m h c (Jumps (Continued l) s) = refl
  handled_same (Some q) m h c (Jumps (Returned v) s) = refl
  handled_same (Some q) m h c (Done v s) = refl
  handled_same (Some q) m h c Outside = refl
  handled_same (Some q) m h c Cut = refl

  finally_same : (m : Meaning) → Steady m → (c : Context) (o : Outcome Value) → finally m (relabel here c) o ≡ finally m (relabel there c) o
  finally_same m h c (Done v s) = ap (λ (r : Run Value). resume (Done v s) (r s)) (h c)
  finally_same m h c (Jumps j s) = ap (λ (r : Run Value). resume (Jumps j s) (r s)) (h c)
  finally_same m h c Outside = refl
  finally_same m h c Cut = refl

  try_same : (p : Option (Option Name)) (b h f : Meaning) → Steady b → Steady h → Steady f → Steady (try_catch p b h f)
  unfolding try_catch
  try_same p b h f hb hh hf c = fun_ext (λ s. finally_same f hf c _ ∙ ap (finally f (relabel there c)) (handled_same p h hh c _ ∙ ap (λ (r : Run Value). handled p h (relabel there c) (r s)) (hb c)))

  first_same : (v : Value) (c : Context) → initialise default_name v (relabel here c) ≡ initialise default_name v (relabel there c)
  unfolding initialise
  first_same v c = refl

  -- a switch

  abbrev EachCase : List Case → Type 0
  EachCase [] = Unit {0}
  EachCase ((None, m) ∷ ks) = Steady m × EachCase ks
  EachCase ((Some t, m) ∷ ks) = Steady t × Steady m × EachCase ks

  cases_each : (ds : List Bool) (ms : List Meaning) → Each ms → EachCase (cases_of ds ms)
  cases_each [] ms hs = tt
  cases_each (d ∷ ds) [] hs = tt
  cases_each (d ∷ ds) (m ∷ []) hs = tt
  cases_each (true ∷ ds) (m ∷ k ∷ ms) hs = (hs.1.0, cases_each ds ms hs.1.1)
  cases_each (false ∷ ds) (m ∷ k ∷ ms) hs = (hs.0, hs.1.0, cases_each ds ms hs.1.1)

  bodies_each : (ks : List Case) → EachCase ks → Each (bodies_from ks)
  bodies_each [] hs = tt
  bodies_each ((None, m) ∷ ks) hs = (hs.0, bodies_each ks hs.1)
  bodies_each ((Some t, m) ∷ ks) hs = (hs.1, bodies_each ks hs.2)

  default_each : (ks : List Case) → EachCase ks → Each (default_bodies ks)
  default_each [] hs = tt
  default_each ((None, m) ∷ ks) hs = (hs.0, bodies_each ks hs.1)
  default_each ((Some t, m) ∷ ks) hs = default_each ks hs.2

  selected_same : (ks : List Case) (others : List Meaning) (v : Value) (c : Context) (f g : List Meaning → Run Value) → EachCase ks → Each others → ((ms : List Meaning) → Each ms → f ms ≡ g ms) → (selected ks others v (relabel here c) >>= f) ≡ (selected ks others v (relabel there c) >>= g)
  unfolding selected
  selected_same [] others v c f g hs ho hf = given others f ∙ hf others ho ∙ sym (given others g)
  selected_same ((None, m) ∷ ks) others v c f g hs ho hf = selected_same ks others v c f g hs.1 ho hf
  selected_same ((Some t, m) ∷ ks) others v c f g hs ho hf =
      bind_chain (t (relabel here c)) (λ w. in_core (strict_equal (prim v) (prim w)) >>= λ same. chosen same (m ∷ bodies_from ks) (selected ks others v (relabel here c))) f
      ∙ same_then (hs.0 c) (λ w.
      bind_chain (in_core (strict_equal (prim v) (prim w))) (λ same. chosen same (m ∷ bodies_from ks) (selected ks others v (relabel here c))) f
      ∙ bind_same (in_core (strict_equal (prim v) (prim w))) (λ same. chosen_same same (m ∷ bodies_from ks) (selected ks others v (relabel here c)) (selected ks others v (relabel there c)) f g (hf (m ∷ bodies_from ks) (hs.1, bodies_each ks hs.2)) (selected_same ks others v c f g hs.2 ho hf))
      ∙ sym (bind_chain (in_core (strict_equal (prim v) (prim w))) (λ same. chosen same (m ∷ bodies_from ks) (selected ks others v (relabel there c))) g))
      ∙ sym (bind_chain (t (relabel there c)) (λ w. in_core (strict_equal (prim v) (prim w)) >>= λ same. chosen same (m ∷ bodies_from ks) (selected ks others v (relabel there c))) g)

  switch_same : (ts : Forest) (ds : List Bool) (ms : List Meaning) (m : Meaning) → Steady m → Each ms → Steady (switch ts (cases_of ds ms) m)
  unfolding switch
  switch_same ts ds ms m hm hs c = same_then (hm c) (λ v. list_scope_same (case_statements ts) (λ d s. at_break ((selected (cases_of ds ms) (default_bodies (cases_of ds ms)) v d >>= λ bodies. run_all bodies d) s)) (λ d. ap (λ (r : Run Value). λ s. at_break (r s)) (selected_same (cases_of ds ms) (default_bodies (cases_of ds ms)) v d (λ bodies. run_all bodies (relabel here d)) (λ bodies. run_all bodies (relabel there d)) (cases_each ds ms hs) (default_each (cases_of ds ms) (cases_each ds ms hs)) (λ bodies hb. all_same bodies hb d))) c)

  act_same : (mark n : ℕ) (call : Caller) (l : Label) (ss : List Span) (cs : Forest) (ms : List Meaning) → Each ms → unlabelled l ≡ true → Steady (act mark n call l ss cs ms)
  unfolding act read write type_of_name
  act_same mark n call (NumLit z) ss cs ms hs e c = zero_same _ ms (λ d. refl) c
  act_same mark n call (StrLit t) ss cs ms hs e c = zero_same _ ms (λ d. refl) c
  act_same mark n call (BoolLit b) ss cs ms hs e c = zero_same _ ms (λ d. refl) c
  act_same mark n call NullLit ss cs ms hs e c = zero_same _ ms (λ d. refl) c
  act_same mark n call This ss cs ms hs e c = zero_same _ ms (λ d. refl) c
  act_same mark n call (Read x) ss cs ms hs e c = zero_same _ ms (λ d. refl) c
  act_same mark n call (Template qs) ss cs ms hs e c = same_then (template_same qs ms hs c) (λ t. refl)
  act_same mark n call (Array ks) ss cs ms hs e c = same_then (items_same ks ms hs c) (λ vs. refl)
  act_same mark n call SpreadRecord ss cs ms hs e c = one_same _ ms hs (λ m hm. hm) c
  act_same mark n call Object ss cs ms hs e c = same_then (fields_same ms nofield hs c) (λ fs. refl)
  act_same mark n call KeyValue ss cs ms hs e c = two_same _ ms hs (λ k m hk hm d. same_then (hk d) (λ w. bind_same (key_text w) (λ t. same_then (hm d) (λ v. refl)))) c
  act_same mark n call (Shorthand x) ss cs ms hs e c = zero_same _ ms (λ d. refl) c
  act_same mark n call (PlainKey k) ss cs ms hs e c = zero_same _ ms (λ d. refl) c
  act_same mark n call ComputedKey ss cs ms hs e c = one_same _ ms hs (λ m hm. hm) c
  act_same mark n call Body ss cs ms hs e c = all_same ms hs c
  act_same mark n call (Unary Delete) ss cs ms hs e c = refl
  act_same mark n call (Unary op) ss cs ms hs e c = one_same _ ms hs (λ m hm d. same_then (hm d) (λ v. refl)) c
  act_same mark n call (TypeOfName x) ss cs ms hs e c = zero_same _ ms (λ d. refl) c
  act_same mark n call (Binary op) ss cs ms hs e c = two_same _ ms hs (λ a b ha hb d. same_then (ha d) (λ v. ap (operate op v) (hb d))) c
  act_same mark n call Cond ss cs ms hs e c = three_same _ ms hs (λ t a b ht ha hb d. same_then (ht d) (λ v. if_run_same (truthy v) (ha d) (hb d))) c
  act_same mark n call Seq ss cs ms hs e c = turn_same ms hs c
  act_same mark n call (Dot k) ss cs ms hs e c = one_same _ ms hs (λ o ho d. same_then (ho d) (λ v. refl)) c
  act_same mark n call Index ss cs ms hs e c = two_same _ ms hs (λ o k ho hk d. same_then (ho d) (λ v. same_then (hk d) (λ w. refl))) c
  act_same mark n call Call ss cs ms hs e c = some_same _ ms hs (λ f xs hf hx d. same_then (hf d) (λ v. same_then (values_same xs hx d) (λ vs. refl))) c
  act_same mark n call (CallEval x) ss cs ms hs e c = if_run_same (is_unresolved mark x) refl (bind_same (read mark x c) (λ v. same_then (values_same ms hs c) (λ vs. refl)))
  act_same mark n call New ss cs ms hs e c = some_same _ ms hs (λ f xs hf hx d. same_then (hf d) (λ v. same_then (values_same xs hx d) (λ vs. refl))) c
  act_same mark n call (CallDot k) ss cs ms hs e c = some_same _ ms hs (λ o xs ho hx d. same_then (ho d) (λ v. bind_same (get v k) (λ f. same_then (values_same xs hx d) (λ vs. refl)))) c
  act_same mark n call CallIndex ss cs ms hs e c = more_same _ ms hs (λ o k xs ho hk hx d. same_then (ho d) (λ v. same_then (hk d) (λ w. bind_same (get_at v w) (λ f. same_then (values_same xs hx d) (λ vs. refl))))) c
  act_same mark n call (Assign op x) ss cs ms hs e c = one_same _ ms hs (λ m hm d. ap (λ r. assign (operator_of op) (read mark x d) r (λ v. write mark x v d)) (hm d)) c
  act_same mark n call (AssignDot op k) ss cs ms hs e c = two_same _ ms hs (λ o m ho hm d. same_then (ho d) (λ v. ap (λ r. assign (operator_of op) (get v k) r (put v k)) (hm d))) c
  act_same mark n call (AssignIndex op) ss cs ms hs e c = three_same _ ms hs (λ o k m ho hk hm d. same_then (ho d) (λ v. same_then (hk d) (λ w. ap (λ r. assign (operator_of op) (get_at v w) r (put_at v w)) (hm d)))) c
  act_same mark n call (Update op prefix x) ss cs ms hs e c = zero_same _ ms (λ d. refl) c
  act_same mark n call (UpdateDot op prefix k) ss cs ms hs e c = one_same _ ms hs (λ o ho d. same_then (ho d) (λ v. refl)) c
  act_same mark n call (UpdateIndex op prefix) ss cs ms hs e c = two_same _ ms hs (λ o k ho hk d. same_then (ho d) (λ v. same_then (hk d) (λ w. refl))) c
  act_same mark n call Block ss cs ms hs e c = list_scope_same cs (run_all ms) (all_same ms hs) c
  act_same mark n call Empty ss cs ms hs e c = zero_same _ ms (λ d. refl) c
  act_same mark n call Throw ss cs ms hs e c = one_same _ ms hs (λ m hm d. same_then (hm d) (λ v. refl)) c
  act_same mark n call ExprStmt ss cs ms hs e c = one_same _ ms hs (λ m hm d. same_then (hm d) (λ v. refl)) c
  act_same mark n call Return ss cs ms hs e c = return_same ms hs c
  act_same mark n call If ss cs ms hs e c = if_same ms hs c
  act_same mark n call Absent ss cs ms hs e c = zero_same _ ms (λ d. refl) c
  act_same mark n call (Labeled l) ss cs ms hs e c = absurd (false≢true e)
  act_same mark n call CaseBody ss cs ms hs e c = all_same ms hs c
  act_same mark n call (Try p) ss cs ms hs e c = three_same _ ms hs (λ b h f hb hh hf. try_same p b h f hb hh hf) c
  act_same mark n call (VarDecl kind) ss cs ms hs e c = all_same ms hs c
  act_same mark n call (Declarator kind x) ss cs ms hs e c = declare_same kind x ms hs c
  act_same mark n call ExportDecl ss cs ms hs e c = all_same ms hs c
  act_same mark n call (Import src) ss cs ms hs e c = refl
  act_same mark n call ExportNamed ss cs ms hs e c = refl
  act_same mark n call ExportDefaultExpr ss cs ms hs e c = one_same _ ms hs (λ m hm d. same_then (hm d) (λ v. first_same v d)) c
  act_same mark n call (Break l) ss cs ms hs e c = absurd (false≢true e)
  act_same mark n call (Continue l) ss cs ms hs e c = absurd (false≢true e)
  act_same mark n call While ss cs ms hs e c = absurd (false≢true e)
  act_same mark n call DoWhile ss cs ms hs e c = absurd (false≢true e)
  act_same mark n call For ss cs ms hs e c = absurd (false≢true e)
  act_same mark n call (Switch ds) ss cs ms hs e c = absurd (false≢true e)
  act_same mark n call (Fn o) ss cs ms hs e c = absurd (false≢true e)
  act_same mark n call Arrow ss cs ms hs e c = absurd (false≢true e)
  act_same mark n call (FnDecl x) ss cs ms hs e c = absurd (false≢true e)
  act_same mark n call (ExportDefaultFn o) ss cs ms hs e c = absurd (false≢true e)
  act_same mark n call Method ss cs ms hs e c = absurd (false≢true e)
  act_same mark n call _ ss cs ms hs e c = refl

-- loops

or_false : (b : Bool) → (b || false) ≡ true → b ≡ true
or_false true h = refl
or_false false h = absurd (false≢true h)

-- Labels that a tree may stand under, and others: those in front of it are among both, and of those that aren't looked for both
-- have the same.
record Alike (w : Sought) (near : List Text) (ls ks : List (List ℕ)) : Type 0 where
  covers : Covered near [] ls
  still : Covered near [] ks
  others : (l : Text) → is_sought w l ≡ false → has_label l ls ≡ has_label l ks

-- where none stands in front
alike_bare : {w : Sought} {near : List Text} {ls ks : List (List ℕ)} → Alike w near ls ks → Alike w [] ls ks
alike_bare {ls = ls} {ks} a = record { covers = covered_itself [] ls; still = covered_itself [] ks; others = a.others }

alike_label : (l : Text) {w : Sought} {near : List Text} {ls ks : List (List ℕ)} → Alike w near ls ks → Alike w (l ∷ near) (l ∷ ls) (l ∷ ks)
alike_label l a = record { covers = covered_label l a.covers; still = covered_label l a.still; others = λ m e. ap (λ b. bytes_eq m l || b) (a.others m e) }

-- a `continue` that goes on with the tree, or isn't looked for, goes on under the one as under the other
alike_has : {w : Sought} {near : List Text} {ls ks : List (List ℕ)} → Alike w near ls ks → (l : Text) → (is_sought w l && not (has_label l near)) ≡ false → has_label l ls ≡ has_label l ks
alike_has {w} {near} {ls} {ks} a l h = by_sought (is_sought w l) refl h
  where
    by_sought : (b : Bool) → is_sought w l ≡ b → (b && not (has_label l near)) ≡ false → has_label l ls ≡ has_label l ks
    by_sought true e f = or_false (has_label l ls) (a.covers.by l (not_not (has_label l near) f)) ∙ sym (or_false (has_label l ks) (a.still.by l (not_not (has_label l near) f)))
    by_sought false e f = a.others l e

turn_labels : {w : Sought} {near : List Text} {ls ks : List (List ℕ)} → Alike w near ls ks → (o : Outcome Value) → Stays (in_loop near (labelling w)) o → turn ls o ≡ turn ks o
unfolding turn
turn_labels a (Done v s) h = refl
turn_labels a (Jumps (Broken None) s) h = refl
turn_labels a (Jumps (Broken (Some l)) s) h = refl
turn_labels a (Jumps (Continued None) s) h = refl
turn_labels a (Jumps (Continued (Some l)) s) h = ap (λ b. after_jump (if b then Some true else None) (Continued (Some l)) s) (alike_has a l h)
turn_labels a (Jumps (Returned v) s) h = refl
turn_labels a (Jumps (Thrown v) s) h = refl
turn_labels a Outside h = refl
turn_labels a Cut h = refl

module _ {w : Sought} {near : List Text} {ls ks : List (List ℕ)} (alike : Alike w near ls ks) where
  turns_same : (n : ℕ) (t b u : Meaning) (next : Context → Run Context) → ((c : Context) → Keeps (in_loop near (labelling w)) (b c)) → Follows next → (c : Context) → turns n t b next u (relabel ls c) ≡ turns n t b next u (relabel ks c)
  unfolding turns
  turns_same zero t b u next hb hn c = refl
  turns_same (suc n) t b u next hb hn c =
      bind_same (t (plain c)) (λ v. if_run_same (truthy v)
      (same_then (fun_ext (λ s. turn_labels alike (b (plain c) s) ((hb (plain c)).by s))) (λ goes_on. if_run_same goes_on
      (followed next hn ls c (λ d. u (plain d) >>= λ w. turns n t b next u d) ∙ bind_same (next c) (λ d. bind_same (u (plain d)) (λ w. turns_same n t b u next hb hn d)) ∙ sym (followed next hn ks c (λ d. u (plain d) >>= λ w. turns n t b next u d)))
      refl)) refl)

  do_turns_same : (n : ℕ) (b t : Meaning) → ((c : Context) → Keeps (in_loop near (labelling w)) (b c)) → (c : Context) → do_turns n b t (relabel ls c) ≡ do_turns n b t (relabel ks c)
  unfolding do_turns
  do_turns_same zero b t hb c = refl
  do_turns_same (suc n) b t hb c = same_then (fun_ext (λ s. turn_labels alike (b (plain c) s) ((hb (plain c)).by s))) (λ goes_on. if_run_same goes_on (bind_same (t (plain c)) (λ v. if_run_same (truthy v) (do_turns_same n b t hb c) refl)) refl)

  for_same : (n : ℕ) (head : Tree) (i t u b : Meaning) → ((c : Context) → Keeps (in_loop near (labelling w)) (b c)) → (c : Context) → for_loop n head i t u b (relabel ls c) ≡ for_loop n head i t u b (relabel ks c)
  unfolding for_loop
  for_same n head i t u b hb c = env_same ls ks _ _ (λ d. i (plain d) >>= λ v. copies (copied_names head) d >>= λ e. turns n t b (copies (copied_names head)) u e) c (λ e. inner (record c { env = e }))
    where
      inner : (d : Context) → (i (plain d) >>= λ v. copies (copied_names head) (relabel ls d) >>= λ e. turns n t b (copies (copied_names head)) u e) ≡ (i (plain d) >>= λ v. copies (copied_names head) (relabel ks d) >>= λ e. turns n t b (copies (copied_names head)) u e)
      inner d = bind_same (i (plain d)) (λ v.
          followed (copies (copied_names head)) (copies_follow (copied_names head)) ls d (λ e. turns n t b (copies (copied_names head)) u e)
          ∙ bind_same (copies (copied_names head) d) (λ e. turns_same n t b u (copies (copied_names head)) hb (copies_follow (copied_names head)) e)
          ∙ sym (followed (copies (copied_names head)) (copies_follow (copied_names head)) ks d (λ e. turns n t b (copies (copied_names head)) u e)))

module _ (mark n : ℕ) (call : Caller) (kept : (g : Kinds) (f this : Value) (args : Values) → Keeps g (call f this args)) (w : Sought) where
  mutual
    unfolding eval evals act

    behind_same : (t : Tree) (near : List Text) → escapes_behind near (labelling w) t ≡ false → {ls ks : List (List ℕ)} → Alike w near ls ks → (c : Context) → eval mark n call t (relabel ls c) ≡ eval mark n call t (relabel ks c)
    behind_same (node (Break o) ss ε) near e a c = refl
    behind_same (node (Break o) ss (t ⊳ ts)) near e a c = refl
    behind_same (node (Continue o) ss ε) near e a c = refl
    behind_same (node (Continue o) ss (t ⊳ ts)) near e a c = refl
    behind_same (node (Fn o) ss cs) near e a c = refl
    behind_same (node Arrow ss cs) near e a c = refl
    behind_same (node (FnDecl x) ss cs) near e a c = refl
    behind_same (node (ExportDefaultFn o) ss cs) near e a c = refl
    behind_same (node Method ss (k ⊳ p ⊳ b ⊳ ε)) near e a c = same_then (behind_same k [] e (alike_bare a) c) (λ w. refl)
    behind_same (node Method ss _) near e a c = refl
    behind_same (node While ss (t ⊳ b ⊳ ε)) near e a c = turns_same a n (eval mark n call t) (eval mark n call b) (λ d. gives Undefined) gives (tree_keeps mark n call kept b (in_loop near (labelling w)) (or_right _ _ e)) gives_follow c
    behind_same (node While ss _) near e a c = refl
    behind_same (node DoWhile ss (b ⊳ t ⊳ ε)) near e a c = do_turns_same a n (eval mark n call b) (eval mark n call t) (tree_keeps mark n call kept b (in_loop near (labelling w)) (or_left _ _ e)) c
    behind_same (node DoWhile ss _) near e a c = refl
    behind_same (node For ss (i ⊳ t ⊳ u ⊳ b ⊳ ε)) near e a c = for_same a n (first_tree (i ⊳ t ⊳ u ⊳ b ⊳ ε)) (eval mark n call i) (eval mark n call t) (eval mark n call u) (eval mark n call b) (tree_keeps mark n call kept b (in_loop near (labelling w)) (or_right (escapes (labelling w) u) _ (or_right (escapes (labelling w) t) _ (or_right (escapes (labelling w) i) _ e)))) c
    behind_same (node For ss _) near e a c = refl
    behind_same (node (Labeled l) ss (t ⊳ ε)) near e a c = fun_ext (λ s. ap (λ (r : Run Value). at_label l (r s)) (behind_same t (l ∷ near) e (alike_label l a) c))
    behind_same (node (Labeled l) ss _) near e a c = refl
    behind_same (node (Switch ds) ss ε) near e a c = refl
    behind_same (node (Switch ds) ss (d ⊳ cs)) near e {ls} {ks} a c = switch_same ls ks (d ⊳ cs) ds (evals mark n call cs) (eval mark n call d) (behind_same d [] (or_left _ _ e) (alike_bare a)) (trees_same cs (or_right _ _ e) (alike_bare a)) c
    behind_same (node l ss cs) near e {ls} {ks} a c = act_same ls ks mark n call l ss cs (evals mark n call cs) (trees_same cs e (alike_bare a)) refl c

    trees_same : (ts : Forest) → some_escape (labelling w) ts ≡ false → {ls ks : List (List ℕ)} → Alike w [] ls ks → Each ls ks (evals mark n call ts)
    trees_same ε e a = tt
    trees_same (t ⊳ ts) e a = (behind_same t [] (or_left _ _ e) a, trees_same ts (or_right _ _ e) a)

  pub tree_same : (t : Tree) → escapes (labelling w) t ≡ false → (ls ks : List (List ℕ)) → ((l : Text) → is_sought w l ≡ false → has_label l ls ≡ has_label l ks) → (c : Context) → eval mark n call t (relabel ls c) ≡ eval mark n call t (relabel ks c)
  tree_same t e ls ks h c = behind_same t [] e (record { covers = covered_itself [] ls; still = covered_itself [] ks; others = h }) c
