-- Each label takes children that are safe to a whole that is.
use Rattle.std.proofs.Common.{◌≡◌, ℕ, Bool, true, false, ◌&&◌, List, Option, Some, None, refl, sym, ap, subst, slice_get, cond, ◌∙◌, if◌then◌else◌}
use Rattle.std.proofs.lemmas.Bool.{false≢true, true≢false}
use Rattle.swc_ast.specs.declared.Span.{Span}
use Rattle.swc_ast.specs.declared.UnaryOp.{UnaryOp}
use Rattle.swc_ast.specs.declared.UnaryOp.TheVariants.{Minus, Plus, Bang, Tilde, TypeOf, Void}
use Rattle.swc_ast.specs.declared.VarDeclKind.{VarDeclKind}
use Rattle.swc_ast.specs.declared.VarDeclKind.TheVariants.{Var, Let, Const}
use Rattle.swc_ast.specs.Tree.{Name, Label, NumLit, StrLit, BoolLit, NullLit, This, Read, Template, Array, Object, SpreadRecord, KeyValue, Shorthand, Method, PlainKey, ComputedKey, Fn, Arrow, Body, Unary, TypeOfName, Binary, Cond, Seq, Dot, Index, Call, New, CallEval, CallDot, CallIndex, Assign, AssignDot, AssignIndex, Update, UpdateDot, UpdateIndex, Block, Empty, Throw, ExprStmt, Return, If, While, DoWhile, For, Absent, Labeled, Break, Continue, Switch, CaseBody, Try, VarDecl, Declarator, FnDecl, ExportDecl, ExportDefaultExpr, Import, ExportNamed, ExportDefaultFn, Forest}
use Rattle.swc_ast.specs.Value.{Value, Undefined, Null, Truth, Num, Text, Items as ItemsValue, Record, nofield, Cell, State, Broken, Continued, Thrown, TypeOf as TypeOfEvent, Outcome, Done, Jumps, Outside, Cut, Run, and_then, Context, Meaning}
use Rattle.swc_ast.specs.Scope.{default_name}
use Rattle.swc_ast.specs.Operators.{unary_value}
use Rattle.swc_ast.specs.Meaning.{◌>>=◌, gives, leaves, in_core, operator_of, read, read_bound, held_value, cell_at, initialise, ask, checked_type, is_type_name, is_unresolved, is_host_name, key_name, type_of_name, one_field, declare, act, Caller, all_values, call_value}
use Rattle.link_proofs.specs.Links.{Links, Ground, PlacedAt, unmarked, no_settling, settled_here, Placed, reads, Declares, moves, sets_it, Proper, Put, nothing, a_name, a_value, put_linked, put_at, through, linked_act, is_simple, Calm}
use Rattle.meaning_proofs.proofs.Results.{unary_data}
use Rattle.link_proofs.proofs.State.{World, grown_on, Fine, fine_up, entry_of, Settled, SettledBy, by_name, by_value, Holds, FineContext, context_up, FineState, Nothing, Ends, outside, Runs, Safe, SafeCalls, gives_safe, leaves_safe, jumps_safe, if_safe, bind}
use Rattle.link_proofs.proofs.Stores.{moving, unknown, ask_safe, read_safe, write_safe, initialise_unfixed}
use Rattle.link_proofs.proofs.Parts.{Both, none, more, data_in, core_fine, get_safe, put_safe, get_at_safe, put_at_safe, read_this_safe, call_value_safe, make_value_safe, all_values_safe, in_turn_safe, run_all_safe, array_items_safe, template_safe, object_fields_safe, key_text_safe, one_field_safe, operate_safe, assign_safe, update_safe, choice_safe, bad_safe, shape0_safe, shape1_safe, shape2_safe, shape3_safe, shape1+_safe, shape2+_safe, if_node_safe, return_safe, turns_safe, do_turns_safe, at_label_ends}
use Rattle.link_proofs.proofs.Fors.{bound_read}

some_same : {A : Type 0} {a b : A} → Some a ≡ Some b → a ≡ b
some_same e = cc

-- why a name, or a value, is put for a name
pub data NamedBy (L : Links) (G : Ground) (y x : Name) : Type 0 where
  by_link : L.link y ≡ Some x → NamedBy L G y x
  by_settling : L.settles y ≡ a_name x → G.settled y ≡ true → NamedBy L G y x

pub data ValuedBy (L : Links) (G : Ground) (y : Name) (v : Value) : Type 0 where
  by_known : L.known y ≡ Some v → ValuedBy L G y v
  by_settled : L.settles y ≡ a_value v → G.settled y ≡ true → ValuedBy L G y v

settled_if : (L : Links) (G : Ground) (y : Name) (ss : List Span) → L.marked ss ≡ true → PlacedAt L G y ss → (L.settles y ≡ nothing → ⊥) → G.settled y ≡ true
settled_if L G y ss m (unmarked e) n = absurd (true≢false (sym m ∙ e))
settled_if L G y ss m (no_settling e) n = absurd (n e)
settled_if L G y ss m (settled_here e) n = e

pub put_is : (L : Links) (G : Ground) (y : Name) (ss : List Span) → PlacedAt L G y ss → (x : Name) → put_at L y ss ≡ a_name x → NamedBy L G y x
put_is L G y ss q x e = go (L.marked ss) refl (L.link y) refl (L.known y) (L.settles y) refl e
  where
    go : (b : Bool) → L.marked ss ≡ b → (o : Option Name) → L.link y ≡ o → (p : Option Value) (r : Put) → L.settles y ≡ r → cond b (put_linked o p r) nothing ≡ a_name x → NamedBy L G y x
    go true m (Some z) l p r i e = by_link (l ∙ ap Some (name_same e))
      where
        name_same : {a b : Name} → a_name a ≡ a_name b → a ≡ b
        name_same e = cc
    go true m None l (Some v) r i e = cc
    go true m None l None r i e = by_settling (i ∙ e) (settled_if L G y ss m q (λ n. no_name (sym (i ∙ e) ∙ n)))
      where
        no_name : a_name x ≡ nothing → ⊥
        no_name e = cc
    go false m o l p r i e = cc

pub put_value_is : (L : Links) (G : Ground) (y : Name) (ss : List Span) → PlacedAt L G y ss → (v : Value) → put_at L y ss ≡ a_value v → ValuedBy L G y v
put_value_is L G y ss q v e = go (L.marked ss) refl (L.link y) (L.known y) refl (L.settles y) refl e
  where
    go : (b : Bool) → L.marked ss ≡ b → (o : Option Name) (p : Option Value) → L.known y ≡ p → (r : Put) → L.settles y ≡ r → cond b (put_linked o p r) nothing ≡ a_value v → ValuedBy L G y v
    go true m (Some z) p l r i e = cc
    go true m None (Some u) l r i e = by_known (l ∙ ap Some (value_same e))
      where
        value_same : {a b : Value} → a_value a ≡ a_value b → a ≡ b
        value_same e = cc
    go true m None None l r i e = by_settled (i ∙ e) (settled_if L G y ss m q (λ n. no_value (sym (i ∙ e) ∙ n)))
      where
        no_value : a_value v ≡ nothing → ⊥
        no_value e = cc
    go false m o p l r i e = cc

-- nothing is put for a name that stands for none, holds no known value and is not settled
pub puts_none : (L : Links) (y : Name) (ss : List Span) → L.link y ≡ None → L.known y ≡ None → L.settles y ≡ nothing → put_at L y ss ≡ nothing
puts_none L y ss e i j = go (L.marked ss) (L.link y) (L.known y) (L.settles y) e i j
  where
    go : (b : Bool) (o : Option Name) (p : Option Value) (r : Put) → o ≡ None → p ≡ None → r ≡ nothing → cond b (put_linked o p r) nothing ≡ nothing
    go true None None r e i j = j
    go true (Some z) p r e i j = cc
    go true None (Some v) r e i j = cc
    go false o p r e i j = refl

-- a read of a linked name gives what a read of the other gives, or leaves the core
pub data LinkedRead (L : Links) (w : World) (s : State) (o p : Outcome Value) : Type 0 where
  same_read : (v : Value) → Fine L w v → o ≡ Done v s → p ≡ Done v s → LinkedRead L w s o p
  no_read : o ≡ Outside → LinkedRead L w s o p

module _ {L : Links} {mark : ℕ} (P : Proper L mark) where
  pub linked_read : {G : Ground} (y x : Name) → L.link y ≡ Some x → (w : World) (c : Context) → FineContext L w G c → (s : State) → FineState L w s → LinkedRead L w s (read mark y c s) (read mark x c s)
  linked_read y x l w c hc s h =
      subst (λ (o : Outcome Value). LinkedRead L w s o (read mark x c s)) (sym (bound_read mark y c s (P.linked_bound y x l)))
      (subst (λ (o : Outcome Value). LinkedRead L w s (read_bound y (c.env y) s) o) (sym (bound_read mark x c s (P.target_bound y x l))) (at_index (c.env y) refl))
    where
      at_value : (k : ℕ) → c.env y ≡ Some k → (d : Cell) → slice_get (s.store y) k ≡ Some d → (o : Option Value) → d.held ≡ o → LinkedRead L w s (in_core o s) (read_bound x (c.env x) s)
      at_value k e d t None q = no_read refl
      at_value k e d t (Some v) q =
          let b = h.linked y x l k d v t q in
          let i : c.env x ≡ Some b.index = sym (ap (λ (o : Option Name). entry_of o c.env) l) ∙ some_same (sym (hc.env.at y (P.linked_fixed y x l) k e) ∙ b.linked) in
          same_read v (h.fine y k d v t q) refl (ap (λ (o : Option ℕ). read_bound x o s) i ∙ ap (λ (o : Option Cell). held_value o s) b.there ∙ ap (λ (o : Option Value). in_core o s) b.holds)

      at_cell : (k : ℕ) → c.env y ≡ Some k → (o : Option Cell) → slice_get (s.store y) k ≡ o → LinkedRead L w s (held_value o s) (read_bound x (c.env x) s)
      at_cell k e None t = no_read refl
      at_cell k e (Some d) t = at_value k e d t d.held refl

      at_index : (o : Option ℕ) → c.env y ≡ o → LinkedRead L w s (read_bound y o s) (read_bound x (c.env x) s)
      at_index None e = no_read refl
      at_index (Some k) e = at_cell k e (cell_at s y k) refl

  -- a read of a name whose value is known gives it, or leaves the core
  pub known_read : (y : Name) (u : Value) → L.known y ≡ Some u → (w : World) (c : Context) (s : State) → FineState L w s → LinkedRead L w s (read mark y c s) (Done u s)
  known_read y u l w c s h = subst (λ (o : Outcome Value). LinkedRead L w s o (Done u s)) (sym (bound_read mark y c s (P.known_bound y u l))) (at_index (c.env y))
    where
      at_value : (k : ℕ) (d : Cell) → slice_get (s.store y) k ≡ Some d → (o : Option Value) → d.held ≡ o → LinkedRead L w s (in_core o s) (Done u s)
      at_value k d t None q = no_read refl
      at_value k d t (Some v) q = same_read v (h.fine y k d v t q) refl (ap (λ (v : Value). Done v s) (sym (h.known y u l k d v t q)))

      at_cell : (k : ℕ) (o : Option Cell) → slice_get (s.store y) k ≡ o → LinkedRead L w s (held_value o s) (Done u s)
      at_cell k None t = no_read refl
      at_cell k (Some d) t = at_value k d t d.held refl

      at_index : (o : Option ℕ) → LinkedRead L w s (read_bound y o s) (Done u s)
      at_index None = no_read refl
      at_index (Some k) = at_cell k (cell_at s y k) refl

  -- a read of a settled variable
  bound_holds : (w : World) (z : Name) (c : Context) (s : State) → is_unresolved mark z ≡ false → (k : ℕ) → c.env z ≡ Some k → (u : Value) → Holds L s z k u → read mark z c s ≡ Done u s
  bound_holds w z c s i k e u h = bound_read mark z c s i ∙ ap (λ (o : Option ℕ). read_bound z o s) e ∙ ap (λ (o : Option Cell). held_value o s) h.there ∙ ap (λ (o : Option Value). in_core o s) h.holds

  settled_read : {G : Ground} (y : Name) → is_unresolved mark y ≡ false → G.settled y ≡ true → (w : World) (c : Context) → FineContext L w G c → (s : State) → FineState L w s → (p : Put) → L.settles y ≡ p → (o : Settled L w c.env y) → SettledBy w c.env o.value p → ((x : Name) → p ≡ a_name x → is_unresolved mark x ≡ false)
      → (q : Outcome Value) → ((x : Name) → p ≡ a_name x → q ≡ read mark x c s) → ((v : Value) → p ≡ a_value v → q ≡ Done v s) → LinkedRead L w s (read mark y c s) q
  settled_read y i g w c hc s h (a_name x) e o (by_name j n f) ix q qx qv =
      let a = h.facts y o.index o.value o.fact in
      same_read o.value (h.fine y o.index a.cell o.value a.there a.holds) (bound_holds w y c s i o.index o.is_at o.value a) (qx x refl ∙ bound_holds w x c s (ix x refl) j n o.value (h.facts x j o.value f))
  settled_read y i g w c hc s h (a_value u) e o by_value ix q qx qv =
      let a = h.facts y o.index u o.fact in
      same_read u (h.fine y o.index a.cell u a.there a.holds) (bound_holds w y c s i o.index o.is_at u a) (qv u refl)
  settled_read y i g w c hc s h nothing e o b ix q qx qv = elim b [ ]

  pub named_read : {G : Ground} (y x : Name) → NamedBy L G y x → (is_unresolved mark y ≡ false) × (is_unresolved mark x ≡ false) × ((w : World) (c : Context) → FineContext L w G c → (s : State) → FineState L w s → LinkedRead L w s (read mark y c s) (read mark x c s))
  named_read y x (by_link l) = (P.linked_bound y x l, P.target_bound y x l, λ w c hc s h. linked_read y x l w c hc s h)
  named_read y x (by_settling l g) =
      let b = P.settled_bound y x l in
      (b.0, b.1, λ w c hc s h. let o = hc.env.settled y g in settled_read y b.0 g w c hc s h (a_name x) l o (subst (λ (p : Put). SettledBy w c.env o.value p) l o.by) (λ z i. subst (λ (z : Name). is_unresolved mark z ≡ false) (name_same i) b.1) (read mark x c s) (λ z i. ap (λ (z : Name). read mark z c s) (name_same i)) (λ v i. no_value i))
    where
      name_same : {a b : Name} → a_name a ≡ a_name b → a ≡ b
      name_same e = cc

      no_value : {A : Type 0} {v : Value} → a_name x ≡ a_value v → A
      no_value e = absurd (differ e)
        where
          differ : {v : Value} → a_name x ≡ a_value v → ⊥
          differ e = cc

  pub valued_read : {G : Ground} (y : Name) (u : Value) → ValuedBy L G y u → (is_unresolved mark y ≡ false) × ((w : World) (c : Context) → FineContext L w G c → (s : State) → FineState L w s → LinkedRead L w s (read mark y c s) (Done u s))
  valued_read y u (by_known l) = (P.known_bound y u l, λ w c hc s h. known_read y u l w c s h)
  valued_read y u (by_settled l g) =
      let b = P.settled_value y u l in
      (b, λ w c hc s h. let o = hc.env.settled y g in settled_read y b g w c hc s h (a_value u) l o (subst (λ (p : Put). SettledBy w c.env o.value p) l o.by) (λ z i. absurd (no_name i)) (Done u s) (λ z i. absurd (no_name i)) (λ v i. ap (λ (v : Value). Done v s) (value_same i)))
    where
      value_same : {a b : Value} → a_value a ≡ a_value b → a ≡ b
      value_same e = cc

      no_name : {z : Name} → a_value u ≡ a_name z → ⊥
      no_name e = cc

  known_go : (y : Name) (m : Meaning) (f : Value → Run Value) → is_unresolved mark y ≡ false → (is_unresolved mark y ≡ false → (c : Context) (s : State) → m c s ≡ and_then (read mark y c s) f) → ((w : World) (v : Value) → Fine L w v → Runs L Nothing (Fine L) w (f v) (f v)) → (u : Value) → (w : World) (c : Context) (s : State) → FineState L w s → LinkedRead L w s (read mark y c s) (Done u s)
      → Ends L Nothing (Fine L) w s (m c s) (and_then (read mark y c s) (λ v. f u))
  unfolding and_then
  known_go y m f b q hf u w c s h (no_read e) = subst (λ (o : Outcome Value). Ends L Nothing (Fine L) w s o (and_then (read mark y c s) (λ v. f u))) (sym (q b c s ∙ ap (λ (o : Outcome Value). and_then o f) e)) (outside _)
  known_go y m f b q hf u w c s h (same_read v r e d) =
      subst (λ (o : Outcome Value). Ends L Nothing (Fine L) w s o (and_then (read mark y c s) (λ v. f u))) (sym (q b c s ∙ ap (λ (o : Outcome Value). and_then o f) e))
      (subst (λ (o : Outcome Value). Ends L Nothing (Fine L) w s (f v s) (and_then o (λ v. f u))) (sym e)
      (subst (λ (a : Value). Ends L Nothing (Fine L) w s (f v s) (f a s)) (sym (done_same d)) (hf w v r s h)))
    where
      done_same : Done u s ≡ Done v s → u ≡ v
      done_same e = cc

  -- what reads a linked name, and goes on with its value
  through_safe : {G : Ground} (y : Name) (m : Meaning) (k : Name → Meaning) (f : Value → Run Value) → Safe L G m m → (is_unresolved mark y ≡ false → (c : Context) (s : State) → m c s ≡ and_then (read mark y c s) f) → ((x : Name) → is_unresolved mark x ≡ false → (c : Context) (s : State) → k x c s ≡ and_then (read mark x c s) f)
      → ((w : World) (v : Value) → Fine L w v → Runs L Nothing (Fine L) w (f v) (f v)) → (o : Put) → ((x : Name) → o ≡ a_name x → NamedBy L G y x) → ((v : Value) → o ≡ a_value v → ValuedBy L G y v) → Safe L G m (through mark y o m k f)
  unfolding and_then
  through_safe y m k f hm q qx hf nothing i j = hm
  through_safe {G} y m k f hm q qx hf (a_value u) i j = let l = valued_read y u (j u refl) in record { at = λ w c hc s h. known_go y m f l.0 q hf u w c s h (l.1 w c hc s h) }
  through_safe {G} y m k f hm q qx hf (a_name x) i j = let l = named_read y x (i x refl) in record { at = λ w c hc s h. go l.0 l.1 w c s h (l.2 w c hc s h) }
    where
      go : is_unresolved mark y ≡ false → is_unresolved mark x ≡ false → (w : World) (c : Context) (s : State) → FineState L w s → LinkedRead L w s (read mark y c s) (read mark x c s) → Ends L Nothing (Fine L) w s (m c s) (and_then (read mark y c s) (λ v. k x c))
      go b bx w c s h (no_read e) = subst (λ (o : Outcome Value). Ends L Nothing (Fine L) w s o (and_then (read mark y c s) (λ v. k x c))) (sym (q b c s ∙ ap (λ (o : Outcome Value). and_then o f) e)) (outside _)
      go b bx w c s h (same_read v r e d) =
          subst (λ (o : Outcome Value). Ends L Nothing (Fine L) w s o (and_then (read mark y c s) (λ v. k x c))) (sym (q b c s ∙ ap (λ (o : Outcome Value). and_then o f) e))
          (subst (λ (o : Outcome Value). Ends L Nothing (Fine L) w s (f v s) (and_then o (λ v. k x c))) (sym e)
          (subst (λ (o : Outcome Value). Ends L Nothing (Fine L) w s (f v s) o) (sym (qx x bx c s ∙ ap (λ (o : Outcome Value). and_then o f) d)) (hf w v r s h)))

  then_gives : (o : Outcome Value) → o ≡ and_then o (λ v. gives v)
  unfolding and_then
  then_gives (Done v s) = refl
  then_gives (Jumps j s) = refl
  then_gives Outside = refl
  then_gives Cut = refl

  bound_type : (x : Name) (c : Context) (s : State) → is_unresolved mark x ≡ false → type_of_name mark x c s ≡ and_then (read mark x c s) (λ v. in_core (unary_value TypeOf v))
  unfolding type_of_name
  bound_type x c s e =
      ap (λ (b : Bool). if◌then◌else◌ {A = Run Value} (b && is_host_name x.text) (λ s. and_then (ask (TypeOfEvent x.text) s) checked_type) (λ s. and_then (read mark x c s) (λ v. in_core (unary_value TypeOf v))) s) e

  -- names that are read

  checked_safe : (w : World) (v : Value) → Fine L w v → Runs L Nothing (Fine L) w (checked_type v) (checked_type v)
  checked_safe w v r = if_safe (is_type_name v) (gives_safe v r) (leaves_safe leaves)

  read_name_safe : {G : Ground} (y : Name) (ss : List Span) → PlacedAt L G y ss → Safe L G (read mark y) (through mark y (put_at L y ss) (read mark y) (λ x. read mark x) (λ v. gives v))
  read_name_safe {G} y ss placed = through_safe y (read mark y) (λ x. read mark x) (λ v. gives v) (record { at = λ w c hc. read_safe P w y c }) (λ i c s. then_gives (read mark y c s)) (λ x i c s. then_gives (read mark x c s)) (λ w v r. gives_safe v r) (put_at L y ss) (put_is L G y ss placed) (put_value_is L G y ss placed)

  type_safe : {G : Ground} (y : Name) → Safe L G (type_of_name mark y) (type_of_name mark y)
  unfolding type_of_name
  type_safe y = record {
    at = λ w c hc.
        if_safe (is_unresolved mark y && is_host_name y.text)
        (bind (ask_safe P w (TypeOfEvent y.text)) (λ u g v r. checked_safe u v r))
        (bind (read_safe P w y c) (λ u g v r. core_fine P u (unary_value TypeOf v) (data_in L u _ (unary_data TypeOf v))));
  }

  type_name_safe : {G : Ground} (y : Name) (ss : List Span) → PlacedAt L G y ss → Safe L G (type_of_name mark y) (through mark y (put_at L y ss) (type_of_name mark y) (λ x. type_of_name mark x) (λ v. in_core (unary_value TypeOf v)))
  type_name_safe {G} y ss placed =
      through_safe y (type_of_name mark y) (λ x. type_of_name mark x) (λ v. in_core (unary_value TypeOf v)) (type_safe y) (λ i c s. bound_type y c s i) (λ x i c s. bound_type x c s i)
      (λ w v r. core_fine P w (unary_value TypeOf v) (data_in L w _ (unary_data TypeOf v))) (put_at L y ss) (put_is L G y ss placed) (put_value_is L G y ss placed)

  shorthand_safe : {G : Ground} (y : Name) (ss : List Span) → PlacedAt L G y ss → Safe L G (λ c. read mark y c >>= λ v. one_field y.text v) (through mark y (put_at L y ss) (λ c. read mark y c >>= λ v. one_field y.text v) (λ x c. read mark x c >>= λ v. one_field y.text v) (λ v. one_field y.text v))
  shorthand_safe {G} y ss placed =
      through_safe y (λ c. read mark y c >>= λ v. one_field y.text v) (λ x c. read mark x c >>= λ v. one_field y.text v) (λ v. one_field y.text v) (record { at = λ w c hc. bind (read_safe P w y c) (λ u g v r. one_field_safe P u y.text v r) }) (λ i c s. refl) (λ x i c s. refl)
      (λ w v r. one_field_safe P w y.text v r) (put_at L y ss) (put_is L G y ss placed) (put_value_is L G y ss placed)

  declares_safe : {G : Ground} (w : World) (x : Name) (v : Value) (c : Context) → FineContext L w G c → Fine L w v → Declares L G x → Runs L Nothing (Fine L) w (initialise x v c) (initialise x v c)
  declares_safe w x v c hc r (moves f i) = initialise_unfixed P w x v c r f (λ k e. moving i)
  declares_safe w x v c hc r (sets_it f i) = initialise_unfixed P w x v c r f (λ k e. unknown (hc.env.fresh x i k e))

  declare_safe : {G : Ground} (k : VarDeclKind) (x : Name) → Declares L G x → {ms ns : List Meaning} → Both (Safe L G) ms ns → Safe L G (declare k x ms) (declare k x ns)
  unfolding declare
  declare_safe Var x f none = record { at = λ w c hc. gives_safe Undefined tt }
  declare_safe Let x f none = record { at = λ w c hc. declares_safe w x Undefined c hc tt f }
  declare_safe Const x f none = record { at = λ w c hc. declares_safe w x Undefined c hc tt f }
  declare_safe Var x f (more h hs) = record { at = λ w c hc. bind (h.at w c hc) (λ u g v r. declares_safe u x v c (context_up g hc) r f) }
  declare_safe Let x f (more h hs) = record { at = λ w c hc. bind (h.at w c hc) (λ u g v r. declares_safe u x v c (context_up g hc) r f) }
  declare_safe Const x f (more h hs) = record { at = λ w c hc. bind (h.at w c hc) (λ u g v r. declares_safe u x v c (context_up g hc) r f) }

  unary_safe : {G : Ground} (op : UnaryOp) {m n : Meaning} → Safe L G m n → Safe L G (λ c. m c >>= λ v. in_core (unary_value op v)) (λ c. n c >>= λ v. in_core (unary_value op v))
  unary_safe op hm = record { at = λ w c hc. bind (hm.at w c hc) (λ u g v r. core_fine P u (unary_value op v) (data_in L u _ (unary_data op v))) }

  module _ (n : ℕ) {call call' : Caller} (hk : SafeCalls L call call') {G : Ground} where
    arguments_safe : {ms ns : List Meaning} → Both (Safe L G) ms ns → (w : World) (c : Context) → FineContext L w G c → (f t : Value) → Fine L w f → Fine L w t → Runs L Nothing (Fine L) w (all_values ms c >>= λ vs. call_value call f t vs) (all_values ns c >>= λ vs. call_value call' f t vs)
    arguments_safe hs w c hc f t hf ht = bind (all_values_safe P hs w c hc) (λ u g vs rs. call_value_safe P hk u f t vs (fine_up L g f hf) (fine_up L g t ht) rs)

    pub act_safe : (l : Label) (ss : List Span) (cs : Forest) → is_simple l ≡ true → Calm L G l → Placed L G (reads l) ss → {ms ns : List Meaning} → Both (Safe L G) ms ns → Safe L G (act mark n call l ss cs ms) (linked_act L mark n call' l ss cs ns)
    unfolding act linked_act
    act_safe (NumLit z) ss cs e q placed hs = shape0_safe P (record { at = λ w c hc. gives_safe (Num z) tt }) hs
    act_safe (StrLit t) ss cs e q placed hs = shape0_safe P (record { at = λ w c hc. gives_safe (Text t) tt }) hs
    act_safe (BoolLit b) ss cs e q placed hs = shape0_safe P (record { at = λ w c hc. gives_safe (Truth b) tt }) hs
    act_safe NullLit ss cs e q placed hs = shape0_safe P (record { at = λ w c hc. gives_safe Null tt }) hs
    act_safe This ss cs e q placed hs = shape0_safe P (record { at = λ w c hc. read_this_safe P w c.this hc.this }) hs
    act_safe (Read x) ss cs e q placed hs = shape0_safe P (read_name_safe x ss placed) hs
    act_safe (Template qs) ss cs e q placed hs = record { at = λ w c hc. bind (template_safe P qs hs w c hc) (λ u g t r. gives_safe (Text t) tt) }
    act_safe (Array ks) ss cs e q placed hs = record { at = λ w c hc. bind (array_items_safe P ks hs w c hc) (λ u g vs r. gives_safe (ItemsValue vs) r) }
    act_safe SpreadRecord ss cs e q placed hs = shape1_safe P (λ m n hm. hm) hs
    act_safe Object ss cs e q placed hs = record { at = λ w c hc. bind (object_fields_safe P hs nofield w c tt hc) (λ u g fs r. gives_safe (Record fs) r) }
    act_safe KeyValue ss cs e q placed hs = shape2_safe P (λ k k' m m' hk' hm. record { at = λ w c hc. bind (hk'.at w c hc) (λ u g a r. bind (key_text_safe P u a) (λ x p t z. bind (hm.at x c (context_up (grown_on g p) hc)) (λ y o v i. one_field_safe P y t v i))) }) hs
    act_safe (Shorthand x) ss cs e q placed hs = shape0_safe P (shorthand_safe x ss placed) hs
    act_safe (PlainKey k) ss cs e q placed hs = shape0_safe P (record { at = λ w c hc. gives_safe (Text (key_name k)) tt }) hs
    act_safe ComputedKey ss cs e q placed hs = shape1_safe P (λ m n hm. hm) hs
    act_safe (Unary Minus) ss cs e q placed hs = shape1_safe P (λ m n hm. unary_safe Minus hm) hs
    act_safe (Unary Plus) ss cs e q placed hs = shape1_safe P (λ m n hm. unary_safe Plus hm) hs
    act_safe (Unary Bang) ss cs e q placed hs = shape1_safe P (λ m n hm. unary_safe Bang hm) hs
    act_safe (Unary Tilde) ss cs e q placed hs = shape1_safe P (λ m n hm. unary_safe Tilde hm) hs
    act_safe (Unary TypeOf) ss cs e q placed hs = shape1_safe P (λ m n hm. unary_safe TypeOf hm) hs
    act_safe (Unary Void) ss cs e q placed hs = shape1_safe P (λ m n hm. unary_safe Void hm) hs
    act_safe (TypeOfName x) ss cs e q placed hs = shape0_safe P (type_name_safe x ss placed) hs
    act_safe (Binary op) ss cs e q placed hs = shape2_safe P (λ a a' b b' ha hb. record { at = λ w c hc. bind (ha.at w c hc) (λ u g v r. operate_safe P u op v r (hb.at u c (context_up g hc))) }) hs
    act_safe Cond ss cs e q placed hs = shape3_safe P (λ a a' b b' x x' ha hb hx. choice_safe P ha hb hx) hs
    act_safe Seq ss cs e q placed hs = in_turn_safe P hs
    act_safe (Dot k) ss cs e q placed hs = shape1_safe P (λ o o' ho. record { at = λ w c hc. bind (ho.at w c hc) (λ u g v r. get_safe P u v k r) }) hs
    act_safe Index ss cs e q placed hs = shape2_safe P (λ o o' k k' ho hk'. record { at = λ w c hc. bind (ho.at w c hc) (λ u g v r. bind (hk'.at u c (context_up g hc)) (λ x p a i. get_at_safe P x v a (fine_up L p v r))) }) hs
    act_safe Call ss cs e q placed hs = shape1+_safe P (λ f f' xs ys hf hx. record { at = λ w c hc. bind (hf.at w c hc) (λ u g v r. arguments_safe hx u c (context_up g hc) v Undefined r tt) }) hs
    act_safe (CallEval x) ss cs e q placed hs = record { at = λ w c hc. if_safe (is_unresolved mark x) (leaves_safe leaves) (bind (read_safe P w x c) (λ u g v r. arguments_safe hs u c (context_up g hc) v Undefined r tt)) }
    act_safe New ss cs e q placed hs = shape1+_safe P (λ m n xs ys hm hx. record { at = λ w c hc. bind (hm.at w c hc) (λ u g v r. bind (all_values_safe P hx u c (context_up g hc)) (λ x p vs rs. make_value_safe P hk x v vs rs)) }) hs
    act_safe (CallDot k) ss cs e q placed hs = shape1+_safe P (λ o o' xs ys ho hx. record { at = λ w c hc. bind (ho.at w c hc) (λ u g v r. bind (get_safe P u v k r) (λ x p f i. arguments_safe hx x c (context_up (grown_on g p) hc) f v i (fine_up L p v r))) }) hs
    act_safe CallIndex ss cs e q placed hs = shape2+_safe P (λ o o' k k' xs ys ho hk' hx. record {
      at = λ w c hc. bind (ho.at w c hc) (λ u g v r. bind (hk'.at u c (context_up g hc)) (λ x p a i. bind (get_at_safe P x v a (fine_up L p v r)) (λ y o f j. arguments_safe hx y c (context_up (grown_on g (grown_on p o)) hc) f v j (fine_up L (grown_on p o) v r))));
    }) hs
    act_safe (Assign op x) ss cs e q placed hs = shape1_safe P (λ m m' hm. record { at = λ w c hc. assign_safe P w (operator_of op) (read_safe P w x c) (λ u g. hm.at u c (context_up g hc)) (λ u g v r. write_safe P u x v c q r) }) hs
    act_safe (AssignDot op k) ss cs e q placed hs = shape2_safe P (λ o o' m m' ho hm. record { at = λ w c hc. bind (ho.at w c hc) (λ u g v r. assign_safe P u (operator_of op) (get_safe P u v k r) (λ x p. hm.at x c (context_up (grown_on g p) hc)) (λ x p a i. put_safe P x v k a i)) }) hs
    act_safe (AssignIndex op) ss cs e q placed hs = shape3_safe P (λ o o' k k' m m' ho hk' hm. record {
      at = λ w c hc. bind (ho.at w c hc) (λ u g v r. bind (hk'.at u c (context_up g hc)) (λ x p a i. assign_safe P x (operator_of op) (get_at_safe P x v a (fine_up L p v r)) (λ y j. hm.at y c (context_up (grown_on g (grown_on p j)) hc)) (λ y j b z. put_at_safe P y v a b z)));
    }) hs
    act_safe (Update op prefix x) ss cs e q placed hs = shape0_safe P (record { at = λ w c hc. update_safe P w op prefix (read_safe P w x c) (λ u g v r. write_safe P u x v c q r) }) hs
    act_safe (UpdateDot op prefix k) ss cs e q placed hs = shape1_safe P (λ o o' ho. record { at = λ w c hc. bind (ho.at w c hc) (λ u g v r. update_safe P u op prefix (get_safe P u v k r) (λ x p a i. put_safe P x v k a i)) }) hs
    act_safe (UpdateIndex op prefix) ss cs e q placed hs = shape2_safe P (λ o o' k k' ho hk'. record { at = λ w c hc. bind (ho.at w c hc) (λ u g v r. bind (hk'.at u c (context_up g hc)) (λ x p a i. update_safe P x op prefix (get_at_safe P x v a (fine_up L p v r)) (λ y j b z. put_at_safe P y v a b z))) }) hs
    act_safe Empty ss cs e q placed hs = shape0_safe P (record { at = λ w c hc. gives_safe Undefined tt }) hs
    act_safe Throw ss cs e q placed hs = shape1_safe P (λ m m' hm. record { at = λ w c hc. bind (hm.at w c hc) (λ u g v r. jumps_safe (Thrown v) r) }) hs
    act_safe ExprStmt ss cs e q placed hs = shape1_safe P (λ m m' hm. record { at = λ w c hc. bind (hm.at w c hc) (λ u g v r. gives_safe Undefined tt) }) hs
    act_safe Return ss cs e q placed hs = return_safe P hs
    act_safe If ss cs e q placed hs = if_node_safe P hs
    act_safe While ss cs e q placed hs = shape2_safe P (λ t t' b b' ht hb. record { at = λ w c hc. turns_safe P n ht hb (λ u d hd. gives_safe d hd) (record { at = λ u d hd. gives_safe Undefined tt }) w c hc }) hs
    act_safe DoWhile ss cs e q placed hs = shape2_safe P (λ b b' t t' hb ht. record { at = λ w c hc. do_turns_safe P n hb ht w c hc }) hs
    act_safe Absent ss cs e q placed hs = shape0_safe P (record { at = λ w c hc. gives_safe (Truth true) tt }) hs
    act_safe (Labeled l) ss cs e q placed hs = shape1_safe P (λ m m' hm. record { at = λ w c hc s h. at_label_ends P l (hm.at w _ (record { env = hc.env; this = hc.this }) s h) }) hs
    act_safe (Break l) ss cs e q placed hs = shape0_safe P (record { at = λ w c hc. jumps_safe (Broken l) tt }) hs
    act_safe (Continue l) ss cs e q placed hs = shape0_safe P (record { at = λ w c hc. jumps_safe (Continued l) tt }) hs
    act_safe CaseBody ss cs e q placed hs = run_all_safe P hs
    act_safe (VarDecl kind) ss cs e q placed hs = run_all_safe P hs
    act_safe (Declarator kind x) ss cs e q placed hs = declare_safe kind x q hs
    act_safe ExportDecl ss cs e q placed hs = run_all_safe P hs
    act_safe (Import src) ss cs e q placed hs = record { at = λ w c hc. gives_safe Undefined tt }
    act_safe ExportNamed ss cs e q placed hs = record { at = λ w c hc. gives_safe Undefined tt }
    act_safe ExportDefaultExpr ss cs e q placed hs = shape1_safe P (λ m m' hm. record { at = λ w c hc. bind (hm.at w c hc) (λ u g v r. declares_safe u default_name v c (context_up g hc) r q) }) hs
    act_safe Block ss cs e q placed hs = absurd (false≢true e)
    act_safe For ss cs e q placed hs = absurd (false≢true e)
    act_safe (Switch ds) ss cs e q placed hs = absurd (false≢true e)
    act_safe (Try p) ss cs e q placed hs = absurd (false≢true e)
    act_safe (Fn o) ss cs e q placed hs = absurd (false≢true e)
    act_safe Arrow ss cs e q placed hs = absurd (false≢true e)
    act_safe Method ss cs e q placed hs = absurd (false≢true e)
    act_safe (FnDecl x) ss cs e q placed hs = absurd (false≢true e)
    act_safe (ExportDefaultFn o) ss cs e q placed hs = absurd (false≢true e)
    act_safe Body ss cs e q placed hs = absurd (false≢true e)
    act_safe _ ss cs e q placed hs = bad_safe P _
