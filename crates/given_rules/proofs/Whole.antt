-- Whole trees: where what stands for the reads is put in their places, a module does what it does in the world with answers.
use Rattle.std.proofs.Common.{◌≡◌, ℕ, suc, Bool, true, false, ◌&&◌, if◌then◌else◌, List, [], ◌∷◌, ◌++◌, Option, Some, None, refl, sym, ap, subst, ◌∙◌}
use Rattle.std.proofs.lemmas.Bool.{false≢true, true≢false}
use Rattle.swc_ast.specs.Labels.{is_var_declaration, is_member_or_name}
use Rattle.swc_ast.specs.declared.Span.{Span}
use Rattle.swc_ast.specs.declared.UnaryOp.TheVariants.{Minus, Plus, Bang, Tilde, Void, TypeOf, Delete}
use Rattle.swc_ast.specs.Tree.{Text, Name, NameKey, Label, StrLit, Read, KeyValue, Shorthand, PlainKey, ComputedKey, TypeOfName, Unary, Dot, Index, Call, CallEval, CallDot, CallIndex, VarDecl, FnDecl, Import, ExportDecl, ExportNamed, Tree, node, Forest, ε, ◌⊳◌, label_of}
use Rattle.swc_ast.specs.Value.{Meaning, and_then}
use Rattle.swc_ast.specs.Expressions.{unary_node}
use Rattle.swc_ast.specs.Meaning.{Caller, is_unresolved, is_host_name, type_of_name, eval, evals, act}
use Rattle.swc_ast.specs.Call.{each_of}
use Rattle.swc_ast.specs.Run.{item_exports, declared_exports, own_texts}
use Rattle.meaning_proofs.specs.Exact.{Exact}
use Rattle.meaning_proofs.specs.Roles.{Unfolds}
use Rattle.meaning_proofs.specs.Walks.{no_names}
use Rattle.meaning_proofs.specs.Rewrites.{SameExports, kept_import, All, nil, cons}
use Rattle.meaning_proofs.proofs.Laws.{only_kept, last, exact_path}
use Rattle.meaning_proofs.proofs.Quiet.{declares_nothing, fits_nothing}
use Rattle.swc_pass.specs.Given.{Owners, is_as_written, owned, all_owned, nothing, Stand, as_written, in_itself, stands, Answers, for_read, for_type, room, typed, act_given, eval_within}
use Rattle.given_rules.specs.Met.{joined, met_open, met_at, own_found, met, met_each, covers, is_known}
use Rattle.given_rules.proofs.Covered.{Spanless, covers_both, known_open, dot_behind, index_behind, eval_behind, known_at, nothing_found}
use Rattle.tree_put.specs.Put as walk
use Rattle.tree_put.specs.Keys.{IsKey, plain_key, text_key}
use Rattle.tree_put.specs.declared.rules.Spot.{Spot}
use Rattle.given_shield.specs.Shield.{is_bare_operand}
use Rattle.given_rules.specs.Put.{here, callee, operand, Puts, front, behind, or_parts, called, of_type, as_property, first_spot, around, put, put_all}
use Rattle.tree_put.proofs.Keys.{key_is}
use Rattle.given_rules.proofs.Standing.{does, all_room, does_acts, free_unfolds}
use Rattle.given_rules.proofs.Plain.{kept_by, ImportStays, specifiers_stay, part_written, type_written, Leaves}
use Rattle.given_rules.proofs.Putting.{may_go, IsGiven, R, PutFor, nothing_put, any_put, value_put, TypePut, no_text, no_need, text_put, Lawful, same_names, same_specifiers, leaving, stands_for, given_read, put_read, given_of, dot_does, index_does, name_does, property_does, type_does}

nothing_exports : (t : Tree) (ts : Forest) → declares_nothing (label_of t) ≡ true → item_exports ExportDecl (t ⊳ ts) ≡ []
nothing_exports (node (VarDecl k) ss cs) ts e = absurd (false≢true e)
nothing_exports (node (FnDecl x) ss cs) ts e = absurd (false≢true e)
nothing_exports (node l ss cs) ts e = refl

called_nothing : (o : Option Tree) (ss : List Span) (us : Forest) (t : Tree) → declares_nothing (label_of t) ≡ true → declares_nothing (label_of (called o ss us t)) ≡ true
called_nothing None ss us t e = e
called_nothing (Some v) ss us t e = refl

typed_nothing : (ss : List Span) (v : Tree) → declares_nothing (label_of (walk.of_type ss v)) ≡ true
unfolding unary_node
typed_nothing [] v = refl
typed_nothing (s ∷ ss) (node (Read x) rs cs) = refl
typed_nothing (s ∷ ss) (node l rs cs) = refl

type_nothing : (o : Option Tree) (ss : List Span) (t : Tree) → declares_nothing (label_of t) ≡ true → declares_nothing (label_of (of_type o ss t)) ≡ true
type_nothing None ss t e = e
type_nothing (Some v) ss t e = typed_nothing ss v

-- `typeof` of what may stand bare there does the same where a name is part of its label_of

unread : (b c : Bool) → c ≡ false → {A B : Type 0} (x y : A → B) (z : A) → y z ≡ (if b && c then x else y) z
unread true true e x y z = absurd (true≢false e)
unread true false e x y z = refl
unread false c e x y z = refl

typed_name : (mark : ℕ) (qs rs : List Span) (s : Span) (x : Name) (cs : Forest) → is_host_name x.text ≡ false → Exact mark (node (Unary TypeOf) qs (node (Read x) rs cs ⊳ ε)) (node (TypeOfName x) (s ∷ rs) cs)
unfolding eval evals act type_of_name and_then
typed_name mark qs rs s x ε h = exact_path mark (λ n call c z. unread (is_unresolved mark x) (is_host_name x.text) h _ _ z)
typed_name mark qs rs s x (t ⊳ ts) h = exact_path mark (λ n call c z. refl)

other_typed : (mark : ℕ) (qs : List Span) (s : Span) (v : Tree) → Exact mark (node (Unary TypeOf) qs (v ⊳ ε)) (node (Unary TypeOf) (s ∷ []) (v ⊳ ε))
unfolding eval evals act
other_typed mark qs s v = exact_path mark (λ n call c z. refl)

none_typed : (mark : ℕ) (qs : List Span) (v : Tree) → Exact mark (node (Unary TypeOf) qs (v ⊳ ε)) (node (Unary TypeOf) [] (v ⊳ ε))
unfolding eval evals act
none_typed mark qs v = exact_path mark (λ n call c z. refl)

typed_exact : (mark : ℕ) (qs ss : List Span) (v : Tree) → is_bare_operand v ≡ false → Exact mark (node (Unary TypeOf) qs (v ⊳ ε)) (walk.of_type ss v)
unfolding unary_node
typed_exact mark qs [] v h = none_typed mark qs v
typed_exact mark qs (s ∷ ss) (node (Read x) rs cs) h = typed_name mark qs rs s x cs h
typed_exact mark qs (s ∷ ss) (node l rs cs) h = other_typed mark qs s (node l rs cs)

property_nothing : (o : Option Tree) (x : Name) (ss : List Span) (t : Tree) → declares_nothing (label_of t) ≡ true → declares_nothing (label_of (as_property o x ss t)) ≡ true
property_nothing None x ss t e = e
property_nothing (Some v) x ss t e = refl

module _ {a : Answers} (mark : ℕ) (h : Leaves a) (k : ℕ) (os : Owners) (e : room (all_room a mark) os ≡ suc k) (np : is_as_written os ≡ false) (sp : Spanless a) (has : ℕ → Bool) (X : Puts) (law : Lawful a mark has os X) where
  abbrev Q : Tree → Tree → Type 0
  Q t u = R a mark t u

  abbrev Qs : Bool → Forest → Forest → Type 0
  Qs b ts us = All no_names mark (does a mark) b ts us

  -- a node that stays, with its children rewritten
  with_children : (l : Label) (ss : List Span) (cs us : Forest) → Unfolds mark (does a mark) (owned os (node l ss cs)) → ImportStays l (all_owned os cs) us → SameExports l (all_owned os cs) us → ((b : Bool) → Qs b (all_owned os cs) us) → Q (owned os (node l ss cs)) (node l ss us)
  with_children l ss cs us u i x f = only_kept (kept_by l os ss (all_owned os cs) us u i x (f false) (f true))

  no_put : (p : Spot) (l : Label) (ss : List Span) (cs us : Forest) → may_go l ≡ false → (t : Tree) → or_parts (X.expression p (node l ss cs)) t ≡ t
  no_put p l ss cs us m t = ap (λ o. or_parts o t) (law.others p l ss cs m)

  -- a call, for whose callee something stands
  call_given : (t : Tree) → declares_nothing (label_of t) ≡ true → (lp : Label) → is_member_or_name lp ≡ true → (ss : List Span) (ps ts us : Forest) (s : Stand) (z : Tree) → for_read a os (node lp os (all_owned os ps)) ≡ s → PutFor a mark os s (Some z)
      → (IsGiven s → (n : ℕ) (call : Caller) → does a mark n call t ≡ does a mark n call (owned os (node Call ss (node lp ss ps ⊳ ts)))) → ((b : Bool) → Qs b (all_owned os ts) us) → Q t (node Call (front ss) (z ⊳ us))
  call_given t d lp i ss ps ts us s z q m f g =
      let r : Q (owned os (node lp ss ps)) z = given_read a mark h k os e lp i ss ps q m in
      stands_for a mark h t (owned os (node Call ss (node lp ss ps ⊳ ts))) (node Call (front ss) (z ⊳ us)) d refl (f (given_of a mark h k os e {z = z} m))
      (only_kept (kept_by Call os (front ss) (all_owned os (node lp ss ps ⊳ ts)) (z ⊳ us) (free_unfolds a mark k os e Call ss (node lp ss ps ⊳ ts) refl) tt tt (cons r (g false)) (cons r (g true))))

  put_call : (t : Tree) → declares_nothing (label_of t) ≡ true → (lp : Label) → is_member_or_name lp ≡ true → (ss : List Span) (ps ts us : Forest) (s : Stand) (o : Option Tree) → for_read a os (node lp os (all_owned os ps)) ≡ s → PutFor a mark os s o
      → (IsGiven s → (n : ℕ) (call : Caller) → does a mark n call t ≡ does a mark n call (owned os (node Call ss (node lp ss ps ⊳ ts)))) → ((b : Bool) → Qs b (all_owned os ts) us) → (u : Tree) → (s ≡ as_written → Q t u) → Q t (called o ss us u)
  put_call t d lp i ss ps ts us as_written None q nothing_put f g u w = w refl
  put_call t d lp i ss ps ts us in_itself None q m f g u w = elim m [ ]
  put_call t d lp i ss ps ts us (stands _ _) None q m f g u w = elim m [ ]
  put_call t d lp i ss ps ts us s (Some z) q m f g u w = call_given t d lp i ss ps ts us s z q m f g

  -- a property that was only a name, for which something stands
  key_stays : {t : Text} {c : Tree} → IsKey t c → Q (owned os c) c
  key_stays {t} (plain_key {ss}) = with_children (PlainKey (NameKey t)) ss ε ε (free_unfolds a mark k os e (PlainKey (NameKey t)) ss ε refl) tt tt (λ b. nil)
  key_stays {t} (text_key {ss} {rs}) =
      let text : Q (owned os (node (StrLit t) rs ε)) (node (StrLit t) rs ε) = with_children (StrLit t) rs ε ε (free_unfolds a mark k os e (StrLit t) rs ε refl) tt tt (λ b. nil) in
      with_children ComputedKey ss (node (StrLit t) rs ε ⊳ ε) (node (StrLit t) rs ε ⊳ ε) (free_unfolds a mark k os e ComputedKey ss (node (StrLit t) rs ε ⊳ ε) refl) tt tt (λ b. cons text nil)

  property_given : (x : Name) {c : Tree} (ss : List Span) (cs : Forest) (s : Stand) (z : Tree) → IsKey x.text c → for_read a os (node (Read x) os ε) ≡ s → PutFor a mark os s (Some z) → Q (owned os (node (Shorthand x) ss cs)) (node KeyValue [] (c ⊳ z ⊳ ε))
  property_given x {c} ss cs s z j q m =
      let r : Q (owned os (node (Read x) ss ε)) z = given_read a mark h k os e (Read x) refl ss ε q m in
      stands_for a mark h (owned os (node (Shorthand x) ss cs)) (owned os (node KeyValue [] (c ⊳ node (Read x) ss ε ⊳ ε))) (node KeyValue [] (c ⊳ z ⊳ ε)) refl refl (λ n call. property_does a mark h k os e n call x ss cs j q (given_of a mark h k os e {z = z} m))
      (only_kept (kept_by KeyValue os [] (all_owned os (c ⊳ node (Read x) ss ε ⊳ ε)) (c ⊳ z ⊳ ε) (free_unfolds a mark k os e KeyValue [] (c ⊳ node (Read x) ss ε ⊳ ε) refl) tt tt (cons (key_stays j) (cons r nil)) (cons (key_stays j) (cons r nil))))

  put_property : (x : Name) (ss : List Span) (cs : Forest) (s : Stand) (o : Option Tree) → for_read a os (node (Read x) os ε) ≡ s → PutFor a mark os s o → (u : Tree) → (s ≡ as_written → Q (owned os (node (Shorthand x) ss cs)) u) → Q (owned os (node (Shorthand x) ss cs)) (as_property o x ss u)
  put_property x ss cs as_written None q nothing_put u w = w refl
  put_property x ss cs in_itself None q m u w = elim m [ ]
  put_property x ss cs (stands _ _) None q m u w = elim m [ ]
  put_property x ss cs s (Some z) q m u w = property_given x ss cs s z (key_is x.text ss) q m

  -- `typeof` of a name for which something stands
  type_given : (x : Name) (ss : List Span) (cs : Forest) (s : Stand) (z : Tree) → is_bare_operand z ≡ false → for_read a os (node (Read x) os ε) ≡ s → PutFor a mark os s (Some z) → Q (owned os (node (TypeOfName x) ss cs)) (walk.of_type ss z)
  type_given x ss cs s z alone q m =
      let r : Q (owned os (node (Read x) ss ε)) z = given_read a mark h k os e (Read x) refl ss ε q m in
      last (stands_for a mark h (owned os (node (TypeOfName x) ss cs)) (owned os (node (Unary TypeOf) ss (node (Read x) ss ε ⊳ ε))) (node (Unary TypeOf) (front ss) (z ⊳ ε)) refl refl (λ n call. type_does a mark h k os e n call x ss cs q (given_of a mark h k os e {z = z} m))
      (only_kept (kept_by (Unary TypeOf) os (front ss) (all_owned os (node (Read x) ss ε ⊳ ε)) (z ⊳ ε) (free_unfolds a mark k os e (Unary TypeOf) ss (node (Read x) ss ε ⊳ ε) refl) tt tt (cons r nil) (cons r nil))))
      (typed_exact mark (front ss) ss z alone) (fits_nothing (node (Unary TypeOf) (front ss) (z ⊳ ε)) (walk.of_type ss z) refl (typed_nothing ss z))

  put_type : (x : Name) (ss : List Span) (cs : Forest) (s : Stand) (o : Option Tree) → ((z : Tree) → o ≡ Some z → is_bare_operand z ≡ false) → for_read a os (node (Read x) os ε) ≡ s → PutFor a mark os s o → (u : Tree) → (s ≡ as_written → Q (owned os (node (TypeOfName x) ss cs)) u) → Q (owned os (node (TypeOfName x) ss cs)) (of_type o ss u)
  put_type x ss cs as_written None g q nothing_put u w = w refl
  put_type x ss cs in_itself None g q m u w = elim m [ ]
  put_type x ss cs (stands _ _) None g q m u w = elim m [ ]
  put_type x ss cs s (Some z) g q m u w = type_given x ss cs s z (g z refl) q m

  -- what a node with a part does, where nothing stands for the part

  unparted : (l : Label) (ss : List Span) (cs : Forest) → ((n : ℕ) (call : Caller) (inner : Tree → Meaning) (ms : List Meaning) → act_given a mark n call inner l os (all_owned os cs) ms ≡ act mark n call l os (all_owned os cs) ms) → Unfolds mark (does a mark) (owned os (node l ss cs))
  unparted l ss cs f = record { by = λ n call. does_acts a mark n call k os e l ss cs ∙ f n call _ _ }

  dot_unfolds : (m : Text) (ss : List Span) (o : Tree) (ts : Forest) → for_read a os (node (Dot m) os (owned os o ⊳ ε)) ≡ as_written → Unfolds mark (does a mark) (owned os (node (CallDot m) ss (o ⊳ ts)))
  unfolding act_given
  dot_unfolds m ss o ts q = unparted (CallDot m) ss (o ⊳ ts) (λ n call inner ms. part_written a mark n call inner q os (CallDot m) ms _)

  index_unfolds : (ss : List Span) (o j : Tree) (ts : Forest) → for_read a os (node Index os (owned os o ⊳ owned os j ⊳ ε)) ≡ as_written → Unfolds mark (does a mark) (owned os (node CallIndex ss (o ⊳ j ⊳ ts)))
  unfolding act_given
  index_unfolds ss o j ts q = unparted CallIndex ss (o ⊳ j ⊳ ts) (λ n call inner ms. part_written a mark n call inner q os CallIndex ms _)

  eval_unfolds : (x : Name) (ss : List Span) (ts : Forest) → for_read a os (node (Read x) os ε) ≡ as_written → Unfolds mark (does a mark) (owned os (node (CallEval x) ss ts))
  unfolding act_given
  eval_unfolds x ss ts q = unparted (CallEval x) ss ts (λ n call inner ms. part_written a mark n call inner q os (CallEval x) ms _)

  short_unfolds : (x : Name) (ss : List Span) (ts : Forest) → for_read a os (node (Read x) os ε) ≡ as_written → Unfolds mark (does a mark) (owned os (node (Shorthand x) ss ts))
  unfolding act_given
  short_unfolds x ss ts q = unparted (Shorthand x) ss ts (λ n call inner ms. part_written a mark n call inner q os (Shorthand x) ms _)

  type_unfolds : (x : Name) (ss : List Span) (ts : Forest) → for_read a os (node (Read x) os ε) ≡ as_written → for_type a os x ≡ None → Unfolds mark (does a mark) (owned os (node (TypeOfName x) ss ts))
  unfolding act_given
  type_unfolds x ss ts q r = unparted (TypeOfName x) ss ts (λ n call inner ms. part_written a mark n call inner q os (TypeOfName x) ms _ ∙ type_written a mark n call inner r _)

  dot_alone : (m : Text) (ss : List Span) → Unfolds mark (does a mark) (owned os (node (CallDot m) ss ε))
  unfolding act_given
  dot_alone m ss = unparted (CallDot m) ss ε (λ n call inner ms. refl)

  index_alone : (ss : List Span) → Unfolds mark (does a mark) (owned os (node CallIndex ss ε))
  unfolding act_given
  index_alone ss = unparted CallIndex ss ε (λ n call inner ms. refl)

  index_one : (ss : List Span) (o : Tree) → Unfolds mark (does a mark) (owned os (node CallIndex ss (o ⊳ ε)))
  unfolding act_given
  index_one ss o = unparted CallIndex ss (o ⊳ ε) (λ n call inner ms. refl)

  -- the text that `typeof` gives of a name
  text_does : (n : ℕ) (call : Caller) (x : Name) (ss : List Span) (cs : Forest) (t : Text) → for_read a os (node (Read x) os ε) ≡ as_written → for_type a os x ≡ Some t → does a mark n call (owned os (node (TypeOfName x) ss cs)) ≡ does a mark n call (owned os (node (StrLit t) ss ε))
  unfolding act_given act
  text_does n call x ss cs t q r =
      let inner = eval_within a mark n call k in
      let written = act mark n call (TypeOfName x) os (all_owned os cs) (each_of (does a mark n call) (all_owned os cs)) in
      does_acts a mark n call k os e (TypeOfName x) ss cs
      ∙ part_written a mark n call inner q os (TypeOfName x) (each_of (does a mark n call) (all_owned os cs)) written
      ∙ ap (λ o. typed a mark n call inner o written) r
      ∙ sym (does_acts a mark n call k os e (StrLit t) ss ε)

  -- what is put declares nothing

  or_nothing : {s : Stand} {o : Option Tree} → PutFor a mark os s o → (u : Tree) → declares_nothing (label_of u) ≡ true → declares_nothing (label_of (or_parts o u)) ≡ true
  or_nothing nothing_put u d = d
  or_nothing (any_put m) u d = m
  or_nothing (value_put f g m x r) u d = m

  type_or_nothing : {s : Stand} {t : Option Text} {o : Option Tree} → TypePut a mark s t o → (u : Tree) → declares_nothing (label_of u) ≡ true → declares_nothing (label_of (or_parts o u)) ≡ true
  type_or_nothing no_text u d = d
  type_or_nothing (no_need g) u d = d
  type_or_nothing text_put u d = refl

  around_nothing : (l : Label) (ss : List Span) (cs us : Forest) → declares_nothing l ≡ true → declares_nothing (label_of (around X l ss cs us)) ≡ true
  around_nothing (CallDot m) ss ε us d = refl
  around_nothing (CallDot m) ss (o ⊳ cs) ε d = refl
  around_nothing (CallDot m) ss (o ⊳ cs) (u ⊳ us) d = called_nothing (X.expression callee (node (Dot m) (behind ss) (o ⊳ ε))) ss us (node (CallDot m) ss (u ⊳ us)) refl
  around_nothing CallIndex ss ε us d = refl
  around_nothing CallIndex ss (o ⊳ ε) us d = refl
  around_nothing CallIndex ss (o ⊳ j ⊳ cs) ε d = refl
  around_nothing CallIndex ss (o ⊳ j ⊳ cs) (u ⊳ ε) d = refl
  around_nothing CallIndex ss (o ⊳ j ⊳ cs) (u ⊳ v ⊳ us) d = called_nothing (X.expression callee (node Index (behind ss) (o ⊳ j ⊳ ε))) ss us (node CallIndex ss (u ⊳ v ⊳ us)) refl
  around_nothing (CallEval x) ss cs us d = called_nothing (X.expression callee (node (Read x) (behind ss) ε)) ss us (node (CallEval x) ss us) refl
  around_nothing (TypeOfName x) ss cs us d = type_nothing (X.expression operand (node (Read x) (behind ss) ε)) ss (node (TypeOfName x) ss us) refl
  around_nothing (Shorthand x) ss cs us d = property_nothing (X.property x) x ss (node (Shorthand x) ss us) refl
  around_nothing (Unary Minus) ss cs us d = refl
  around_nothing (Unary Plus) ss cs us d = refl
  around_nothing (Unary Bang) ss cs us d = refl
  around_nothing (Unary Tilde) ss cs us d = refl
  around_nothing (Unary Void) ss cs us d = refl
  around_nothing (Unary TypeOf) ss ε us d = refl
  around_nothing (Unary TypeOf) ss (t ⊳ ε) us d = type_nothing (X.expression operand t) ss (node (Unary TypeOf) ss us) refl
  around_nothing (Unary TypeOf) ss (t ⊳ u ⊳ cs) us d = refl
  around_nothing (Unary Delete) ss cs us d = refl
  around_nothing (Import src) ss cs us d = absurd (false≢true d)
  around_nothing l ss cs us d = d

  pub put_nothing : (p : Spot) (l : Label) (ss : List Span) (cs : Forest) → is_known has (own_found a l cs) ≡ true → declares_nothing l ≡ true → declares_nothing (label_of (put X p (node l ss cs))) ≡ true
  unfolding put
  put_nothing p (Read x) ss cs c d = or_nothing (law.reads p (Read x) ss cs refl c) _ refl
  put_nothing p (Dot m) ss cs c d = or_nothing (law.reads p (Dot m) ss cs refl c) _ refl
  put_nothing p Index ss cs c d = or_nothing (law.reads p Index ss cs refl c) _ refl
  put_nothing p (TypeOfName x) ss cs c d = type_or_nothing (law.types p x ss cs) _ (around_nothing (TypeOfName x) ss cs _ refl)
  put_nothing p l ss cs c d = ap (λ t. declares_nothing (label_of t)) (no_put p l ss cs ε refl (around X l ss cs (put_all X (first_spot l) cs))) ∙ around_nothing l ss cs (put_all X (first_spot l) cs) d

  -- a node that is not put, as it stays
  stays_with : (p : Spot) (l : Label) (ss : List Span) (cs us : Forest) → may_go l ≡ false → {t : Tree} → Q t (around X l ss cs us) → Q t (or_parts (X.expression p (node l ss cs)) (around X l ss cs us))
  stays_with p l ss cs us m {t} r = subst (Q t) (sym (no_put p l ss cs ε m (around X l ss cs us))) r

  -- `typeof` of a name
  put_type_of : (p : Spot) (x : Name) (ss : List Span) (cs us : Forest) → is_known has (own_found a (Read x) ε) ≡ true → (s : Stand) (t : Option Text) (o : Option Tree) → for_read a os (node (Read x) os ε) ≡ s → for_type a os x ≡ t → TypePut a mark s t o
      → (s ≡ as_written → (b : Bool) → Qs b (all_owned os cs) us) → Q (owned os (node (TypeOfName x) ss cs)) (or_parts o (around X (TypeOfName x) ss cs us))
  put_type_of p x ss cs us c s None None q y no_text f = put_type x ss cs s (X.expression operand (node (Read x) (behind ss) ε)) (law.operands (node (Read x) (behind ss) ε)) q (subst (λ s. PutFor a mark os s (X.expression operand (node (Read x) (behind ss) ε))) q (law.reads operand (Read x) (behind ss) ε refl c)) (node (TypeOfName x) ss us)
      (λ w. with_children (TypeOfName x) ss cs us (type_unfolds x ss cs (q ∙ w) y) tt tt (f w))
  put_type_of p x ss cs us c s t None q y (no_need g) f = put_type x ss cs s (X.expression operand (node (Read x) (behind ss) ε)) (law.operands (node (Read x) (behind ss) ε)) q (subst (λ s. PutFor a mark os s (X.expression operand (node (Read x) (behind ss) ε))) q (law.reads operand (Read x) (behind ss) ε refl c)) (node (TypeOfName x) ss us)
      (λ w. none_given (subst IsGiven w g))
    where
      none_given : IsGiven as_written → Q (owned os (node (TypeOfName x) ss cs)) (node (TypeOfName x) ss us)
      none_given i = elim i [ ]
  put_type_of p x ss cs us c as_written None (Some z) q y x7 f = elim x7 [ ]
  put_type_of p x ss cs us c in_itself t (Some z) q y x7 f = elim x7 [ ]
  put_type_of p x ss cs us c (stands _ _) t (Some z) q y x10 f = elim x10 [ ]
  put_type_of p x ss cs us c as_written (Some t) (Some z) q y (text_put {rs = rs}) f = stands_for a mark h (owned os (node (TypeOfName x) ss cs)) (owned os (node (StrLit t) ss ε)) (node (StrLit t) rs ε) refl refl (λ n call. text_does n call x ss cs t q y)
      (only_kept (kept_by (StrLit t) os rs ε ε (free_unfolds a mark k os e (StrLit t) ss ε refl) tt tt nil nil))

  -- exports of a declaration other than one of variables

  may_other : (l : Label) → declares_nothing l ≡ false → may_go l ≡ false
  may_other (Read x) d = absurd (true≢false d)
  may_other (Dot m) d = absurd (true≢false d)
  may_other Index d = absurd (true≢false d)
  may_other (TypeOfName x) d = absurd (true≢false d)
  may_other l d = refl

  other_exports : (l : Label) (ss : List Span) (cs ds us ts : Forest) → declares_nothing l ≡ false → is_var_declaration l ≡ false → declared_exports l cs ≡ item_exports ExportDecl (around X l ss ds us ⊳ ts)
  other_exports (CallDot m) ss cs ds us ts d v = absurd (true≢false d)
  other_exports CallIndex ss cs ds us ts d v = absurd (true≢false d)
  other_exports (CallEval x) ss cs ds us ts d v = absurd (true≢false d)
  other_exports (TypeOfName x) ss cs ds us ts d v = absurd (true≢false d)
  other_exports (Shorthand x) ss cs ds us ts d v = absurd (true≢false d)
  other_exports (Unary op) ss cs ds us ts d v = absurd (true≢false d)
  other_exports (VarDecl j) ss cs ds us ts d v = absurd (true≢false v)
  other_exports ExportNamed ss cs ds us ts d v = refl
  other_exports l ss cs ds us ts d v = refl

  one_export : (l : Label) (ss : List Span) (ds ts : Forest) → is_known has (own_found a l ds) ≡ true → is_var_declaration l ≡ false → item_exports ExportDecl (owned os (node l ss ds) ⊳ ε) ≡ item_exports ExportDecl (put X here (node l ss ds) ⊳ ts)
  unfolding put
  one_export l ss ds ts c v = by_kind (declares_nothing l) refl
    where
      by_kind : (b : Bool) → declares_nothing l ≡ b → item_exports ExportDecl (owned os (node l ss ds) ⊳ ε) ≡ item_exports ExportDecl (put X here (node l ss ds) ⊳ ts)
      by_kind true d = nothing_exports (node l os (all_owned os ds)) ε d ∙ sym (nothing_exports (put X here (node l ss ds)) ts (put_nothing here l ss ds c d))
      by_kind false d = other_exports l ss (all_owned os ds) ds (put_all X (first_spot l) ds) ts d v ∙ sym (ap (λ t. item_exports ExportDecl (t ⊳ ts)) (no_put here l ss ds ε (may_other l d) (around X l ss ds (put_all X (first_spot l) ds))))

  deleted : (ss : List Span) (cs : Forest) → Q (owned os (node (Unary Delete) ss cs)) (node (Unary Delete) ss cs)
  unfolding act act_given
  deleted ss cs = leaving a mark h (owned os (node (Unary Delete) ss cs)) (node (Unary Delete) ss cs) refl refl (λ n call. does_acts a mark n call k os e (Unary Delete) ss cs)

  imports : (src : Text) (ss : List Span) (cs : Forest) → Q (owned os (node (Import src) ss cs)) (node (Import src) ss cs)
  imports src ss cs = only_kept (kept_import src (free_unfolds a mark k os e (Import src) ss cs refl) (specifiers_stay os cs))

  -- what takes a place is all that is there
  put_some : (p : Spot) (t v : Tree) → X.expression p t ≡ Some v → put X p t ≡ v
  unfolding put
  put_some p (node l ss cs) v e = ap (λ o. or_parts o (around X l ss cs (put_all X (first_spot l) cs))) e

  -- `typeof` of an operand for which something stands
  typed_last : (ss : List Span) (t : Tree) (o : Option Tree) → X.expression operand t ≡ o → {w : Tree} → Q w (node (Unary TypeOf) ss (put X operand t ⊳ ε)) → Q w (of_type o ss (node (Unary TypeOf) ss (put X operand t ⊳ ε)))
  typed_last ss t None e r = r
  typed_last ss t (Some v) e {w} r =
      last (subst (λ u. Q w (node (Unary TypeOf) ss (u ⊳ ε))) (put_some operand t v e) r)
      (typed_exact mark ss ss v (law.operands t v e)) (fits_nothing (node (Unary TypeOf) ss (v ⊳ ε)) (walk.of_type ss v) refl (typed_nothing ss v))

  -- what is covered below a node
  below : (l : Label) (cs : Forest) → own_found a l cs ≡ nothing → covers has (met_open l (own_found a l cs) (met_each a cs)) ≡ true → covers has (joined (met_each a cs)) ≡ true
  below l cs q c = sym (ap (λ f. covers has (met_open l f (met_each a cs))) q) ∙ c

  none_at : (l : Label) (cs : Forest) → for_read a os (node l os (all_owned os cs)) ≡ as_written → a.found (node l [] cs) ≡ nothing
  none_at l cs w = nothing_found a sp os np l cs w

  mutual
    unfolding put put_all

    -- what is put in the places of a tree does what the tree does in the world with answers
    pub put_rewrites : (p : Spot) (t : Tree) → covers has (met a t) ≡ true → Q (owned os t) (put X p t)
    put_rewrites p (node (Read x) ss cs) c = put_read a mark h k os e (Read x) refl ss cs refl (law.reads p (Read x) ss cs refl (known_open has (Read x) (own_found a (Read x) cs) (met_each a cs) c)) (node (Read x) ss (put_all X here cs)) (λ w u. with_children (Read x) ss cs (put_all X here cs) u tt tt (all_put here cs (below (Read x) cs (none_at (Read x) cs w) c)))
    put_rewrites p (node (Dot m) ss cs) c = put_read a mark h k os e (Dot m) refl ss cs refl (law.reads p (Dot m) ss cs refl (known_open has (Dot m) (own_found a (Dot m) cs) (met_each a cs) c)) (node (Dot m) ss (put_all X here cs)) (λ w u. with_children (Dot m) ss cs (put_all X here cs) u tt tt (all_put here cs (below (Dot m) cs (none_at (Dot m) cs w) c)))
    put_rewrites p (node Index ss cs) c = put_read a mark h k os e Index refl ss cs refl (law.reads p Index ss cs refl (known_open has Index (own_found a Index cs) (met_each a cs) c)) (node Index ss (put_all X here cs)) (λ w u. with_children Index ss cs (put_all X here cs) u tt tt (all_put here cs (below Index cs (none_at Index cs w) c)))
    put_rewrites p (node (CallDot m) ss ε) c = stays_with p (CallDot m) ss ε ε refl (with_children (CallDot m) ss ε ε (dot_alone m ss) tt tt (λ b. nil))
    put_rewrites p (node (CallDot m) ss (o ⊳ cs)) c = stays_with p (CallDot m) ss (o ⊳ cs) (put X here o ⊳ put_all X here cs) refl
        (put_call (owned os (node (CallDot m) ss (o ⊳ cs))) refl (Dot m) refl ss (o ⊳ ε) cs (put_all X here cs) (for_read a os (node (Dot m) os (all_owned os (o ⊳ ε)))) (X.expression callee (node (Dot m) (behind ss) (o ⊳ ε))) refl (law.reads callee (Dot m) (behind ss) (o ⊳ ε) refl (known_open has (CallDot m) (own_found a (CallDot m) (o ⊳ cs)) (met a o ∷ met_each a cs) c))
        (λ g n call. dot_does a mark h k os e n call m ss o cs refl g) (all_put here cs (dot_behind has m (own_found a (CallDot m) (o ⊳ cs)) (met a o) (met_each a cs) c)) (node (CallDot m) ss (put X here o ⊳ put_all X here cs))
        (λ w. with_children (CallDot m) ss (o ⊳ cs) (put X here o ⊳ put_all X here cs) (dot_unfolds m ss o cs w) tt tt (λ b. cons (put_rewrites here o (covers_both has (met a o) (joined (met_each a cs)) (below (CallDot m) (o ⊳ cs) (none_at (Dot m) (o ⊳ ε) w) c)).0) (all_put here cs (covers_both has (met a o) (joined (met_each a cs)) (below (CallDot m) (o ⊳ cs) (none_at (Dot m) (o ⊳ ε) w) c)).1 b))))
    put_rewrites p (node CallIndex ss ε) c = stays_with p CallIndex ss ε ε refl (with_children CallIndex ss ε ε (index_alone ss) tt tt (λ b. nil))
    put_rewrites p (node CallIndex ss (o ⊳ ε)) c = stays_with p CallIndex ss (o ⊳ ε) (put X here o ⊳ ε) refl (with_children CallIndex ss (o ⊳ ε) (put X here o ⊳ ε) (index_one ss o) tt tt (λ b. cons (put_rewrites here o (covers_both has (met a o) [] c).0) nil))
    put_rewrites p (node CallIndex ss (o ⊳ j ⊳ cs)) c = stays_with p CallIndex ss (o ⊳ j ⊳ cs) (put X here o ⊳ put X here j ⊳ put_all X here cs) refl
        (put_call (owned os (node CallIndex ss (o ⊳ j ⊳ cs))) refl Index refl ss (o ⊳ j ⊳ ε) cs (put_all X here cs) (for_read a os (node Index os (all_owned os (o ⊳ j ⊳ ε)))) (X.expression callee (node Index (behind ss) (o ⊳ j ⊳ ε))) refl (law.reads callee Index (behind ss) (o ⊳ j ⊳ ε) refl (known_open has CallIndex (own_found a CallIndex (o ⊳ j ⊳ cs)) (met a o ∷ met a j ∷ met_each a cs) c))
        (λ g n call. index_does a mark h k os e n call ss o j cs refl g) (all_put here cs (index_behind has (own_found a CallIndex (o ⊳ j ⊳ cs)) (met a o) (met a j) (met_each a cs) c)) (node CallIndex ss (put X here o ⊳ put X here j ⊳ put_all X here cs))
        (λ w.
        let d = covers_both has (met a o) (met a j ++ joined (met_each a cs)) (below CallIndex (o ⊳ j ⊳ cs) (none_at Index (o ⊳ j ⊳ ε) w) c) in
        let f = covers_both has (met a j) (joined (met_each a cs)) d.1 in
        with_children CallIndex ss (o ⊳ j ⊳ cs) (put X here o ⊳ put X here j ⊳ put_all X here cs) (index_unfolds ss o j cs w) tt tt (λ b. cons (put_rewrites here o d.0) (cons (put_rewrites here j f.0) (all_put here cs f.1 b)))))
    put_rewrites p (node (CallEval x) ss cs) c = stays_with p (CallEval x) ss cs (put_all X here cs) refl
        (put_call (owned os (node (CallEval x) ss cs)) refl (Read x) refl ss ε cs (put_all X here cs) (for_read a os (node (Read x) os ε)) (X.expression callee (node (Read x) (behind ss) ε)) refl (law.reads callee (Read x) (behind ss) ε refl (known_open has (CallEval x) (own_found a (CallEval x) cs) (met_each a cs) c))
        (λ g n call. name_does a mark h k os e n call x ss cs refl g) (all_put here cs (eval_behind has x (own_found a (CallEval x) cs) (met_each a cs) c)) (node (CallEval x) ss (put_all X here cs))
        (λ w. with_children (CallEval x) ss cs (put_all X here cs) (eval_unfolds x ss cs w) tt tt (all_put here cs (eval_behind has x (own_found a (CallEval x) cs) (met_each a cs) c))))
    put_rewrites p (node (Shorthand x) ss cs) c = stays_with p (Shorthand x) ss cs (put_all X here cs) refl
        (put_property x ss cs (for_read a os (node (Read x) os ε)) (X.property x) refl (law.properties x (known_open has (Shorthand x) (own_found a (Shorthand x) cs) (met_each a cs) c)) (node (Shorthand x) ss (put_all X here cs))
        (λ w. with_children (Shorthand x) ss cs (put_all X here cs) (short_unfolds x ss cs w) tt tt (all_put here cs (below (Shorthand x) cs (none_at (Read x) ε w) c))))
    put_rewrites p (node (TypeOfName x) ss cs) c = put_type_of p x ss cs (put_all X here cs) (known_open has (TypeOfName x) (own_found a (TypeOfName x) cs) (met_each a cs) c) (for_read a os (node (Read x) os ε)) (for_type a os x) (X.expression p (node (TypeOfName x) ss cs)) refl refl (law.types p x ss cs)
        (λ w. all_put here cs (below (TypeOfName x) cs (none_at (Read x) ε w) c))
    put_rewrites p (node (Unary Minus) ss cs) c = stays_with p (Unary Minus) ss cs (put_all X here cs) refl (with_children (Unary Minus) ss cs (put_all X here cs) (free_unfolds a mark k os e (Unary Minus) ss cs refl) tt tt (all_put here cs c))
    put_rewrites p (node (Unary Plus) ss cs) c = stays_with p (Unary Plus) ss cs (put_all X here cs) refl (with_children (Unary Plus) ss cs (put_all X here cs) (free_unfolds a mark k os e (Unary Plus) ss cs refl) tt tt (all_put here cs c))
    put_rewrites p (node (Unary Bang) ss cs) c = stays_with p (Unary Bang) ss cs (put_all X here cs) refl (with_children (Unary Bang) ss cs (put_all X here cs) (free_unfolds a mark k os e (Unary Bang) ss cs refl) tt tt (all_put here cs c))
    put_rewrites p (node (Unary Tilde) ss cs) c = stays_with p (Unary Tilde) ss cs (put_all X here cs) refl (with_children (Unary Tilde) ss cs (put_all X here cs) (free_unfolds a mark k os e (Unary Tilde) ss cs refl) tt tt (all_put here cs c))
    put_rewrites p (node (Unary Void) ss cs) c = stays_with p (Unary Void) ss cs (put_all X here cs) refl (with_children (Unary Void) ss cs (put_all X here cs) (free_unfolds a mark k os e (Unary Void) ss cs refl) tt tt (all_put here cs c))
    put_rewrites p (node (Unary Delete) ss cs) c = stays_with p (Unary Delete) ss cs (put_all X here cs) refl (deleted ss cs)
    put_rewrites p (node (Unary TypeOf) ss ε) c = stays_with p (Unary TypeOf) ss ε ε refl (with_children (Unary TypeOf) ss ε ε (free_unfolds a mark k os e (Unary TypeOf) ss ε refl) tt tt (all_put operand ε c))
    put_rewrites p (node (Unary TypeOf) ss (t ⊳ ε)) c = stays_with p (Unary TypeOf) ss (t ⊳ ε) (put X operand t ⊳ ε) refl (typed_last ss t (X.expression operand t) refl (with_children (Unary TypeOf) ss (t ⊳ ε) (put X operand t ⊳ ε) (free_unfolds a mark k os e (Unary TypeOf) ss (t ⊳ ε) refl) tt tt (all_put operand (t ⊳ ε) c)))
    put_rewrites p (node (Unary TypeOf) ss (t ⊳ u ⊳ cs)) c = stays_with p (Unary TypeOf) ss (t ⊳ u ⊳ cs) (put_all X operand (t ⊳ u ⊳ cs)) refl (with_children (Unary TypeOf) ss (t ⊳ u ⊳ cs) (put_all X operand (t ⊳ u ⊳ cs)) (free_unfolds a mark k os e (Unary TypeOf) ss (t ⊳ u ⊳ cs) refl) tt tt (all_put operand (t ⊳ u ⊳ cs) c))
    put_rewrites p (node (Import src) ss cs) c = stays_with p (Import src) ss cs (put_all X here cs) refl (imports src ss cs)
    put_rewrites p (node ExportDecl ss cs) c = stays_with p ExportDecl ss cs (put_all X here cs) refl (with_children ExportDecl ss cs (put_all X here cs) (free_unfolds a mark k os e ExportDecl ss cs refl) tt (export_same cs c) (all_put here cs c))
    put_rewrites p (node ExportNamed ss cs) c = stays_with p ExportNamed ss cs (put_all X here cs) refl (with_children ExportNamed ss cs (put_all X here cs) (free_unfolds a mark k os e ExportNamed ss cs refl) tt (same_specifiers a mark (all_put here cs c false)) (all_put here cs c))
    put_rewrites p (node l ss cs) c = stays_with p l ss cs (put_all X (first_spot l) cs) refl (with_children l ss cs (put_all X (first_spot l) cs) (free_unfolds a mark k os e l ss cs refl) tt tt (all_put (first_spot l) cs c))

    pub all_put : (p : Spot) (ts : Forest) → covers has (joined (met_each a ts)) ≡ true → (b : Bool) → Qs b (all_owned os ts) (put_all X p ts)
    all_put p ε c b = nil
    all_put p (t ⊳ ts) c b = cons (put_rewrites p t (covers_both has (met a t) (joined (met_each a ts)) c).0) (all_put here ts (covers_both has (met a t) (joined (met_each a ts)) c).1 b)

    export_same : (cs : Forest) → covers has (joined (met_each a cs)) ≡ true → item_exports ExportDecl (all_owned os cs) ≡ item_exports ExportDecl (put_all X here cs)
    export_same ε c = refl
    export_same (node (VarDecl j) ss ds ⊳ ts) c = ap own_texts (same_names a mark (all_put here ds (covers_both has (joined (met_each a ds)) (joined (met_each a ts)) c).0 false)) ∙ sym (ap (λ t. item_exports ExportDecl (t ⊳ put_all X here ts)) (no_put here (VarDecl j) ss ds ε refl (node (VarDecl j) ss (put_all X here ds))))
    export_same (node l ss ds ⊳ ts) c = one_export l ss ds (put_all X here ts) (known_at has a l ds (met_each a ds) (covers_both has (met_at l (own_found a l ds) (met_each a ds)) (joined (met_each a ts)) c).0) refl
