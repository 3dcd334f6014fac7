-- A tree in which what stands for its reads was put in their places does the same.
use Rattle.std.proofs.Common.{◌≡◌, ℕ, zero, suc, Bool, true, false, List, [], length, ◌∷◌, ◌++◌, Option, Some, None, refl, sym, ap, ap₂, subst, ◌∙◌}
use Rattle.std.proofs.lemmas.Bool.{false≢true}
use Rattle.swc_ast.specs.Labels.{is_member_or_name}
use Rattle.swc_ast.specs.declared.Span.{Span}
use Rattle.swc_ast.specs.declared.UnaryOp.TheVariants.{TypeOf}
use Rattle.swc_ast.specs.Tree.{Text, Name, NameKey, Label, StrLit, Read, KeyValue, Shorthand, PlainKey, ComputedKey, TypeOfName, Unary, Dot, Index, Call, CallEval, CallDot, CallIndex, Tree, node, Forest, ε, ◌⊳◌, label_of}
use Rattle.swc_ast.specs.Value.{Text as TextValue, Meaning, and_then}
use Rattle.swc_ast.specs.Scope.{declarator_name, declarator_names}
use Rattle.swc_ast.specs.Meaning.{◌>>=◌, gives, leaves, one_field, Caller, act}
use Rattle.swc_ast.specs.Call.{each_of, call_at}
use Rattle.swc_ast.specs.Run.{specifier_exports, specifier_export}
use Rattle.meaning_proofs.specs.Exact.{Exact, Trimmed, left_core}
use Rattle.meaning_proofs.specs.Roles.{Unfolds}
use Rattle.meaning_proofs.specs.Walks.{no_names}
use Rattle.meaning_proofs.specs.Rewrites.{Rewrites, All, nil, cons}
use Rattle.meaning_proofs.proofs.Declared.{view, same_label}
use Rattle.meaning_proofs.proofs.Laws.{first, last, trimmed_path}
use Rattle.meaning_proofs.proofs.Quiet.{declares_nothing, fits_nothing}
use Rattle.meaning_proofs.proofs.Walking.{names_of, specifiers_of, other_declarator, other_specifier}
use Rattle.swc_pass.specs.Given.{Owners, plain, owned, all_owned, Stand, as_written, in_itself, stands, Answers, for_read, for_type, room, taken, apart, with_part, act_given, eval_within}
use Rattle.given_rules.specs.Met.{own_found, is_known}
use Rattle.tree_put.specs.Keys.{IsKey, plain_key, text_key}
use Rattle.tree_put.specs.declared.rules.Spot.{Spot}
use Rattle.given_shield.specs.Shield.{is_bare_operand}
use Rattle.given_rules.specs.Put.{operand, Puts, or_parts}
use Rattle.given_rules.proofs.Standing.{room_falls, does, all_room, does_acts}
use Rattle.given_rules.proofs.Plain.{Leaves, plain_rewrites}

-- a label_of of whose nodes the place may be taken
abbrev pub may_go : Label → Bool
may_go (TypeOfName x) = true
may_go l = is_member_or_name l

-- something stands there
pub data IsGiven : Stand → Type 0 where
  its_own : IsGiven in_itself
  a_value : {os : Owners} {t : Tree} → IsGiven (stands os t)

label_owned : (os : Owners) (t : Tree) → label_of (owned os t) ≡ label_of t
label_owned os (node l ss cs) = refl

nothing_owned : (os : Owners) (t : Tree) → declares_nothing (label_of t) ≡ true → declares_nothing (label_of (owned os t)) ≡ true
nothing_owned os t e = ap declares_nothing (label_owned os t) ∙ e

module _ (a : Answers) (mark : ℕ) where
  abbrev pub R : Tree → Tree → Type 0
  R t u = Rewrites no_names mark (does a mark) t u

  -- what is put in the place of a read, by what stands for it in code of these owners
  pub data PutFor (os : Owners) : Stand → Option Tree → Type 0 where
    nothing_put : PutFor os as_written None
    any_put : {z : Tree} → declares_nothing (label_of z) ≡ true → PutFor os in_itself (Some z)
    value_put : {o : Span} {v w z : Tree} → declares_nothing (label_of v) ≡ true → declares_nothing (label_of w) ≡ true → declares_nothing (label_of z) ≡ true → Exact mark w z
        → ((k : ℕ) → room (all_room a mark) (o ∷ os) ≡ suc k → R (owned (o ∷ os) v) w) → PutFor os (stands (o ∷ os) v) (Some z)

  -- the same of `typeof` of a name: a text, where nothing stands for the name
  pub data TypePut : Stand → Option Text → Option Tree → Type 0 where
    no_text : {s : Stand} → TypePut s None None
    no_need : {s : Stand} {o : Option Text} → IsGiven s → TypePut s o None
    text_put : {t : Text} {rs : List Span} → TypePut as_written (Some t) (Some (node (StrLit t) rs ε))

  -- what stands for the reads of code of these owners is put there, and nothing else
  pub record Lawful (has : ℕ → Bool) (os : Owners) (X : Puts) : Type 0 where
    pub reads : (p : Spot) (l : Label) (ss : List Span) (cs : Forest) → is_member_or_name l ≡ true → is_known has (own_found a l cs) ≡ true → PutFor os (for_read a os (node l os (all_owned os cs))) (X.expression p (node l ss cs))
    pub properties : (x : Name) → is_known has (own_found a (Read x) ε) ≡ true → PutFor os (for_read a os (node (Read x) os ε)) (X.property x)
    pub types : (p : Spot) (x : Name) (ss : List Span) (cs : Forest) → TypePut (for_read a os (node (Read x) os ε)) (for_type a os x) (X.expression p (node (TypeOfName x) ss cs))
    pub others : (p : Spot) (l : Label) (ss : List Span) (cs : Forest) → may_go l ≡ false → X.expression p (node l ss cs) ≡ None
    pub operands : (t z : Tree) → X.expression operand t ≡ Some z → is_bare_operand z ≡ false

  -- exports

  pub same_names : {ts us : Forest} → All no_names mark (does a mark) false ts us → declarator_names ts ≡ declarator_names us
  same_names nil = refl
  same_names (cons {t = t} {u} {ts} {us} r rs) = names_of t ts ∙ ap₂ ◌++◌ (same_label declarator_name [] other_declarator (view r)) (same_names rs) ∙ sym (names_of u us)

  pub same_specifiers : {ts us : Forest} → All no_names mark (does a mark) false ts us → specifier_exports ts ≡ specifier_exports us
  same_specifiers nil = refl
  same_specifiers (cons {t = t} {u} {ts} {us} r rs) = specifiers_of t ts ∙ ap₂ ◌++◌ (same_label specifier_export [] other_specifier (view r)) (same_specifiers rs) ∙ sym (specifiers_of u us)

  -- what leaves the core may become anything
  module _ (h : Leaves a) where
    pub leaving : (t z : Tree) → declares_nothing (label_of t) ≡ true → declares_nothing (label_of z) ≡ true → ((n : ℕ) (call : Caller) → does a mark n call t ≡ (λ c. leaves)) → R t z
    leaving t z p q e = first (record { by = λ n d c s g. subst (λ m. Trimmed no_names (m c s) (does a mark n (call_at (does a mark n) d) (owned (plain ∷ []) z) c s)) (sym (e n (call_at (does a mark n) d))) (left_core _) })
        (fits_nothing t (owned (plain ∷ []) z) p (nothing_owned (plain ∷ []) z q)) (plain_rewrites h mark (length a.values) [] refl z)

    pub stands_for : (t u w : Tree) → declares_nothing (label_of t) ≡ true → declares_nothing (label_of u) ≡ true → ((n : ℕ) (call : Caller) → does a mark n call t ≡ does a mark n call u) → R u w → R t w
    stands_for t u w p q e r = first (record { by = λ n d c s g. trimmed_path (ap (λ m. m c s) (e n (call_at (does a mark n) d))) }) (fits_nothing t u p q) r

    module _ (k : ℕ) (os : Owners) (e : room (all_room a mark) os ≡ suc k) where
      -- what stands in code of one more owner
      value_does : (n : ℕ) (call : Caller) (o : Span) (v : Tree) → does a mark n call (owned (o ∷ os) v) ≡ eval_within a mark n call k (owned (o ∷ os) v)
      value_does n call o (node l ss cs) = ap (λ j. eval_within a mark n call j (owned (o ∷ os) (node l ss cs))) (room_falls (suc (length a.values)) k o os e)

      inner : (n : ℕ) (call : Caller) → Tree → Meaning
      inner n call = eval_within a mark n call k

      read_acts : (n : ℕ) (call : Caller) (l : Label) → is_member_or_name l ≡ true → (cs : Forest) (ms : List Meaning) → act_given a mark n call (eval_within a mark n call k) l os cs ms ≡ taken a mark n call (eval_within a mark n call k) (for_read a os (node l os cs)) (act mark n call l os cs ms)
      unfolding act_given
      read_acts n call (Read x) i cs ms = refl
      read_acts n call (Dot m) i cs ms = refl
      read_acts n call Index i cs ms = refl
      read_acts n call l i cs ms = absurd (false≢true i)

      -- what a read does, by what stands for it
      read_does : (n : ℕ) (call : Caller) (l : Label) → is_member_or_name l ≡ true → (ss : List Span) (cs : Forest) {s : Stand} → for_read a os (node l os (all_owned os cs)) ≡ s
          → does a mark n call (owned os (node l ss cs)) ≡ taken a mark n call (eval_within a mark n call k) s (act mark n call l os (all_owned os cs) (each_of (does a mark n call) (all_owned os cs)))
      read_does n call l i ss cs q = does_acts a mark n call k os e l ss cs ∙ read_acts n call l i (all_owned os cs) (each_of (does a mark n call) (all_owned os cs)) ∙ ap (λ s. taken a mark n call (eval_within a mark n call k) s (act mark n call l os (all_owned os cs) (each_of (does a mark n call) (all_owned os cs)))) q

      read_nothing : (l : Label) → is_member_or_name l ≡ true → declares_nothing l ≡ true
      read_nothing (Read x) i = refl
      read_nothing (Dot m) i = refl
      read_nothing Index i = refl
      read_nothing l i = absurd (false≢true i)

      -- a read for which something stands
      pub given_read : (l : Label) → is_member_or_name l ≡ true → (ss : List Span) (cs : Forest) {s : Stand} {z : Tree} → for_read a os (node l os (all_owned os cs)) ≡ s → PutFor os s (Some z) → R (owned os (node l ss cs)) z
      unfolding eval_within
      given_read l i ss cs {z = z} q (any_put g) = leaving (owned os (node l ss cs)) z (read_nothing l i) g (λ n call. read_does n call l i ss cs q)
      given_read l i ss cs {z = z} q (value_put {o} {v} {w} f g m x r) = by_room k refl
        where
          by_room : (j : ℕ) → k ≡ j → R (owned os (node l ss cs)) z
          by_room zero y = leaving (owned os (node l ss cs)) z (read_nothing l i) m (λ n call. read_does n call l i ss cs q ∙ ap (λ j. eval_within a mark n call j (owned (o ∷ os) v)) y)
          by_room (suc j) y = last (stands_for (owned os (node l ss cs)) (owned (o ∷ os) v) w (read_nothing l i) (nothing_owned (o ∷ os) v f) (λ n call. read_does n call l i ss cs q ∙ sym (value_does n call o v)) (r j (room_falls (suc (length a.values)) k o os e ∙ y))) x (fits_nothing w z g m)

      -- a read for which nothing stands
      plain_read : (l : Label) → is_member_or_name l ≡ true → (ss : List Span) (cs : Forest) → for_read a os (node l os (all_owned os cs)) ≡ as_written → Unfolds mark (does a mark) (owned os (node l ss cs))
      plain_read l i ss cs q = record { by = λ n call. read_does n call l i ss cs q }

      pub put_read : (l : Label) → is_member_or_name l ≡ true → (ss : List Span) (cs : Forest) {s : Stand} {o : Option Tree} → for_read a os (node l os (all_owned os cs)) ≡ s → PutFor os s o → (u : Tree) → (s ≡ as_written → Unfolds mark (does a mark) (owned os (node l ss cs)) → R (owned os (node l ss cs)) u) → R (owned os (node l ss cs)) (or_parts o u)
      put_read l i ss cs q nothing_put u f = f refl (plain_read l i ss cs q)
      put_read l i ss cs q (any_put g) u f = given_read l i ss cs q (any_put g)
      put_read l i ss cs q (value_put f' g m x r) u f = given_read l i ss cs q (value_put f' g m x r)

      -- a part of a label_of for which something stands

      pub given_of : {s : Stand} {z : Tree} → PutFor os s (Some z) → IsGiven s
      given_of (any_put g) = its_own
      given_of (value_put f g m x r) = a_value

      with_given : (n : ℕ) (call : Caller) (l : Label) (ms : List Meaning) (w : Meaning) {s : Stand} → IsGiven s → with_part a mark n call (eval_within a mark n call k) s os l ms w ≡ apart a mark n call (eval_within a mark n call k) l ms (taken a mark n call (eval_within a mark n call k) s w)
      with_given n call l ms w its_own = refl
      with_given n call l ms w a_value = refl

      taken_any : (n : ℕ) (call : Caller) (v w : Meaning) {s : Stand} → IsGiven s → taken a mark n call (eval_within a mark n call k) s v ≡ taken a mark n call (eval_within a mark n call k) s w
      taken_any n call v w its_own = refl
      taken_any n call v w a_value = refl

      call_same : (n : ℕ) (call : Caller) (cs : Forest) (ms : List Meaning) → act mark n call Call [] ε ms ≡ act_given a mark n call (eval_within a mark n call k) Call os cs ms
      unfolding act act_given
      call_same n call cs ms = refl

      type_same : (n : ℕ) (call : Caller) (cs : Forest) (ms : List Meaning) → act mark n call (Unary TypeOf) [] ε ms ≡ act_given a mark n call (eval_within a mark n call k) (Unary TypeOf) os cs ms
      unfolding act act_given
      type_same n call cs ms = refl

      -- a call of a part is a call of what stands for it
      call_does : (n : ℕ) (call : Caller) (lp : Label) → is_member_or_name lp ≡ true → (ss : List Span) (ps ts : Forest) {s : Stand} → for_read a os (node lp os (all_owned os ps)) ≡ s → IsGiven s → (w : Meaning)
          → act mark n call Call [] ε (taken a mark n call (eval_within a mark n call k) s w ∷ each_of (does a mark n call) (all_owned os ts)) ≡ does a mark n call (owned os (node Call ss (node lp ss ps ⊳ ts)))
      call_does n call lp i ss ps ts {s} q g w =
          ap (λ m. act mark n call Call [] ε (m ∷ each_of (does a mark n call) (all_owned os ts))) (taken_any n call w _ g ∙ sym (read_does n call lp i ss ps q))
          ∙ call_same n call (all_owned os (node lp ss ps ⊳ ts)) (each_of (does a mark n call) (all_owned os (node lp ss ps ⊳ ts)))
          ∙ sym (does_acts a mark n call k os e Call ss (node lp ss ps ⊳ ts))

      pub dot_does : (n : ℕ) (call : Caller) (m : Text) (ss : List Span) (o : Tree) (ts : Forest) {s : Stand} → for_read a os (node (Dot m) os (all_owned os (o ⊳ ε))) ≡ s → IsGiven s
          → does a mark n call (owned os (node (CallDot m) ss (o ⊳ ts))) ≡ does a mark n call (owned os (node Call ss (node (Dot m) ss (o ⊳ ε) ⊳ ts)))
      unfolding act_given
      dot_does n call m ss o ts {s} q g =
          does_acts a mark n call k os e (CallDot m) ss (o ⊳ ts)
          ∙ ap (λ s. with_part a mark n call (eval_within a mark n call k) s os (CallDot m) (each_of (does a mark n call) (all_owned os (o ⊳ ts))) (act mark n call (CallDot m) os (all_owned os (o ⊳ ts)) (each_of (does a mark n call) (all_owned os (o ⊳ ts))))) q
          ∙ with_given n call (CallDot m) (each_of (does a mark n call) (all_owned os (o ⊳ ts))) (act mark n call (CallDot m) os (all_owned os (o ⊳ ts)) (each_of (does a mark n call) (all_owned os (o ⊳ ts)))) g
          ∙ call_does n call (Dot m) refl ss (o ⊳ ε) ts q g _

      pub index_does : (n : ℕ) (call : Caller) (ss : List Span) (o j : Tree) (ts : Forest) {s : Stand} → for_read a os (node Index os (all_owned os (o ⊳ j ⊳ ε))) ≡ s → IsGiven s
          → does a mark n call (owned os (node CallIndex ss (o ⊳ j ⊳ ts))) ≡ does a mark n call (owned os (node Call ss (node Index ss (o ⊳ j ⊳ ε) ⊳ ts)))
      unfolding act_given
      index_does n call ss o j ts {s} q g =
          does_acts a mark n call k os e CallIndex ss (o ⊳ j ⊳ ts)
          ∙ ap (λ s. with_part a mark n call (eval_within a mark n call k) s os CallIndex (each_of (does a mark n call) (all_owned os (o ⊳ j ⊳ ts))) (act mark n call CallIndex os (all_owned os (o ⊳ j ⊳ ts)) (each_of (does a mark n call) (all_owned os (o ⊳ j ⊳ ts))))) q
          ∙ with_given n call CallIndex (each_of (does a mark n call) (all_owned os (o ⊳ j ⊳ ts))) (act mark n call CallIndex os (all_owned os (o ⊳ j ⊳ ts)) (each_of (does a mark n call) (all_owned os (o ⊳ j ⊳ ts)))) g
          ∙ call_does n call Index refl ss (o ⊳ j ⊳ ε) ts q g _

      pub name_does : (n : ℕ) (call : Caller) (x : Name) (ss : List Span) (ts : Forest) {s : Stand} → for_read a os (node (Read x) os ε) ≡ s → IsGiven s
          → does a mark n call (owned os (node (CallEval x) ss ts)) ≡ does a mark n call (owned os (node Call ss (node (Read x) ss ε ⊳ ts)))
      unfolding act_given
      name_does n call x ss ts {s} q g =
          does_acts a mark n call k os e (CallEval x) ss ts
          ∙ ap (λ s. with_part a mark n call (eval_within a mark n call k) s os (CallEval x) (each_of (does a mark n call) (all_owned os ts)) (act mark n call (CallEval x) os (all_owned os ts) (each_of (does a mark n call) (all_owned os ts)))) q
          ∙ with_given n call (CallEval x) (each_of (does a mark n call) (all_owned os ts)) (act mark n call (CallEval x) os (all_owned os ts) (each_of (does a mark n call) (all_owned os ts))) g
          ∙ call_does n call (Read x) refl ss ε ts q g _

      -- a property that was only a name has the value that stands for it
      key_does : (n : ℕ) (call : Caller) {t : Text} {c : Tree} → IsKey t c → does a mark n call (owned os c) ≡ (λ _. gives (TextValue t))
      unfolding act act_given
      key_does n call {t} (plain_key {ss}) = does_acts a mark n call k os e (PlainKey (NameKey t)) ss ε
      key_does n call {t} (text_key {ss} {rs}) = does_acts a mark n call k os e ComputedKey ss (node (StrLit t) rs ε ⊳ ε) ∙ does_acts a mark n call k os e (StrLit t) rs ε

      property_acts : (n : ℕ) (call : Caller) (x : Name) (m : Meaning) (cs : Forest) → (λ c. m c >>= λ w. one_field x.text w) ≡ act_given a mark n call (eval_within a mark n call k) KeyValue os cs ((λ _. gives (TextValue x.text)) ∷ m ∷ [])
      unfolding act act_given and_then
      property_acts n call x m cs = refl

      pub property_does : (n : ℕ) (call : Caller) (x : Name) {c : Tree} (ss : List Span) (cs : Forest) {s : Stand} → IsKey x.text c → for_read a os (node (Read x) os ε) ≡ s → IsGiven s
          → does a mark n call (owned os (node (Shorthand x) ss cs)) ≡ does a mark n call (owned os (node KeyValue [] (c ⊳ node (Read x) ss ε ⊳ ε)))
      unfolding act_given
      property_does n call x {c} ss cs {s} j q g =
          does_acts a mark n call k os e (Shorthand x) ss cs
          ∙ ap (λ s. with_part a mark n call (eval_within a mark n call k) s os (Shorthand x) (each_of (does a mark n call) (all_owned os cs)) (act mark n call (Shorthand x) os (all_owned os cs) (each_of (does a mark n call) (all_owned os cs)))) q
          ∙ with_given n call (Shorthand x) (each_of (does a mark n call) (all_owned os cs)) (act mark n call (Shorthand x) os (all_owned os cs) (each_of (does a mark n call) (all_owned os cs))) g
          ∙ ap (λ m. λ c. m c >>= λ w. one_field x.text w) (taken_any n call _ _ g ∙ sym (read_does n call (Read x) refl ss ε q))
          ∙ property_acts n call x (does a mark n call (owned os (node (Read x) ss ε))) (all_owned os (c ⊳ node (Read x) ss ε ⊳ ε))
          ∙ ap (λ m. act_given a mark n call (eval_within a mark n call k) KeyValue os (all_owned os (c ⊳ node (Read x) ss ε ⊳ ε)) (m ∷ does a mark n call (owned os (node (Read x) ss ε)) ∷ [])) (sym (key_does n call j))
          ∙ sym (does_acts a mark n call k os e KeyValue [] (c ⊳ node (Read x) ss ε ⊳ ε))

      -- `typeof` of a name is `typeof` of what stands for it
      pub type_does : (n : ℕ) (call : Caller) (x : Name) (ss : List Span) (cs : Forest) {s : Stand} → for_read a os (node (Read x) os ε) ≡ s → IsGiven s
          → does a mark n call (owned os (node (TypeOfName x) ss cs)) ≡ does a mark n call (owned os (node (Unary TypeOf) ss (node (Read x) ss ε ⊳ ε)))
      unfolding act_given
      type_does n call x ss cs {s} q g =
          does_acts a mark n call k os e (TypeOfName x) ss cs
          ∙ ap (λ s. with_part a mark n call (eval_within a mark n call k) s os (TypeOfName x) (each_of (does a mark n call) (all_owned os cs)) (act mark n call (TypeOfName x) os (all_owned os cs) (each_of (does a mark n call) (all_owned os cs)))) q
          ∙ with_given n call (TypeOfName x) (each_of (does a mark n call) (all_owned os cs)) (act mark n call (TypeOfName x) os (all_owned os cs) (each_of (does a mark n call) (all_owned os cs))) g
          ∙ ap (λ m. act mark n call (Unary TypeOf) [] ε (m ∷ [])) (taken_any n call _ _ g ∙ sym (read_does n call (Read x) refl ss ε q))
          ∙ type_same n call (all_owned os (node (Read x) ss ε ⊳ ε)) (does a mark n call (owned os (node (Read x) ss ε)) ∷ [])
          ∙ sym (does_acts a mark n call k os e (Unary TypeOf) ss (node (Read x) ss ε ⊳ ε))
