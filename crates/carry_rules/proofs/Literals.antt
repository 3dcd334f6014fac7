-- Where literals are carried, no read of a name that is declared with one stands later than its declaration.
use Rattle.std.proofs.Common.{◌≡◌, ℕ, ◌≤◌, Bool, true, false, not, ◌&&◌, ◌||◌, List, Option, Some, None, refl, sym, ap, ap₂, subst, ◌∙◌, arith, ◌⊎◌, inl, inr, if◌then◌else◌}
use Rattle.std.proofs.lemmas.Bool.{or_from, and_parts, or_cases, false≢true, true≢false, not-true}
use Rattle.swc_ast.specs.declared.Span.{Span}
use Rattle.swc_ast.specs.declared.VarDeclKind.TheVariants.{Var, Let, Const}
use Rattle.swc_ast.specs.Tree.{Name, same_name, Label, NumLit, StrLit, BoolLit, NullLit, Read, Shorthand, TypeOfName, Declarator, Module, ExportNamed, ExportSpecifier, Text, Tree, node, Forest, ε, ◌⊳◌}
use Rattle.swc_ast.specs.Value.{Value, Null, Truth, Num, Text as TextValue}
use Rattle.swc_ast.specs.Run.{export_text}
use Rattle.static_proofs.proofs.Names.{same_name_path, same_name_swap}
use Rattle.link_proofs.specs.Links.{Put, nothing, a_name, a_value, reads, Proper}
use Rattle.carry_rules.specs.Carry.{Pass, constants, inlines, Facts, declares_lexical, one, how_many, how_many_in, Carried, carried, put_unless, or_put, read_put, is_exempt, with_put, first_put, may_carry, entry, enter, leave, behind, after, after_all, value_tree, put_tree, rebuilt, written, written_all, exported_put, exported_name, respecified, reexported}
use Rattle.carry_rules.specs.Late.{reads_name, reads_in, reads_in_all, declares_in, declares_in_all, is_late, is_late_all, is_carried, declares_literal}
use Rattle.tree_put.specs.Keys.{IsKey, plain_key, text_key}
use Rattle.tree_put.proofs.Keys.{key_is}
use Rattle.carry_rules.proofs.Sound.{Last, link_of, known_of, links, Sure, Enters, Carries, agrees, agrees_all}
use Rattle.carry_rules.proofs.Standing.{quiet_after, right_after, right_all_after, laid_after, laid_entered}
use Rattle.carry_rules.proofs.Placing.{Fits, Valued, Laid, carried_fits}
use Rattle.carry_rules.proofs.Settling.{one_of}
use Rattle.carry_rules.proofs.Agreeing.{lexical_at}
use Rattle.carry_rules.proofs.Puts.{ReadView, is_read, is_type, is_shorthand, is_import, is_other, read_view}

-- a literal that is carried gives a value
record Gives (q : Put) : Type 0 where
  pub value : Value
  pub is : q ≡ a_value value

first_literal : (p : Pass) (r : Carried) (ss rs : List Span) (m : Label) → is_carried p m ≡ true → Gives (first_put p r ss (node m rs ε ⊳ ε))
first_literal constants r ss rs (NumLit z) e = record { value = Num z; is = refl }
first_literal constants r ss rs (BoolLit b) e = record { value = Truth b; is = refl }
first_literal constants r ss rs NullLit e = record { value = Null; is = refl }
first_literal constants r ss rs l e = absurd (false≢true e)
first_literal inlines r ss rs (NumLit z) e = record { value = Num z; is = refl }
first_literal inlines r ss rs (BoolLit b) e = record { value = Truth b; is = refl }
first_literal inlines r ss rs NullLit e = record { value = Null; is = refl }
first_literal inlines r ss rs (StrLit t) e = record { value = TextValue t; is = refl }
first_literal inlines r ss rs l e = absurd (false≢true e)

declared_literal : (p : Pass) (x : Name) (l : Label) (r : Carried) (ss : List Span) (cs : Forest) → declares_literal p x l cs ≡ true → Gives (first_put p r ss cs)
declared_literal p x l r ss ε e = absurd (false≢true e)
declared_literal p x l r ss (node m rs ε ⊳ ε) e = first_literal p r ss rs m (and_parts (declares_lexical x l) (is_carried p m) e).1
declared_literal p x l r ss (node m rs (t ⊳ ts) ⊳ us) e = absurd (false≢true e)
declared_literal p x l r ss (node m rs ε ⊳ t ⊳ ts) e = absurd (false≢true e)

-- such declarators are declarators
literal_lexical : (p : Pass) (x : Name) (l : Label) (cs : Forest) → one (declares_literal p x l cs) ≤ one (declares_lexical x l)
literal_lexical p x l ε = omega arith
literal_lexical p x l (node m rs ε ⊳ ε) = by (declares_lexical x l) (is_carried p m)
  where
    by : (a b : Bool) → one (a && b) ≤ one a
    by true true = omega arith
    by true false = omega arith
    by false b = omega arith
literal_lexical p x l (node m rs (t ⊳ ts) ⊳ us) = omega arith
literal_lexical p x l (node m rs ε ⊳ t ⊳ ts) = omega arith

mutual
  pub fewer_literals : (p : Pass) (x : Name) (t : Tree) → how_many (declares_literal p x) t ≤ how_many (lexical_at x) t
  fewer_literals p x (node l ss cs) = omega (arith, literal_lexical p x l cs, all_fewer p x cs)

  all_fewer : (p : Pass) (x : Name) (ts : Forest) → how_many_in (declares_literal p x) ts ≤ how_many_in (lexical_at x) ts
  all_fewer p x ε = omega arith
  all_fewer p x (t ⊳ ts) = omega (arith, fewer_literals p x t, all_fewer p x ts)

one_true : (b : Bool) → 1 ≤ one b → b ≡ true
one_true true e = refl
one_true false e = absurd (omega (arith, e))

value_no_reads : (p : Pass) (x : Name) (v : Value) (ss : List Span) → reads_in p x (value_tree v ss) ≡ false
value_no_reads p x (Num z) ss = refl
value_no_reads p x (TextValue t) ss = refl
value_no_reads p x (Truth b) ss = refl
value_no_reads p x Null ss = refl
value_no_reads p x v ss = refl

-- what is put for a name declares none
value_bare : (p : Pass) (x : Name) (v : Value) (ss : List Span) → declares_in p x (value_tree v ss) ≡ false
value_bare p x (Num z) ss = refl
value_bare p x (TextValue t) ss = refl
value_bare p x (Truth b) ss = refl
value_bare p x Null ss = refl
value_bare p x v ss = refl

value_early : (p : Pass) (x : Name) (v : Value) (ss : List Span) → is_late p x (value_tree v ss) ≡ false
value_early p x (Num z) ss = refl
value_early p x (TextValue t) ss = refl
value_early p x (Truth b) ss = refl
value_early p x Null ss = refl
value_early p x v ss = refl

-- the key of a property that was only a name neither declares a name nor reads one
key_declares : (p : Pass) (x : Name) {k : Text} {t : Tree} → IsKey k t → (ts : Forest) → declares_in_all p x (t ⊳ ts) ≡ declares_in_all p x ts
key_declares p x plain_key ts = refl
key_declares p x text_key ts = refl

key_early : (p : Pass) (x : Name) {k : Text} {t : Tree} → IsKey k t → (ts : Forest) → is_late_all p x (t ⊳ ts) ≡ is_late_all p x ts
key_early p x plain_key ts = refl
key_early p x text_key ts = refl

key_reads : (p : Pass) (x : Name) {k : Text} {t : Tree} → IsKey k t → (ts : Forest) → reads_in_all p x (t ⊳ ts) ≡ reads_in_all p x ts
key_reads constants x plain_key ts = refl
key_reads inlines x plain_key ts = refl
key_reads constants x text_key ts = refl
key_reads inlines x text_key ts = refl

alone : (a b : Bool) → a ≡ false → (a || ((b && false) || false)) ≡ false
alone false true e = refl
alone false false e = refl
alone true b e = absurd (true≢false e)

-- what a node becomes declares no more, and reads no later
rebuilt_declares : (p : Pass) (x : Name) (q : Put) (l : Label) (ss : List Span) (cs : Forest) → declares_in p x (rebuilt q l ss cs) ≡ true → declares_in p x (node l ss cs) ≡ true
rebuilt_declares p x nothing l ss cs e = e
rebuilt_declares p x (a_name z) (Read y) ss cs e = absurd (false≢true e)
rebuilt_declares p x (a_name z) (TypeOfName y) ss cs e = absurd (false≢true e)
rebuilt_declares p x (a_name z) (Shorthand y) ss cs e = absurd (false≢true (sym (key_declares p x (key_is y.text ss) (node (Read z) ss ε ⊳ ε)) ∙ e))
rebuilt_declares p x (a_name z) l ss cs e = e
rebuilt_declares p x (a_value v) (Read y) ss cs e = absurd (false≢true (sym (value_bare p x v ss) ∙ e))
rebuilt_declares p x (a_value v) (TypeOfName y) ss cs e = absurd (false≢true (sym (or_from (declares_in p x (value_tree v ss)) false (value_bare p x v ss) refl) ∙ e))
rebuilt_declares p x (a_value v) (Shorthand y) ss cs e = absurd (false≢true (sym (key_declares p x (key_is y.text ss) (value_tree v ss ⊳ ε) ∙ or_from (declares_in p x (value_tree v ss)) false (value_bare p x v ss) refl) ∙ e))
rebuilt_declares p x (a_value v) l ss cs e = e

rebuilt_early : (p : Pass) (x : Name) (q : Put) (l : Label) (ss : List Span) (cs : Forest) → is_late p x (node l ss cs) ≡ false → is_late p x (rebuilt q l ss cs) ≡ false
rebuilt_early p x nothing l ss cs e = e
rebuilt_early p x (a_name z) (Read y) ss cs e = refl
rebuilt_early p x (a_name z) (TypeOfName y) ss cs e = refl
rebuilt_early p x (a_name z) (Shorthand y) ss cs e = key_early p x (key_is y.text ss) (node (Read z) ss ε ⊳ ε)
rebuilt_early p x (a_name z) l ss cs e = e
rebuilt_early p x (a_value v) (Read y) ss cs e = value_early p x v ss
rebuilt_early p x (a_value v) (TypeOfName y) ss cs e = alone (is_late p x (value_tree v ss)) (declares_in p x (value_tree v ss)) (value_early p x v ss)
rebuilt_early p x (a_value v) (Shorthand y) ss cs e = key_early p x (key_is y.text ss) (value_tree v ss ⊳ ε) ∙ alone (is_late p x (value_tree v ss)) (declares_in p x (value_tree v ss)) (value_early p x v ss)
rebuilt_early p x (a_value v) l ss cs e = e

module _ (p : Pass) (F : Facts) (x : Name) where
  -- a value that is carried stays so
  behind_kept : (l : Label) (ss : List Span) (cs : Forest) (r : Carried) (w : Value) → r.values x ≡ a_value w → (behind p F l ss cs r).values x ≡ a_value w
  behind_kept (Declarator Var y) ss cs r w e = e
  behind_kept (Declarator Let y) ss cs r w e = by (same_name y x)
    where
      by : (b : Bool) → (if b then or_put (r.values x) (entry p F r y ss cs) else r.values x) ≡ a_value w
      by true = ap (λ q. or_put q (entry p F r y ss cs)) e
      by false = e
  behind_kept (Declarator Const y) ss cs r w e = by (same_name y x)
    where
      by : (b : Bool) → (if b then or_put (r.values x) (entry p F r y ss cs) else r.values x) ≡ a_value w
      by true = ap (λ q. or_put q (entry p F r y ss cs)) e
      by false = e
  behind_kept l ss cs r w e = e

  mutual
    pub kept_after : (s : Carried) (t : Tree) (w : Value) → s.values x ≡ a_value w → (after p F s t).values x ≡ a_value w
    kept_after s (node l ss cs) w e = behind_kept l ss cs (leave p F l s (after_all p F (enter p F l ss cs s) cs)) w (kept_all_after (enter p F l ss cs s) cs w e)

    kept_all_after : (s : Carried) (ts : Forest) (w : Value) → s.values x ≡ a_value w → (after_all p F s ts).values x ≡ a_value w
    kept_all_after s ε w e = e
    kept_all_after s (t ⊳ ts) w e = kept_all_after (after p F s t) ts w (kept_after s t w e)

module _ {p : Pass} {F : Facts} {E : Last} {lex : Name → Bool} (sure : Sure p F E lex) {mark : ℕ} (proper : Proper (links F E) mark) (x : Name) (carry : may_carry p F x ≡ true) where
  -- where something is put
  pub record Going (s : Carried) : Type 0 where
    pub loud : s.quiet ≡ false
    pub right : (y : Name) → Valued E s y
    pub laid : (y : Name) → Laid E s y

  going_entered : (s : Carried) (l : Label) (ss : List Span) (cs : Forest) → is_exempt p l ≡ false → Going s → Going (enter p F l ss cs s)
  going_entered s l ss cs e g = record { loud = or_from s.quiet (is_exempt p l) g.loud e; right = g.right; laid = laid_entered p F E s l ss cs g.laid }

  going_after : (s : Carried) (t : Tree) → agrees p F E s t → Going s → Going (after p F s t)
  going_after s t a g = record { loud = quiet_after p F s t ∙ g.loud; right = right_after p F E s t a g.right; laid = laid_after p F E s t a g.laid }

  -- a name with a value stands for none
  no_target : (s : Carried) (y : Name) (w : Value) → Going s → s.values x ≡ a_value w → carried s y ≡ a_name x → ⊥
  no_target s y w g e i = at (g.right x) (fits (carried_fits sure s y (g.right y) (g.laid y)))
    where
      name≢nothing : {z : Name} → a_name z ≡ nothing → ⊥
      name≢nothing e = cc

      value≢nothing : {v : Value} → a_value v ≡ nothing → ⊥
      value≢nothing e = cc

      fits : Fits E y (carried s y) → or_put (E.values y) (E.settled y) ≡ a_name x
      fits (inl f) = absurd (name≢nothing (sym i ∙ f))
      fits (inr f) = sym f ∙ i

      known : E.values x ≡ a_value w → known_of (E.values x) ≡ None → ⊥
      known f n = some≢none (sym (ap known_of f) ∙ n)
        where
          some≢none : Some w ≡ None → ⊥
          some≢none e = cc

      of : (a b : Put) → E.values y ≡ a → E.settled y ≡ b → or_put a b ≡ a_name x → known_of (E.values x) ≡ None
      of nothing b j k f = (proper.settled_ends y x (k ∙ f)).1
      of (a_name z) b j k f = proper.target_unknown y x (ap link_of (j ∙ f))
      of (a_value v) b j k f = absurd (value≢name f)
        where
          value≢name : a_value v ≡ a_name x → ⊥
          value≢name e = cc

      at : Valued E s x → or_put (E.values y) (E.settled y) ≡ a_name x → ⊥
      at (inl f) j = value≢nothing (sym e ∙ f)
      at (inr f) j = known (sym f ∙ e) (of (E.values y) (E.settled y) refl refl j)

  -- where a value is carried, its name is not read
  same_carried : (s : Carried) (w : Value) → Going s → s.values x ≡ a_value w → carried s x ≡ a_value w
  same_carried s w g e = ap₂ put_unless g.loud (ap (λ q. or_put q (s.settled x)) e)

  put_unread : (s : Carried) (y : Name) (w : Value) (ss : List Span) (q : Put) → carried s y ≡ q → (q ≡ nothing → ⊥) → Going s → s.values x ≡ a_value w → reads_in p x (put_tree y q ss) ≡ false
  put_unread s y w ss nothing i n g e = absurd (n refl)
  put_unread s y w ss (a_name z) i n g e = by (same_name x z) refl
    where
      by : (b : Bool) → same_name x z ≡ b → (b || false) ≡ false
      by false j = refl
      by true j = absurd (no_target s y w g e (i ∙ ap a_name (sym (same_name_path x z j))))
  put_unread s y w ss (a_value v) i n g e = value_no_reads p x v ss

  other_name : (s : Carried) (y : Name) (w : Value) → Going s → s.values x ≡ a_value w → carried s y ≡ nothing → same_name x y ≡ false
  other_name s y w g e i = by (same_name x y) refl
    where
      value≢nothing : a_value w ≡ nothing → ⊥
      value≢nothing e = cc

      by : (b : Bool) → same_name x y ≡ b → b ≡ false
      by false j = refl
      by true j = absurd (value≢nothing (sym (same_carried s w g e) ∙ ap (carried s) (same_name_path x y j) ∙ i))

  none_read : (l : Label) → reads l ≡ None → reads_name p x l ≡ false
  none_read l e = by p l e
    where
      some≢none : {z : Name} → Some z ≡ None → ⊥
      some≢none e = cc

      by : (c : Pass) (l : Label) → reads l ≡ None → reads_name c x l ≡ false
      by constants (Read y) e = absurd (some≢none e)
      by constants (TypeOfName y) e = absurd (some≢none e)
      by constants (Shorthand y) e = absurd (some≢none e)
      by constants l e = refl
      by inlines (Read y) e = absurd (some≢none e)
      by inlines (TypeOfName y) e = absurd (some≢none e)
      by inlines (Shorthand y) e = absurd (some≢none e)
      by inlines l e = refl

  read_gone : (s : Carried) (y : Name) (w : Value) (ss : List Span) (cs : Forest) (q : Put) → carried s y ≡ q → Going s → s.values x ≡ a_value w → reads_in_all p x cs ≡ false → reads_in p x (rebuilt q (Read y) ss cs) ≡ false
  read_gone s y w ss cs nothing i g e n = or_from (same_name x y) (reads_in_all p x cs) (other_name s y w g e i) n
  read_gone s y w ss cs (a_name z) i g e n = put_unread s y w ss (a_name z) i (λ e. cc) g e
  read_gone s y w ss cs (a_value v) i g e n = value_no_reads p x v ss

  type_gone : (s : Carried) (y : Name) (w : Value) (ss : List Span) (cs : Forest) (q : Put) → carried s y ≡ q → Going s → s.values x ≡ a_value w → reads_in_all p x cs ≡ false → reads_in p x (rebuilt q (TypeOfName y) ss cs) ≡ false
  type_gone s y w ss cs nothing i g e n = or_from (same_name x y) (reads_in_all p x cs) (other_name s y w g e i) n
  type_gone s y w ss cs (a_name z) i g e n = put_unread s y w ss (a_name z) i (λ e. cc) g e
  type_gone s y w ss cs (a_value v) i g e n = or_from (reads_in p x (value_tree v ss)) false (value_no_reads p x v ss) refl

  short_gone : (c : Pass) (s : Carried) (y : Name) (w : Value) (ss : List Span) (cs : Forest) (q : Put) → read_put c s (Shorthand y) ≡ q → ((carried s y ≡ nothing → same_name x y ≡ false)) → (carried s y ≡ q → (q ≡ nothing → ⊥) → reads_in c x (put_tree y q ss) ≡ false) → reads_in_all c x cs ≡ false → reads_in c x (rebuilt q (Shorthand y) ss cs) ≡ false
  short_gone constants s y w ss cs nothing i g e n = or_from (same_name x y) (reads_in_all constants x cs) (g i) n
  short_gone constants s y w ss cs (a_name z) i g e n = key_reads constants x (key_is y.text ss) (put_tree y (a_name z) ss ⊳ ε) ∙ or_from (reads_in constants x (put_tree y (a_name z) ss)) false (e i (λ e. cc)) refl
  short_gone constants s y w ss cs (a_value v) i g e n = key_reads constants x (key_is y.text ss) (put_tree y (a_value v) ss ⊳ ε) ∙ or_from (reads_in constants x (put_tree y (a_value v) ss)) false (e i (λ e. cc)) refl
  short_gone inlines s y w ss cs nothing i g e n = n
  short_gone inlines s y w ss cs (a_name z) i g e n = absurd (cc)
  short_gone inlines s y w ss cs (a_value v) i g e n = absurd (cc)

  node_gone : (s : Carried) (l : Label) (ss : List Span) (cs us : Forest) (w : Value) → ReadView l → Going s → s.values x ≡ a_value w → (is_exempt p l ≡ false → reads_in_all p x us ≡ false) → reads_in p x (rebuilt (read_put p s l) l ss us) ≡ false
  node_gone s _ ss cs us w (is_read y) g e n = read_gone s y w ss us (carried s y) refl g e (n refl)
  node_gone s _ ss cs us w (is_type y) g e n = type_gone s y w ss us (carried s y) refl g e (n refl)
  node_gone s _ ss cs us w (is_shorthand y) g e n = short_gone p s y w ss us (read_put p s (Shorthand y)) refl (λ i. other_name s y w g e i) (λ i m. put_unread s y w ss (read_put p s (Shorthand y)) i m g e) (n refl)
  node_gone s _ ss cs us w (is_import src) g e n = refl
  node_gone s l ss cs us w (is_other o i r m) g e n = subst (λ q. reads_in p x (rebuilt q l ss us) ≡ false) (sym (o p s)) (by (is_exempt p l) refl)
    where
      by : (b : Bool) → is_exempt p l ≡ b → (not b && (reads_name p x l || reads_in_all p x us)) ≡ false
      by true j = refl
      by false j = or_from (reads_name p x l) (reads_in_all p x us) (none_read l r) (n j)

  mutual
    gone : (s : Carried) (t : Tree) (w : Value) → agrees p F E s t → Going s → s.values x ≡ a_value w → reads_in p x (written p F s t) ≡ false
    gone s (node l ss cs) w a g e = node_gone s l ss cs (written_all p F (enter p F l ss cs s) cs) w (read_view l) g e (λ i. all_gone (enter p F l ss cs s) cs w a.0 (going_entered s l ss cs i g) e)

    all_gone : (s : Carried) (ts : Forest) (w : Value) → agrees_all p F E s ts → Going s → s.values x ≡ a_value w → reads_in_all p x (written_all p F s ts) ≡ false
    all_gone s ε w a g e = refl
    all_gone s (t ⊳ ts) w a g e = or_from (reads_in p x (written p F s t)) (reads_in_all p x (written_all p F (after p F s t) ts)) (gone s t w a.0 g e) (all_gone (after p F s t) ts w a.1 (going_after s t a.0 g) (kept_after p F x s t w e))

  -- behind a declaration with a literal its value is carried
  entered_value : (r : Carried) (y : Name) (ss : List Span) (cs : Forest) → same_name x y ≡ true → r.quiet ≡ false → Valued E r x → Enters p F E r y ss cs → Gives (first_put p r ss cs) → Gives (with_put y (entry p F r y ss cs) r.values x)
  entered_value r y ss cs i q v n f = by n
    where
      none : first_put p r ss ε ≡ nothing
      none = refl

      value≢nothing : {u : Value} → a_value u ≡ nothing → ⊥
      value≢nothing e = cc

      is_entry : entry p F r y ss cs ≡ a_value f.value
      is_entry = ap₂ (λ a b. put_unless (a || not b) (first_put p r ss cs)) q (sym (ap (may_carry p F) (same_name_path x y i)) ∙ carry) ∙ f.is

      at : (b : Bool) → b ≡ true → Valued E r x → E.values x ≡ a_value f.value → Gives (if b then or_put (r.values x) (entry p F r y ss cs) else r.values x)
      at false j v k = absurd (false≢true j)
      at true j (inl v) k = record { value = f.value; is = ap₂ or_put v is_entry }
      at true j (inr v) k = record { value = f.value; is = ap (λ q. or_put q (entry p F r y ss cs)) (v ∙ k) }

      by : Enters p F E r y ss cs → Gives (with_put y (entry p F r y ss cs) r.values x)
      by (inl e) = at (same_name y x) (same_name_swap y x ∙ i) v (ap E.values (same_name_path x y i) ∙ e ∙ is_entry)
      by (inr e) = absurd (value≢nothing (sym f.is ∙ ap (first_put p r ss) e.1 ∙ none))

  own_found : (l : Label) (ss : List Span) (cs : Forest) (r : Carried) → declares_lexical x l ≡ true → declares_literal p x l cs ≡ true → r.quiet ≡ false → Valued E r x → Carries p F E r l ss cs → Gives ((behind p F l ss cs r).values x)
  own_found (Declarator Let y) ss cs r d f q v n = entered_value r y ss cs d q v n (declared_literal p x (Declarator Let y) r ss cs f)
  own_found (Declarator Const y) ss cs r d f q v n = entered_value r y ss cs d q v n (declared_literal p x (Declarator Const y) r ss cs f)
  own_found (Declarator Var y) ss cs r d f q v n = absurd (false≢true d)
  own_found l ss cs r d f q v n = absurd (false≢true d)

  -- each declarator of the name has such a literal
  abbrev Lit : Tree → Type 0
  Lit t = how_many (lexical_at x) t ≤ how_many (declares_literal p x) t

  abbrev LitAll : Forest → Type 0
  LitAll ts = how_many_in (lexical_at x) ts ≤ how_many_in (declares_literal p x) ts

  right_of : (s : Carried) (l : Label) (ss : List Span) (cs : Forest) → agrees_all p F E (enter p F l ss cs s) cs → Going s → Valued E (leave p F l s (after_all p F (enter p F l ss cs s) cs)) x
  right_of s l ss cs a g = right_all_after p F E (enter p F l ss cs s) cs a g.right x

  -- where it is declared, its value is carried behind
  mutual
    found : (s : Carried) (t : Tree) → agrees p F E s t → Going s → Lit t → declares_in p x (written p F s t) ≡ true → Gives ((after p F s t).values x)
    found s (node l ss cs) a g h d = by (and_parts (not (is_exempt p l)) (declares_lexical x l || declares_in_all p x us) (rebuilt_declares p x (read_put p s l) l ss us d)) (λ n e. all_found (enter p F l ss cs s) cs a.0 (going_entered s l ss cs n g) (omega (arith, h, literal_lexical p x l cs)) e)
      where
        us : Forest
        us = written_all p F (enter p F l ss cs s) cs

        r : Carried
        r = leave p F l s (after_all p F (enter p F l ss cs s) cs)

        kept : Gives ((after_all p F (enter p F l ss cs s) cs).values x) → Gives ((behind p F l ss cs r).values x)
        kept v = record { value = v.value; is = behind_kept p F x l ss cs r v.value v.is }

        own : declares_lexical x l ≡ true → declares_literal p x l cs ≡ true
        own e = one_true (declares_literal p x l cs) (omega (arith, h, one_of (declares_lexical x l) e, all_fewer p x cs))

        at : (declares_lexical x l ≡ true) ⊎ (declares_in_all p x us ≡ true) → (declares_in_all p x us ≡ true → Gives ((after_all p F (enter p F l ss cs s) cs).values x)) → Gives ((behind p F l ss cs r).values x)
        at (inl e) f = own_found l ss cs r e (own e) g.loud (right_of s l ss cs a.0 g) a.1
        at (inr e) f = kept (f e)

        by : (not (is_exempt p l) ≡ true) × ((declares_lexical x l || declares_in_all p x us) ≡ true) → (is_exempt p l ≡ false → declares_in_all p x us ≡ true → Gives ((after_all p F (enter p F l ss cs s) cs).values x)) → Gives ((behind p F l ss cs r).values x)
        by q f = at (or_cases (declares_lexical x l) (declares_in_all p x us) q.1) (f (not-true (is_exempt p l) q.0))

    all_found : (s : Carried) (ts : Forest) → agrees_all p F E s ts → Going s → LitAll ts → declares_in_all p x (written_all p F s ts) ≡ true → Gives ((after_all p F s ts).values x)
    all_found s ε a g h d = absurd (false≢true d)
    all_found s (t ⊳ ts) a g h d =
        by (or_cases (declares_in p x (written p F s t)) (declares_in_all p x (written_all p F (after p F s t) ts)) d) (λ e. found s t a.0 g (omega (arith, h, all_fewer p x ts)) e) (λ e. all_found (after p F s t) ts a.1 (going_after s t a.0 g) (omega (arith, h, fewer_literals p x t)) e)
      where
        by : (declares_in p x (written p F s t) ≡ true) ⊎ (declares_in_all p x (written_all p F (after p F s t) ts) ≡ true) → (declares_in p x (written p F s t) ≡ true → Gives ((after p F s t).values x)) → (declares_in_all p x (written_all p F (after p F s t) ts) ≡ true → Gives ((after_all p F (after p F s t) ts).values x)) → Gives ((after_all p F (after p F s t) ts).values x)
        by (inl e) f k = let v = f e in record { value = v.value; is = kept_all_after p F x (after p F s t) ts v.value v.is }
        by (inr e) f k = k e

  -- so no read of it stands later
  mutual
    pub early : (s : Carried) (t : Tree) → agrees p F E s t → Going s → Lit t → is_late p x (written p F s t) ≡ false
    early s (node l ss cs) a g h = rebuilt_early p x (read_put p s l) l ss (written_all p F (enter p F l ss cs s) cs) (by (is_exempt p l) refl (λ n. all_early (enter p F l ss cs s) cs a.0 (going_entered s l ss cs n g) (omega (arith, h, literal_lexical p x l cs))))
      where
        by : (b : Bool) → is_exempt p l ≡ b → (is_exempt p l ≡ false → is_late_all p x (written_all p F (enter p F l ss cs s) cs) ≡ false) → (not b && is_late_all p x (written_all p F (enter p F l ss cs s) cs)) ≡ false
        by true e f = refl
        by false e f = f e

    pub all_early : (s : Carried) (ts : Forest) → agrees_all p F E s ts → Going s → LitAll ts → is_late_all p x (written_all p F s ts) ≡ false
    all_early s ε a g h = refl
    all_early s (t ⊳ ts) a g h =
        or_from (is_late p x (written p F s t)) _ (early s t a.0 g (omega (arith, h, all_fewer p x ts)))
        (or_from (declares_in p x (written p F s t) && reads_in_all p x (written_all p F (after p F s t) ts)) _ (by (declares_in p x (written p F s t)) refl (λ e. found s t a.0 g (omega (arith, h, all_fewer p x ts)) e)) (all_early (after p F s t) ts a.1 (going_after s t a.0 g) (omega (arith, h, fewer_literals p x t))))
      where
        by : (b : Bool) → declares_in p x (written p F s t) ≡ b → (declares_in p x (written p F s t) ≡ true → Gives ((after p F s t).values x)) → (b && reads_in_all p x (written_all p F (after p F s t) ts)) ≡ false
        by false e f = refl
        by true e f = let v = f e in all_gone (after p F s t) ts v.value a.1 (going_after s t a.0 g) v.is

  -- a name that one node declares, with such a literal
  pub literal_early : (s : Carried) (t : Tree) → agrees p F E s t → Going s → how_many (lexical_at x) t ≤ 1 → 1 ≤ how_many (declares_literal p x) t → is_late p x (written p F s t) ≡ false
  literal_early s t a g o h = early s t a g (omega (arith, o, h))

-- exports that name what a name stands for read no name, and declare none
module _ (p : Pass) (x : Name) (B : Name → Bool) (V : Name → Put) where
  -- specifiers of exports, and other labels
  data Specifier : Label → Type 0 where
    a_specifier : (y : Name) (o : Option Text) → Specifier (ExportSpecifier y o)
    no_specifier : {l : Label} → ((q : Put) → exported_put B q l ≡ l) → Specifier l

  other_label : (l : Label) → ((y : Name) (o : Option Text) → l ≡ ExportSpecifier y o → ⊥) → (q : Put) → exported_put B q l ≡ l
  other_label l n nothing = refl
  other_label l n (a_value v) = refl
  other_label (ExportSpecifier y o) n (a_name z) = absurd (n y o refl)
  other_label l n (a_name z) = refl

  specifier : (l : Label) → Specifier l
  specifier (ExportSpecifier y o) = a_specifier y o
  specifier l = no_specifier (other_label l (λ y o e. cc))

  -- what a label says of the name is what it said
  record Says (l m : Label) : Type 0 where
    pub exempt : is_exempt p m ≡ is_exempt p l
    pub reads : reads_name p x m ≡ reads_name p x l
    pub declares : declares_lexical x m ≡ declares_lexical x l

  specifiers_say : (y z : Name) (o u : Option Text) → Says (ExportSpecifier y o) (ExportSpecifier z u)
  specifiers_say y z o u = record { exempt = refl; reads = refl; declares = refl }

  exported_says : (q : Put) (l : Label) → Specifier l → Says l (exported_put B q l)
  exported_says nothing _ (a_specifier y o) = record { exempt = refl; reads = refl; declares = refl }
  exported_says (a_value v) _ (a_specifier y o) = record { exempt = refl; reads = refl; declares = refl }
  exported_says (a_name z) _ (a_specifier y o) = by (B z)
    where
      by : (b : Bool) → Says (ExportSpecifier y o) (if b then ExportSpecifier z (Some (export_text y o)) else ExportSpecifier y o)
      by true = specifiers_say y z o (Some (export_text y o))
      by false = record { exempt = refl; reads = refl; declares = refl }
  exported_says q l (no_specifier e) = subst (Says l) (sym (e q)) (record { exempt = refl; reads = refl; declares = refl })

  -- so do lists of specifiers, and items
  record SaysAll (ts us : Forest) : Type 0 where
    pub reads : reads_in_all p x us ≡ reads_in_all p x ts
    pub declares : declares_in_all p x us ≡ declares_in_all p x ts
    pub late : is_late_all p x us ≡ is_late_all p x ts

  says_more : (l m : Label) (ss : List Span) (cs ds ts us : Forest) → Says l m → SaysAll cs ds → SaysAll ts us → SaysAll (node l ss cs ⊳ ts) (node m ss ds ⊳ us)
  says_more l m ss cs ds ts us h i j = record {
    reads = ap₂ ◌||◌ reads j.reads;
    declares = ap₂ ◌||◌ declares j.declares;
    late = ap₂ ◌||◌ (ap₂ (λ a b. not a && b) h.exempt i.late) (ap₂ ◌||◌ (ap₂ ◌&&◌ declares j.reads) j.late);
  }
    where
      reads : reads_in p x (node m ss ds) ≡ reads_in p x (node l ss cs)
      reads = ap₂ (λ a b. not a && b) h.exempt (ap₂ ◌||◌ h.reads i.reads)

      declares : declares_in p x (node m ss ds) ≡ declares_in p x (node l ss cs)
      declares = ap₂ (λ a b. not a && b) h.exempt (ap₂ ◌||◌ h.declares i.declares)

  same_label : (l : Label) → Says l l
  same_label l = record { exempt = refl; reads = refl; declares = refl }

  same_list : (ts : Forest) → SaysAll ts ts
  same_list ts = record { reads = refl; declares = refl; late = refl }

  respecified_says : (ts : Forest) → SaysAll ts (respecified B V ts)
  respecified_says ε = same_list ε
  respecified_says (node l ss cs ⊳ ts) = says_more l (exported_put B (exported_name V l) l) ss cs cs ts (respecified B V ts) (exported_says (exported_name V l) l (specifier l)) (same_list cs) (respecified_says ts)

  reexported_says : (ts : Forest) → SaysAll ts (reexported B V ts)
  reexported_says ε = same_list ε
  reexported_says (node ExportNamed ss cs ⊳ ts) = says_more ExportNamed ExportNamed ss cs (respecified B V cs) ts (reexported B V ts) (same_label ExportNamed) (respecified_says cs) (reexported_says ts)
  reexported_says (node l ss cs ⊳ ts) = says_more l l ss cs cs ts (reexported B V ts) (same_label l) (same_list cs) (reexported_says ts)

  pub reexported_early : (ss : List Span) (ts : Forest) → is_late p x (node Module ss ts) ≡ false → is_late p x (node Module ss (reexported B V ts)) ≡ false
  reexported_early ss ts e = (reexported_says ts).late ∙ e
