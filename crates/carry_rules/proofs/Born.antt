-- A declarator of `let` or `const` gives its name what is carried of it.
use Rattle.std.proofs.Common.{◌≡◌, Bool, true, false, not, ◌&&◌, ◌||◌, List, [], Option, Some, None, refl, sym, ap, subst, ◌∙◌, ◌⊎◌, inl, inr}
use Rattle.swc_ast.specs.declared.Span.{Span}
use Rattle.swc_ast.specs.declared.VarDeclKind.{VarDeclKind}
use Rattle.swc_ast.specs.Tree.{Name, Label, StrLit, Read, Declarator, Tree, node, Forest, ε, ◌⊳◌}
use Rattle.swc_ast.specs.Value.{Value, Undefined}
use Rattle.swc_ast.specs.Expressions.{is_eval}
use Rattle.link_proofs.specs.Links.{Put, nothing, a_name, a_value, literal_value, put_known, Ground, PlacedAt, Goods, Begins, begins_first, begins_linked, begins_copy, begins_value, begins_known, begins_unset}
use Rattle.carry_rules.specs.Carry.{Pass, constants, inlines, Facts, Carried, put_unless, or_put, passed_on, literal_put, name_put, first_put, may_carry, entry, enter, leave, after_all, second_nowhere, is_nowhere, mark_of, marks_all}
use Rattle.carry_rules.proofs.Sound.{Last, link_of, known_of, links, put_is, Sure, Enters}
use Rattle.carry_rules.proofs.Standing.{unless_nothing}
use Rattle.carry_rules.proofs.Placing.{Fits, Valued, LaidAt, laid_at, both_fit, both_placed}

pub unless_cases : (b : Bool) (q : Put) → (put_unless b q ≡ nothing) ⊎ (put_unless b q ≡ q)
unless_cases true q = inl refl
unless_cases false q = inr refl

pub name_cases : (p : Pass) (r : Carried) (d : Bool) (a : Name) → (name_put p r d a ≡ nothing) ⊎ (name_put p r d a ≡ a_name a)
name_cases constants r d a = unless_cases (is_eval a || not (r.ready a && d)) (a_name a)
name_cases inlines r d a = unless_cases (is_eval a || not (r.ready a)) (a_name a)

pub value_cases : (r : Carried) (v : Value) (q : Put) → (passed_on r (a_value v) q ≡ nothing) ⊎ (passed_on r (a_value v) q ≡ a_value v)
value_cases r Undefined q = inl refl
value_cases r v q = inr refl

-- a literal that is carried, or none
pub data Literal (l : Label) (q : Put) : Type 0 where
  no_literal : q ≡ nothing → Literal l q
  a_literal : (v : Value) → literal_value l ≡ Some v → q ≡ a_value v → Literal l q

known_literal : (l : Label) (o : Option Value) → literal_value l ≡ o → Literal l (put_known o nothing)
known_literal l None e = no_literal refl
known_literal l (Some v) e = a_literal v e refl

pub literal_cases : (p : Pass) (l : Label) → Literal l (literal_put p l)
literal_cases constants (StrLit t) = no_literal refl
literal_cases p l = known_literal l (literal_value l) refl

-- a read, or another label
pub data IsRead : Label → Type 0 where
  a_read : (a : Name) → IsRead (Read a)
  no_read : {l : Label} → ((p : Pass) (r : Carried) (ss rs : List Span) → first_put p r ss (node l rs ε ⊳ ε) ≡ literal_put p l) → IsRead l

pub view : (l : Label) → IsRead l
view (Read a) = a_read a
view l = no_read (λ p r ss rs. refl)

pub first_none : (p : Pass) (r : Carried) (ss rs : List Span) (l : Label) (t : Tree) (ts us : Forest) → first_put p r ss (node l rs (t ⊳ ts) ⊳ us) ≡ nothing
first_none p r ss rs (Read a) t ts us = refl
first_none p r ss rs l t ts us = refl

pub first_more : (p : Pass) (r : Carried) (ss rs : List Span) (l : Label) (t : Tree) (ts : Forest) → first_put p r ss (node l rs ε ⊳ t ⊳ ts) ≡ nothing
first_more p r ss rs (Read a) t ts = refl
first_more p r ss rs l t ts = refl

-- what fits is what is put in the end
pub named : (E : Last) (a y : Name) → Fits E a (a_name y) → or_put (E.values a) (E.settled a) ≡ a_name y
named E a y (inl e) = absurd (cc)
named E a y (inr e) = sym e

pub valued : (E : Last) (a : Name) (v : Value) → Fits E a (a_value v) → or_put (E.values a) (E.settled a) ≡ a_value v
valued E a v (inl e) = absurd (cc)
valued E a v (inr e) = sym e

module _ (p : Pass) (F : Facts) (E : Last) {G : Ground} {B : Name → Bool} (k : VarDeclKind) (x : Name) {ms : List Span} (b : B x ≡ true) where
  born_none : {cs : Forest} → E.values x ≡ nothing → Goods (links F E) G cs → Begins (links F E) G B (node (Declarator k x) ms cs)
  born_none e h = begins_first k x (ap link_of e) (ap known_of e) b h

  -- the initialiser is a name
  born_read : (r : Carried) (d : Bool) (a : Name) (w : Put) → Fits E a w → PlacedAt (links F E) G a (mark_of w) → E.values x ≡ passed_on r w (name_put p r d a) → Goods (links F E) G (node (Read a) (mark_of w) ε ⊳ ε) → Begins (links F E) G B (node (Declarator k x) ms (node (Read a) (mark_of w) ε ⊳ ε))
  born_read r d a nothing i l e h = by (name_cases p r d a)
    where
      by : (name_put p r d a ≡ nothing) ⊎ (name_put p r d a ≡ a_name a) → Begins (links F E) G B (node (Declarator k x) ms (node (Read a) [] ε ⊳ ε))
      by (inl f) = born_none (e ∙ f) h
      by (inr f) = begins_linked k x a (ap link_of (e ∙ f)) (ap known_of (e ∙ f)) b
  born_read r d a (a_name y) i l e h = by (unless_cases (not (r.ready y)) (a_name y))
    where
      by : (put_unless (not (r.ready y)) (a_name y) ≡ nothing) ⊎ (put_unless (not (r.ready y)) (a_name y) ≡ a_name y) → Begins (links F E) G B (node (Declarator k x) ms (node (Read a) (mark_of (a_name y)) ε ⊳ ε))
      by (inl f) = born_none (e ∙ f) h
      by (inr f) = begins_copy k x y a (ap link_of (e ∙ f)) (ap known_of (e ∙ f)) b l (put_is (E.values a) (E.settled a) ∙ named E a y i)
  born_read r d a (a_value v) i l e h = by (value_cases r v (name_put p r d a))
    where
      by : (passed_on r (a_value v) (name_put p r d a) ≡ nothing) ⊎ (passed_on r (a_value v) (name_put p r d a) ≡ a_value v) → Begins (links F E) G B (node (Declarator k x) ms (node (Read a) (mark_of (a_value v)) ε ⊳ ε))
      by (inl f) = born_none (e ∙ f) h
      by (inr f) = begins_value k x a (ap link_of (e ∙ f)) (ap known_of (e ∙ f)) b l (put_is (E.values a) (E.settled a) ∙ valued E a v i)

  born_name : (s r : Carried) (d : Bool) (c : Bool) (a : Name) → Fits E a (or_put (s.values a) (s.settled a)) → PlacedAt (links F E) G a (mark_of (or_put (s.values a) (s.settled a))) → E.values x ≡ put_unless (s.quiet || c) (passed_on r (put_unless s.quiet (or_put (s.values a) (s.settled a))) (name_put p r d a))
      → Goods (links F E) G (node (Read a) (mark_of (put_unless (s.quiet || false) (or_put (s.values a) (s.settled a)))) ε ⊳ ε) → Begins (links F E) G B (node (Declarator k x) ms (node (Read a) (mark_of (put_unless (s.quiet || false) (or_put (s.values a) (s.settled a)))) ε ⊳ ε))
  born_name s r d c a i l e h = by s.quiet c e h
    where
      by : (f c : Bool) → E.values x ≡ put_unless (f || c) (passed_on r (put_unless f (or_put (s.values a) (s.settled a))) (name_put p r d a)) → Goods (links F E) G (node (Read a) (mark_of (put_unless (f || false) (or_put (s.values a) (s.settled a)))) ε ⊳ ε) → Begins (links F E) G B (node (Declarator k x) ms (node (Read a) (mark_of (put_unless (f || false) (or_put (s.values a) (s.settled a)))) ε ⊳ ε))
      by true c e h = born_none e h
      by false true e h = born_none e h
      by false false e h = born_read r d a (or_put (s.values a) (s.settled a)) i l e h

  born_literal : (l : Label) {rs : List Span} → Literal l (E.values x) → Goods (links F E) G (node l rs ε ⊳ ε) → Begins (links F E) G B (node (Declarator k x) ms (node l rs ε ⊳ ε))
  born_literal l (no_literal e) h = born_none e h
  born_literal l (a_literal v i e) h = begins_known k x l (ap link_of e) (ap known_of e) b i

  born_unread : (l : Label) (c : Bool) {rs : List Span} → E.values x ≡ put_unless c (literal_put p l) → Goods (links F E) G (node l rs ε ⊳ ε) → Begins (links F E) G B (node (Declarator k x) ms (node l rs ε ⊳ ε))
  born_unread l true e h = born_none e h
  born_unread l false e h = born_literal l (subst (Literal l) (sym e) (literal_cases p l)) h

module _ {p : Pass} {F : Facts} {E : Last} {lex : Name → Bool} (sure : Sure p F E lex) (k : VarDeclKind) (x : Name) (ss : List Span) (s : Carried) where
  abbrev pub Starts : Forest → Type 0
  Starts cs = E.values x ≡ entry p F (leave p F (Declarator k x) s (after_all p F (enter p F (Declarator k x) ss cs s) cs)) x ss cs

  abbrev pub Marked : Forest → Forest
  Marked cs = marks_all p F (enter p F (Declarator k x) ss cs s) cs

  born_entered : {G : Ground} {B : Name → Bool} → B x ≡ true → (cs : Forest) {ms : List Span} → ((y : Name) → Valued E s y) → ((y : Name) → LaidAt E G s y) → Starts cs → Goods (links F E) G (Marked cs) → Begins (links F E) G B (node (Declarator k x) ms (Marked cs))
  born_entered b ε r n e h = born_none p F E k x b (e ∙ unless_nothing (s.quiet || not (may_carry p F x))) h
  born_entered {G} {B} b (node l rs (t ⊳ ts) ⊳ us) r n e h = born_none p F E k x b (e ∙ ap (put_unless (s.quiet || not (may_carry p F x))) (first_none p (leave p F (Declarator k x) s (after_all p F (enter p F (Declarator k x) ss (node l rs (t ⊳ ts) ⊳ us) s) (node l rs (t ⊳ ts) ⊳ us))) ss rs l t ts us) ∙ unless_nothing (s.quiet || not (may_carry p F x))) h
  born_entered {G} {B} b (node l rs ε ⊳ t ⊳ ts) r n e h = born_none p F E k x b (e ∙ ap (put_unless (s.quiet || not (may_carry p F x))) (first_more p (leave p F (Declarator k x) s (after_all p F (enter p F (Declarator k x) ss (node l rs ε ⊳ t ⊳ ts) s) (node l rs ε ⊳ t ⊳ ts))) ss rs l t ts) ∙ unless_nothing (s.quiet || not (may_carry p F x))) h
  born_entered {G} {B} b (node l rs ε ⊳ ε) {ms} r n e h = by l (view l) e h
    where
      by : (l : Label) → IsRead l → Starts (node l rs ε ⊳ ε) → Goods (links F E) G (Marked (node l rs ε ⊳ ε)) → Begins (links F E) G B (node (Declarator k x) ms (Marked (node l rs ε ⊳ ε)))
      by _ (a_read a) e h = born_name p F E k x b s (leave p F (Declarator k x) s (after_all p F (enter p F (Declarator k x) ss (node (Read a) rs ε ⊳ ε) s) (node (Read a) rs ε ⊳ ε))) (second_nowhere ss || (s.dummy || is_nowhere rs)) (not (may_carry p F x)) a (both_fit sure s a (r a) (laid_at E G s a (n a))) (both_placed sure s a (r a) (n a)) e h
      by m (no_read f) e h = born_unread p F E k x b m (s.quiet || not (may_carry p F x)) (e ∙ ap (put_unless (s.quiet || not (may_carry p F x))) (f p (leave p F (Declarator k x) s (after_all p F (enter p F (Declarator k x) ss (node m rs ε ⊳ ε) s) (node m rs ε ⊳ ε))) ss rs)) h

  pub born : {G : Ground} {B : Name → Bool} → B x ≡ true → (cs : Forest) {ms : List Span} → ((y : Name) → Valued E s y) → ((y : Name) → LaidAt E G s y) → Enters p F E (leave p F (Declarator k x) s (after_all p F (enter p F (Declarator k x) ss cs s) cs)) x ss cs → Goods (links F E) G (Marked cs) → Begins (links F E) G B (node (Declarator k x) ms (Marked cs))
  born b cs r n (inl e) h = born_entered b cs r n e h
  born b ε r n (inr e) h = begins_unset k x (ap link_of e.0) (ap known_of e.0) b
  born b (t ⊳ ts) r n (inr e) h = absurd (more≢none e.1)
    where
      more≢none : (t ⊳ ts) ≡ ε → ⊥
      more≢none e = cc
