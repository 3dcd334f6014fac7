-- The first value of a variable that settles is what is carried of it.
use Rattle.std.proofs.Common.{◌≡◌, Bool, true, false, not, ◌&&◌, ◌||◌, List, [], sym, ap, subst, ◌∙◌, ◌⊎◌, inl, inr}
use Rattle.swc_ast.specs.declared.Span.{Span}
use Rattle.swc_ast.specs.declared.VarDeclKind.TheVariants.{Var}
use Rattle.swc_ast.specs.Tree.{Name, Label, Read, Declarator, Tree, node, Forest, ε, ◌⊳◌}
use Rattle.link_proofs.specs.Links.{Put, nothing, a_name, a_value, Ground, PlacedAt, Init, init_name, init_copy, init_known, init_literal}
use Rattle.carry_rules.specs.Carry.{Pass, Facts, Carried, put_unless, or_put, passed_on, literal_put, name_put, may_settle, settling, enter, leave, after_all, second_nowhere, is_nowhere, mark_of, marks_all}
use Rattle.carry_rules.proofs.Sound.{Last, links, put_is, Sure}
use Rattle.carry_rules.proofs.Standing.{unless_nothing}
use Rattle.carry_rules.proofs.Placing.{Fits, Valued, LaidAt, laid_at, both_fit, both_placed}
use Rattle.carry_rules.proofs.Born.{named, valued, unless_cases, name_cases, value_cases, Literal, no_literal, a_literal, literal_cases, IsRead, a_read, no_read, view, first_none, first_more}

module _ (p : Pass) (F : Facts) (E : Last) {G : Ground} (q : Put) (n : q ≡ nothing → ⊥) where
  -- the initialiser is a name
  init_read : (r : Carried) (d : Bool) (a : Name) (w : Put) → Fits E a w → PlacedAt (links F E) G a (mark_of w) → q ≡ passed_on r w (name_put p r d a) → Init (links F E) G (node (Read a) (mark_of w) ε) q
  init_read r d a nothing f l e = by (name_cases p r d a)
    where
      by : (name_put p r d a ≡ nothing) ⊎ (name_put p r d a ≡ a_name a) → Init (links F E) G (node (Read a) [] ε) q
      by (inl g) = absurd (n (e ∙ g))
      by (inr g) = subst (Init (links F E) G (node (Read a) [] ε)) (sym (e ∙ g)) (init_name a)
  init_read r d a (a_name y) f l e = by (unless_cases (not (r.ready y)) (a_name y))
    where
      by : (put_unless (not (r.ready y)) (a_name y) ≡ nothing) ⊎ (put_unless (not (r.ready y)) (a_name y) ≡ a_name y) → Init (links F E) G (node (Read a) (mark_of (a_name y)) ε) q
      by (inl g) = absurd (n (e ∙ g))
      by (inr g) = subst (Init (links F E) G (node (Read a) (mark_of (a_name y)) ε)) (sym (e ∙ g)) (init_copy a y l (put_is (E.values a) (E.settled a) ∙ named E a y f))
  init_read r d a (a_value v) f l e = by (value_cases r v (name_put p r d a))
    where
      by : (passed_on r (a_value v) (name_put p r d a) ≡ nothing) ⊎ (passed_on r (a_value v) (name_put p r d a) ≡ a_value v) → Init (links F E) G (node (Read a) (mark_of (a_value v)) ε) q
      by (inl g) = absurd (n (e ∙ g))
      by (inr g) = subst (Init (links F E) G (node (Read a) (mark_of (a_value v)) ε)) (sym (e ∙ g)) (init_known a l (put_is (E.values a) (E.settled a) ∙ valued E a v f))

  init_of_name : (s r : Carried) (d c : Bool) (a : Name) → Fits E a (or_put (s.values a) (s.settled a)) → PlacedAt (links F E) G a (mark_of (or_put (s.values a) (s.settled a))) → q ≡ put_unless (s.quiet || c) (passed_on r (put_unless s.quiet (or_put (s.values a) (s.settled a))) (name_put p r d a))
      → Init (links F E) G (node (Read a) (mark_of (put_unless (s.quiet || false) (or_put (s.values a) (s.settled a)))) ε) q
  init_of_name s r d c a f l e = by s.quiet c e
    where
      by : (b c : Bool) → q ≡ put_unless (b || c) (passed_on r (put_unless b (or_put (s.values a) (s.settled a))) (name_put p r d a)) → Init (links F E) G (node (Read a) (mark_of (put_unless (b || false) (or_put (s.values a) (s.settled a)))) ε) q
      by true c e = absurd (n e)
      by false true e = absurd (n e)
      by false false e = init_read r d a (or_put (s.values a) (s.settled a)) f l e

  init_of_literal : (l : Label) {rs : List Span} → Literal l q → Init (links F E) G (node l rs ε) q
  init_of_literal l (no_literal e) = absurd (n e)
  init_of_literal l {rs} (a_literal v i e) = subst (Init (links F E) G (node l rs ε)) (sym e) (init_literal l i)

  init_unread : (l : Label) (c : Bool) {rs : List Span} → q ≡ put_unless c (literal_put p l) → Init (links F E) G (node l rs ε) q
  init_unread l true e = absurd (n e)
  init_unread l false e = init_of_literal l (subst (Literal l) (sym e) (literal_cases p l))

-- a declarator with one first value, which is what is carried
pub data Settles (F : Facts) (E : Last) (G : Ground) (q : Put) : Forest → Type 0 where
  settles : {t : Tree} → Init (links F E) G t q → Settles F E G q (t ⊳ ε)

module _ (p : Pass) (F : Facts) (y : Name) (ss : List Span) (s : Carried) where
  abbrev pub Set : Put → Forest → Type 0
  Set q cs = q ≡ settling p F (leave p F (Declarator Var y) s (after_all p F (enter p F (Declarator Var y) ss cs s) cs)) y ss cs

  abbrev pub Marked : Forest → Forest
  Marked cs = marks_all p F (enter p F (Declarator Var y) ss cs s) cs

  abbrev pub unsettled : Bool
  unsettled = s.quiet || not (s.listed && may_settle p F p y)

module _ {p : Pass} {F : Facts} {E : Last} {lex : Name → Bool} (sure : Sure p F E lex) (y : Name) (ss : List Span) (s : Carried) {G : Ground} (q : Put) (n : q ≡ nothing → ⊥) where
  pub first_settles : (cs : Forest) → ((a : Name) → Valued E s a) → ((a : Name) → LaidAt E G s a) → Set p F y ss s q cs → Settles F E G q (Marked p F y ss s cs)
  first_settles ε r h e = absurd (n (e ∙ unless_nothing (unsettled p F y ss s)))
  first_settles (node l rs (t ⊳ ts) ⊳ us) r h e = absurd (n (e ∙ ap (put_unless (unsettled p F y ss s)) (first_none p (leave p F (Declarator Var y) s (after_all p F (enter p F (Declarator Var y) ss (node l rs (t ⊳ ts) ⊳ us) s) (node l rs (t ⊳ ts) ⊳ us))) ss rs l t ts us) ∙ unless_nothing (unsettled p F y ss s)))
  first_settles (node l rs ε ⊳ t ⊳ ts) r h e = absurd (n (e ∙ ap (put_unless (unsettled p F y ss s)) (first_more p (leave p F (Declarator Var y) s (after_all p F (enter p F (Declarator Var y) ss (node l rs ε ⊳ t ⊳ ts) s) (node l rs ε ⊳ t ⊳ ts))) ss rs l t ts) ∙ unless_nothing (unsettled p F y ss s)))
  first_settles (node l rs ε ⊳ ε) r h e = by l (view l) e
    where
      by : (l : Label) → IsRead l → Set p F y ss s q (node l rs ε ⊳ ε) → Settles F E G q (Marked p F y ss s (node l rs ε ⊳ ε))
      by _ (a_read a) e = settles (init_of_name p F E q n s (leave p F (Declarator Var y) s (after_all p F (enter p F (Declarator Var y) ss (node (Read a) rs ε ⊳ ε) s) (node (Read a) rs ε ⊳ ε))) (second_nowhere ss || (s.dummy || is_nowhere rs)) (not (s.listed && may_settle p F p y)) a (both_fit sure s a (r a) (laid_at E G s a (h a))) (both_placed sure s a (r a) (h a)) e)
      by m (no_read f) e = settles (init_unread p F E q n m (unsettled p F y ss s) (e ∙ ap (put_unless (unsettled p F y ss s)) (f p (leave p F (Declarator Var y) s (after_all p F (enter p F (Declarator Var y) ss (node m rs ε ⊳ ε) s) (node m rs ε ⊳ ε))) ss rs)))
