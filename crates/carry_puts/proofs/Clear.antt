-- `eval` is never carried.
use Rattle.std.proofs.Common.{◌≡◌, Bool, true, false, ◌&&◌, List, refl, if◌then◌else◌}
use Rattle.std.proofs.lemmas.Bool.{true≢false}
use Rattle.swc_ast.specs.declared.Span.{Span}
use Rattle.swc_ast.specs.declared.VarDeclKind.TheVariants.{Var, Let, Const}
use Rattle.swc_ast.specs.Expressions.{is_eval}
use Rattle.swc_ast.specs.Tree.{Name, same_name, Label, Read, TypeOfName, Shorthand, Dot, Index, Declarator, Tree, node, Forest, ε, ◌⊳◌}
use Rattle.swc_ast.specs.Scope.{is_function}
use Rattle.swc_ast.specs.Value.{Value, Undefined, Null, Truth, Num, Text as TextValue}
use Rattle.link_proofs.specs.Links.{Put, nothing, a_name, a_value}
use Rattle.carry_rules.specs.Carry.{Pass, constants, inlines, Facts, Carried, carried, put_unless, or_put, with_put, read_put, value_tree, first_put, entry, settling, groups, enter, leave, behind, after, after_all, starting}
use Rattle.carry_rules.proofs.Sound.{nothing≢name}
use Rattle.carry_rules.proofs.Sources.{From, from_nothing, from_itself, from_name, from_literal, from_value, first_from}
use Rattle.given_shield.specs.Shield.{is_bare_callee}
use Rattle.given_rules.specs.Formed.{is_name}
use Rattle.carry_puts.specs.Placed.{replaced, placed, placed_all}

abbrev Free : Put → Type 0
Free q = (x : Name) → q ≡ a_name x → is_eval x ≡ false

pub record Clear (s : Carried) : Type 0 where
  pub values : (y : Name) → Free (s.values y)
  pub settled : (y : Name) → Free (s.settled y)

or_free : (f q : Put) → Free f → Free q → Free (or_put f q)
or_free nothing q h g = g
or_free (a_name x) q h g = h
or_free (a_value v) q h g = h

unless_free : (b : Bool) (q : Put) → Free q → Free (put_unless b q)
unless_free true q h x e = absurd (nothing≢name x e)
unless_free false q h x e = h x e

carried_free : (s : Carried) (y : Name) → Clear s → Free (carried s y)
carried_free s y c = unless_free s.quiet (or_put (s.values y) (s.settled y)) (or_free (s.values y) (s.settled y) (c.values y) (c.settled y))

same_eval : {x y : Name} → a_name x ≡ a_name y → is_eval x ≡ false → is_eval y ≡ false
same_eval e i = cc

from_free : {s : Carried} {cs : Forest} {q : Put} → Clear s → From s cs q → Free q
from_free c from_nothing x e = absurd (nothing≢name x e)
from_free c (from_itself y rs i d r n) x e = same_eval e n
from_free {s} c (from_name a y d r) x e = same_eval e (carried_free s a c y d)
from_free c (from_literal l rs v i d) x e = absurd (cc)
from_free c (from_value a v d n) x e = absurd (cc)

first_free : (p : Pass) (s : Carried) (ss : List Span) (cs : Forest) → Clear s → Free (first_put p s ss cs)
first_free p s ss cs c = from_free c (first_from p s ss cs)

with_free : (x : Name) (q : Put) (f : Name → Put) → Free q → ((y : Name) → Free (f y)) → (y : Name) → Free (with_put x q f y)
with_free x q f h g y = by (same_name x y)
  where
    by : (b : Bool) → Free (if b then or_put (f y) q else f y)
    by true = or_free (f y) q (g y) h
    by false = g y

module _ (p : Pass) (F : Facts) where
  pub clear_entered : (s : Carried) (l : Label) (ss : List Span) (cs : Forest) → Clear s → Clear (enter p F l ss cs s)
  clear_entered s l ss cs c = record { values = c.values; settled = λ y. by y (is_function l) }
    where
      by : (y : Name) (b : Bool) → Free ((if b then (λ (z : Name). nothing) else s.settled) y)
      by y true x e = absurd (nothing≢name x e)
      by y false x e = c.settled y x e

  clear_left : (l : Label) (s t : Carried) → Clear s → Clear t → Clear (leave p F l s t)
  clear_left l s t c d = record { values = d.values; settled = λ y. by y (groups l && s.listed) }
    where
      by : (y : Name) (b : Bool) → Free ((if b then t.settled else s.settled) y)
      by y true = d.settled y
      by y false = c.settled y

  clear_behind : (l : Label) (ss : List Span) (cs : Forest) (s : Carried) → Clear s → Clear (behind p F l ss cs s)
  clear_behind (Declarator Var x) ss cs s c = record { values = c.values; settled = with_free x (settling p F s x ss cs) s.settled (unless_free _ (first_put p s ss cs) (first_free p s ss cs c)) c.settled }
  clear_behind (Declarator Let x) ss cs s c = record { values = with_free x (entry p F s x ss cs) s.values (unless_free _ (first_put p s ss cs) (first_free p s ss cs c)) c.values; settled = c.settled }
  clear_behind (Declarator Const x) ss cs s c = record { values = with_free x (entry p F s x ss cs) s.values (unless_free _ (first_put p s ss cs) (first_free p s ss cs c)) c.values; settled = c.settled }
  clear_behind l ss cs s c = c

  mutual
    pub clear_after : (s : Carried) (t : Tree) → Clear s → Clear (after p F s t)
    clear_after s (node l ss cs) c = clear_behind l ss cs (leave p F l s (after_all p F (enter p F l ss cs s) cs)) (clear_left l s (after_all p F (enter p F l ss cs s) cs) c (clear_all_after (enter p F l ss cs s) cs (clear_entered s l ss cs c)))

    clear_all_after : (s : Carried) (ts : Forest) → Clear s → Clear (after_all p F s ts)
    clear_all_after s ε c = c
    clear_all_after s (t ⊳ ts) c = clear_all_after (after p F s t) ts (clear_after s t c)

  pub starting_clear : (q : Pass) → Clear (starting q F)
  starting_clear constants = record { values = λ y x e. absurd (nothing≢name x e); settled = λ y x e. absurd (nothing≢name x e) }
  starting_clear inlines = record { values = λ y. by (F.unset y); settled = λ y x e. absurd (nothing≢name x e) }
    where
      by : (b : Bool) → Free (if b then a_value Undefined else nothing)
      by true x e = absurd (cc)
      by false x e = absurd (nothing≢name x e)

  -- what is put may be called bare only where what stands there may

  value_alone : (v : Value) (ss : List Span) → is_bare_callee (value_tree v ss) ≡ false
  value_alone (Num z) ss = refl
  value_alone (TextValue t) ss = refl
  value_alone (Truth b) ss = refl
  value_alone Null ss = refl
  value_alone v ss = refl

  read_alone : (y : Name) (ss : List Span) (us : Forest) (q : Put) → Free q → is_eval y ≡ false → is_bare_callee (replaced q (Read y) ss us) ≡ false
  read_alone y ss us nothing h e = e
  read_alone y ss us (a_name x) h e = h x refl
  read_alone y ss us (a_value v) h e = value_alone v ss

  type_alone : (y : Name) (ss : List Span) (us : Forest) (q : Put) → (is_bare_callee (replaced q (TypeOfName y) ss us) ≡ false) × (is_name (replaced q (TypeOfName y) ss us) ≡ false)
  type_alone y ss us nothing = (refl, refl)
  type_alone y ss us (a_name x) = (refl, refl)
  type_alone y ss us (a_value v) = (refl, refl)

  short_alone : (y : Name) (ss : List Span) (us : Forest) (q : Put) → (is_bare_callee (replaced q (Shorthand y) ss us) ≡ false) × (is_name (replaced q (Shorthand y) ss us) ≡ false)
  short_alone y ss us nothing = (refl, refl)
  short_alone y ss us (a_name x) = (refl, refl)
  short_alone y ss us (a_value v) = (refl, refl)

  pub placed_alone : (s : Carried) (t : Tree) → Clear s → is_bare_callee t ≡ false → is_bare_callee (placed p F s t) ≡ false
  placed_alone s (node (Read y) ss cs) c e = read_alone y ss (placed_all p F (enter p F (Read y) ss cs s) cs) (carried s y) (carried_free s y c) e
  placed_alone s (node (TypeOfName y) ss cs) c e = (type_alone y ss (placed_all p F (enter p F (TypeOfName y) ss cs s) cs) (carried s y)).0
  placed_alone s (node (Shorthand y) ss cs) c e = (short_alone y ss (placed_all p F (enter p F (Shorthand y) ss cs s) cs) (read_put p s (Shorthand y))).0
  placed_alone s (node (Dot k) ss cs) c e = absurd (true≢false e)
  placed_alone s (node Index ss cs) c e = absurd (true≢false e)
  placed_alone s (node l ss cs) c e = refl

  pub placed_unnamed : (s : Carried) (t : Tree) → is_name t ≡ false → is_name (placed p F s t) ≡ false
  placed_unnamed s (node (Read y) ss cs) e = absurd (true≢false e)
  placed_unnamed s (node (TypeOfName y) ss cs) e = (type_alone y ss (placed_all p F (enter p F (TypeOfName y) ss cs s) cs) (carried s y)).1
  placed_unnamed s (node (Shorthand y) ss cs) e = (short_alone y ss (placed_all p F (enter p F (Shorthand y) ss cs s) cs) (read_put p s (Shorthand y))).1
  placed_unnamed s (node l ss cs) e = refl
