-- What is carried is fit to be put: names that are identifiers, and numbers in range.
use Rattle.std.proofs.Common.{◌≡◌, Some, ℤ, Bool, true, false, not, ◌&&◌, ◌||◌, List, ap, subst, ◌∙◌, if◌then◌else◌}
use Rattle.std.proofs.lemmas.Bool.{and_parts}
use Rattle.swc_ast.specs.declared.Span.{Span}
use Rattle.swc_ast.specs.declared.VarDeclKind.TheVariants.{Var, Let, Const}
use Rattle.swc_ast.specs.Tree.{Name, same_name, Label, NumLit, StrLit, BoolLit, NullLit, Declarator, Tree, node, Forest, ε, ◌⊳◌}
use Rattle.swc_ast.specs.Scope.{is_function}
use Rattle.swc_ast.specs.Value.{Value, Num}
use Rattle.swc_ast.specs.Valid.{is_identifier, good_names, good_shape, valid, valid_all}
use Rattle.swc_ast.specs.Core.{in_range, numbers_fit, good_scope, fits, fits_all}
use Rattle.link_proofs.specs.Links.{Put, nothing, a_name, a_value, literal_value}
use Rattle.carry_rules.specs.Carry.{Pass, Facts, Carried, put_unless, or_put, carried, groups, with_put, first_put, may_carry, may_settle, entry, settling, enter, leave, behind, after, after_all}
use Rattle.carry_rules.proofs.Sound.{nothing≢name, nothing≢value}
use Rattle.carry_rules.proofs.Sources.{From, from_nothing, from_itself, from_name, from_literal, from_value, first_from}

value_same : {u v : Value} → a_value u ≡ a_value v → u ≡ v
value_same e = cc

name_same : {x y : Name} → a_name x ≡ a_name y → x ≡ y
name_same e = cc

-- a literal that has a number
number_literal : (l : Label) (v : Value) (z : ℤ) → literal_value l ≡ Some v → v ≡ Num z → l ≡ NumLit z
number_literal (NumLit w) v z i e = cc
number_literal (StrLit t) v z i e = absurd (cc)
number_literal (BoolLit b) v z i e = absurd (cc)
number_literal NullLit v z i e = absurd (cc)
number_literal l v z i e = absurd (cc)

-- what is fit to be put, in valid trees and in those of the core
module _ (V F : Type 0) where
  pub record Fit (q : Put) : Type 0 where
    pub name : (x : Name) → q ≡ a_name x → V → is_identifier x.text ≡ true
    pub number : (z : ℤ) → q ≡ a_value (Num z) → F → in_range z ≡ true

  pub record Fine (s : Carried) : Type 0 where
    pub values : (y : Name) → Fit (s.values y)
    pub settled : (y : Name) → Fit (s.settled y)

  pub nothing_fit : Fit nothing
  nothing_fit = record { name = λ x e v. absurd (nothing≢name x e); number = λ z e f. absurd (nothing≢value (Num z) e) }

  or_fit : (a b : Put) → Fit a → Fit b → Fit (or_put a b)
  or_fit nothing b h k = k
  or_fit (a_name x) b h k = h
  or_fit (a_value v) b h k = h

  unless_fit : (b : Bool) (q : Put) → Fit q → Fit (put_unless b q)
  unless_fit true q h = nothing_fit
  unless_fit false q h = h

  pub carried_fit : (s : Carried) → Fine s → (y : Name) → Fit (carried s y)
  carried_fit s h y = unless_fit s.quiet (or_put (s.values y) (s.settled y)) (or_fit (s.values y) (s.settled y) (h.values y) (h.settled y))

  name_fit : (x : Name) → (V → is_identifier x.text ≡ true) → Fit (a_name x)
  name_fit x f = record { name = λ y e a. subst (λ z. is_identifier z.text ≡ true) (name_same e) (f a); number = λ z e b. absurd (cc) }

  value_fit : (v : Value) → ((z : ℤ) → v ≡ Num z → F → in_range z ≡ true) → Fit (a_value v)
  value_fit v f = record { name = λ y e a. absurd (cc); number = λ z e b. f z (value_same e) b }

  fit_from : (r : Carried) {cs : Forest} {q : Put} → (V → valid_all cs ≡ true) → (F → fits_all cs ≡ true) → Fine r → From r cs q → Fit q
  fit_from r v f h from_nothing = nothing_fit
  fit_from r v f h (from_itself x rs i c e n) = name_fit x (λ a. (and_parts (is_identifier x.text) true (and_parts (is_identifier x.text && true) true (and_parts ((is_identifier x.text && true) && true) true (subst (λ ts. valid_all ts ≡ true) i (v a))).0).0).0)
  fit_from r v f h (from_name a x c e) = subst Fit c (carried_fit r h a)
  fit_from r v f h (from_literal l rs w i e) = value_fit w (λ z j b. (and_parts (in_range z) (true && true) (and_parts (in_range z && (true && true)) true (subst (λ ts. fits_all ts ≡ true) (i ∙ ap (λ m. node m rs ε ⊳ ε) (number_literal l w z e j)) (f b))).0).0)
  fit_from r v f h (from_value a w c d) = subst Fit c (carried_fit r h a)

  first_fit : (p : Pass) (r : Carried) (ss : List Span) (cs : Forest) → (V → valid_all cs ≡ true) → (F → fits_all cs ≡ true) → Fine r → Fit (first_put p r ss cs)
  first_fit p r ss cs v f h = fit_from r v f h (first_from p r ss cs)

  put_fit : (f : Name → Put) (y : Name) (q : Put) → ((z : Name) → Fit (f z)) → Fit q → (z : Name) → Fit (with_put y q f z)
  put_fit f y q h k z = by (same_name y z)
    where
      by : (b : Bool) → Fit (if b then or_put (f z) q else f z)
      by true = or_fit (f z) q (h z) k
      by false = h z

  module _ (p : Pass) (S : Facts) where
    pub fine_entered : (l : Label) (ss : List Span) (cs : Forest) (s : Carried) → Fine s → Fine (enter p S l ss cs s)
    fine_entered l ss cs s h = record { values = h.values; settled = λ y. by (is_function l) y }
      where
        by : (b : Bool) (y : Name) → Fit ((if b then (λ (z : Name). nothing) else s.settled) y)
        by true y = nothing_fit
        by false y = h.settled y

    fine_left : (l : Label) (s t : Carried) → Fine s → Fine t → Fine (leave p S l s t)
    fine_left l s t h k = record { values = k.values; settled = λ y. by (groups l && s.listed) y }
      where
        by : (b : Bool) (y : Name) → Fit ((if b then t.settled else s.settled) y)
        by true y = k.settled y
        by false y = h.settled y

    fine_behind : (l : Label) (ss : List Span) (cs : Forest) (r : Carried) → (V → valid_all cs ≡ true) → (F → fits_all cs ≡ true) → Fine r → Fine (behind p S l ss cs r)
    fine_behind (Declarator Var y) ss cs r v f h = record { values = h.values; settled = put_fit r.settled y (settling p S r y ss cs) h.settled (unless_fit (r.quiet || not (r.listed && may_settle p S p y)) (first_put p r ss cs) (first_fit p r ss cs v f h)) }
    fine_behind (Declarator Let y) ss cs r v f h = record { values = put_fit r.values y (entry p S r y ss cs) h.values (unless_fit (r.quiet || not (may_carry p S y)) (first_put p r ss cs) (first_fit p r ss cs v f h)); settled = h.settled }
    fine_behind (Declarator Const y) ss cs r v f h = record { values = put_fit r.values y (entry p S r y ss cs) h.values (unless_fit (r.quiet || not (may_carry p S y)) (first_put p r ss cs) (first_fit p r ss cs v f h)); settled = h.settled }
    fine_behind l ss cs r v f h = h

    pub valid_below : (l : Label) (ss : List Span) (cs : Forest) → (V → valid (node l ss cs) ≡ true) → V → valid_all cs ≡ true
    valid_below l ss cs v a = (and_parts (good_names l && good_shape l cs) (valid_all cs) (v a)).1

    pub fits_below : (l : Label) (ss : List Span) (cs : Forest) → (F → fits (node l ss cs) ≡ true) → F → fits_all cs ≡ true
    fits_below l ss cs f b = (and_parts (good_scope l cs) (fits_all cs) (and_parts (numbers_fit l) (good_scope l cs && fits_all cs) (f b)).1).1

    mutual
      pub fine_after : (s : Carried) (t : Tree) → (V → valid t ≡ true) → (F → fits t ≡ true) → Fine s → Fine (after p S s t)
      fine_after s (node l ss cs) v f h =
          let s1 : Carried = enter p S l ss cs s in
          fine_behind l ss cs (leave p S l s (after_all p S s1 cs)) (valid_below l ss cs v) (fits_below l ss cs f) (fine_left l s (after_all p S s1 cs) h (fine_all_after s1 cs (valid_below l ss cs v) (fits_below l ss cs f) (fine_entered l ss cs s h)))

      pub fine_all_after : (s : Carried) (ts : Forest) → (V → valid_all ts ≡ true) → (F → fits_all ts ≡ true) → Fine s → Fine (after_all p S s ts)
      fine_all_after s ε v f h = h
      fine_all_after s (t ⊳ ts) v f h = fine_all_after (after p S s t) ts (λ a. (and_parts (valid t) (valid_all ts) (v a)).1) (λ b. (and_parts (fits t) (fits_all ts) (f b)).1) (fine_after s t (λ a. (and_parts (valid t) (valid_all ts) (v a)).0) (λ b. (and_parts (fits t) (fits_all ts) (f b)).0) h)
