-- What the facts of a tree say of names, in numbers.
use Rattle.std.proofs.Common.{◌≡◌, ◌≤◌, Bool, true, false, not, ◌&&◌, ◌==◌, refl, sym, ap, ◌∙◌, arith, ◌⊎◌, inl, inr}
use Rattle.std.proofs.lemmas.Bool.{and_parts, or_cases, or_left, or_right, or_from, false≢true, true≢false, not-true, eqb-true, eq-eqb, false_from_ne_true, and_from, not_from_false}
use Rattle.swc_ast.specs.Tree.{Name, Tree}
use Rattle.swc_ast.specs.Scope.{default_name}
use Rattle.swc_ast.specs.Resolved.{is_default}
use Rattle.static_proofs.proofs.Names.{same_name_itself}
use Rattle.carry_rules.specs.Carry.{Pass, constants, inlines, facts, writes, declares_const, declares_lexical, declares_variable, imports, declares_other, declares, how_many, may_carry, may_settle}
use Rattle.carry_rules.proofs.Sound.{fixed}
use Rattle.carry_proofs.proofs.Counts.{at, declares_let, with_variables, with_imports, with_others, of_lexical, beside_imports, beside_others}

-- a name that one node declares
pub record Sole (t : Tree) (x : Name) : Type 0 where
  pub not_default : is_default x ≡ false
  pub once : how_many (at declares x) t ≡ 1

pub record Steady (t : Tree) (x : Name) : Type 0 where
  pub sole : Sole t x
  pub unwritten : how_many (at writes x) t ≡ 0
  pub no_variable : how_many (at declares_variable x) t ≡ 0
  pub no_import : how_many (at imports x) t ≡ 0

pub record Constant (t : Tree) (x : Name) : Type 0 where
  pub sole : Sole t x
  pub once : how_many (at declares_const x) t ≡ 1

-- a variable that one node declares, and nothing writes
pub record Still (t : Tree) (x : Name) : Type 0 where
  pub sole : Sole t x
  pub unwritten : how_many (at writes x) t ≡ 0
  pub once : how_many (at declares_variable x) t ≡ 1

module _ (t : Tree) (x : Name) where
  abbrev is_sole : Bool
  is_sole = not (is_default x) && (how_many (at declares x) t == 1)

  sole_says : is_sole ≡ true → Sole t x
  sole_says e =
      let p = and_parts (not (is_default x)) (how_many (at declares x) t == 1) e in
      record { not_default = not-true (is_default x) p.0; once = eqb-true (how_many (at declares x) t) 1 p.1 }

  pub steady_says : (facts t).steady x ≡ true → Steady t x
  unfolding facts
  steady_says e =
      let p = and_parts (is_sole && (how_many (at writes x) t == 0)) ((how_many (at declares_variable x) t == 0) && (how_many (at imports x) t == 0)) e in
      let q = and_parts is_sole (how_many (at writes x) t == 0) p.0 in
      let r = and_parts (how_many (at declares_variable x) t == 0) (how_many (at imports x) t == 0) p.1 in
      record { sole = sole_says q.0; unwritten = eqb-true (how_many (at writes x) t) 0 q.1; no_variable = eqb-true (how_many (at declares_variable x) t) 0 r.0; no_import = eqb-true (how_many (at imports x) t) 0 r.1 }

  pub constant_says : (facts t).constant x ≡ true → Constant t x
  unfolding facts
  constant_says e =
      let p = and_parts is_sole (how_many (at declares_const x) t == 1) e in
      record { sole = sole_says p.0; once = eqb-true (how_many (at declares_const x) t) 1 p.1 }

  pub still_says : (facts t).variable x ≡ true → Still t x
  unfolding facts
  still_says e =
      let p = and_parts (is_sole && (how_many (at writes x) t == 0)) (how_many (at declares_variable x) t == 1) e in
      let q = and_parts is_sole (how_many (at writes x) t == 0) p.0 in
      record { sole = sole_says q.0; unwritten = eqb-true (how_many (at writes x) t) 0 q.1; once = eqb-true (how_many (at declares_variable x) t) 1 p.1 }

  -- and the other way round

  sole_shows : Sole t x → is_sole ≡ true
  sole_shows h = and_from (not (is_default x)) (how_many (at declares x) t == 1) (not_from_false (is_default x) h.not_default) (eq-eqb (how_many (at declares x) t) 1 h.once)

  pub steady_shows : Steady t x → (facts t).steady x ≡ true
  unfolding facts
  steady_shows h =
      and_from (is_sole && (how_many (at writes x) t == 0)) ((how_many (at declares_variable x) t == 0) && (how_many (at imports x) t == 0))
      (and_from is_sole (how_many (at writes x) t == 0) (sole_shows h.sole) (eq-eqb (how_many (at writes x) t) 0 h.unwritten))
      (and_from (how_many (at declares_variable x) t == 0) (how_many (at imports x) t == 0) (eq-eqb (how_many (at declares_variable x) t) 0 h.no_variable) (eq-eqb (how_many (at imports x) t) 0 h.no_import))

  pub constant_shows : Constant t x → (facts t).constant x ≡ true
  unfolding facts
  constant_shows h = and_from is_sole (how_many (at declares_const x) t == 1) (sole_shows h.sole) (eq-eqb (how_many (at declares_const x) t) 1 h.once)

  -- a fixed name
  pub fixed_sole : fixed (facts t) x ≡ true → Sole t x
  fixed_sole e = by (or_cases ((facts t).steady x) ((facts t).constant x) e)
    where
      by : ((facts t).steady x ≡ true) ⊎ ((facts t).constant x ≡ true) → Sole t x
      by (inl f) = (steady_says f).sole
      by (inr f) = (constant_says f).sole

  -- whether a declaration of `let` or `const` declares it
  abbrev pub lexical : Bool
  lexical = not (how_many (at declares_lexical x) t == 0)

  pub is_lexical : 1 ≤ how_many (at declares_lexical x) t → lexical ≡ true
  is_lexical h = by (how_many (at declares_lexical x) t == 0) refl
    where
      by : (b : Bool) → (how_many (at declares_lexical x) t == 0) ≡ b → not b ≡ true
      by false e = refl
      by true e = absurd (omega (arith, h, eqb-true (how_many (at declares_lexical x) t) 0 e))

  pub not_lexical : how_many (at declares_lexical x) t ≡ 0 → lexical ≡ false
  not_lexical h = ap not (eq-eqb (how_many (at declares_lexical x) t) 0 h)

  pub none_lexical : lexical ≡ false → how_many (at declares_lexical x) t ≡ 0
  none_lexical e = by (how_many (at declares_lexical x) t == 0) refl e
    where
      by : (b : Bool) → (how_many (at declares_lexical x) t == 0) ≡ b → not b ≡ false → how_many (at declares_lexical x) t ≡ 0
      by true i f = eqb-true (how_many (at declares_lexical x) t) 0 i
      by false i f = absurd (true≢false f)

  -- nodes that no steady, or no fixed, name has

  pub written_unsteady : 1 ≤ how_many (at writes x) t → (facts t).steady x ≡ false
  written_unsteady h = false_from_ne_true ((facts t).steady x) (λ e. omega (arith, h, (steady_says e).unwritten))

  pub let_no_constant : 1 ≤ how_many (at declares_let x) t → (facts t).constant x ≡ false
  let_no_constant h = false_from_ne_true ((facts t).constant x) (λ e. omega (arith, h, (constant_says e).once, (constant_says e).sole.once, of_lexical x t, with_variables x t))

  pub variable_unfixed : 1 ≤ how_many (at declares_variable x) t → fixed (facts t) x ≡ false
  variable_unfixed h = or_from ((facts t).steady x) ((facts t).constant x) (false_from_ne_true ((facts t).steady x) (λ e. omega (arith, h, (steady_says e).no_variable)))
      (false_from_ne_true ((facts t).constant x) (λ e. omega (arith, h, (constant_says e).once, (constant_says e).sole.once, of_lexical x t, with_variables x t)))

  pub import_unfixed : 1 ≤ how_many (at imports x) t → fixed (facts t) x ≡ false
  import_unfixed h = or_from ((facts t).steady x) ((facts t).constant x) (false_from_ne_true ((facts t).steady x) (λ e. omega (arith, h, (steady_says e).no_import)))
      (false_from_ne_true ((facts t).constant x) (λ e. omega (arith, h, (constant_says e).once, (constant_says e).sole.once, of_lexical x t, with_imports x t)))

  pub other_other : 1 ≤ how_many (at declares_other x) t → fixed (facts t) x ≡ true → lexical ≡ false
  other_other h e = not_lexical (omega (arith, h, (fixed_sole e).once, with_others x t))

  -- nodes that no variable has which stays as it is

  pub written_moves : 1 ≤ how_many (at writes x) t → (facts t).variable x ≡ false
  written_moves h = false_from_ne_true ((facts t).variable x) (λ e. omega (arith, h, (still_says e).unwritten))

  pub lexical_moves : 1 ≤ how_many (at declares_lexical x) t → (facts t).variable x ≡ false
  lexical_moves h = false_from_ne_true ((facts t).variable x) (λ e. omega (arith, h, (still_says e).once, (still_says e).sole.once, with_variables x t))

  pub import_moves : 1 ≤ how_many (at imports x) t → (facts t).variable x ≡ false
  import_moves h = false_from_ne_true ((facts t).variable x) (λ e. omega (arith, h, (still_says e).once, (still_says e).sole.once, beside_imports x t))

  pub other_moves : 1 ≤ how_many (at declares_other x) t → (facts t).variable x ≡ false
  other_moves h = false_from_ne_true ((facts t).variable x) (λ e. omega (arith, h, (still_says e).once, (still_says e).sole.once, beside_others x t))

  -- a variable is not fixed
  pub variable_moves : (facts t).variable x ≡ true → fixed (facts t) x ≡ false
  variable_moves e = variable_unfixed (omega (arith, (still_says e).once))

  pub settles_sole : (p : Pass) → may_settle p (facts t) p x ≡ true → Still t x
  settles_sole constants e = absurd (false≢true e)
  settles_sole inlines e = still_says e

  pub unsettled : (p : Pass) → (facts t).variable x ≡ false → may_settle p (facts t) p x ≡ false
  unsettled constants e = refl
  unsettled inlines e = e

  pub constant_lexical : (facts t).constant x ≡ true → lexical ≡ true
  constant_lexical e = is_lexical (omega (arith, (constant_says e).once, of_lexical x t))

  -- what may be carried
  pub carried_sole : (p : Pass) → may_carry p (facts t) x ≡ true → Sole t x
  carried_sole constants e = (constant_says e).sole
  carried_sole inlines e = (steady_says e).sole

  pub unfixed_carries_none : (p : Pass) → fixed (facts t) x ≡ false → may_carry p (facts t) x ≡ false
  unfixed_carries_none constants e = false_from_ne_true ((facts t).constant x) (λ c. true≢false (sym (by c) ∙ e))
    where
      by : (facts t).constant x ≡ true → fixed (facts t) x ≡ true
      by c = or_right ((facts t).steady x) ((facts t).constant x) c
  unfixed_carries_none inlines e = false_from_ne_true ((facts t).steady x) (λ c. true≢false (sym (or_left ((facts t).steady x) ((facts t).constant x) c) ∙ e))

pub default_free : (t : Tree) → fixed (facts t) default_name ≡ false
default_free t = false_from_ne_true (fixed (facts t) default_name) (λ e. true≢false (sym (same_name_itself default_name) ∙ (fixed_sole t default_name e).not_default))

pub default_moves : (t : Tree) → (facts t).variable default_name ≡ false
default_moves t = false_from_ne_true ((facts t).variable default_name) (λ e. true≢false (sym (same_name_itself default_name) ∙ (still_says t default_name e).sole.not_default))
