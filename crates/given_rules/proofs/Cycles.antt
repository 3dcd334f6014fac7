-- Where all values that are met are walked, none is met while it is walked.
use Rattle.std.proofs.Common.{◌≡◌, ℕ, Bool, true, false, ◌&&◌, ◌||◌, ◌==◌, if◌then◌else◌, List, [], ◌∷◌, Some, is_some, eqb-true, refl, ap, subst, ◌∙◌}
use Rattle.std.proofs.lemmas.Bool.{and_parts, false≢true}
use Rattle.swc_ast.specs.Tree.{Tree}
use Rattle.swc_pass.specs.Given.{Answers, value_at}
use Rattle.given_rules.specs.Met.{met, covers}
use Rattle.tree_put.specs.declared.rules.Spot.{Spot}
use Rattle.given_rules.specs.Worked.{Finals, final, has_final, Worked, one_worked}
use Rattle.given_rules.specs.Cycles.{is_among, Leads, meets, through, Cycle}

first_has : (has : ℕ → Bool) (i j : ℕ) (b c : Bool) → (j == i) ≡ b → has j ≡ true → (c ≡ true → has i ≡ true) → (b || c) ≡ true → has i ≡ true
first_has has i j true c e h k m = subst (λ n. has n ≡ true) (eqb-true j i e) h
first_has has i j false c e h k m = k m

among_has : (has : ℕ → Bool) (i : ℕ) (js : List ℕ) → covers has js ≡ true → is_among i js ≡ true → has i ≡ true
among_has has i [] c m = absurd (false≢true m)
among_has has i (j ∷ js) c m =
    let p = and_parts (has j) (covers has js) c in
    first_has has i j (j == i) (is_among i js) refl p.0 (λ n. among_has has i js p.1 n) m

-- more values cover more
more_has : (i : ℕ) (v : Tree) (fs : Finals) (j : ℕ) → has_final fs j ≡ true → has_final ((i, v) ∷ fs) j ≡ true
more_has i v fs j h = by_same (i == j)
  where
    by_same : (b : Bool) → is_some (if b then Some v else final j fs) ≡ true
    by_same true = refl
    by_same false = h

more_covers : (i : ℕ) (v : Tree) (fs : Finals) (js : List ℕ) → covers (has_final fs) js ≡ true → covers (has_final ((i, v) ∷ fs)) js ≡ true
more_covers i v fs [] c = refl
more_covers i v fs (j ∷ js) c =
    let p = and_parts (has_final fs j) (covers (has_final fs) js) c in
    ap (λ b. b && covers (has_final ((i, v) ∷ fs)) js) (more_has i v fs j p.0) ∙ more_covers i v fs js p.1

module _ {a : Answers} {shield : Spot → Tree → Tree} where
  value_covered : (fs : Finals) → Worked a shield fs → (j : ℕ) → has_final fs j ≡ true → covers (has_final fs) (met a (value_at a.values j)) ≡ true
  value_covered [] h j e = absurd (false≢true e)
  value_covered ((i, v) ∷ fs) (one_worked h c) j e =
      let r : has_final fs j ≡ true → covers (has_final fs) (met a (value_at a.values j)) ≡ true = value_covered fs h j in
      more_covers i v fs (met a (value_at a.values j)) (by_same (i == j) refl e r c)
    where
      by_same : (b : Bool) → (i == j) ≡ b → is_some (if b then Some v else final j fs) ≡ true → (has_final fs j ≡ true → covers (has_final fs) (met a (value_at a.values j)) ≡ true) → covers (has_final fs) (met a (value_at a.values i)) ≡ true → covers (has_final fs) (met a (value_at a.values j)) ≡ true
      by_same true q e r c = subst (λ k. covers (has_final fs) (met a (value_at a.values k)) ≡ true) (eqb-true i j q) c
      by_same false q e r c = r e

  -- what a tree leads to is walked
  led_has : (fs : Finals) → Worked a shield fs → {t : Tree} {j : ℕ} → covers (has_final fs) (met a t) ≡ true → Leads a t j → has_final fs j ≡ true
  led_has fs h {t} {j} c (meets m) = among_has (has_final fs) j (met a t) c m
  led_has fs h {t} c (through i m l) = led_has fs h (value_covered fs h i (among_has (has_final fs) i (met a t) c m)) l

  -- no walked value leads to itself
  none_again : (fs : Finals) → Worked a shield fs → (j : ℕ) → has_final fs j ≡ true → Leads a (value_at a.values j) j → ⊥
  none_again [] h j e l = false≢true e
  none_again ((i, v) ∷ fs) (one_worked h c) j e l =
      let r : has_final fs j ≡ true → ⊥ = λ f. none_again fs h j f l in
      by_same (i == j) refl e r c l
    where
      by_same : (b : Bool) → (i == j) ≡ b → is_some (if b then Some v else final j fs) ≡ true → (has_final fs j ≡ true → ⊥) → covers (has_final fs) (met a (value_at a.values i)) ≡ true → Leads a (value_at a.values j) j → ⊥
      by_same true q e r c l = r (led_has fs h (subst (λ k. covers (has_final fs) (met a (value_at a.values k)) ≡ true) (eqb-true i j q) c) l)
      by_same false q e r c l = r e

  pub no_cycle : (fs : Finals) → Worked a shield fs → (t : Tree) → covers (has_final fs) (met a t) ≡ true → (i : ℕ) → Cycle a t i → ⊥
  no_cycle fs h t c i y = none_again fs h i (led_has fs h c y.reached) y.again
