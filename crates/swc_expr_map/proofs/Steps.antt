-- What a first comparison and then another give.
use Rattle.std.proofs.Common.{◌≡◌, refl, sym, ap, ◌∙◌}
use mathlib.Core.Bool.{true≢false}
use Rattle.std.specs.Ordering.{ordering_then, ordering_reverse, is_eq, is_lt}
use Rattle.std.specs.declared.cmp.Ordering.{Ordering}
use Rattle.std.specs.declared.cmp.Ordering.TheVariants.{Less, Equal, Greater}

-- no two answers are one
pub less_unlevel : {A : Type 0} → Less ≡ Equal → A
less_unlevel e = absurd (true≢false (sym (ap is_eq e)))

pub greater_unlevel : {A : Type 0} → Greater ≡ Equal → A
greater_unlevel e = absurd (true≢false (sym (ap is_eq e)))

pub greater_unrises : {A : Type 0} → Greater ≡ Less → A
greater_unrises e = absurd (true≢false (sym (ap is_lt e)))

-- turned round
pub turned_then : (r s : Ordering) → ordering_reverse (ordering_then r s) ≡ ordering_then (ordering_reverse r) (ordering_reverse s)
turned_then Less s = refl
turned_then Equal s = refl
turned_then Greater s = refl

-- both are equal
pub first_equal : (r s : Ordering) → ordering_then r s ≡ Equal → r ≡ Equal
first_equal Less s e = e
first_equal Equal s e = refl
first_equal Greater s e = e

pub second_equal : (r s : Ordering) → ordering_then r s ≡ Equal → s ≡ Equal
second_equal Less s e = less_unlevel e
second_equal Equal s e = e
second_equal Greater s e = greater_unlevel e

-- What three comparisons of three things tell of one another: x with y, y with z, and x with z.
pub record Chained (r s t : Ordering) : Type 0 where
  pub rises : r ≡ Less → s ≡ Less → t ≡ Less
  pub first_level : r ≡ Equal → t ≡ s
  pub second_level : s ≡ Equal → t ≡ r

-- so do comparisons by one thing and then by another
then_rises : (r s t p q w : Ordering) → Chained r s t → Chained p q w → ordering_then r p ≡ Less → ordering_then s q ≡ Less → ordering_then t w ≡ Less
then_rises Less Less t p q w c d e f = ap (λ o. ordering_then o w) (c.rises refl refl)
then_rises Less Equal t p q w c d e f = ap (λ o. ordering_then o w) (c.second_level refl)
then_rises Less Greater t p q w c d e f = greater_unrises f
then_rises Equal Less t p q w c d e f = ap (λ o. ordering_then o w) (c.first_level refl)
then_rises Equal Equal t p q w c d e f = ap (λ o. ordering_then o w) (c.first_level refl) ∙ d.rises e f
then_rises Equal Greater t p q w c d e f = greater_unrises f
then_rises Greater s t p q w c d e f = greater_unrises e

pub then_chained : (r s t p q w : Ordering) → Chained r s t → Chained p q w → Chained (ordering_then r p) (ordering_then s q) (ordering_then t w)
then_chained r s t p q w c d = record {
  rises = then_rises r s t p q w c d;
  first_level = λ e. ap (λ o. ordering_then o w) (c.first_level (first_equal r p e)) ∙ ap (ordering_then s) (d.first_level (second_equal r p e));
  second_level = λ e. ap (λ o. ordering_then o w) (c.second_level (first_equal s q e)) ∙ ap (ordering_then r) (d.second_level (second_equal s q e));
}
