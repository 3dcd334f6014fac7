-- What a binary search finds among rising names is the place of a name.
use Rattle.std.proofs.Common.{◌≡◌, ℕ, zero, suc, ◌+◌, ◌<◌, ◌≤◌, inl, inr, Bool, true, false, not, cond, List, [], ◌∷◌, length, take, drop, ◌-◌, length-drop, get_or, position, Some, None, Result, Ok, Err, refl, sym, ap, ◌∙◌, bytes_eq, arith}
use Rattle.std.proofs.lemmas.Bool.{cases_lt}
use Rattle.std.specs.Result.{result_ok}
use Rattle.std.specs.List.{prefix_len}
use Rattle.std.specs.List.Sorted.{IsSearchInRange, IsBinarySearchResult, IsSortedBy}
use Rattle.std.specs.Ordering.{is_eq, is_lt, nat_cmp, ordering_reverse}
use Rattle.std.specs.Cmp.{alike_right, tied_back}
use Rattle.std.specs.Cmp.Lexicographic.{slice_cmp, nat_list_cmp_total}
use Rattle.std.specs.declared.cmp.Ordering.TheVariants.{Less, Equal, Greater}
use Rattle.std.proofs.lemmas.List.Sorted.{searchable_from_sorted}
use Rattle.std.proofs.lemmas.Map.Text.{is_eq-slice_cmp}

-- the first place at which a test passes

module _ {X : Type 0} (p : X → Bool) where
  prefix_to : (xs : List X) (i : ℕ) → i ≤ length xs → ((j : ℕ) (d : X) → j < i → p (get_or xs j d) ≡ false) → ((d : X) → i < length xs → p (get_or xs i d) ≡ true) → prefix_len (λ x. not (p x)) xs ≡ i
  prefix_to [] i le none there = omega (arith, le)
  prefix_to (x ∷ xs) zero le none there = ap (λ b. cond (not b) (1 + prefix_len (λ y. not (p y)) xs) 0) (there x (omega arith))
  prefix_to (x ∷ xs) (suc i) le none there =
      ap (λ b. cond (not b) (1 + prefix_len (λ y. not (p y)) xs) 0) (none 0 x (omega arith))
      ∙ ap (λ n. 1 + n) (prefix_to xs i (omega (arith, le)) (λ j d h. none (suc j) d (omega (arith, h))) (λ d h. there d (omega (arith, h))))
      ∙ omega arith

  pub position_at : (xs : List X) (i : ℕ) → i < length xs → ((j : ℕ) (d : X) → j < i → p (get_or xs j d) ≡ false) → ((d : X) → p (get_or xs i d) ≡ true) → position p xs ≡ Some i
  position_at xs i h none there = grind (arith, h, prefix_to xs i (omega (arith, h)) none (λ d q. there d))

  pub position_nowhere : (xs : List X) → ((j : ℕ) (d : X) → j < length xs → p (get_or xs j d) ≡ false) → position p xs ≡ None
  position_nowhere xs none = grind (arith, prefix_to xs (length xs) (omega arith) none (λ d h. absurd (omega (arith, h))))

-- texts

turned_less : (t u : List ℕ) → slice_cmp nat_cmp t u ≡ Less → slice_cmp nat_cmp u t ≡ Greater
turned_less t u e = nat_list_cmp_total.antisymm u t ∙ ap ordering_reverse e

differs_less : (t u : List ℕ) → slice_cmp nat_cmp u t ≡ Less → bytes_eq t u ≡ false
differs_less t u e = sym (is_eq-slice_cmp t u) ∙ ap is_eq (turned_less u t e)

differs_greater : (t u : List ℕ) → slice_cmp nat_cmp u t ≡ Greater → bytes_eq t u ≡ false
differs_greater t u e = sym (is_eq-slice_cmp t u) ∙ ap is_eq (nat_list_cmp_total.antisymm t u ∙ ap ordering_reverse e)

same_equal : (t u : List ℕ) → slice_cmp nat_cmp u t ≡ Equal → bytes_eq t u ≡ true
same_equal t u e = sym (is_eq-slice_cmp t u) ∙ ap is_eq (tied_back nat_list_cmp_total u t e)

module _ {X : Type 0} (name : X → List ℕ) (xs : List X) (rising : (i j : ℕ) (d : X) → i < j → j < length xs → slice_cmp nat_cmp (name (get_or xs i d)) (name (get_or xs j d)) ≡ Less) (t : List ℕ) where
  rise : IsSortedBy (λ a b. is_lt (slice_cmp nat_cmp (name a) (name b))) xs
  rise k d low high = ap is_lt (turned_less (name (get_or xs k d)) (name (get_or xs (k + 1) d)) (rising k (k + 1) d (omega arith) high))

  pub placed : (r : Result ℕ ℕ) → IsSearchInRange r (length xs) → IsBinarySearchResult (λ x. slice_cmp nat_cmp (name x) t) xs r → result_ok r ≡ position (λ x. bytes_eq t (name x)) xs
  placed (Ok i) in_range equal = sym (position_at (λ x. bytes_eq t (name x)) xs i in_range (λ j d h. differs_less t (name (get_or xs j d)) (sym (alike_right nat_list_cmp_total (name (get_or xs i d)) t (name (get_or xs j d)) (equal d)) ∙ rising j i d h in_range)) (λ d. same_equal t (name (get_or xs i d)) (equal d)))
  placed (Err i) in_range parted =
      let both = parted (searchable_from_sorted nat_list_cmp_total name xs t rise) in
      sym (position_nowhere (λ x. bytes_eq t (name x)) xs (λ j d h. elim (cases_lt j i) [
        | inl low ↦ differs_less t (name (get_or xs j d)) (both.0 j d (omega arith) low)
        | inr high ↦ differs_greater t (name (get_or xs j d)) (both.1 j d high h)
      ]))

take_whole : {X : Type 0} (xs : List X) → take (length xs) xs ≡ xs
take_whole [] = refl
take_whole (x ∷ xs) = ap (λ ys. x ∷ ys) (take_whole xs)

-- the rest of a list, as a slice of it is
pub rest_of : {X : Type 0} (xs ds : List X) (n : ℕ) → ds ≡ xs → take (length ds - n) (drop n ds) ≡ drop n xs
rest_of xs ds n e = ap (λ ys. take (length ys - n) (drop n ys)) e ∙ ap (λ m. take m (drop n xs)) (sym (length-drop n xs)) ∙ take_whole (drop n xs)
