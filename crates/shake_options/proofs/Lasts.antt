-- Where a byte stands last in a text.
use Rattle.std.proofs.Common.{◌≡◌, ℕ, zero, suc, ◌+◌, ◌-◌, ◌≤◌, ◌<◌, List, Option, length, get_or, take, drop, Some, None, MatchOption, refl, sym, ap, ◌∙◌, ⊎_elim, arith, Bor, eq-eqb, ne_eqb, length-drop, get_or-drop}
use Rattle.std.specs.Option.{option_map}
use Rattle.std.specs.Path.{rfind_below, rsplit_once}
use Rattle.std.specs.Str.Pattern.{RFindsChar}
use Rattle.std.proofs.lemmas.Str.Pattern.{NoCharPasses-char}
use Rattle.std.proofs.lemmas.Bool.{cases_eq, cond-true, cond-false}
use Rattle.std.proofs.lemmas.Str.{len_utf8_ascii}
use Rattle.shake_options.specs.Flags.{text_pair}

-- it stands nowhere
lacking : (c : ℕ) (text : List ℕ) (n : ℕ) → ((i : ℕ) → i < n → get_or text i 0 ≡ c → ⊥) → rfind_below c text n ≡ None
lacking c text zero none = refl
lacking c text (suc n) none = cond-false _ _ _ (ne_eqb _ c (none n (omega arith))) ∙ lacking c text n (λ i l. none i (omega arith))

-- it stands at a place and at none behind that
standing : (c : ℕ) (text : List ℕ) (k n : ℕ) → k < n → get_or text k 0 ≡ c → ((i : ℕ) → k < i → i < n → get_or text i 0 ≡ c → ⊥) → rfind_below c text n ≡ Some k
standing c text k zero l e none = absurd (omega arith)
standing c text k (suc n) l e none =
    ⊎_elim (λ here. cond-true _ _ _ (eq-eqb _ c (ap (λ i. get_or text i 0) (sym here) ∙ e)) ∙ ap Some (sym here))
    (λ below. cond-false _ _ _ (ne_eqb _ c (none n (omega arith) (omega arith))) ∙ standing c text k n (omega arith) e (λ i a b. none i a (omega arith)))
    (cases_eq k n)

-- a text is split where the byte stands last
pub split_at_last : (c : ℕ) (text : List ℕ) (r : Option (Bor (List ℕ) × Bor (List ℕ)))
    → MatchOption r (RFindsChar c text None) (λ x. (i : ℕ) × (j : ℕ) × RFindsChar c text (Some (i, j)) × (x.0.now ≡ take i text) × (x.1.now ≡ drop j text) × (i ≤ j) × (length x.0.now ≡ i) × (length x.1.now + j ≡ length text))
    → c < 128 → option_map text_pair r ≡ rsplit_once c text
unfolding rsplit_once
split_at_last c text None h low = sym (ap (option_map (λ i. (take i text, drop (i + 1) text))) (lacking c text (length text) (λ i. NoCharPasses-char c text i h low)))
split_at_last c text (Some x) h low =
    let i = h.0 in
    let j = h.1 in
    let next : j ≡ i + 1 = omega (arith, h.2.1.ends, len_utf8_ascii c low) in
    let later : (k : ℕ) → i < k → k < length text → get_or text k 0 ≡ c → ⊥ = λ k a l e.
    let back : j + (k - j) ≡ k = omega arith in
    NoCharPasses-char c (drop j text) (k - j) h.2.0 low (omega (arith, length-drop j text)) (get_or-drop j text (k - j) 0 ∙ ap (λ n. get_or text n 0) back ∙ e) in
    let found = standing c text i (length text) (omega (arith, h.7)) (h.2.1.byte low) later in
    let second = h.4 ∙ ap (λ n. drop n text) next in
    (λ t. Some (h.3 t, second t)) ∙ sym (ap (option_map (λ k. (take k text, drop (k + 1) text))) found)
