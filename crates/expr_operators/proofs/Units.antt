-- UTF-16 units of texts, character by character.
use Rattle.std.proofs.Common.{◌≡◌, ℕ, ◌<◌, false, List, [], ◌∷◌, ◌++◌, length, append_assoc, append-nil, refl, sym, ap, ◌∙◌, arith, encode_utf8}
use Rattle.std.proofs.lemmas.Str.{chars_past_char, chars-nil}
use Rattle.std.specs.Str.{IsUtf8, chars}
use Rattle.swc_ast.specs.Operators.{units_of, units_of_all, units, units_before}

pub none_behind : (xs ys : List ℕ) → length ys < 1 → false ≡ units_before xs ys
none_behind [] [] h = refl
none_behind (x ∷ xs) [] h = refl
none_behind xs (y ∷ ys) h = absurd (omega arith)

pub more_units : {goal : List ℕ} (us vs bs rest : List ℕ) (c : ℕ) → IsUtf8 bs → bs ≡ encode_utf8 c ++ rest → vs ≡ us ++ units_of c → us ++ units_of_all (chars bs) ≡ goal → vs ++ units_of_all (chars rest) ≡ goal
more_units us vs bs rest c u e is h =
    ap (λ xs. xs ++ units_of_all (chars rest)) is
    ∙ append_assoc us (units_of c) (units_of_all (chars rest))
    ∙ sym (ap (λ cs. us ++ units_of_all cs) (chars_past_char bs rest c u e))
    ∙ h

pub all_units : (us text rest : List ℕ) → length rest ≡ 0 → us ++ units_of_all (chars rest) ≡ units_of_all (chars text) → us ≡ units text
unfolding units
all_units us text [] h e = sym (append-nil us) ∙ sym (ap (λ cs. us ++ units_of_all cs) chars-nil) ∙ e
all_units us text (c ∷ rest) h e = absurd (omega arith)
