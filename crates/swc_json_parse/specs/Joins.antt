-- What is taken in two pieces is taken as one text.
use Rattle.std.specs.Prelude.{ℕ, ◌+◌, ◌≡◌, List, [], ◌++◌, length}
use Rattle.std.proofs.Common.{sym, ap, ◌∙◌, add_assoc, add-zero, append-nil, append_assoc}
use Rattle.std.proofs.lemmas.List.{length-append}

pub lengths_join : (a b c : ℕ) (xs ys : List ℕ) → b ≡ a + length xs → c ≡ b + length ys → c ≡ a + length (xs ++ ys)
lengths_join a b c xs ys first second = second ∙ ap (λ n. n + length ys) first ∙ add_assoc a (length xs) (length ys) ∙ ap (λ n. a + n) (sym (length-append xs ys))

pub texts_join : (a b c xs ys : List ℕ) → b ≡ a ++ xs → c ≡ b ++ ys → c ≡ a ++ (xs ++ ys)
texts_join a b c xs ys first second = second ∙ ap (λ s. s ++ ys) first ∙ append_assoc a xs ys

pub lengths_rest : (a : ℕ) → a ≡ a + length {A = ℕ} []
lengths_rest a = sym (add-zero a)

pub texts_rest : (a : List ℕ) → a ≡ a ++ []
texts_rest a = sym (append-nil a)
