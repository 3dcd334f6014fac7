-- Reading the words of a command line one after another.
use Rattle.std.proofs.Common.{◌≡◌, ℕ, true, false, List, [], ◌∷◌, Option, None, Some, map, refl, sym, subst, ◌∙◌}
use Rattle.shake_options.specs.CommandLine.{takes_operand, switched, valued, changed_by}
use Rattle.shake_options.specs.declared.options.Options.{Options}

-- an option that stands alone is taken
pub changed_by-switched : (word : List ℕ) (words : List (List ℕ)) (o p : Options) → takes_operand word ≡ false → switched word o ≡ Some p → changed_by (word ∷ words) o ≡ changed_by words p
changed_by-switched word [] o p alone is = simp (alone, is) refl
changed_by-switched word (next ∷ words) o p alone is = simp (alone, is) refl

-- an option is taken with its operand
pub changed_by-valued : (word next : List ℕ) (words : List (List ℕ)) (o p : Options) → takes_operand word ≡ true → valued word next o ≡ Some p → changed_by (word ∷ next ∷ words) o ≡ changed_by words p
changed_by-valued word next words o p takes is = simp (takes, is) refl

-- an operand is missing
pub changed_by-missing : (word : List ℕ) (o : Options) → takes_operand word ≡ true → changed_by (word ∷ []) o ≡ None
changed_by-missing word o takes = simp takes refl

-- the same over any items that stand for words, from what is left before to what is left behind
pub taken-valued : {X : Type 0} (f : X → List ℕ) (before middle after : List X) (w n : X) (o p : Options) (whole : Option Options) → before ≡ w ∷ middle → middle ≡ n ∷ after → takes_operand (f w) ≡ true → valued (f w) (f n) o ≡ Some p → changed_by (map f before) o ≡ whole → changed_by (map f after) p ≡ whole
taken-valued f before middle after w n o p whole first second takes is before-is =
    let at_word = subst (λ ws. changed_by (map f ws) o ≡ whole) first before-is in
    let at_operand = subst (λ ws. changed_by (f w ∷ map f ws) o ≡ whole) second at_word in
    sym (changed_by-valued (f w) (f n) (map f after) o p takes is) ∙ at_operand
