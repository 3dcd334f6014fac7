-- What is met is given by a number: what holds of all such numbers holds of those that are met.
use Rattle.std.proofs.Common.{◌≡◌, ℕ, Bool, true, false, ◌&&◌, if◌then◌else◌, List, [], ◌∷◌, ◌++◌, refl, ap, ◌∙◌}
use Rattle.std.proofs.lemmas.Bool.{and_parts}
use Rattle.swc_ast.specs.Tree.{Label, CallEval, CallDot, CallIndex, Tree, node, Forest, ε, ◌⊳◌}
use Rattle.swc_pass.specs.Given.{Found, nothing, a_value, a_plain, Answers}
use Rattle.given_rules.specs.Met.{joined, is_closed, met_behind, met_open, met_at, own_found, met, met_each, covers}
use Rattle.given_rules.proofs.Covered.{covers_both}

module _ (has : ℕ → Bool) where
  pub covers_append : (is js : List ℕ) → covers has is ≡ true → covers has js ≡ true → covers has (is ++ js) ≡ true
  covers_append [] js c d = d
  covers_append (i ∷ is) js c d = let p = and_parts (has i) (covers has is) c in ap (λ b. b && covers has (is ++ js)) p.0 ∙ covers_append is js p.1 d

  behind_covers : (l : Label) (ms : List (List ℕ)) → covers has (joined ms) ≡ true → covers has (met_behind l ms) ≡ true
  behind_covers (CallDot k) [] c = refl
  behind_covers (CallDot k) (m ∷ ms) c = (covers_both has m (joined ms) c).1
  behind_covers CallIndex [] c = refl
  behind_covers CallIndex (m ∷ []) c = refl
  behind_covers CallIndex (m ∷ j ∷ ms) c = (covers_both has j (joined ms) (covers_both has m (j ++ joined ms) c).1).1
  behind_covers (CallEval x) ms c = c
  behind_covers l ms c = refl

  open_covers : (l : Label) (f : Found) (ms : List (List ℕ)) → ((i : ℕ) → f ≡ a_value i → has i ≡ true) → covers has (joined ms) ≡ true → covers has (met_open l f ms) ≡ true
  open_covers l nothing ms n c = c
  open_covers l (a_value i) ms n c = ap (λ b. b && covers has (met_behind l ms)) (n i refl) ∙ behind_covers l ms c
  open_covers l (a_plain t) ms n c = behind_covers l ms c

  at_covers : (l : Label) (f : Found) (ms : List (List ℕ)) → ((i : ℕ) → f ≡ a_value i → has i ≡ true) → covers has (joined ms) ≡ true → covers has (met_at l f ms) ≡ true
  at_covers l f ms n c = by_closed (is_closed l)
    where
      by_closed : (b : Bool) → covers has (if b then [] else met_open l f ms) ≡ true
      by_closed true = refl
      by_closed false = open_covers l f ms n c

  module _ (a : Answers) (known : (l : Label) (cs : Forest) (i : ℕ) → own_found a l cs ≡ a_value i → has i ≡ true) where
    mutual
      pub all_covered : (t : Tree) → covers has (met a t) ≡ true
      all_covered (node l ss cs) = at_covers l (own_found a l cs) (met_each a cs) (known l cs) (each_covered cs)

      pub each_covered : (ts : Forest) → covers has (joined (met_each a ts)) ≡ true
      each_covered ε = refl
      each_covered (t ⊳ ts) = covers_append (met a t) (joined (met_each a ts)) (all_covered t) (each_covered ts)
