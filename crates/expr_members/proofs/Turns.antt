-- A loop over items that adds for each what a function gives of it.
use Rattle.std.proofs.Common.{◌≡◌, List, [], ◌∷◌, ◌++◌, length, refl, sym, ap, ◌∙◌, append_assoc, arith}
use Rattle.std.specs.Vec.Iter.{into_iter_items, into_iter_len}
use Rattle.std.specs.declared.vec.IntoIter.{IntoIter}
use Rattle.swc_ast.specs.Tree.{Forest, ε}
use Rattle.swc_ast.specs.Scope.{joined}
use Rattle.swc_utils.proofs.Chains.{joined_none, joined_assoc}

-- trees
pub trees_on : {X : Type 0} (f : List X → Forest) (cons : (x : X) (xs : List X) → f (x ∷ xs) ≡ joined (f (x ∷ [])) (f xs)) (a d : Forest) (x : X) (xs ys : List X) {g : Forest} → ys ≡ x ∷ xs → d ≡ joined a (f (x ∷ [])) → joined a (f ys) ≡ g → joined d (f xs) ≡ g
trees_on f cons a d x xs ys at is h = ap (λ e. joined e (f xs)) is ∙ joined_assoc a (f (x ∷ [])) (f xs) ∙ sym (ap (joined a) (ap f at ∙ cons x xs)) ∙ h

-- other parts
pub parts_on : {X A : Type 0} (f : List X → List A) (cons : (x : X) (xs : List X) → f (x ∷ xs) ≡ f (x ∷ []) ++ f xs) (a d : List A) (x : X) (xs ys : List X) {g : List A} → ys ≡ x ∷ xs → d ≡ a ++ f (x ∷ []) → a ++ f ys ≡ g → d ++ f xs ≡ g
parts_on f cons a d x xs ys at is h = ap (λ e. e ++ f xs) is ∙ append_assoc a (f (x ∷ [])) (f xs) ∙ sym (ap (λ e. a ++ e) (ap f at ∙ cons x xs)) ∙ h

none_of : {X : Type 0} (xs : List X) → length xs ≡ 0 → xs ≡ []
none_of [] h = refl
none_of (x ∷ xs) h = absurd (omega (arith, h))

-- an iterator that has no items left
pub spent : {X Z : Type 0} (it : IntoIter X Z) → into_iter_len it ≡ 0 → into_iter_items it ≡ []
spent it h = none_of (into_iter_items it) (sym it.rest.ok.0 ∙ h)

pub trees_end : {X Z : Type 0} (f : List X → Forest) → f [] ≡ ε → (a : Forest) (it : IntoIter X Z) {g : Forest} → into_iter_len it ≡ 0 → joined a (f (into_iter_items it)) ≡ g → a ≡ g
trees_end f none a it h is = sym (joined_none a) ∙ ap (joined a) (sym none ∙ sym (ap f (spent it h))) ∙ is
