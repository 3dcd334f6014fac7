-- Laws of refinement.
use Rattle.std.proofs.Common.{refl, sym, ap, subst}
use Rattle.swc_ast.specs.Value.{State, Outcome, Done, Jumps, Outside, Cut, Run, and_then}
use Rattle.swc_ast.specs.Meaning.{◌>>=◌, leaves}
use Rattle.meaning_proofs.specs.Exact.{Refined, Refines}
use Rattle.swc_utils.specs.Holds.{Quiet, Keeps}

refined_same : {A : Type 0} (r : Outcome A) → Refined r r
refined_same (Done a s) = refl
refined_same (Jumps j s) = refl
refined_same Outside = tt
refined_same Cut = tt

pub refines_same : {A : Type 0} (m : Run A) → Refines m m
refines_same m = record { by = λ s. refined_same (m s) }

module _ {A B : Type 0} where
  refined_then : (r q : Outcome A) (k h : A → Run B) → Refined r q → ((a : A) → Refines (k a) (h a)) → Refined (and_then r k) (and_then q h)
  unfolding and_then
  refined_then (Done a s) q k h e next = subst (λ x. Refined (k a s) (and_then x h)) (sym e) ((next a).by s)
  refined_then (Jumps j s) q k h e next = ap (λ x. and_then x h) e
  refined_then Outside q k h e next = tt
  refined_then Cut q k h e next = tt

  pub refines_then : {m n : Run A} {k h : A → Run B} → Refines m n → ((a : A) → Refines (k a) (h a)) → Refines (m >>= k) (n >>= h)
  refines_then {m} {n} {k} {h} e next = record { by = λ s. refined_then (m s) (n s) k h (e.by s) next }

  refined_drop : (P : A → Type 0) (s : State) (r : Outcome A) (k : A → Run B) (h : Run B) → Quiet P s r → ((a : A) → P a → Refines (k a) h) → Refined (and_then r k) (h s)
  unfolding and_then
  refined_drop P s (Done a t) k h q next = subst (λ x. Refined (k a x) (h s)) (sym q.0) ((next a q.1).by s)
  refined_drop P s (Jumps j t) k h q next = absurd q
  refined_drop P s Outside k h q next = tt
  refined_drop P s Cut k h q next = tt

  -- a part that changes nothing goes
  pub refines_drop : {P : A → Type 0} {m : Run A} {k : A → Run B} {h : Run B} → Keeps P m → ((a : A) → P a → Refines (k a) h) → Refines (m >>= k) h
  refines_drop {P} {m} {k} {h} q next = record { by = λ s. refined_drop P s (m s) k h (q.by s) next }

refined_trans : {A : Type 0} (p q r : Outcome A) → Refined p q → Refined q r → Refined p r
refined_trans (Done a s) q r h i = subst (λ x. Refined x r) h i
refined_trans (Jumps j s) q r h i = subst (λ x. Refined x r) h i
refined_trans Outside q r h i = tt
refined_trans Cut q r h i = tt

pub refines_trans : {A : Type 0} {l m n : Run A} → Refines l m → Refines m n → Refines l n
refines_trans {l} {m} {n} h i = record { by = λ s. refined_trans (l s) (m s) (n s) (h.by s) (i.by s) }

refined_assoc : {A B C : Type 0} (r : Outcome A) (k : A → Run B) (h : B → Run C) → Refined (and_then (and_then r k) h) (and_then r (λ a s. and_then (k a s) h))
unfolding and_then
refined_assoc (Done a s) k h = refined_same (and_then (k a s) h)
refined_assoc (Jumps j s) k h = refl
refined_assoc Outside k h = tt
refined_assoc Cut k h = tt

-- what follows `m >>= k`, told in one chain
pub refines_assoc : {A B C : Type 0} (m : Run A) (k : A → Run B) (h : B → Run C) {n : Run C} → Refines (m >>= λ a. k a >>= h) n → Refines ((m >>= k) >>= h) n
refines_assoc m k h {n} i = record { by = λ s. refined_trans _ _ _ (refined_assoc (m s) k h) (i.by s) }

refined_chain : {A B C : Type 0} (r : Outcome A) (k : A → Run B) (h : B → Run C) → Refined (and_then r (λ a s. and_then (k a s) h)) (and_then (and_then r k) h)
unfolding and_then
refined_chain (Done a s) k h = refined_same (and_then (k a s) h)
refined_chain (Jumps j s) k h = refl
refined_chain Outside k h = tt
refined_chain Cut k h = tt

pub refines_chain : {A B C : Type 0} (m : Run A) (k : A → Run B) (h : B → Run C) {n : Run C} → Refines n (m >>= λ a. k a >>= h) → Refines n ((m >>= k) >>= h)
refines_chain m k h {n} i = record { by = λ s. refined_trans _ _ _ (i.by s) (refined_chain (m s) k h) }

-- a part that leaves the core has no demands
pub refines_leaves : {A : Type 0} {k : Run A} → Refines leaves k
refines_leaves = record { by = λ s. tt }
