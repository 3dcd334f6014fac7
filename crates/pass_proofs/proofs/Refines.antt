-- More laws of refinement.
use Rattle.std.proofs.Common.{◌≡◌, refl, sym, ap₂, subst, ◌∙◌}
use Rattle.swc_ast.specs.Value.{State, Outcome, Done, Jumps, Outside, Cut, Run, and_then}
use Rattle.swc_ast.specs.Meaning.{◌>>=◌, gives}
use Rattle.meaning_proofs.specs.Exact.{Refined, Refines}
use Rattle.swc_utils.specs.Holds.{Quiet, Where, Keeps, Yields}
use Rattle.swc_utils.proofs.Refines.{refines_same}

pub refines_path : {A : Type 0} {m k : Run A} → m ≡ k → Refines m k
refines_path {m} e = subst (Refines m) e (refines_same m)

module _ {A B : Type 0} where
  refined_where : (P : A → Type 0) (r : Outcome A) (k h : A → Run B) → Where P r → ((a : A) → P a → Refines (k a) (h a)) → Refined (and_then r k) (and_then r h)
  unfolding and_then
  refined_where P (Done a s) k h w next = (next a w).by s
  refined_where P (Jumps j s) k h w next = refl
  refined_where P Outside k h w next = tt
  refined_where P Cut k h w next = tt

  -- what follows may use what is known of the value
  pub refines_where : {P : A → Type 0} {m : Run A} {k h : A → Run B} → Yields P m → ((a : A) → P a → Refines (k a) (h a)) → Refines (m >>= k) (m >>= h)
  refines_where {P} {m} {k} {h} w next = record { by = λ s. refined_where P (m s) k h (w.by s) next }

-- the value itself goes on
module _ {A : Type 0} where
  refined_end : (P : A → Type 0) (r : Outcome A) (k : A → Run A) → Where P r → ((a : A) → P a → Refines (k a) (gives a)) → Refined (and_then r k) r
  unfolding and_then
  refined_end P (Done a s) k w next = (next a w).by s
  refined_end P (Jumps j s) k w next = refl
  refined_end P Outside k w next = tt
  refined_end P Cut k w next = tt

  pub refines_end : {P : A → Type 0} {m : Run A} {k : A → Run A} → Yields P m → ((a : A) → P a → Refines (k a) (gives a)) → Refines (m >>= k) m
  refines_end {P} {m} {k} w next = record { by = λ s. refined_end P (m s) k (w.by s) next }

known_end : {A : Type 0} (w : A) (s : State) (r q : Outcome A) → Quiet (λ a. a ≡ w) s r → q ≡ Done w s → Refined r q
known_end w s (Done a t) q h e = e ∙ ap₂ Done (sym h.1) (sym h.0)
known_end w s (Jumps j t) q h e = absurd h
known_end w s Outside q h e = tt
known_end w s Cut q h e = tt

-- a part that changes nothing and gives one value
pub refines_end_in : {A : Type 0} {m k : Run A} (w : A) → Keeps (λ a. a ≡ w) m → ((s : State) → k s ≡ Done w s) → Refines m k
refines_end_in {m} {k} w h i = record { by = λ s. known_end w s (m s) (k s) (h.by s) (i s) }
