-- Each combinator of runs takes related parts to related wholes.
use Rattle.std.proofs.Common.{◌≡◌, Bool, true, false, Option, refl, subst, if◌then◌else◌}
use Rattle.swc_ast.specs.Value.{Jump, Outcome, Run, and_then}
use Rattle.swc_ast.specs.Meaning.{◌>>=◌, gives, leaves, jumps, throws_type_error, in_core}
use Rattle.rename_proofs.proofs.Relation.{Pairing, Maybe, neither, both, J, Sim, done, jump, outside, cut, Ran, thrown, type_error}

abbrev pub Eq : {A : Type 0} → A → A → Type 0
Eq a b = a ≡ b

module _ {P : Pairing} {A : Type 0} {RA : A → A → Type 0} where
  pub gives_sim : {a b : A} → RA a b → Ran P RA (gives a) (gives b)
  gives_sim r = λ s t h. done r h

  pub leaves_sim : (m : Run A) → Ran P RA leaves m
  leaves_sim m = λ s t h. outside (m t)

  pub jumps_sim : {j k : Jump} → J P j k → Ran P RA (jumps j) (jumps k)
  jumps_sim r = λ s t h. jump r h

  pub type_error_sim : Ran P RA throws_type_error throws_type_error
  type_error_sim = λ s t h. jump (thrown type_error) h

  if_same : (b : Bool) (m n x y : Run A) → Ran P RA m x → Ran P RA n y → Ran P RA (if b then m else n) (if b then x else y)
  if_same true m n x y hm hn = hm
  if_same false m n x y hm hn = hn

  pub if_sim : {b d : Bool} {m n x y : Run A} → b ≡ d → Ran P RA m x → Ran P RA n y → Ran P RA (if b then m else n) (if d then x else y)
  if_sim {b} {m} {n} {x} {y} e hm hn = subst (λ d. Ran P RA (if b then m else n) (if d then x else y)) e (if_same b m n x y hm hn)

  -- a test that both sides answer alike; each branch may use the answer
  if_when_same : (b : Bool) (m n x y : Run A) → (b ≡ true → Ran P RA m x) → (b ≡ false → Ran P RA n y) → Ran P RA (if b then m else n) (if b then x else y)
  if_when_same true m n x y hm hn = hm refl
  if_when_same false m n x y hm hn = hn refl

  pub if_when : {b d : Bool} {m n x y : Run A} → b ≡ d → (b ≡ true → Ran P RA m x) → (b ≡ false → Ran P RA n y) → Ran P RA (if b then m else n) (if d then x else y)
  if_when {b} {m} {n} {x} {y} e hm hn = subst (λ d. Ran P RA (if b then m else n) (if d then x else y)) e (if_when_same b m n x y hm hn)

  pub in_core_sim : {o p : Option A} → Maybe RA o p → Ran P RA (in_core o) (in_core p)
  in_core_sim neither = leaves_sim leaves
  in_core_sim (both r) = gives_sim r

  -- `after` goes on after an outcome
  pub and_then_sim : {B : Type 0} {RB : B → B → Type 0} {o p : Outcome A} {k l : A → Run B} → Sim P RA o p → ((a b : A) → RA a b → Ran P RB (k a) (l b)) → Sim P RB (and_then o k) (and_then p l)
  unfolding and_then
  and_then_sim (done {a} {b} {s} {t} r h) hk = hk a b r s t h
  and_then_sim (jump r h) hk = jump r h
  and_then_sim (outside o) hk = outside _
  and_then_sim (cut o) hk = cut _

  pub bind : {B : Type 0} {RB : B → B → Type 0} {m n : Run A} {k l : A → Run B} → Ran P RA m n → ((a b : A) → RA a b → Ran P RB (k a) (l b)) → Ran P RB (m >>= k) (n >>= l)
  bind hm hk = λ s t h. and_then_sim (hm s t h) hk
