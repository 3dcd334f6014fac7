-- The weight of a list whose items were walked.
use Rattle.std.proofs.Common.{◌≡◌, ℕ, suc, ◌+◌, ◌*◌, ◌≤◌, ◌<◌, Bool, true, false, if◌then◌else◌, refl, sym, ap, ap₂, subst, arith, ◌⊎◌, inl, inr}
use Rattle.std.proofs.lemmas.Bool.{false≢true}
use Rattle.swc_ast.specs.Tree.{Tree, Forest, ε, ◌⊳◌}
use Rattle.swc_ast.specs.Weight.{weight, weight_all, is_stopper, stays_behind, movable, unreached}
use Rattle.static_proofs.specs.Lighter.{Weighed, AllWeighed, none_weighed, more_weighed}

abbrev with_movable : Forest → ℕ
with_movable ts = 4 * movable ts + weight_all ts

abbrev pub with_unreached : Forest → ℕ
with_unreached ts = 4 * unreached ts + weight_all ts

-- the weights of the items together
pub sum_weighed : {N : Type 0} {ts us : Forest} → AllWeighed N ts us → (us ≡ ts) ⊎ (weight_all us < weight_all ts)
sum_weighed none_weighed = inl refl
sum_weighed (more_weighed {t = t} {u = u} {ts = ts} {us = us} k ks) = sides k.outcome (sum_weighed ks)
  where
    sides : (u ≡ t) ⊎ (weight u < weight t) → (us ≡ ts) ⊎ (weight_all us < weight_all ts) → ◌⊎◌ (◌≡◌ {A = Forest} (u ⊳ us) (t ⊳ ts)) (weight_all (u ⊳ us) < weight_all (t ⊳ ts))
    sides (inl p) (inl q) = inl (ap₂ ◌⊳◌ p q)
    sides (inl p) (inr q) = inr (omega (arith, ap weight p))
    sides (inr p) (inl q) = inr (omega (arith, ap weight_all q))
    sides (inr p) (inr q) = inr (omega arith)

pub sum_at_most : {N : Type 0} {ts us : Forest} → AllWeighed N ts us → weight_all us ≤ weight_all ts
sum_at_most {N} {ts} {us} ks = sides (sum_weighed ks)
  where
    sides : (us ≡ ts) ⊎ (weight_all us < weight_all ts) → weight_all us ≤ weight_all ts
    sides (inl q) = omega (arith, ap weight_all q)
    sides (inr q) = omega arith

-- with 4 for each statement that may go

abbrev one_movable : Tree → ℕ
one_movable t = if stays_behind t then 0 else 1

movable_cons : (t : Tree) (ts : Forest) → movable (t ⊳ ts) ≡ one_movable t + movable ts
movable_cons t ts = by_case (stays_behind t)
  where
    by_case : (b : Bool) → (if b then movable ts else suc (movable ts)) ≡ (if b then 0 else 1) + movable ts
    by_case true = omega arith
    by_case false = omega arith

item_weighed : {N : Type 0} {t u : Tree} → Weighed N t u → (u ≡ t) ⊎ (4 * one_movable u + weight u < 4 * one_movable t + weight t)
item_weighed {N} {t} {u} k = sides k.outcome (stays_behind t) (stays_behind u) k.stay_paid
  where
    sides : (u ≡ t) ⊎ (weight u < weight t) → (a b : Bool) → (a ≡ true → (b ≡ true) ⊎ (weight u + 4 < weight t)) → (u ≡ t) ⊎ (4 * (if b then 0 else 1) + weight u < 4 * (if a then 0 else 1) + weight t)
    sides (inl p) a b h = inl p
    sides (inr p) true true h = inr (omega arith)
    sides (inr p) false true h = inr (omega arith)
    sides (inr p) false false h = inr (omega arith)
    sides (inr p) true false h = paid (h refl)
      where
        paid : (false ≡ true) ⊎ (weight u + 4 < weight t) → (u ≡ t) ⊎ (4 * 1 + weight u < 4 * 0 + weight t)
        paid (inl e) = absurd (false≢true e)
        paid (inr e) = inr (omega arith)

movable_weighed : {N : Type 0} {ts us : Forest} → AllWeighed N ts us → (us ≡ ts) ⊎ (with_movable us < with_movable ts)
movable_weighed none_weighed = inl refl
movable_weighed (more_weighed {t = t} {u = u} {ts = ts} {us = us} k ks) = sides (item_weighed k) (movable_weighed ks)
  where
    sides : (u ≡ t) ⊎ (4 * one_movable u + weight u < 4 * one_movable t + weight t) → (us ≡ ts) ⊎ (with_movable us < with_movable ts) → ◌⊎◌ (◌≡◌ {A = Forest} (u ⊳ us) (t ⊳ ts)) (with_movable (u ⊳ us) < with_movable (t ⊳ ts))
    sides (inl p) (inl q) = inl (ap₂ ◌⊳◌ p q)
    sides (inl p) (inr h) = inr (omega (arith, movable_cons t ts, movable_cons u us, ap weight p, ap one_movable p))
    sides (inr p) (inl q) = inr (omega (arith, movable_cons t ts, movable_cons u us, ap with_movable q))
    sides (inr p) (inr h) = inr (omega (arith, movable_cons t ts, movable_cons u us))

movable_at_most : {N : Type 0} {ts us : Forest} → AllWeighed N ts us → with_movable us ≤ with_movable ts
movable_at_most {N} {ts} {us} ks = sides (movable_weighed ks)
  where
    sides : (us ≡ ts) ⊎ (with_movable us < with_movable ts) → with_movable us ≤ with_movable ts
    sides (inl q) = omega (arith, ap with_movable q)
    sides (inr q) = omega arith

unreached_at_most : (ts : Forest) → unreached ts ≤ movable ts
unreached_at_most ε = omega arith
unreached_at_most (t ⊳ ts) = by_case (is_stopper t) (unreached_at_most ts)
  where
    by_case : (b : Bool) → unreached ts ≤ movable ts → (if b then movable ts else unreached ts) ≤ movable (t ⊳ ts)
    by_case true h = omega (arith, movable_cons t ts)
    by_case false h = omega (arith, movable_cons t ts)

-- A list that was walked is the same, or it is lighter with 4 for each statement behind a stopper, or, where a new
-- stopper stands in it, lighter by 3 without those.
pub data Listed (N : Type 0) (ts us : Forest) : Type 0 where
  same_list : us ≡ ts → Listed N ts us
  lower_list : with_unreached us < with_unreached ts → weight_all us < weight_all ts → Listed N ts us
  new_stopper : N → weight_all us + 3 ≤ weight_all ts → Listed N ts us

same_head : {N : Type 0} (t : Tree) (ts us : Forest) (b : Bool) → (us ≡ ts) ⊎ (with_movable us < with_movable ts) → (us ≡ ts) ⊎ (weight_all us < weight_all ts) → Listed N ts us → b ≡ is_stopper t → Listed N (t ⊳ ts) (t ⊳ us)
same_head t ts us b m s (same_list q) e = same_list (ap (λ z. t ⊳ z) q)
same_head t ts us true (inl q) s r e = same_list (ap (λ z. t ⊳ z) q)
same_head t ts us true m (inl q) r e = same_list (ap (λ z. t ⊳ z) q)
same_head t ts us true (inr m) (inr s) r e = lower_list (subst (λ b. 4 * (if b then movable us else unreached us) + (weight t + weight_all us) < 4 * (if b then movable ts else unreached ts) + (weight t + weight_all ts)) e (omega arith)) (omega arith)
same_head t ts us false m s (lower_list r i) e = lower_list (subst (λ b. 4 * (if b then movable us else unreached us) + (weight t + weight_all us) < 4 * (if b then movable ts else unreached ts) + (weight t + weight_all ts)) e (omega arith)) (omega arith)
same_head t ts us false m s (new_stopper n r) e = new_stopper n (omega arith)

-- the first item is lighter
abbrev HeadLower : Tree → Tree → Forest → Forest → Bool → Bool → Type 0
HeadLower t u ts us a b = 4 * (if b then movable us else unreached us) + (weight u + weight_all us) < 4 * (if a then movable ts else unreached ts) + (weight t + weight_all ts)

paid_head : {N : Type 0} (t u : Tree) (ts us : Forest) → weight_all us ≤ weight_all ts → (false ≡ true) ⊎ (N × (weight u + 3 ≤ weight t)) → Listed N (t ⊳ ts) (u ⊳ us)
paid_head t u ts us v (inl e) = absurd (false≢true e)
paid_head t u ts us v (inr e) = new_stopper e.0 (omega (arith, e.1))

head_by : {N : Type 0} (t u : Tree) (ts us : Forest) (a b : Bool) → weight u < weight t → (b ≡ true → (a ≡ true) ⊎ (N × (weight u + 3 ≤ weight t))) → with_movable us ≤ with_movable ts → weight_all us ≤ weight_all ts → unreached us ≤ movable us → Listed N ts us → (HeadLower t u ts us a b → Listed N (t ⊳ ts) (u ⊳ us)) → Listed N (t ⊳ ts) (u ⊳ us)
head_by t u ts us true true p h m s v r k = k (omega arith)
head_by t u ts us true false p h m s v r k = k (omega arith)
head_by t u ts us false false p h m s v (same_list q) k = k (omega (arith, ap unreached q, ap weight_all q))
head_by t u ts us false false p h m s v (lower_list r i) k = k (omega arith)
head_by t u ts us false false p h m s v (new_stopper n r) k = new_stopper n (omega arith)
head_by t u ts us false true p h m s v r k = paid_head t u ts us s (h refl)

lower_head : {N : Type 0} (t u : Tree) (ts us : Forest) → weight u < weight t → (is_stopper u ≡ true → (is_stopper t ≡ true) ⊎ (N × (weight u + 3 ≤ weight t))) → with_movable us ≤ with_movable ts → weight_all us ≤ weight_all ts → Listed N ts us → Listed N (t ⊳ ts) (u ⊳ us)
lower_head t u ts us p h m s r = head_by t u ts us (is_stopper t) (is_stopper u) p h m s (unreached_at_most us) r (λ i. lower_list i (omega arith))

pub list_weighed : {N : Type 0} {ts us : Forest} → AllWeighed N ts us → Listed N ts us
list_weighed none_weighed = same_list refl
list_weighed {N} (more_weighed {t = t} {u = u} {ts = ts} {us = us} k ks) = sides k.outcome (list_weighed ks)
  where
    sides : (u ≡ t) ⊎ (weight u < weight t) → Listed N ts us → Listed N (t ⊳ ts) (u ⊳ us)
    sides (inl p) r = subst (λ z. Listed N (t ⊳ ts) (z ⊳ us)) (sym p) (same_head t ts us (is_stopper t) (movable_weighed ks) (sum_weighed ks) r refl)
    sides (inr p) r = lower_head t u ts us p k.stopper_paid (movable_at_most ks) (sum_at_most ks) r
