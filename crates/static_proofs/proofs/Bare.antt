-- Spans weigh nothing, so a walk that changes spans alone changes nothing.
use Rattle.std.proofs.Common.{Some, None, ◌≡◌, suc, ◌+◌, ◌*◌, ◌<◌, if◌then◌else◌, refl, ap, ap₂, ◌∙◌, arith, ◌⊎◌, inl, inr}
use Rattle.swc_ast.specs.Tree.{Label, BoolLit, Absent, Param, Try, While, For, Tree, node, Forest, ε, ◌⊳◌, bare, bares, This, Method, Empty, FnDecl, ExportNamed}
use Rattle.swc_ast.specs.Weight.{own_weight, test_weight, list_weight, weight, weight_all, is_list, is_stopper, stays_behind, movable, unreached, is_truth_or_absent}
use Rattle.static_proofs.specs.Lighter.{Weighed}

own_bare : (l : Label) (ts : Forest) → own_weight l (bares ts) ≡ own_weight l ts
unfolding own_weight
own_bare (Param x) ε = refl
own_bare (Param x) (t ⊳ ts) = refl
own_bare (Try None) ts = refl
own_bare (Try (Some o)) ts = refl
own_bare This ts = refl
own_bare Method ts = refl
own_bare Empty ts = refl
own_bare (FnDecl x0) ts = refl
own_bare ExportNamed ts = refl
own_bare l ts = refl

truth_bare : (t : Tree) → is_truth_or_absent (bare t) ≡ is_truth_or_absent t
truth_bare (node (BoolLit b) ss cs) = refl
truth_bare (node Absent ss cs) = refl
truth_bare (node l ss cs) = refl

test_bare : (l : Label) (ts : Forest) → test_weight l (bares ts) ≡ test_weight l ts
test_bare While ε = refl
test_bare While (t ⊳ ε) = refl
test_bare While (t ⊳ b ⊳ ε) = ap (λ c. if c then 0 else 3) (truth_bare t)
test_bare While (t ⊳ b ⊳ c ⊳ ts) = refl
test_bare For ε = refl
test_bare For (i ⊳ ε) = refl
test_bare For (i ⊳ t ⊳ ε) = refl
test_bare For (i ⊳ t ⊳ u ⊳ ε) = refl
test_bare For (i ⊳ t ⊳ u ⊳ b ⊳ ε) = ap (λ c. if c then 0 else 3) (truth_bare t)
test_bare For (i ⊳ t ⊳ u ⊳ b ⊳ c ⊳ ts) = refl
test_bare l ts = refl

stays_bare : (t : Tree) → stays_behind (bare t) ≡ stays_behind t
stays_bare (node l ss cs) = refl

stopper_bare : (t : Tree) → is_stopper (bare t) ≡ is_stopper t
stopper_bare (node l ss cs) = refl

movable_bare : (ts : Forest) → movable (bares ts) ≡ movable ts
movable_bare ε = refl
movable_bare (t ⊳ ts) = ap₂ (λ b n. if b then n else suc n) (stays_bare t) (movable_bare ts)

unreached_bare : (ts : Forest) → unreached (bares ts) ≡ unreached ts
unreached_bare ε = refl
unreached_bare (t ⊳ ts) = by_both (stopper_bare t) (movable_bare ts) (unreached_bare ts)
  where
    by_both : is_stopper (bare t) ≡ is_stopper t → movable (bares ts) ≡ movable ts → unreached (bares ts) ≡ unreached ts → (if is_stopper (bare t) then movable (bares ts) else unreached (bares ts)) ≡ (if is_stopper t then movable ts else unreached ts)
    by_both p q r = ap₂ (λ b n. if b then n else unreached (bares ts)) p q ∙ ap (λ n. if is_stopper t then movable ts else n) r

mutual
  pub weight_bare : (t : Tree) → weight (bare t) ≡ weight t
  weight_bare (node l ss cs) = sums l cs (own_bare l cs) (test_bare l cs) (unreached_bare cs) (weights_bare cs)
    where
      sums : (l : Label) (cs : Forest) → own_weight l (bares cs) ≡ own_weight l cs → test_weight l (bares cs) ≡ test_weight l cs → unreached (bares cs) ≡ unreached cs → weight_all (bares cs) ≡ weight_all cs → own_weight l (bares cs) + test_weight l (bares cs) + list_weight l (bares cs) + weight_all (bares cs) ≡ own_weight l cs + test_weight l cs + list_weight l cs + weight_all cs
      sums l cs o t u w = omega (arith, ap (λ n. if is_list l then 4 * n else 0) u)

  pub weights_bare : (ts : Forest) → weight_all (bares ts) ≡ weight_all ts
  weights_bare ε = refl
  weights_bare (t ⊳ ts) = ap₂ ◌+◌ (weight_bare t) (weights_bare ts)

-- what a walk made is the same up to spans only where it is the same
pub same_exactly : {N : Type 0} {t u : Tree} → Weighed N t u → bare u ≡ bare t → u ≡ t
same_exactly {N} {t} {u} k e = by_case k.outcome
  where
    by_case : (u ≡ t) ⊎ (weight u < weight t) → u ≡ t
    by_case (inl p) = p
    by_case (inr h) = absurd (omega (arith, ap weight e, weight_bare t, weight_bare u))
