-- A walk by lowering steps changes nothing, or it makes the tree lighter.
use Rattle.std.proofs.Common.{Some, None, ◌≡◌, ◌+◌, ◌*◌, ◌≤◌, ◌<◌, Bool, true, false, if◌then◌else◌, List, refl, sym, ap, subst, ◌∙◌, arith, ◌⊎◌, inl, inr}
use Rattle.std.proofs.lemmas.Bool.{false≢true}
use Rattle.swc_ast.specs.declared.Span.{Span}
use Rattle.swc_ast.specs.Tree.{Label, BoolLit, Absent, Param, Try, While, For, Tree, node, Forest, This, Method, Empty, FnDecl, ExportNamed}
use Rattle.swc_ast.specs.Weight.{own_weight, test_weight, weight, weight_all, is_list, is_stopper, stays_behind, unreached, is_truth_or_absent}
use Rattle.static_proofs.specs.Lighter.{base_weight, is_settled, Lowers, Weighed, AllWeighed, none_weighed, more_weighed}
use Rattle.static_proofs.specs.Walks.{then, Leaves, AllLeave, closed, opened, stands, steps, none_left, more_left}
use Rattle.static_proofs.proofs.Lists.{sum_weighed, Listed, same_list, lower_list, new_stopper, list_weighed}

own_same : {N : Type 0} (l : Label) {ts us : Forest} → AllWeighed N ts us → own_weight l us ≡ own_weight l ts
unfolding own_weight
own_same (Param x) none_weighed = refl
own_same (Param x) (more_weighed k ks) = refl
own_same (Try None) ks = refl
own_same (Try (Some o)) ks = refl
own_same This ks = refl
own_same Method ks = refl
own_same Empty ks = refl
own_same (FnDecl x0) ks = refl
own_same ExportNamed ks = refl
own_same l ks = refl

test_one : (a b : Bool) → (a ≡ true → b ≡ true) → (if b then 0 else 3) ≤ (if a then 0 else 3)
test_one true true h = omega arith
test_one true false h = absurd (false≢true (h refl))
test_one false true h = omega arith
test_one false false h = omega arith

test_at_most : {N : Type 0} (l : Label) {ts us : Forest} → AllWeighed N ts us → test_weight l us ≤ test_weight l ts
test_at_most While (more_weighed {t = t} {u = u} k (more_weighed k1 none_weighed)) = test_one (is_truth_or_absent t) (is_truth_or_absent u) k.truth_kept
test_at_most While none_weighed = omega arith
test_at_most While (more_weighed k none_weighed) = omega arith
test_at_most While (more_weighed k (more_weighed k1 (more_weighed k2 ks))) = omega arith
test_at_most For (more_weighed k0 (more_weighed {t = t} {u = u} k (more_weighed k2 (more_weighed k3 none_weighed)))) = test_one (is_truth_or_absent t) (is_truth_or_absent u) k.truth_kept
test_at_most For none_weighed = omega arith
test_at_most For (more_weighed k none_weighed) = omega arith
test_at_most For (more_weighed k (more_weighed k1 none_weighed)) = omega arith
test_at_most For (more_weighed k (more_weighed k1 (more_weighed k2 none_weighed))) = omega arith
test_at_most For (more_weighed k (more_weighed k1 (more_weighed k2 (more_weighed k3 (more_weighed k4 ks))))) = omega arith
test_at_most l ks = omega arith

-- A node whose children were walked is the same, or lighter, or lighter by 3 without its own list's surplus.
pub data Inside (N : Type 0) (t b : Tree) : Type 0 where
  same_node : b ≡ t → Inside N t b
  lower_node : weight b < weight t → base_weight b < weight t → Inside N t b
  opened_node : N → base_weight b + 3 ≤ weight t → Inside N t b

node_by : {N : Type 0} (l : Label) (ss : List Span) (ts us : Forest) (b : Bool) → own_weight l us ≡ own_weight l ts → test_weight l us ≤ test_weight l ts → (us ≡ ts) ⊎ (weight_all us < weight_all ts) → Listed N ts us → b ≡ is_list l → Inside N (node l ss ts) (node l ss us)
node_by l ss ts us b o t s (same_list q) e = same_node (ap (node l ss) q)
node_by l ss ts us true o t s (lower_list r i) e = lower_node (subst (λ b. own_weight l us + test_weight l us + (if b then 4 * unreached us else 0) + weight_all us < own_weight l ts + test_weight l ts + (if b then 4 * unreached ts else 0) + weight_all ts) e (omega arith)) (omega arith)
node_by l ss ts us true o t s (new_stopper n r) e = opened_node n (omega arith)
node_by l ss ts us false o t (inl q) r e = same_node (ap (node l ss) q)
node_by l ss ts us false o t (inr q) r e = lower_node (subst (λ b. own_weight l us + test_weight l us + (if b then 4 * unreached us else 0) + weight_all us < own_weight l ts + test_weight l ts + (if b then 4 * unreached ts else 0) + weight_all ts) e (omega arith)) (omega arith)

pub inside_weighed : {N : Type 0} (l : Label) (ss : List Span) {ts us : Forest} → AllWeighed N ts us → Inside N (node l ss ts) (node l ss us)
inside_weighed l ss {ts} {us} ks = node_by l ss ts us (is_list l) (own_same l ks) (test_at_most l ks) (sum_weighed ks) (list_weighed ks) refl

truth_inside : (l : Label) (ss rs : List Span) (ts us : Forest) → is_truth_or_absent (node l ss us) ≡ is_truth_or_absent (node l rs ts)
truth_inside (BoolLit b) ss rs ts us = refl
truth_inside Absent ss rs ts us = refl
truth_inside l ss rs ts us = refl

-- a node that stands
stands_weighed : {N : Type 0} (l : Label) (ss : List Span) {ts us : Forest} → (N → is_settled (node l ss us)) → Inside N (node l ss ts) (node l ss us) → Weighed N (node l ss ts) (node l ss us)
stands_weighed {N} l ss {ts} {us} e i = record {
  outcome = by_case i;
  truth_kept = λ h. truth_inside l ss ss ts us ∙ h;
  stopper_paid = λ h. inl h;
  stay_paid = λ h. inl h;
}
  where
    by_case : Inside N (node l ss ts) (node l ss us) → (node l ss us ≡ node l ss ts) ⊎ (weight (node l ss us) < weight (node l ss ts))
    by_case (same_node q) = inl q
    by_case (lower_node p q) = inr p
    by_case (opened_node n p) = inr (omega (arith, e n))

pub base_at_most : (t : Tree) → base_weight t ≤ weight t
base_at_most (node l ss cs) = omega arith

pub step_lower : {N : Type 0} {t b c : Tree} → Inside N t b → Lowers N b c → weight c < weight t
step_lower (same_node q) x = omega (arith, ap weight q, x.lower)
step_lower (lower_node p q) x = omega (arith, x.lower)
step_lower (opened_node n p) x = omega (arith, x.lower_list n)

-- a node that took a step
steps_weighed : {N : Type 0} {t b c : Tree} → is_truth_or_absent b ≡ is_truth_or_absent t → is_stopper b ≡ is_stopper t → stays_behind b ≡ stays_behind t → Inside N t b → Lowers N b c → Weighed N t c
steps_weighed {N} {t} {b} {c} e f g i x = record {
  outcome = inr (step_lower i x);
  truth_kept = λ h. x.truth_kept (e ∙ h);
  stopper_paid = λ h. by_stopper (x.stopper_paid h);
  stay_paid = λ h. by_stay (x.stay_paid (g ∙ h));
}
  where
    base_below : Inside N t b → base_weight b ≤ weight t
    base_below (same_node q) = omega (arith, ap weight q, base_at_most b)
    base_below (lower_node p q) = omega arith
    base_below (opened_node n p) = omega arith

    by_stopper : (is_stopper b ≡ true) ⊎ (N × (weight c + 3 ≤ base_weight b)) → (is_stopper t ≡ true) ⊎ (N × (weight c + 3 ≤ weight t))
    by_stopper (inl h) = inl (sym f ∙ h)
    by_stopper (inr h) = inr (h.0, omega (arith, h.1, base_below i))

    by_stay : (stays_behind c ≡ true) ⊎ (weight c + 4 < base_weight b) → (stays_behind c ≡ true) ⊎ (weight c + 4 < weight t)
    by_stay (inl h) = inl h
    by_stay (inr h) = inr (omega (arith, h, base_below i))

pub weighed_itself : {N : Type 0} (t : Tree) → Weighed N t t
weighed_itself t = record { outcome = inl refl; truth_kept = λ h. h; stopper_paid = λ h. inl h; stay_paid = λ h. inl h }

weighed_at_most : {N : Type 0} {t u : Tree} → Weighed N t u → weight u ≤ weight t
weighed_at_most {N} {t} {u} k = by_outcome k.outcome
  where
    by_outcome : (u ≡ t) ⊎ (weight u < weight t) → weight u ≤ weight t
    by_outcome (inl q) = omega (arith, ap weight q)
    by_outcome (inr q) = omega arith

-- a step in front of a walk
pub lower_then : {N : Type 0} {t u v : Tree} → Lowers N t u → Weighed N u v → weight v < weight t
lower_then x k = omega (arith, weighed_at_most k, x.lower)

pub early_weighed : {N : Type 0} {t u v : Tree} → Lowers N t u → Weighed N u v → Weighed N t v
early_weighed {N} {t} {u} {v} x k = record {
  outcome = inr (lower_then x k);
  truth_kept = λ h. k.truth_kept (x.truth_kept h);
  stopper_paid = λ h. by_stopper (k.stopper_paid h);
  stay_paid = λ h. by_stay (x.stay_paid h);
}
  where
    at_most : weight v ≤ weight u
    at_most = weighed_at_most k

    by_stopper : (is_stopper u ≡ true) ⊎ (N × (weight v + 3 ≤ weight u)) → (is_stopper t ≡ true) ⊎ (N × (weight v + 3 ≤ weight t))
    by_stopper (inl h) = paid (x.stopper_paid h)
      where
        paid : (is_stopper t ≡ true) ⊎ (N × (weight u + 3 ≤ base_weight t)) → (is_stopper t ≡ true) ⊎ (N × (weight v + 3 ≤ weight t))
        paid (inl i) = inl i
        paid (inr i) = inr (i.0, omega (arith, i.1, at_most, base_at_most t))
    by_stopper (inr h) = inr (h.0, omega (arith, h.1, x.lower))

    by_stay : (stays_behind u ≡ true) ⊎ (weight u + 4 < base_weight t) → (stays_behind v ≡ true) ⊎ (weight v + 4 < weight t)
    by_stay (inl h) = stayed (k.stay_paid h)
      where
        stayed : (stays_behind v ≡ true) ⊎ (weight v + 4 < weight u) → (stays_behind v ≡ true) ⊎ (weight v + 4 < weight t)
        stayed (inl i) = inl i
        stayed (inr i) = inr (omega (arith, i, x.lower))
    by_stay (inr h) = inr (omega (arith, h, at_most, base_at_most t))

mutual
  -- a walk that is finished at each node, and leaves lists settled where stoppers may be new
  pub leaves_weighed : {N : Type 0} {C E : Tree → Type 0} {X : Tree → Tree → Type 0} {t u : Tree} → ((b : Tree) → E b → N → is_settled b) → ((b c : Tree) → X b c → Lowers N b c) → Leaves C E X t u → Weighed N t u
  leaves_weighed e f (closed {t = t} h) = weighed_itself t
  leaves_weighed e f (opened {t = t} {u = u} x h) = early_weighed (f t u x) (leaves_weighed e f h)
  leaves_weighed e f (stands {l = l} {ss = ss} {us = us} h i) = stands_weighed l ss (e (node l ss us) i) (inside_weighed l ss (all_leave_weighed e f h))
  leaves_weighed e f (steps {l = l} {ss = ss} {ts = ts} {us = us} {v = v} h x) = steps_weighed (truth_inside l ss ss ts us) refl refl (inside_weighed l ss (all_leave_weighed e f h)) (f (node l ss us) v x)

  pub all_leave_weighed : {N : Type 0} {C E : Tree → Type 0} {X : Tree → Tree → Type 0} {ts us : Forest} → ((b : Tree) → E b → N → is_settled b) → ((b c : Tree) → X b c → Lowers N b c) → AllLeave C E X ts us → AllWeighed N ts us
  all_leave_weighed e f none_left = none_weighed
  all_leave_weighed e f (more_left h hs) = more_weighed (leaves_weighed e f h) (all_leave_weighed e f hs)
