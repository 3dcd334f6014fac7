-- Steps at a node that holds no list compose.
use Rattle.std.proofs.Common.{◌≡◌, ◌+◌, ◌≤◌, ◌<◌, true, false, arith, ◌⊎◌, inl, inr}
use Rattle.swc_ast.specs.Tree.{Name, Tree, label_of}
use Rattle.swc_ast.specs.Weight.{weight, is_list, is_stopper, stays_behind}
use Rattle.static_proofs.specs.Lighter.{base_weight, Lowers}
use Rattle.static_proofs.specs.Step.{Step}
use Rattle.static_proofs.proofs.Kept.{keeps_then}
use Rattle.static_proofs.proofs.Spared.{spares_then}
use Rattle.static_proofs.proofs.Lighter.{base_at_most}
use Rattle.static_proofs.proofs.Expressions.{base_same}

lowers_then : {N : Type 0} {a b c : Tree} → base_weight b ≤ base_weight a → Lowers N a b → Lowers N b c → Lowers N a c
lowers_then {N} {a} {b} {c} e h i = record {
  lower = omega (arith, h.lower, i.lower);
  lower_list = λ n. omega (arith, h.lower_list n, i.lower);
  truth_kept = λ t. i.truth_kept (h.truth_kept t);
  stopper_paid = λ s. by_stopper (i.stopper_paid s);
  stay_paid = λ s. by_stay (h.stay_paid s);
}
  where
    by_stopper : (is_stopper b ≡ true) ⊎ (N × (weight c + 3 ≤ base_weight b)) → (is_stopper a ≡ true) ⊎ (N × (weight c + 3 ≤ base_weight a))
    by_stopper (inl s) = before (h.stopper_paid s)
      where
        before : (is_stopper a ≡ true) ⊎ (N × (weight b + 3 ≤ base_weight a)) → (is_stopper a ≡ true) ⊎ (N × (weight c + 3 ≤ base_weight a))
        before (inl r) = inl r
        before (inr r) = inr (r.0, omega (arith, r.1, i.lower))
    by_stopper (inr s) = inr (s.0, omega (arith, s.1, e))

    by_stay : (stays_behind b ≡ true) ⊎ (weight b + 4 < base_weight a) → (stays_behind c ≡ true) ⊎ (weight c + 4 < base_weight a)
    by_stay (inl s) = after (i.stay_paid s)
      where
        after : (stays_behind c ≡ true) ⊎ (weight c + 4 < base_weight b) → (stays_behind c ≡ true) ⊎ (weight c + 4 < base_weight a)
        after (inl r) = inl r
        after (inr r) = inr (omega (arith, r, e))
    by_stay (inr s) = inr (omega (arith, s, i.lower))

pub step_then : {N : Type 0} {P : Name → Type 0} {a b c : Tree} → is_list (label_of a) ≡ false → Step N P a b → Step N P b c → Step N P a c
step_then {N} {P} {a} {b} {c} e h i = record {
  keeps = keeps_then h.keeps i.keeps;
  spares = spares_then h.spares i.spares;
  lowers = lowers_then (omega (arith, base_at_most b, base_same a e, h.lowers.lower)) h.lowers i.lowers;
}
