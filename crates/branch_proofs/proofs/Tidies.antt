-- The step of a list owes nothing.
use Rattle.std.proofs.Common.{◌≡◌, ◌+◌, ◌*◌, ◌≤◌, ◌<◌, Bool, true, false, if◌then◌else◌, List, refl, sym, ap, ◌∙◌, arith}
use Rattle.std.proofs.lemmas.Bool.{false≢true}
use Rattle.swc_ast.specs.declared.Span.{Span}
use Rattle.swc_ast.specs.Tree.{Name, Label, Tree, node, Forest, ε, ◌⊳◌}
use Rattle.swc_ast.specs.Scope.{vars_all}
use Rattle.swc_ast.specs.Weight.{own_weight, test_weight, weight, weight_all, is_list, unreached}
use Rattle.static_proofs.specs.Spares.{Spared}
use Rattle.static_proofs.specs.Lighter.{Lowers}
use Rattle.static_proofs.specs.Step.{Step}
use Rattle.static_proofs.specs.Together.{KeepsAll}
use Rattle.static_proofs.proofs.Spared.{spared_then}
use Rattle.static_proofs.proofs.ListNode.{list_node}
use Rattle.static_proofs.proofs.Together.{kept_then, list_keeps, list_spares}
use Rattle.branch_proofs.proofs.ListForms.{Tidies, ListStep, tidy}
use Rattle.branch_proofs.proofs.Sweeps.{sweeps_keep, sweeps_spare, swept_at_most, Swept, same_items, fewer_items, flat_items, sweeps_weight}
use Rattle.branch_proofs.proofs.Cuts.{cuts_keep, cuts_spare, cuts_settled, Cut, same_list, cut_list, cuts_weight, cuts_single}

pub tidies_keep : {ts vs : Forest} → Tidies ts vs → KeepsAll ts vs
tidies_keep t = kept_then (sweeps_keep t.sweeps) (cuts_keep t.cuts)

pub tidies_spare_vars : {P : Name → Type 0} {ts vs : Forest} → Tidies ts vs → Spared P (vars_all ts) (vars_all vs)
tidies_spare_vars {P} t = spared_then (sweeps_spare {P = P} t.sweeps).vars_spared (cuts_spare t.cuts)

-- what the items weigh together, and with 4 for each behind a stopper
pub items_by : (ts us vs : Forest) → (vs ≡ ts → ⊥) → Swept ts us → Cut us vs → (weight_all vs < 4 * unreached ts + weight_all ts) × (weight_all vs ≤ weight_all ts + 2)
items_by ts us vs n (same_items e) (same_list d u) = absurd (n (d ∙ e))
items_by ts us vs n (same_items e) (cut_list u w) = (omega (arith, ap unreached e, ap weight_all e), omega (arith, ap weight_all e))
items_by ts us vs n (fewer_items a b c) (same_list d u) = (omega (arith, ap weight_all d), omega (arith, ap weight_all d))
items_by ts us vs n (fewer_items a b c) (cut_list u w) = (omega arith, omega arith)
items_by ts us vs n (flat_items a) (same_list d u) = (omega (arith, ap weight_all d), omega (arith, ap weight_all d))
items_by ts us vs n (flat_items a) (cut_list u w) = (omega arith, omega arith)

pub tidies_weight : {ts vs : Forest} → Tidies ts vs → (weight_all vs < 4 * unreached ts + weight_all ts) × (weight_all vs ≤ weight_all ts + 2)
tidies_weight {ts} {vs} t = items_by ts t.between vs t.changes (sweeps_weight t.sweeps) (cuts_weight t.cuts t.statements)

-- a list whose items weigh less, and in which nothing stands behind a stopper
pub list_lowers : {N : Type 0} (l : Label) (ss : List Span) (ts vs : Forest) → is_list l ≡ true → unreached vs ≡ 0 → (weight_all vs < 4 * unreached ts + weight_all ts) × (weight_all vs ≤ weight_all ts + 2) → Lowers N (node l ss ts) (node l ss vs)
list_lowers {N} l ss ts vs e u w =
    let n = list_node l e in
    record {
      lower = lower_by (is_list l) e;
      lower_list = λ i. at_most_by (is_list l) e;
      truth_kept = λ h. absurd (false≢true (sym (n.no_truth ss ts) ∙ h));
      stopper_paid = λ h. absurd (false≢true (sym n.no_stopper ∙ h));
      stay_paid = λ h. absurd (false≢true (sym n.no_stay ∙ h));
    }
  where
    lower_by : (b : Bool) → b ≡ true → own_weight l vs + test_weight l vs + (if b then 4 * unreached vs else 0) + weight_all vs < own_weight l ts + test_weight l ts + (if b then 4 * unreached ts else 0) + weight_all ts
    lower_by true i = omega (arith, (list_node l e).same_own ts vs, (list_node l e).no_test ts, (list_node l e).no_test vs, u, w.0)
    lower_by false i = absurd (false≢true i)

    at_most_by : (b : Bool) → b ≡ true → own_weight l vs + test_weight l vs + (if b then 4 * unreached vs else 0) + weight_all vs ≤ own_weight l ts + test_weight l ts + weight_all ts + 2
    at_most_by true i = omega (arith, (list_node l e).same_own ts vs, (list_node l e).no_test ts, (list_node l e).no_test vs, u, w.1)
    at_most_by false i = absurd (false≢true i)

pub list_step : {N : Type 0} {P : Name → Type 0} (t u : Tree) → ListStep t u → Step N P t u
list_step {N} {P} t u (tidy {l = l} {ss = ss} {ts = ts} {vs = vs} e m h) = record {
  keeps = list_keeps l ss e (tidies_keep h);
  spares = list_spares l ss e m (tidies_spare_vars h);
  lowers = list_lowers l ss ts vs e (cuts_settled h.cuts) (tidies_weight h);
}

-- a list that is tidied to one statement weighs no less before
pub tidies_single : {ts : Forest} {s : Tree} → Tidies ts (s ⊳ ε) → weight s ≤ weight_all ts
tidies_single {ts} {s} d = omega (arith, cuts_single d.cuts refl, swept_at_most (sweeps_weight d.sweeps))
