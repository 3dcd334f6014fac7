-- Nodes that hold lists weigh the same but for their items.
use Rattle.std.proofs.Common.{◌≡◌, ◌+◌, ◌*◌, ◌≤◌, ◌<◌, Bool, true, false, if◌then◌else◌, List, refl, sym, ◌∙◌, arith, inl}
use Rattle.std.proofs.lemmas.Bool.{false≢true}
use Rattle.swc_ast.specs.declared.Span.{Span}
use Rattle.swc_ast.specs.Tree.{Label, Block, Body, CaseBody, Module, Script, node, Forest}
use Rattle.swc_ast.specs.Weight.{own_weight, test_weight, weight_all, is_list, is_stopper_label, stays_label, is_truth_or_absent, unreached}
use Rattle.static_proofs.specs.Lighter.{Lowers}

-- a node that holds a list weighs the same but for its items
pub record ListNode (l : Label) : Type 0 where
  pub same_own : (ts us : Forest) → own_weight l us ≡ own_weight l ts
  pub no_test : (ts : Forest) → test_weight l ts ≡ 0
  pub no_truth : (ss : List Span) (ts : Forest) → is_truth_or_absent (node l ss ts) ≡ false
  pub no_stopper : is_stopper_label l ≡ false
  pub no_stay : stays_label l ≡ false

pub list_node : (l : Label) → is_list l ≡ true → ListNode l
unfolding own_weight
list_node Block e = record { same_own = λ ts us. refl; no_test = λ ts. refl; no_truth = λ ss ts. refl; no_stopper = refl; no_stay = refl }
list_node Body e = record { same_own = λ ts us. refl; no_test = λ ts. refl; no_truth = λ ss ts. refl; no_stopper = refl; no_stay = refl }
list_node CaseBody e = record { same_own = λ ts us. refl; no_test = λ ts. refl; no_truth = λ ss ts. refl; no_stopper = refl; no_stay = refl }
list_node Module e = record { same_own = λ ts us. refl; no_test = λ ts. refl; no_truth = λ ss ts. refl; no_stopper = refl; no_stay = refl }
list_node Script e = record { same_own = λ ts us. refl; no_test = λ ts. refl; no_truth = λ ss ts. refl; no_stopper = refl; no_stay = refl }
list_node l e = absurd (false≢true e)

-- A list whose items weigh less, and in which no more stands behind a stopper, where no stopper may be new.
pub fewer_lowers : (l : Label) (ss : List Span) (ts vs : Forest) → is_list l ≡ true → unreached vs ≤ unreached ts → weight_all vs < weight_all ts → Lowers ⊥ (node l ss ts) (node l ss vs)
fewer_lowers l ss ts vs e u w =
    let n = list_node l e in
    record {
      lower = lower_by (is_list l);
      lower_list = λ i. absurd i;
      truth_kept = λ h. absurd (false≢true (sym (n.no_truth ss ts) ∙ h));
      stopper_paid = λ h. inl h;
      stay_paid = λ h. inl h;
    }
  where
    lower_by : (b : Bool) → own_weight l vs + test_weight l vs + (if b then 4 * unreached vs else 0) + weight_all vs < own_weight l ts + test_weight l ts + (if b then 4 * unreached ts else 0) + weight_all ts
    lower_by true = omega (arith, (list_node l e).same_own ts vs, (list_node l e).no_test ts, (list_node l e).no_test vs, u, w)
    lower_by false = omega (arith, (list_node l e).same_own ts vs, (list_node l e).no_test ts, (list_node l e).no_test vs, u, w)
