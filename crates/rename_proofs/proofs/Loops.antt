-- Loops, labels and the ends of switches and functions.
use Rattle.std.proofs.Common.{◌≡◌, ℕ, zero, suc, Bool, true, false, List, Option, Some, None, refl, subst, bytes_eq, if◌then◌else◌}
use Rattle.swc_ast.specs.Value.{Value, Undefined, State, Jump, Broken, Outcome, Done, Jumps, Cut, Run, Context, Meaning}
use Rattle.swc_ast.specs.Meaning.{plain, loop_goes_on, after_jump, turn, turns, do_turns, at_label, at_break, at_return}
use Rattle.swc_ast.specs.Call.{at_call}
use Rattle.rename_proofs.proofs.Relation.{Pairing, V, undefined, S, C, J, broken, continued, returned, thrown, Sim, done, jump, outside, cut, Ran, M}
use Rattle.rename_proofs.proofs.Combine.{gives_sim, if_sim, bind}
use Rattle.rename_proofs.proofs.Prims.{same_truthy}
use Rattle.rename_proofs.proofs.Scopes.{plain_sim}
use Rattle.rename_proofs.proofs.Combine.{Eq}

module _ {P : Pairing} where
  -- loops

  same_goes_on : (labels : List (List ℕ)) {j k : Jump} → J P j k → loop_goes_on labels j ≡ loop_goes_on labels k
  same_goes_on labels (broken l) = refl
  same_goes_on labels _ = refl

  after_jump_sim : (o p : Option Bool) → o ≡ p → {j k : Jump} {s t : State} → J P j k → S P s t → Sim P Eq (after_jump o j s) (after_jump p k t)
  after_jump_sim o p e {j} {k} {s} {t} r h = subst (λ p. Sim P Eq (after_jump o j s) (after_jump p k t)) e (go o)
    where
      go : (o : Option Bool) → Sim P Eq (after_jump o j s) (after_jump o k t)
      go None = jump r h
      go (Some b) = done refl h

  turn_same : (labels : List (List ℕ)) {o p : Outcome Value} → Sim P (V P) o p → Sim P Eq (turn labels o) (turn labels p)
  unfolding turn
  turn_same labels (done r h) = done refl h
  turn_same labels (jump r h) = after_jump_sim _ _ (same_goes_on labels r) r h
  turn_same labels (outside o) = outside _
  turn_same labels (cut o) = cut _

  pub turn_sim : {m n : Meaning} → M P m n → {c d : Context} → C P c d → Ran P Eq (λ s. turn c.labels (m (plain c) s)) (λ s. turn d.labels (n (plain d) s))
  turn_sim {m} {n} hm {c} {d} hc = λ s t h.
      subst (λ l. Sim P Eq (turn c.labels (m (plain c) s)) (turn l (n (plain d) t))) hc.labels (turn_same c.labels (hm.at _ _ (plain_sim hc) s t h))

  pub turns_sim : (n : ℕ) {test test' body body' update update' : Meaning} {next next' : Context → Run Context} → M P test test' → M P body body' → ((c d : Context) → C P c d → Ran P (C P) (next c) (next' d)) → M P update update' → {c d : Context} → C P c d → Ran P (V P) (turns n test body next update c) (turns n test' body' next' update' d)
  unfolding turns
  turns_sim zero ht hb hn hu hc = bind (ht.at _ _ (plain_sim hc)) (λ v w r. if_sim (same_truthy r) (λ s t h. cut Cut) (gives_sim undefined))
  turns_sim (suc n) ht hb hn hu hc =
      bind (ht.at _ _ (plain_sim hc)) (λ v w r. if_sim (same_truthy r)
      (bind (turn_sim hb hc) (λ a b e. if_sim e
      (bind (hn _ _ hc) (λ c d hd. bind (hu.at _ _ (plain_sim hd)) (λ x y q. turns_sim n ht hb hn hu hd)))
      (gives_sim undefined)))
      (gives_sim undefined))

  pub do_turns_sim : (n : ℕ) {test test' body body' : Meaning} → M P body body' → M P test test' → {c d : Context} → C P c d → Ran P (V P) (do_turns n body test c) (do_turns n body' test' d)
  unfolding do_turns
  do_turns_sim zero hb ht hc = λ s t h. cut Cut
  do_turns_sim (suc n) hb ht hc =
      bind (turn_sim hb hc) (λ a b e. if_sim e
      (bind (ht.at _ _ (plain_sim hc)) (λ v w r. if_sim (same_truthy r) (do_turns_sim n hb ht hc) (gives_sim undefined)))
      (gives_sim undefined))

  -- labels and ends

  label_if : (b : Bool) (m : List ℕ) {s t : State} → S P s t → Sim P (V P) (if b then Done Undefined s else Jumps (Broken (Some m)) s) (if b then Done Undefined t else Jumps (Broken (Some m)) t)
  label_if true m h = done undefined h
  label_if false m h = jump (broken (Some m)) h

  pub at_label_sim : (l : List ℕ) {o p : Outcome Value} → Sim P (V P) o p → Sim P (V P) (at_label l o) (at_label l p)
  unfolding at_label
  at_label_sim l (done r h) = done r h
  at_label_sim l (jump (broken (Some m)) h) = label_if (bytes_eq l m) m h
  at_label_sim l (jump (broken None) h) = jump (broken None) h
  at_label_sim l (jump (continued m) h) = jump (continued m) h
  at_label_sim l (jump (returned r) h) = jump (returned r) h
  at_label_sim l (jump (thrown r) h) = jump (thrown r) h
  at_label_sim l (outside o) = outside _
  at_label_sim l (cut o) = cut _

  pub at_break_sim : {o p : Outcome Value} → Sim P (V P) o p → Sim P (V P) (at_break o) (at_break p)
  unfolding at_break
  at_break_sim (done r h) = done r h
  at_break_sim (jump (broken None) h) = done undefined h
  at_break_sim (jump (broken (Some m)) h) = jump (broken (Some m)) h
  at_break_sim (jump (continued m) h) = jump (continued m) h
  at_break_sim (jump (returned r) h) = jump (returned r) h
  at_break_sim (jump (thrown r) h) = jump (thrown r) h
  at_break_sim (outside o) = outside _
  at_break_sim (cut o) = cut _

  pub at_return_sim : {o p : Outcome Value} → Sim P (V P) o p → Sim P (V P) (at_return o) (at_return p)
  unfolding at_return
  at_return_sim (done r h) = done undefined h
  at_return_sim (jump (broken m) h) = outside _
  at_return_sim (jump (continued m) h) = outside _
  at_return_sim (jump (returned r) h) = done r h
  at_return_sim (jump (thrown r) h) = jump (thrown r) h
  at_return_sim (outside o) = outside _
  at_return_sim (cut o) = cut _

  pub at_call_sim : {o p : Outcome Value} → Sim P (V P) o p → Sim P (V P) (at_call o) (at_call p)
  at_call_sim (done r h) = done r h
  at_call_sim (jump (broken m) h) = outside _
  at_call_sim (jump (continued m) h) = outside _
  at_call_sim (jump (returned r) h) = outside _
  at_call_sim (jump (thrown r) h) = jump (thrown r) h
  at_call_sim (outside o) = outside _
  at_call_sim (cut o) = cut _
