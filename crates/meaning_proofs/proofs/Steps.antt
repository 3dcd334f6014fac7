-- A step of a rewrite, behind or before what is related.
use Rattle.std.proofs.Common.{◌≡◌, Bool, true, false, List, Option, Some, None, refl, sym, ap, subst, ◌∙◌}
use Rattle.swc_ast.specs.Value.{Value, is_data, Cell, State, Outcome, Done, Jumps, Run, and_then}
use Rattle.swc_ast.specs.Tree.{Name}
use Rattle.swc_ast.specs.Meaning.{is_initialised}
use Rattle.meaning_proofs.specs.Names.{Names}
use Rattle.meaning_proofs.specs.Sameness.{counting}
use Rattle.meaning_proofs.specs.Exact.{Refined, AlikeCells, none_alike, one_alike, one_any, Apart, Off, Trimmed, same_value, same_jump, left_core, was_cut, Idled, idled, idle_left, idle_cut, Yielded, yielded, Stopped}
use Rattle.meaning_proofs.proofs.Relation.{Pairing, Each, none, more, Maybe, neither, both, V, Held, any_held, SameCell, alike, unlike, S, Sim, done, jump, outside, cut}
use Rattle.meaning_proofs.proofs.Data.{data_equal, is_data_same}

alike_turned : {b : Bool} {cs ds : List Cell} → AlikeCells b cs ds → AlikeCells b ds cs
alike_turned none_alike = none_alike
alike_turned (one_alike w i a) = one_alike (sym w) (sym i) (alike_turned a)
alike_turned (one_any e a) = one_any e (alike_turned a)

apart_turned : {N : Names} {s t : State} → Apart N s t → Apart N t s
apart_turned h = record { events = sym h.events; replies = sym h.replies; handed = sym h.handed; natives = sym h.natives; store = λ x keeps l. sym (h.store x keeps l); loosely = λ x keeps l. alike_turned (h.loosely x keeps l) }

-- both are related, and the first is one value
abbrev pub Known : Pairing → Value → Value → Value → Type 0
Known P v a b = V P a b × (a ≡ v)

module _ {P : Pairing} where
  -- what a loose name holds is related to anything
  loose_left : {x : Name} → P.loose x ≡ true → (o p : Option Value) {q : Option Value} → is_initialised o ≡ is_initialised p → Maybe (Held P x) p q → Maybe (Held P x) o q
  loose_left e None None i neither = neither
  loose_left e (Some v) (Some w) i (both r) = both (any_held e)
  loose_left e None (Some w) i h = cc
  loose_left e (Some v) None i h = cc

  loose_right : {x : Name} → P.loose x ≡ true → {q : Option Value} (o p : Option Value) → is_initialised o ≡ is_initialised p → Maybe (Held P x) q p → Maybe (Held P x) q o
  loose_right e None None i neither = neither
  loose_right e (Some v) (Some w) i (both r) = both (any_held e)
  loose_right e None (Some w) i h = cc
  loose_right e (Some v) None i h = cc

  alike_left : {x : Name} → P.loose x ≡ true → {bs cs ds : List Cell} → AlikeCells (P.slack x) bs cs → Each (SameCell P x) cs ds → Each (SameCell P x) bs ds
  alike_left e none_alike none = none
  alike_left e (one_alike {c} {d} w i a) (more (alike v r) rs) = more (alike (w ∙ v) (loose_left e c.held d.held i r)) (alike_left e a rs)
  alike_left e (one_alike {c} {d} w i a) (more (unlike f g) rs) = more (unlike f g) (alike_left e a rs)
  alike_left e (one_any f a) (more r rs) = more (unlike e f) (alike_left e a rs)

  alike_right : {x : Name} → P.loose x ≡ true → {bs cs ds : List Cell} → AlikeCells (P.slack x) ds cs → Each (SameCell P x) bs cs → Each (SameCell P x) bs ds
  alike_right e none_alike none = none
  alike_right e (one_alike {c} {d} w i a) (more (alike v r) rs) = more (alike (v ∙ sym w) (loose_right e c.held d.held i r)) (alike_right e a rs)
  alike_right e (one_alike {c} {d} w i a) (more (unlike f g) rs) = more (unlike f g) (alike_right e a rs)
  alike_right e (one_any f a) (more r rs) = more (unlike e f) (alike_right e a rs)

  left_cells : (x : Name) (b : Bool) → P.loose x ≡ b → {bs cs ds : List Cell} → (P.loose x ≡ false → bs ≡ cs) → (P.loose x ≡ true → AlikeCells (P.slack x) bs cs) → Each (SameCell P x) cs ds → Each (SameCell P x) bs ds
  left_cells x true e f g h = alike_left e (g e) h
  left_cells x false e {ds = ds} f g h = subst (λ cs. Each (SameCell P x) cs ds) (sym (f e)) h

  right_cells : (x : Name) (b : Bool) → P.loose x ≡ b → {bs cs ds : List Cell} → (P.loose x ≡ false → ds ≡ cs) → (P.loose x ≡ true → AlikeCells (P.slack x) ds cs) → Each (SameCell P x) bs cs → Each (SameCell P x) bs ds
  right_cells x true e f g h = alike_right e (g e) h
  right_cells x false e {bs} f g h = subst (λ cs. Each (SameCell P x) bs cs) (sym (f e)) h

  pub off_sim : {r s t : State} → Off P.names r s → S P s t → S P r t
  off_sim {r} {s} {t} o h = record {
    events = ap (counting P.ignores) o.apart.events ∙ h.events;
    replies = o.apart.replies ∙ h.replies;
    handed = subst (λ vs. Each (V P) vs t.handed) (sym o.apart.handed) h.handed;
    natives = o.apart.natives ∙ h.natives;
    cells = λ x keeps. left_cells x (P.loose x) refl (λ l. o.apart.store x keeps l) (λ l. o.apart.loosely x keeps l) (h.cells x keeps);
    guards = o.guards h.guards;
  }

  -- what the second run did to dropped and loose names does not count
  apart_sim : {s r t : State} → Apart P.names t r → S P s r → S P s t
  apart_sim {s} {r} {t} o h = record {
    events = h.events ∙ ap (counting P.ignores) (sym o.events);
    replies = h.replies ∙ sym o.replies;
    handed = subst (λ vs. Each (V P) s.handed vs) (sym o.handed) h.handed;
    natives = h.natives ∙ sym o.natives;
    cells = λ x keeps. right_cells x (P.loose x) refl (λ l. o.store x keeps l) (λ l. o.loosely x keeps l) (h.cells x keeps);
    guards = h.guards;
  }

  module _ {A : Type 0} {RA : A → A → Type 0} where
    pub refined_sim : {o p q : Outcome A} → Sim P RA o p → Refined p q → Sim P RA o q
    refined_sim (done {a} {b} {s} {t} r h) e = subst (λ q. Sim P RA (Done a s) q) (sym e) (done r h)
    refined_sim (jump {j} {k} {s} {t} r h) e = subst (λ q. Sim P RA (Jumps j s) q) (sym e) (jump r h)
    refined_sim (outside o) e = outside _
    refined_sim (cut o) e = cut _

    pub trimmed_sim : {o p q : Outcome A} → Trimmed P.names o p → Sim P RA p q → Sim P RA o q
    trimmed_sim (same_value o) (done r h) = done r (off_sim o h)
    trimmed_sim (same_jump o) (jump r h) = jump r (off_sim o h)
    trimmed_sim (left_core o) h = outside _
    trimmed_sim (was_cut o) h = cut _

  -- what follows a part that does nothing
  pub idle_sim : {B : Type 0} {RB : B → B → Type 0} {s t : State} {o : Outcome Value} {k : Value → Run B} {q : Outcome B} → Idled (Off P.names) s o → S P s t → ((v : Value) (r : State) → S P r t → Sim P RB (k v r) q) → Sim P RB (and_then o k) q
  unfolding and_then
  idle_sim (idled o) h f = f _ _ (off_sim o h)
  idle_sim idle_left h f = outside _
  idle_sim idle_cut h f = cut _

  -- what follows a part that stands for one that does nothing
  pub idle_after_sim : {B : Type 0} {RB : B → B → Type 0} {t : State} {o p : Outcome Value} {k : Value → Run B} {q : Outcome B} → Sim P (V P) o p → Idled (Apart P.names) t p → ((v : Value) (r : State) → S P r t → Sim P RB (k v r) q) → Sim P RB (and_then o k) q
  unfolding and_then
  idle_after_sim (done r h) (idled o) f = f _ _ (apart_sim (apart_turned o) h)
  idle_after_sim (jump r h) i f = elim i [ ]
  idle_after_sim (outside o) i f = outside _
  idle_after_sim (cut o) i f = cut _

  pub weaker_sim : {A : Type 0} {RA RB : A → A → Type 0} → ((a b : A) → RA a b → RB a b) → {o p : Outcome A} → Sim P RA o p → Sim P RB o p
  weaker_sim f (done r h) = done (f _ _ r) h
  weaker_sim f (jump r h) = jump r h
  weaker_sim f (outside o) = outside _
  weaker_sim f (cut o) = cut _

  -- nothing follows a part that stands for one that doesn't end normally
  pub stopped_sim : {A B : Type 0} {RA : A → A → Type 0} {RB : B → B → Type 0} {o p : Outcome A} (k l : A → Run B) → Sim P RA o p → Stopped p → Sim P RB (and_then o k) (and_then p l)
  unfolding and_then
  stopped_sim k l (done r h) i = elim i [ ]
  stopped_sim k l (jump r h) i = jump r h
  stopped_sim k l (outside o) i = outside _
  stopped_sim k l (cut o) i = cut _

  -- a value that the second run is known to give
  pub known_sim : {v : Value} {o p : Outcome Value} → is_data v ≡ true → Sim P (V P) o p → Yielded v p → Sim P (Known P v) o p
  known_sim e (done r h) yielded = done (r, data_equal r (is_data_same r ∙ e)) h
  known_sim e (jump r h) y = jump r h
  known_sim e (outside o) y = outside _
  known_sim e (cut o) y = cut _
