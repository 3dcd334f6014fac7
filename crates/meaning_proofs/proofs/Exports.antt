-- Exports and later calls of related runs.
use Rattle.std.proofs.Common.{◌≡◌, ℕ, suc, Bool, true, false, ◌||◌, List, [], ◌∷◌, Some, refl, sym, ap, ap₂, subst, cond, ◌∙◌, bytes_eq, if◌then◌else◌}
use Rattle.std.proofs.lemmas.Bool.{true≢false}
use Rattle.swc_ast.specs.Tree.{Name, same_name, Text, Forest}
use Rattle.swc_ast.specs.Value.{Value, Values, is_data, all_data, State, Outcome, Run, and_then, Context}
use Rattle.swc_ast.specs.Meaning.{◌>>=◌, gives, leaves, Caller, read_bound, hand, call_handed}
use Rattle.swc_ast.specs.Run.{World, Callee, Export, Handed, LaterCall, Shown, Datum, Exports, Answer, Answered, Failed, Finished, imports_at, all_are_data, refreshed, exported, shown, show_exports, export_name, export_value, call_own, call_callee, answer_of, answer_to, answers, finish}
use Rattle.meaning_proofs.specs.Names.{Names, Exported, stays, never_set}
use Rattle.meaning_proofs.specs.Rewrites.{is_exported}
use Rattle.meaning_proofs.proofs.Relation.{Pairing, V, Vs, undefined, items, entries, function, truth, num, text, token, own, null, nan, type_error, script_this, S, C, broken, continued, returned, thrown, Sim, done, jump, outside, cut, Ran}
use Rattle.meaning_proofs.proofs.Names.{same_itself}
use Rattle.meaning_proofs.proofs.Combine.{Eq, gives_sim, leaves_sim, and_then_sim, bind}
use Rattle.meaning_proofs.proofs.Data.{data_same, all_data_same}
use Rattle.meaning_proofs.proofs.Stores.{read_bound_sim, from_outside, dead_bound, hand_sim}
use Rattle.meaning_proofs.proofs.Parts.{K, call_handed_sim}
use Rattle.meaning_proofs.proofs.Imports.{SameImports, still_data, refreshed_sim}

-- two modules import alike at each moment
pub record ImportsAlike (N : Names) (w : World) (ts us : Forest) : Type 0 where
  pub at : (k : ℕ) → SameImports N (imports_at w k ts) (imports_at w k us)

-- what is exported is kept, or never holds anything
pub data ExportsKept (N : Names) : List (Text × Name) → Type 0 where
  no_export : ExportsKept N []
  an_export : {t : Text} {x : Name} {ps : List (Text × Name)} → Exported N x → ExportsKept N ps → ExportsKept N ((t, x) ∷ ps)

or_right : (a b : Bool) → b ≡ true → (a || b) ≡ true
or_right true b e = refl
or_right false b e = e

pub exports_kept : (N : Names) (ps : List (Text × Name)) → ((x : Name) → is_exported x ps ≡ true → Exported N x) → ExportsKept N ps
exports_kept N [] h = no_export
exports_kept N (p ∷ ps) h = an_export (h p.1 (ap (λ b. b || is_exported p.1 ps) (same_itself p.1))) (exports_kept N ps (λ x e. h x (or_right (same_name p.1 x) (is_exported x ps) e)))

module _ {P : Pairing} where
  hand_shown : {v w : Value} → V P v w → Ran P Eq (hand v >>= λ x. gives (Datum x)) (hand w >>= λ x. gives (Datum x))
  hand_shown r = bind (hand_sim r) (λ x y e. gives_sim (ap Datum e))

  shown_sim : {v w : Value} → V P v w → Ran P Eq (shown v) (shown w)
  shown_sim (function k e r) = gives_sim refl
  shown_sim (items r) = hand_shown (items r)
  shown_sim (entries r) = hand_shown (entries r)
  shown_sim undefined = hand_shown undefined
  shown_sim null = hand_shown null
  shown_sim nan = hand_shown nan
  shown_sim type_error = hand_shown type_error
  shown_sim script_this = hand_shown script_this
  shown_sim (truth b) = hand_shown (truth b)
  shown_sim (num z) = hand_shown (num z)
  shown_sim (text t) = hand_shown (text t)
  shown_sim (token n b) = hand_shown (token n b)
  shown_sim (own k) = hand_shown (own k)

  read_export : (x : Name) → Exported P.names x → {c d : Context} → C P c d → Ran P (V P) (read_bound x (c.env x)) (read_bound x (d.env x))
  read_export x (never_set g e) {c} {d} hc = λ s t h. from_outside _ (dead_bound x (c.env x) s e (h.guards.at x g))
  read_export x (stays keeps l) {c} {d} hc = subst (λ o. Ran P (V P) (read_bound x (c.env x)) (read_bound x o)) (hc.env.at x keeps) (read_bound_sim x (c.env x) keeps l)

  pub show_exports_sim : {ps : List (Text × Name)} → ExportsKept P.names ps → {c d : Context} → C P c d → Ran P Eq (show_exports ps c) (show_exports ps d)
  unfolding show_exports
  show_exports_sim no_export hc = gives_sim refl
  show_exports_sim (an_export {t} {x} keeps h) hc = bind (read_export x keeps hc) (λ v w r. bind (shown_sim r) (λ a b e. bind (show_exports_sim h hc) (λ xs ys d. gives_sim (ap₂ (λ (a : Shown) (rest : Exports). (t, a) ∷ rest) e d))))

  -- later calls

  export_value_sim : {ps : List (Text × Name)} → ExportsKept P.names ps → (t : Text) {c d : Context} → C P c d → Ran P (V P) (export_value (export_name t ps) c) (export_value (export_name t ps) d)
  export_value_sim no_export t hc = leaves_sim leaves
  export_value_sim (an_export {t = u} {x} {ps} keeps h) t {c} {d} hc = go (bytes_eq t u) (read_export x keeps hc) (export_value_sim h t hc)
    where
      go : (b : Bool) → Ran P (V P) (read_bound x (c.env x)) (read_bound x (d.env x)) → Ran P (V P) (export_value (export_name t ps) c) (export_value (export_name t ps) d) → Ran P (V P) (export_value (cond b (Some x) (export_name t ps)) c) (export_value (cond b (Some x) (export_name t ps)) d)
      go true r q = r
      go false r q = q

  call_own_sim : {call call' : Caller} → K P call call' → {f g : Value} → V P f g → {vs ws : Values} → Vs P vs ws → Ran P (V P) (call_own call f vs) (call_own call' g ws)
  call_own_sim hk (function k e r) rs = hk.by (function k e r) undefined rs
  call_own_sim hk (own k) rs = call_handed_sim hk k undefined rs
  call_own_sim hk _ rs = leaves_sim leaves

  call_handle_sim : (b : Bool) (this : Value) → is_data this ≡ b → {call call' : Caller} → K P call call' → (k : ℕ) {vs ws : Values} → Vs P vs ws → Ran P (V P) (if b then call_handed call k this vs else leaves) (if b then call_handed call' k this ws else leaves)
  call_handle_sim true this e hk k rs = call_handed_sim hk k (data_same this e) rs
  call_handle_sim false this e hk k rs = leaves_sim leaves

  call_callee_sim : {call call' : Caller} → K P call call' → {ps : List (Text × Name)} → ExportsKept P.names ps → (f : Callee) {vs ws : Values} → Vs P vs ws → {c d : Context} → C P c d → Ran P (V P) (call_callee call ps f vs c) (call_callee call' ps f ws d)
  call_callee_sim hk h (Export t) rs hc = bind (export_value_sim h t hc) (λ f g r. call_own_sim hk r rs)
  call_callee_sim hk h (Handed k this) rs hc = call_handle_sim (is_data this) this refl hk k rs

  -- an answer is shown
  answer_sim : (answer : Value → Exports → Answer) {v w : Value} → V P v w → {m n : Run Exports} → Ran P Eq m n → {s t : State} → S P s t
      → Sim P Eq (and_then (hand v s) (λ x. m >>= λ shows. gives (answer x shows))) (and_then (hand w t) (λ x. n >>= λ shows. gives (answer x shows)))
  answer_sim answer r hm h = and_then_sim (hand_sim r _ _ h) (λ x y e. bind hm (λ a b q. gives_sim (ap₂ answer e q)))

  answer_of_sim : {ps : List (Text × Name)} → ExportsKept P.names ps → {c d : Context} → C P c d → {o p : Outcome Value} → Sim P (V P) o p → Sim P Eq (answer_of ps c o) (answer_of ps d p)
  answer_of_sim h hc (done r hs) = answer_sim Answered r (show_exports_sim h hc) hs
  answer_of_sim h hc (jump (thrown r) hs) = answer_sim Failed r (show_exports_sim h hc) hs
  answer_of_sim h hc (jump (broken l) hs) = outside _
  answer_of_sim h hc (jump (continued l) hs) = outside _
  answer_of_sim h hc (jump (returned r) hs) = outside _
  answer_of_sim h hc (outside o) = outside _
  answer_of_sim h hc (cut o) = cut _

  arguments_sim : (b : Bool) (vs : Values) → all_data vs ≡ b → {m n : Run Value} → (Vs P vs vs → Ran P (V P) m n) → Ran P (V P) (if b then m else leaves) (if b then n else leaves)
  arguments_sim true vs e h = h (all_data_same vs e)
  arguments_sim false vs e h = leaves_sim leaves

  answer_to_sim : {call call' : Caller} → K P call call' → {ps : List (Text × Name)} → ExportsKept P.names ps → (l : LaterCall) {c d : Context} → C P c d → Ran P Eq (answer_to call ps l c) (answer_to call' ps l d)
  answer_to_sim hk h l hc = λ s t hs. answer_of_sim h hc (arguments_sim (all_data l.arguments) l.arguments refl (λ rs. call_callee_sim hk h l.callee rs hc) s t hs)

  at_moment_sim : (b d : Bool) {A : Type 0} {RA : A → A → Type 0} {ps qs : List (Name × Value)} → SameImports P.names ps qs → all_are_data ps ≡ b → all_are_data qs ≡ d → {m n : Run A} → Ran P RA m n
      → Ran P RA (if b then (λ s. m (refreshed ps s)) else leaves) (if d then (λ s. n (refreshed qs s)) else leaves)
  at_moment_sim true true i e g h = λ s t hs. h _ _ (refreshed_sim i e hs)
  at_moment_sim true false i e g h = absurd (true≢false (sym (still_data i e) ∙ g))
  at_moment_sim false d i e g h = leaves_sim _

  answers_sim : {call call' : Caller} → K P call call' → (w : World) {ts us : Forest} → ImportsAlike P.names w ts us → exported ts ≡ exported us → ExportsKept P.names (exported ts) → (k : ℕ) (ls : List LaterCall) {c d : Context} → C P c d → Ran P Eq (answers call w ts k ls c) (answers call' w us k ls d)
  unfolding answers
  answers_sim hk w i e h k [] hc = gives_sim refl
  answers_sim {call} {call'} hk w {ts} {us} i e h k (l ∷ ls) {c} {d} hc =
      at_moment_sim (all_are_data (imports_at w k ts)) (all_are_data (imports_at w k us)) (i.at k) refl refl
      (bind (subst (λ ps. Ran P Eq (answer_to call (exported ts) l c) (answer_to call' ps l d)) e (answer_to_sim hk h l hc)) (λ a b q.
      bind (answers_sim hk w i e h (suc k) ls hc) (λ xs ys p. gives_sim (ap₂ (λ (a : Answer) (rest : List Answer). a ∷ rest) q p))))

  pub finish_sim : {call call' : Caller} → K P call call' → (w : World) {ts us : Forest} → ImportsAlike P.names w ts us → exported ts ≡ exported us → ExportsKept P.names (exported ts) → (ls : List LaterCall) {c d : Context} → C P c d → Ran P Eq (finish call w ts ls c) (finish call' w us ls d)
  finish_sim hk w {ts} {us} i e h ls {c} {d} hc =
      bind (subst (λ ps. Ran P Eq (show_exports (exported ts) c) (show_exports ps d)) e (show_exports_sim h hc)) (λ a b q.
      bind (answers_sim hk w i e h 1 ls hc) (λ xs ys p. gives_sim (ap₂ Finished q p)))
