-- Loops that refine one another, and loops whose test is known.
use Rattle.std.proofs.Common.{◌≡◌, ℕ, zero, suc, Bool, true, false, if◌then◌else◌, List, [], refl, sym, ap, subst, ◌∙◌}
use Rattle.swc_ast.specs.Tree.{Tree}
use Rattle.swc_ast.specs.Value.{Value, Undefined, Truth, Outcome, Done, Jumps, Outside, Cut, Run, and_then, Context, Meaning}
use Rattle.swc_ast.specs.Operators.{truthy}
use Rattle.swc_ast.specs.Scope.{Declared, found, is_found}
use Rattle.swc_ast.specs.Meaning.{◌>>=◌, gives, in_scope, cell_of_declared, copies, plain, turn, turns, do_turns, for_loop, head_names, copied_names}
use Rattle.meaning_proofs.specs.Exact.{Refined, Refines}
use Rattle.swc_utils.specs.Holds.{HasTruth, Keeps, Yields}
use Rattle.swc_utils.proofs.RunEffects.{drop}
use Rattle.swc_utils.proofs.Refines.{refines_same, refines_then, refines_drop, refines_trans}
use Rattle.pass_proofs.proofs.Refines.{refines_path, refines_where}
use Rattle.branch_proofs.proofs.Dropped.{dropped_first}

-- what follows a part whose value is dropped
pub dropped_then : {A : Type 0} (m k : Run Value) (h i : Run A) → Refines (drop m) (drop k) → Refines h i → Refines (m >>= λ v. h) (k >>= λ v. i)
dropped_then m k h i r q = refines_trans (refines_path (dropped_first m h)) (refines_trans (refines_then r (λ v. q)) (refines_path (sym (dropped_first k i))))

pub refines_if : {A : Type 0} {m k h i : Run A} (b : Bool) → Refines m h → Refines k i → Refines (if b then m else k) (if b then h else i)
refines_if true r q = r
refines_if false r q = q

pub refined_same : {A : Type 0} (o : Outcome A) → Refined o o
refined_same (Done v s) = refl
refined_same (Jumps j s) = refl
refined_same Outside = tt
refined_same Cut = tt

-- what is done with an outcome: one that leaves the core still does, and one that is cut stays cut
pub refined_by : {A B : Type 0} (f : Outcome A → Outcome B) (o p : Outcome A) → f Outside ≡ Outside → f Cut ≡ Cut → Refined o p → Refined (f o) (f p)
refined_by f (Done v s) p a b h = subst (λ q. Refined (f (Done v s)) (f q)) (sym h) (refined_same (f (Done v s)))
refined_by f (Jumps j s) p a b h = subst (λ q. Refined (f (Jumps j s)) (f q)) (sym h) (refined_same (f (Jumps j s)))
refined_by f Outside p a b h = subst (λ q. Refined q (f p)) (sym a) tt
refined_by f Cut p a b h = subst (λ q. Refined q (f p)) (sym b) tt

-- a body is run without labels
turn_refines : (m k : Meaning) → ((c : Context) → Refines (m (plain c)) (k (plain c))) → (c : Context) → Refines (λ s. turn c.labels (m (plain c) s)) (λ s. turn c.labels (k (plain c) s))
unfolding turn
turn_refines m k h c = record { by = λ s. refined_by (turn c.labels) (m (plain c) s) (k (plain c) s) refl refl ((h c).by s) }

pub turns_refine : (n : ℕ) (t t' b b' u u' : Meaning) (next : Context → Run Context) → ((c : Context) → Refines (t c) (t' c)) → ((c : Context) → Refines (b (plain c)) (b' (plain c))) → ((c : Context) → Refines (drop (u c)) (drop (u' c))) → (c : Context) → Refines (turns n t b next u c) (turns n t' b' next u' c)
unfolding turns
turns_refine zero t t' b b' u u' next ht hb hu c = refines_then (ht (plain c)) (λ v. refines_same _)
turns_refine (suc n) t t' b b' u u' next ht hb hu c =
    refines_then (ht (plain c)) (λ v. refines_if (truthy v)
    (refines_then (turn_refines b b' hb c) (λ goes_on. refines_if goes_on
    (refines_then (refines_same (next c)) (λ d. dropped_then (u (plain d)) (u' (plain d)) (turns n t b next u d) (turns n t' b' next u' d) (hu (plain d)) (turns_refine n t t' b b' u u' next ht hb hu d)))
    (refines_same (gives Undefined))))
    (refines_same (gives Undefined)))

pub do_turns_refine : (n : ℕ) (b b' t : Meaning) → ((c : Context) → Refines (b (plain c)) (b' (plain c))) → (c : Context) → Refines (do_turns n b t c) (do_turns n b' t c)
unfolding do_turns
do_turns_refine zero b b' t hb c = refines_same _
do_turns_refine (suc n) b b' t hb c =
    refines_then (turn_refines b b' hb c) (λ goes_on. refines_if goes_on
    (refines_then (refines_same (t (plain c))) (λ v. refines_if (truthy v) (do_turns_refine n b b' t hb c) (refines_same (gives Undefined))))
    (refines_same (gives Undefined)))

-- a test that is known to be false
if_false : {A : Type 0} (m k : Run A) (b : Bool) → b ≡ false → (if b then m else k) ≡ k
if_false m k true e = cc
if_false m k false e = refl

pub turns_end : (n : ℕ) (t b : Meaning) (next : Context → Run Context) (u : Meaning) (c : Context) → ((d : Context) → Keeps (HasTruth false) (t d)) → Refines (turns n t b next u c) (gives Undefined)
unfolding turns
turns_end zero t b next u c h = refines_drop (h (plain c)) (λ v e. refines_path (if_false _ _ (truthy v) e))
turns_end (suc n) t b next u c h = refines_drop (h (plain c)) (λ v e. refines_path (if_false _ _ (truthy v) e))

-- the body of such a loop, which is never run
pub turns_body : (n : ℕ) (t b b' : Meaning) (next : Context → Run Context) (u : Meaning) (c : Context) → ((d : Context) → Yields (HasTruth false) (t d)) → Refines (turns n t b next u c) (turns n t b' next u c)
unfolding turns
turns_body zero t b b' next u c h = refines_same _
turns_body (suc n) t b b' next u c h = refines_where (h (plain c)) (λ v e. refines_path (if_false _ _ (truthy v) e ∙ sym (if_false _ _ (truthy v) e)))

-- and neither is what is done between its turns
pub turns_idle : (n : ℕ) (t b b' : Meaning) (next : Context → Run Context) (u u' : Meaning) (c : Context) → ((d : Context) → Yields (HasTruth false) (t d)) → Refines (turns n t b next u c) (turns n t b' next u' c)
unfolding turns
turns_idle zero t b b' next u u' c h = refines_same _
turns_idle (suc n) t b b' next u u' c h = refines_where (h (plain c)) (λ v e. refines_path (if_false _ _ (truthy v) e ∙ sym (if_false _ _ (truthy v) e)))

-- `do` with a test that is known to be true
if_true : {A : Type 0} (m k : Run A) (b : Bool) → b ≡ true → (if b then m else k) ≡ m
if_true m k true e = refl
if_true m k false e = cc

pub do_forever : (n : ℕ) (t b a u : Meaning) (next : Context → Run Context) → ((d : Context) → Keeps (HasTruth true) (t d)) → ((d : Context) → a d ≡ gives (Truth true)) → ((d : Context) → next d ≡ gives d) → ((d : Context) → u d ≡ gives (Truth true)) → (c : Context) → Refines (do_turns n b t c) (turns n a b next u c)
unfolding do_turns turns and_then
do_forever zero t b a u next ht ha hn hu c = record { by = λ s. tt }
do_forever (suc n) t b a u next ht ha hn hu c =
    refines_trans
    (refines_then (refines_same (λ s. turn c.labels (b (plain c) s))) (λ goes_on. refines_if goes_on (refines_drop (ht (plain c)) (λ v e. refines_trans (refines_path (if_true _ _ (truthy v) e)) (do_forever n t b a u next ht ha hn hu c))) (refines_same (gives Undefined))))
    (refines_path (sym (
    ap (λ (m : Run Value). m >>= λ v. if truthy v then ((λ s. turn c.labels (b (plain c) s)) >>= λ goes_on. if goes_on then (next c >>= λ d. u (plain d) >>= λ w. turns n a b next u d) else gives Undefined) else gives Undefined) (ha (plain c))
    ∙ ap (λ (m : Run Value). (λ s. turn c.labels (b (plain c) s)) >>= λ goes_on. if goes_on then m else gives Undefined) (ap (λ (m : Run Context). m >>= λ d. u (plain d) >>= λ w. turns n a b next u d) (hn c) ∙ ap (λ (m : Run Value). m >>= λ w. turns n a b next u c) (hu (plain c))))))

-- a loop whose test is known to be true, with a literal in its place
pub turns_true : (n : ℕ) (t a b u : Meaning) (next : Context → Run Context) → ((d : Context) → Keeps (HasTruth true) (t d)) → ((d : Context) → a d ≡ gives (Truth true)) → (c : Context) → Refines (turns n t b next u c) (turns n a b next u c)
unfolding turns and_then
turns_true zero t a b u next ht ha c = refines_drop (ht (plain c)) (λ v e. refines_trans (refines_path (if_true _ _ (truthy v) e)) (record { by = λ s. tt }))
turns_true (suc n) t a b u next ht ha c =
    refines_drop (ht (plain c)) (λ v e. refines_trans (refines_path (if_true _ _ (truthy v) e))
    (refines_trans (refines_then (refines_same (λ s. turn c.labels (b (plain c) s))) (λ goes_on. refines_if goes_on (refines_then (refines_same (next c)) (λ d. refines_then (refines_same (u (plain d))) (λ w. turns_true n t a b u next ht ha d))) (refines_same (gives Undefined))))
    (refines_path (sym (ap (λ (m : Run Value). m >>= λ v. if truthy v then ((λ s. turn c.labels (b (plain c) s)) >>= λ goes_on. if goes_on then (next c >>= λ d. u (plain d) >>= λ w. turns n a b next u d) else gives Undefined) else gives Undefined) (ha (plain c)))))))

-- a loop with the literal `false` for a test
pub turns_never : (n : ℕ) (a b : Meaning) (next : Context → Run Context) (u : Meaning) (c : Context) → ((d : Context) → a d ≡ gives (Truth false)) → turns n a b next u c ≡ gives Undefined
unfolding turns and_then
turns_never zero a b next u c h = ap (λ (m : Run Value). m >>= λ v. if truthy v then (λ s. Cut) else gives Undefined) (h (plain c))
turns_never (suc n) a b next u c h = ap (λ (m : Run Value). m >>= λ v. if truthy v then ((λ s. turn c.labels (b (plain c) s)) >>= λ goes_on. if goes_on then (next c >>= λ d. u (plain d) >>= λ w. turns n a b next u d) else gives Undefined) else gives Undefined) (h (plain c))

-- `for`

abbrev pub shell : List Declared → List Declared → Meaning → (Context → Run Value) → Context → Run Value
shell heads copied init loop c = in_scope (λ x. is_found x heads) (λ e x. cell_of_declared e c.this (found x heads)) (λ d. init (plain d) >>= λ v. copies copied d >>= λ e. loop e) c

pub shell_refines : (heads copied : List Declared) (i j : Meaning) (m k : Context → Run Value) → ((c : Context) → Refines (drop (i c)) (drop (j c))) → ((c : Context) → Refines (m c) (k c)) → (c : Context) → Refines (shell heads copied i m c) (shell heads copied j k c)
unfolding in_scope
shell_refines heads copied i j m k hi hm c = record { by = λ s. (inner _).by _ }
  where
    inner : (d : Context) → Refines (i (plain d) >>= λ v. copies copied d >>= λ e. m e) (j (plain d) >>= λ v. copies copied d >>= λ e. k e)
    inner d = dropped_then (i (plain d)) (j (plain d)) (copies copied d >>= λ e. m e) (copies copied d >>= λ e. k e) (hi (plain d)) (refines_then (refines_same (copies copied d)) hm)

pub for_is : (n : ℕ) (head : Tree) (i t u b : Meaning) (c : Context) → for_loop n head i t u b c ≡ shell (head_names head) (copied_names head) i (turns n t b (copies (copied_names head)) u) c
unfolding for_loop
for_is n head i t u b c = refl

pub copies_nothing : (c : Context) → copies [] c ≡ gives c
unfolding copies in_scope
copies_nothing c = refl

pub given : {A B : Type 0} (a : A) (m : A → Run B) → (gives a >>= m) ≡ m a
unfolding and_then
given a m = refl

-- a head that declares nothing
pub shell_nothing : (i : Meaning) (m : Context → Run Value) (c : Context) → shell [] [] i m c ≡ (i (plain c) >>= λ v. m c)
unfolding in_scope
shell_nothing i m c = ap (λ (k : Run Value). i (plain c) >>= λ v. k) (ap (λ (m' : Run Context). m' >>= m) (copies_nothing c) ∙ given c m)
