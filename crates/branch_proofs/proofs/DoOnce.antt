-- A `do` whose test is false runs its body once.
use Rattle.std.proofs.Common.{◌≡◌, ℕ, zero, suc, Bool, true, false, ◌&&◌, ◌||◌, if◌then◌else◌, List, [], ◌++◌, Some, None, refl, sym, ap, ◌∙◌}
use Rattle.std.proofs.lemmas.Bool.{and_from, false≢true, true≢false}
use Rattle.swc_ast.specs.declared.Span.{Span}
use Rattle.swc_ast.specs.Tree.{Name, Block, Break, Continue, Tree, node, Forest, ε, ◌⊳◌}
use Rattle.swc_ast.specs.Value.{Value, Undefined, State, Broken, Continued, Returned, Thrown, Outcome, Done, Jumps, Outside, Cut, Run, and_then, Context, Meaning}
use Rattle.swc_ast.specs.Operators.{truthy}
use Rattle.swc_ast.specs.Scope.{has_name, vars, vars_all, declared_by, declared, Declared, joined}
use Rattle.swc_ast.specs.Meaning.{◌>>=◌, gives, in_scope, in_list_scope, run_all, plain, has_label, after_jump, turn, do_turns, act, eval, evals}
use Rattle.swc_ast.specs.Call.{call_at}
use Rattle.meaning_proofs.specs.Exact.{Refines}
use Rattle.swc_utils.specs.Holds.{HasTruth, Keeps as Known}
use Rattle.swc_utils.proofs.RunEffects.{drop}
use Rattle.swc_utils.proofs.Refines.{refines_same, refines_then, refines_drop, refines_trans}
use Rattle.pass_proofs.proofs.Refines.{refines_path}
use Rattle.pass_proofs.proofs.Truths.{truth_keeps}
use Rattle.meaning_proofs.proofs.Finds.{has_cons, has_joined}
use Rattle.branch_proofs.proofs.Becoming.{Becomes, SameVars}
use Rattle.branch_rules.specs.Jumps.{Sought, every, is_sought, escapes, some_escape}
use Rattle.branch_proofs.proofs.Leaving.{is_kind, Stays}
use Rattle.branch_rules.specs.Once.{looping, labelling, is_jump, OnceRun, whole, a_jump, inside, DoStep, do_once, all_functions}
use Rattle.branch_rules.specs.Statements.{gives_nothing, all_give_nothing}
use Rattle.branch_proofs.proofs.Becomes.{run_behind}
use Rattle.branch_proofs.proofs.Declared.{one}
use Rattle.branch_proofs.proofs.Dropped.{made_dropped}
use Rattle.branch_proofs.proofs.Jumps.{tree_keeps, calls_keep}
use Rattle.branch_proofs.proofs.Labels.{tree_same}
use Rattle.branch_proofs.proofs.Statements.{scope_of, dropped_same}
use Rattle.branch_proofs.proofs.Tests.{one_declares, declared_behind}
use Rattle.branch_proofs.proofs.Labelled.{expression_vars, plain_declares}
use Rattle.branch_proofs.proofs.Escapes.{escapes_less, some_less, functions_stay, none_behind}
use Rattle.branch_proofs.proofs.Unbroken.{list_keeps, functions_run}
use mathlib.Core.Path.{fun_ext}

-- the labels in front of a loop are among some
abbrev pub Labels : Sought → List (List ℕ) → Type 0
Labels k ls = (l : List ℕ) → is_sought k l ≡ false → has_label l ls ≡ false

-- what a turn comes to where no other follows
abbrev over : List (List ℕ) → Outcome Value → Outcome Value
over ls o = and_then (turn ls o) (λ b. gives Undefined)

and_true : (b : Bool) → (b && true) ≡ false → b ≡ false
and_true true h = absurd (true≢false h)
and_true false h = refl

-- a labelled `continue` that isn't aimed at the loop
over_label : (k : Sought) (ls : List (List ℕ)) (l : List ℕ) (s : State) → Labels k ls → is_kind (looping k) (Continued (Some l)) ≡ false → over ls (Jumps (Continued (Some l)) s) ≡ Jumps (Continued (Some l)) s
unfolding turn and_then
over_label k ls l s p h = ap (λ b. and_then (after_jump (if b then Some true else None) (Continued (Some l)) s) (λ g. gives Undefined)) (p l (and_true (is_sought k l) h))

over_quiet : (k : Sought) (ls : List (List ℕ)) (o : Outcome Value) → Labels k ls → Stays (looping k) o → over ls o ≡ and_then o (λ v. gives Undefined)
unfolding turn and_then
over_quiet k ls (Done v s) p h = refl
over_quiet k ls (Jumps (Broken None) s) p h = absurd (true≢false h)
over_quiet k ls (Jumps (Broken (Some l)) s) p h = refl
over_quiet k ls (Jumps (Continued None) s) p h = absurd (true≢false h)
over_quiet k ls (Jumps (Continued (Some l)) s) p h = over_label k ls l s p h
over_quiet k ls (Jumps (Returned v) s) p h = refl
over_quiet k ls (Jumps (Thrown v) s) p h = refl
over_quiet k ls Outside p h = refl
over_quiet k ls Cut p h = refl

over_break : (k : Sought) (ls : List (List ℕ)) (o : Outcome Value) (rest : Value → Run Value) → Labels k ls → Stays (looping k) o → over ls (and_then o (λ v. (λ s. Jumps (Broken None) s) >>= rest)) ≡ and_then o (λ v. gives Undefined)
unfolding turn and_then
over_break k ls (Done v s) rest p h = refl
over_break k ls (Jumps (Broken None) s) rest p h = absurd (true≢false h)
over_break k ls (Jumps (Broken (Some l)) s) rest p h = refl
over_break k ls (Jumps (Continued None) s) rest p h = absurd (true≢false h)
over_break k ls (Jumps (Continued (Some l)) s) rest p h = over_label k ls l s p h
over_break k ls (Jumps (Returned v) s) rest p h = refl
over_break k ls (Jumps (Thrown v) s) rest p h = refl
over_break k ls Outside rest p h = refl
over_break k ls Cut rest p h = refl

over_continue : (k : Sought) (ls : List (List ℕ)) (o : Outcome Value) (rest : Value → Run Value) → Labels k ls → Stays (looping k) o → over ls (and_then o (λ v. (λ s. Jumps (Continued None) s) >>= rest)) ≡ and_then o (λ v. gives Undefined)
unfolding turn and_then
over_continue k ls (Done v s) rest p h = refl
over_continue k ls (Jumps (Broken None) s) rest p h = absurd (true≢false h)
over_continue k ls (Jumps (Broken (Some l)) s) rest p h = refl
over_continue k ls (Jumps (Continued None) s) rest p h = absurd (true≢false h)
over_continue k ls (Jumps (Continued (Some l)) s) rest p h = over_label k ls l s p h
over_continue k ls (Jumps (Returned v) s) rest p h = refl
over_continue k ls (Jumps (Thrown v) s) rest p h = refl
over_continue k ls Outside rest p h = refl
over_continue k ls Cut rest p h = refl

if_false : {A : Type 0} (m k : Run A) (b : Bool) → b ≡ false → (if b then m else k) ≡ k
if_false m k true e = cc
if_false m k false e = refl

if_both : (b : Bool) {m : Run Value} → Refines m (gives Undefined) → Refines (if b then m else gives Undefined) (gives Undefined)
if_both true h = h
if_both false h = refines_same _

do_ended : (n : ℕ) (b t : Meaning) (c : Context) → ((e : Context) → Known (HasTruth false) (t e)) → Refines (do_turns n b t c) (λ s. over c.labels (b (plain c) s))
unfolding do_turns
do_ended zero b t c h = record { by = λ s. tt }
do_ended (suc n) b t c h = refines_then (refines_same (λ s. turn c.labels (b (plain c) s))) (λ goes_on. if_both goes_on (refines_drop (h (plain c)) (λ v e. refines_path (if_false _ _ (truthy v) e))))

-- a scope, and what its body comes to
scope_over : (ps : List Declared) (f : Outcome Value → Outcome Value) (m k : Meaning) (c : Context) → ((e : Context) (s : State) → f (m e s) ≡ k e s) → (s : State) → f (scope_of ps m c s) ≡ scope_of ps k c s
unfolding in_scope
scope_over ps f m k c h s = h _ _

jump_nothing : (t : Tree) → is_jump t ≡ true → declared_by t ≡ []
jump_nothing (node (Break None) ss ε) h = refl
jump_nothing (node (Continue None) ss ε) h = refl
jump_nothing t h = absurd (false≢true h)

jump_declares : (ts : Forest) (t : Tree) (rest : Forest) → is_jump t ≡ true → declared (joined ts (t ⊳ rest)) ≡ declared (joined ts rest)
jump_declares ts t rest g = declared_behind ts (t ⊳ rest) ∙ ap (λ ps. declared ts ++ (ps ++ declared rest)) (jump_nothing t g) ∙ sym (declared_behind ts rest)

module _ (mark n d : ℕ) where
  abbrev does : Tree → Meaning
  does = eval mark n (call_at (eval mark n) d)

  abbrev runs : Forest → Meaning
  runs ts = run_all (evals mark n (call_at (eval mark n) d) ts)

  block_is : (us : List Span) (ts : Forest) (c : Context) → does (node Block us ts) c ≡ scope_of (declared ts) (runs ts) c
  unfolding eval act in_list_scope
  block_is us ts c = refl

  steady : (k : Sought) (t : Tree) (c : Context) → Labels k c.labels → escapes (labelling k) t ≡ false → does t (plain c) ≡ does t c
  steady k t c p h = tree_same mark n (call_at (eval mark n) d) (λ g f this args. calls_keep g (eval mark n) d f this args) k t h [] c.labels (λ l e. sym (p l e)) c

  jumped : (k : Sought) (ls : List (List ℕ)) (ts : Forest) (t : Tree) (rest vs : Forest) (e : Context) (s : State) → Labels k ls → some_escape (looping k) ts ≡ false → is_jump t ≡ true → all_functions vs ≡ true → over ls (runs (joined ts (t ⊳ rest)) e s) ≡ runs (joined ts vs) e s
  unfolding run_all eval evals act
  jumped k ls ts (node (Break None) ss ε) rest vs e s p h g f =
      ap (λ (m : Run Value). over ls (m s)) (run_behind mark n (call_at (eval mark n) d) ts (node (Break None) ss ε ⊳ rest) e)
      ∙ over_break k ls (runs ts e s) (λ v. runs rest e) p ((list_keeps mark n d ts (looping k) h e).by s)
      ∙ ap (λ (m : Run Value). and_then (runs ts e s) (λ v. m)) (sym (functions_run mark n d vs e f))
      ∙ sym (ap (λ (m : Run Value). m s) (run_behind mark n (call_at (eval mark n) d) ts vs e))
  jumped k ls ts (node (Continue None) ss ε) rest vs e s p h g f =
      ap (λ (m : Run Value). over ls (m s)) (run_behind mark n (call_at (eval mark n) d) ts (node (Continue None) ss ε ⊳ rest) e)
      ∙ over_continue k ls (runs ts e s) (λ v. runs rest e) p ((list_keeps mark n d ts (looping k) h e).by s)
      ∙ ap (λ (m : Run Value). and_then (runs ts e s) (λ v. m)) (sym (functions_run mark n d vs e f))
      ∙ sym (ap (λ (m : Run Value). m s) (run_behind mark n (call_at (eval mark n) d) ts vs e))
  jumped k ls ts t rest vs e s p h g f = absurd (false≢true g)

  jump_alone : (ls : List (List ℕ)) (t : Tree) (e : Context) (s : State) → is_jump t ≡ true → over ls (does t e s) ≡ Done Undefined s
  unfolding eval evals act turn and_then
  jump_alone ls (node (Break None) ss ε) e s g = refl
  jump_alone ls (node (Continue None) ss ε) e s g = refl
  jump_alone ls t e s g = absurd (false≢true g)

  once_run : {k : Sought} {b : Tree} {us : Forest} → OnceRun k b us → (c : Context) → Labels k c.labels → drop (λ s. over c.labels (does b (plain c) s)) ≡ runs us c
  unfolding run_all evals and_then
  once_run {k} (whole b p q g) c w =
      ap drop (fun_ext (λ s. over_quiet k c.labels (does b (plain c) s) w ((tree_keeps mark n (call_at (eval mark n) d) (λ g f this args. calls_keep g (eval mark n) d f this args) b (looping k) g (plain c)).by s)))
      ∙ made_dropped (does b (plain c)) (λ v. Undefined) ∙ ap drop (steady k b c w (escapes_less (looping k) b g))
  once_run (a_jump t g) c w = ap drop (fun_ext (λ s. jump_alone c.labels t (plain c) s g))
  once_run {k} (inside bs us ts t rest h g f) c w =
      ap drop (
      ap (λ (m : Run Value). λ s. over c.labels (m s)) (block_is bs (joined ts (t ⊳ rest)) (plain c))
      ∙ fun_ext (λ s. scope_over (declared (joined ts (t ⊳ rest))) (over c.labels) (runs (joined ts (t ⊳ rest))) (runs (joined ts rest)) (plain c) (λ e u. jumped k c.labels ts t rest rest e u w h g f) s)
      ∙ ap (λ (ps : List Declared). scope_of ps (runs (joined ts rest)) (plain c)) (jump_declares ts t rest g)
      ∙ sym (block_is us (joined ts rest) (plain c)) ∙ steady k (node Block us (joined ts rest)) c w (none_behind (labelling k) ts rest (some_less (looping k) ts h) (functions_stay (labelling k) rest f)))

  pub do_run : {k : Sought} {t : Tree} {us : Forest} → DoStep mark k t us → (c : Context) → Labels k c.labels → Refines (drop (does t c)) (runs us c)
  unfolding eval evals act
  do_run (do_once ss b t z p e o) c w = refines_trans (dropped_same (do_ended n (does b) (does t) c (truth_keeps mark n d t false p e))) (refines_path (once_run o c w))

pub do_becomes : {mark : ℕ} {t : Tree} {us : Forest} → DoStep mark every t us → Becomes mark (t ⊳ ε) us
unfolding run_all evals
do_becomes {mark} h = record { by = λ n d c. do_run mark n d h c (λ l e. absurd (true≢false e)) }

-- names

jump_vars : (x : Name) (t : Tree) → is_jump t ≡ true → has_name x (vars t) ≡ false
jump_vars x (node (Break None) ss ε) h = refl
jump_vars x (node (Continue None) ss ε) h = refl
jump_vars x t h = absurd (false≢true h)

-- a jump among statements
jump_names : (x : Name) (ts : Forest) (t : Tree) (rest : Forest) → is_jump t ≡ true → has_name x (vars_all (joined ts (t ⊳ rest))) ≡ has_name x (vars_all (joined ts rest))
jump_names x ts t rest g = has_joined x ts (t ⊳ rest) ∙ ap (λ b. has_name x (vars_all ts) || b) (has_cons x t rest ∙ ap (λ b. b || has_name x (vars_all rest)) (jump_vars x t g)) ∙ sym (has_joined x ts rest)

once_vars : (x : Name) {k : Sought} {b : Tree} {us : Forest} → OnceRun k b us → has_name x (vars b) ≡ has_name x (vars_all us)
once_vars x (whole b p q g) = sym (one x b)
once_vars x (a_jump t g) = jump_vars x t g
once_vars x (inside bs us ts t rest h g f) = jump_names x ts t rest g ∙ sym (one x (node Block us (joined ts rest)))

once_declares : {k : Sought} {b : Tree} {us : Forest} → OnceRun k b us → declared us ≡ []
once_declares (whole b p q g) = one_declares b (plain_declares b p)
once_declares (a_jump t g) = refl
once_declares (inside bs us ts t rest h g f) = refl

or_empty : (a b : Bool) → b ≡ false → (a || b) ≡ a
or_empty true b e = refl
or_empty false b e = e

pub do_vars : {mark : ℕ} {k : Sought} {t : Tree} {us : Forest} → DoStep mark k t us → SameVars t us
do_vars (do_once ss b t z p e o) = record {
  vars = λ x. has_cons x b (t ⊳ ε) ∙ or_empty (has_name x (vars b)) _ (one x t ∙ ap (has_name x) (expression_vars t z)) ∙ once_vars x o;
  before = refl;
  behind = once_declares o;
}

-- none of what is left gives a value

once_stands : {k : Sought} {b : Tree} {us : Forest} → OnceRun k b us → all_give_nothing us ≡ true
once_stands (whole b p g h) = and_from (gives_nothing b) true g refl
once_stands (a_jump t g) = refl
once_stands (inside bs us ts t rest h g f) = refl

pub do_stands : {mark : ℕ} {k : Sought} {t : Tree} {us : Forest} → DoStep mark k t us → all_give_nothing us ≡ true
do_stands (do_once ss b t e p k o) = once_stands o
