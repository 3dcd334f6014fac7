-- Statements whose direct `break` goes with the switch that it ends.
use Rattle.std.proofs.Common.{◌≡◌, ℕ, Bool, true, false, ◌||◌, List, Some, None, refl, sym, ap, subst, ◌∙◌}
use Rattle.std.proofs.lemmas.Bool.{false≢true, true≢false}
use Rattle.swc_ast.specs.declared.Span.{Span}
use Rattle.swc_ast.specs.Tree.{Break, FnDecl, Tree, node, Forest, ε, ◌⊳◌}
use Rattle.swc_ast.specs.Value.{Value, Undefined, State, Broken, Continued, Returned, Thrown, Outcome, Done, Jumps, Outside, Cut, Run, and_then, Context, Meaning}
use Rattle.swc_ast.specs.Scope.{joined}
use Rattle.swc_ast.specs.Meaning.{◌>>=◌, gives, run_all, at_break, act, eval, evals}
use Rattle.swc_ast.specs.Call.{call_at}
use Rattle.swc_ast.specs.Weight.{is_stopper}
use Rattle.meaning_proofs.specs.Exact.{Refines}
use Rattle.pass_proofs.proofs.Refines.{refines_path}
use Rattle.meaning_proofs.proofs.DeadCode.{stopped}
use Rattle.branch_rules.specs.Jumps.{Kinds, escapes, some_escape}
use Rattle.branch_proofs.proofs.Leaving.{Stays, Keeps}
use Rattle.branch_rules.specs.Switches.{functions_of, breaking, Unbroken, no_break, break_goes, stops_before}
use Rattle.branch_rules.specs.Once.{all_functions}
use Rattle.branch_proofs.proofs.Becomes.{run_behind}
use Rattle.branch_proofs.proofs.JumpParts.{all_keep, keeps_then}
use Rattle.branch_proofs.proofs.Jumps.{trees_keep, calls_keep}
use Rattle.branch_proofs.proofs.Stoppers.{stopper_ends}
use mathlib.Core.Path.{fun_ext}

-- an outcome that is no `break` of the switch
pub no_break_end : (o : Outcome Value) → Stays breaking o → at_break o ≡ o
unfolding at_break
no_break_end (Done v s) h = refl
no_break_end (Jumps (Broken None) s) h = absurd (true≢false h)
no_break_end (Jumps (Broken (Some l)) s) h = refl
no_break_end (Jumps (Continued l) s) h = refl
no_break_end (Jumps (Returned v) s) h = refl
no_break_end (Jumps (Thrown v) s) h = refl
no_break_end Outside h = refl
no_break_end Cut h = refl

-- where a `break` follows, and where something does that does nothing
break_end : (o : Outcome Value) (rest : Value → Run Value) → Stays breaking o → at_break (and_then o (λ v. (λ s. Jumps (Broken None) s) >>= rest)) ≡ and_then o (λ v. gives Undefined)
unfolding at_break and_then
break_end (Done v s) rest h = refl
break_end (Jumps (Broken None) s) rest h = absurd (true≢false h)
break_end (Jumps (Broken (Some l)) s) rest h = refl
break_end (Jumps (Continued l) s) rest h = refl
break_end (Jumps (Returned v) s) rest h = refl
break_end (Jumps (Thrown v) s) rest h = refl
break_end Outside rest h = refl
break_end Cut rest h = refl

pub or_none : (b : Bool) → b ≡ false → (b || false) ≡ false
or_none true e = cc
or_none false e = refl

pub functions_are : (ts : Forest) → all_functions (functions_of ts) ≡ true
functions_are ε = refl
functions_are (node (FnDecl x) ss cs ⊳ ts) = functions_are ts
functions_are (t ⊳ ts) = functions_are ts

module _ (mark n d : ℕ) where
  abbrev runs : Forest → Meaning
  runs ts = run_all (evals mark n (call_at (eval mark n) d) ts)

  pub list_keeps : (ts : Forest) (g : Kinds) → some_escape g ts ≡ false → (c : Context) → Keeps g (runs ts c)
  list_keeps ts g e c = all_keep g (evals mark n (call_at (eval mark n) d) ts) (trees_keep mark n (call_at (eval mark n) d) (λ g f this args. calls_keep g (eval mark n) d f this args) ts g e) c

  pub functions_run : (ts : Forest) (c : Context) → all_functions ts ≡ true → runs ts c ≡ gives Undefined
  unfolding run_all eval evals act and_then
  functions_run ε c h = refl
  functions_run (node (FnDecl x) ss cs ⊳ ts) c h = functions_run ts c h
  functions_run (t ⊳ ts) c h = absurd (false≢true h)

  breaks_run : (ts : Forest) (ss : List Span) (us vs : Forest) (c : Context) (s : State) → some_escape breaking ts ≡ false → all_functions vs ≡ true → at_break (runs (joined ts (node (Break None) ss ε ⊳ us)) c s) ≡ runs (joined ts vs) c s
  unfolding run_all eval evals act
  breaks_run ts ss us vs c s e h =
      ap (λ (m : Run Value). at_break (m s)) (run_behind mark n (call_at (eval mark n) d) ts (node (Break None) ss ε ⊳ us) c)
      ∙ break_end (runs ts c s) (λ v. runs us c) ((list_keeps ts breaking e c).by s)
      ∙ ap (λ (m : Run Value). and_then (runs ts c s) (λ v. m)) (sym (functions_run vs c h))
      ∙ sym (ap (λ (m : Run Value). m s) (run_behind mark n (call_at (eval mark n) d) ts vs c))

  -- behind a stopper anything may stand
  pub stopped_run : (ts : Forest) (t : Tree) (us vs : Forest) (c : Context) → is_stopper t ≡ true → runs (joined ts (t ⊳ us)) c ≡ runs (joined ts (t ⊳ vs)) c
  unfolding run_all evals
  stopped_run ts t us vs c h =
      run_behind mark n (call_at (eval mark n) d) ts (t ⊳ us) c
      ∙ ap (λ (m : Run Value). runs ts c >>= λ v. m) (fun_ext (λ s. stopped (λ v. runs us c) (λ v. runs vs c) ((stopper_ends mark t h).by n (call_at (eval mark n) d) c s)))
      ∙ sym (run_behind mark n (call_at (eval mark n) d) ts (t ⊳ vs) c)

  stopper_keeps : (ts : Forest) (t : Tree) (c : Context) → some_escape breaking ts ≡ false → escapes breaking t ≡ false → Keeps breaking (runs (joined ts (t ⊳ ε)) c)
  unfolding run_all evals
  stopper_keeps ts t c e f = subst (Keeps breaking) (sym (run_behind mark n (call_at (eval mark n) d) ts (t ⊳ ε) c)) (keeps_then breaking (list_keeps ts breaking e c) (λ v. list_keeps (t ⊳ ε) breaking (or_none (escapes breaking t) f) c))

  -- outside the switch
  pub unbroken_run : {ts us gs : Forest} → Unbroken ts us gs → (c : Context) → Refines (λ s. at_break (runs ts c s)) (runs us c)
  unbroken_run (no_break ts e) c = refines_path (fun_ext (λ s. no_break_end (runs ts c s) ((list_keeps ts breaking e c).by s)))
  unbroken_run (break_goes ts ss us e) c = refines_path (fun_ext (λ s. breaks_run ts ss us (functions_of us) c s e (functions_are us)))
  unbroken_run (stops_before ts t us e h f) c = refines_path (fun_ext (λ s.
      ap (λ (m : Run Value). at_break (m s)) (stopped_run ts t us ε c h)
      ∙ no_break_end (runs (joined ts (t ⊳ ε)) c s) ((stopper_keeps ts t c e f).by s)
      ∙ ap (λ (m : Run Value). m s) (stopped_run ts t ε (functions_of us) c h)))
