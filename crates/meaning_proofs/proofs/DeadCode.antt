-- Statements behind which nothing runs, branches that never run, and what may stand in their place.
use Rattle.std.proofs.Common.{◌≡◌, ℕ, List, Option, refl}
use Rattle.swc_ast.specs.declared.Span.{Span}
use Rattle.swc_ast.specs.Tree.{Text, Block, Return, Throw, Break, Continue, Tree, node, Forest, ε, ◌⊳◌}
use Rattle.swc_ast.specs.Value.{Value, State, Outcome, Done, Jumps, Outside, Cut, Run, and_then, Context}
use Rattle.swc_ast.specs.Meaning.{Caller, eval, evals, act, run_all, in_scope, in_list_scope}
use Rattle.swc_ast.specs.Call.{call_at}
use Rattle.meaning_proofs.specs.Exact.{ListExact, Stopped, stopped_jump, stopped_left, stopped_cut, Stops}
use Rattle.meaning_proofs.proofs.Laws.{list_exact_path}

pub stopped : {A B : Type 0} {o : Outcome A} (f g : A → Run B) → Stopped o → and_then o f ≡ and_then o g
unfolding and_then
stopped f g stopped_jump = refl
stopped f g stopped_left = refl
stopped f g stopped_cut = refl

stops_first : {A B : Type 0} (o : Outcome A) (f : A → Run B) → Stopped o → Stopped (and_then o f)
unfolding and_then
stops_first o f stopped_jump = stopped_jump
stops_first o f stopped_left = stopped_left
stops_first o f stopped_cut = stopped_cut

stops_then : (o : Outcome Value) (f : Value → Run Value) → ((v : Value) (s : State) → Stopped (f v s)) → Stopped (and_then o f)
unfolding and_then
stops_then (Done v s) f h = h v s
stops_then (Jumps j s) f h = stopped_jump
stops_then Outside f h = stopped_left
stops_then Cut f h = stopped_cut

-- a statement behind which nothing runs
pub record Ends (mark : ℕ) (t : Tree) : Type 0 where
  pub by : (n : ℕ) (call : Caller) (c : Context) (s : State) → Stopped (eval mark n call t c s)

module _ (mark : ℕ) where
  pub ends_return : (ss : List Span) (cs : Forest) → Ends mark (node Return ss cs)
  unfolding eval act evals
  ends_return ss ε = record { by = λ n call c s. stopped_jump }
  ends_return ss (t ⊳ ε) = record { by = λ n call c s. stops_then (eval mark n call t c s) _ (λ v s. stopped_jump) }
  ends_return ss (t ⊳ u ⊳ ts) = record { by = λ n call c s. stopped_left }

  pub ends_throw : (ss : List Span) (t : Tree) → Ends mark (node Throw ss (t ⊳ ε))
  unfolding eval act evals
  ends_throw ss t = record { by = λ n call c s. stops_then (eval mark n call t c s) _ (λ v s. stopped_jump) }

  pub ends_break : (l : Option Text) (ss : List Span) → Ends mark (node (Break l) ss ε)
  unfolding eval act evals
  ends_break l ss = record { by = λ n call c s. stopped_jump }

  pub ends_continue : (l : Option Text) (ss : List Span) → Ends mark (node (Continue l) ss ε)
  unfolding eval act evals
  ends_continue l ss = record { by = λ n call c s. stopped_jump }

  -- statements of which one never ends normally
  pub data HasEnd : Forest → Type 0 where
    ends_here : {t : Tree} {ts : Forest} → Ends mark t → HasEnd (t ⊳ ts)
    ends_later : {t : Tree} {ts : Forest} → HasEnd ts → HasEnd (t ⊳ ts)

  list_ends : {ts : Forest} → HasEnd ts → (n : ℕ) (call : Caller) (c : Context) (s : State) → Stopped (run_all (evals mark n call ts) c s)
  unfolding run_all evals
  list_ends (ends_here {t = t} h) n call c s = stops_first (eval mark n call t c s) _ (h.by n call c s)
  list_ends (ends_later {t = t} h) n call c s = stops_then (eval mark n call t c s) _ (λ v r. list_ends h n call c r)

  -- a block of such statements never does either
  pub ends_block : (ss : List Span) (ts : Forest) → HasEnd ts → Ends mark (node Block ss ts)
  unfolding eval act evals in_list_scope in_scope
  ends_block ss ts h = record { by = λ n call c s. list_ends h n call _ _ }

  pub ends_stops : {t : Tree} → Ends mark t → Stops mark t
  ends_stops h = record { by = λ n d c s. h.by n (call_at (eval mark n) d) c s }

  -- behind such a statement anything may stand
  pub after_end : (t : Tree) → Ends mark t → (ts us : Forest) → ListExact mark (t ⊳ ts) (t ⊳ us)
  unfolding run_all
  after_end t h ts us = list_exact_path mark (λ n call c s. stopped _ _ (h.by n call c s))

-- a branch that never runs goes from a list, and leaves its variables

-- what is declared stays the same
