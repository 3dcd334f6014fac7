-- Steps of a rewrite, by what they do to each run.
use Rattle.std.specs.Prelude.{ℕ, ◌≡◌, Bool, true, false, List, [], ◌∷◌, Option, Some, None, ⊤}
use Rattle.swc_ast.specs.Tree.{Name, Tree, Forest}
use Rattle.swc_ast.specs.Value.{Value, Undefined, is_data, Cell, State, Jump, Outcome, Done, Jumps, Outside, Cut, Run, Context, Meaning}
use Rattle.swc_ast.specs.Meaning.{◌>>=◌, is_initialised, eval, run_all, cases_of, default_bodies, selected, at_break}
use Rattle.swc_ast.specs.Call.{Evaluator, each_of, call_at}
use Rattle.meaning_proofs.specs.Names.{Names, Guards}

-- How trees are evaluated, for each bound on the turns of loops.
abbrev pub Evaluation : Type 0
Evaluation = ℕ → Evaluator

-- what a tree does, with at most n turns of each loop and calls to a depth of at most d
abbrev pub run_at : Evaluation → ℕ → ℕ → Tree → Meaning
run_at does n d = does n (call_at (does n) d)

-- what statements do
abbrev pub list_at : Evaluation → ℕ → ℕ → Forest → Meaning
list_at does n d ts = run_all (each_of (run_at does n d) ts)

-- the second is the first, wherever the first neither leaves the core nor is cut
abbrev pub Refined : {A : Type 0} → Outcome A → Outcome A → Type 0
Refined (Done a s) r = r ≡ Done a s
Refined (Jumps j s) r = r ≡ Jumps j s
Refined Outside r = ⊤
Refined Cut r = ⊤

-- the same of two runs, from each state
pub record Refines {A : Type 0} (m k : Run A) : Type 0 where
  pub by : (s : State) → Refined (m s) (k s)

-- The second tree does what the first does, wherever that stays in the core.
pub record Exact (mark : ℕ) (t u : Tree) : Type 0 where
  pub by : (n d : ℕ) (c : Context) → Refines (run_at (eval mark) n d t c) (run_at (eval mark) n d u c)

-- The same of two lists of statements.
pub record ListExact (mark : ℕ) (ts us : Forest) : Type 0 where
  pub by : (n d : ℕ) (c : Context) → Refines (list_at (eval mark) n d ts c) (list_at (eval mark) n d us c)

-- cells that are alike but for what they hold, or as many cells
pub data AlikeCells (b : Bool) : List Cell → List Cell → Type 0 where
  none_alike : AlikeCells b [] []
  one_alike : {c d : Cell} {cs ds : List Cell} → c.writable ≡ d.writable → is_initialised c.held ≡ is_initialised d.held → AlikeCells b cs ds → AlikeCells b (c ∷ cs) (d ∷ ds)
  one_any : {c d : Cell} {cs ds : List Cell} → b ≡ true → AlikeCells b cs ds → AlikeCells b (c ∷ cs) (d ∷ ds)

-- states that differ at most at dropped names, and in what loose names hold
pub record Apart (N : Names) (s t : State) : Type 0 where
  pub events : s.events ≡ t.events
  pub replies : s.replies ≡ t.replies
  pub handed : s.handed ≡ t.handed
  pub natives : s.natives ≡ t.natives
  pub store : (x : Name) → N.dropped x ≡ false → N.loose x ≡ false → s.store x ≡ t.store x
  pub loosely : (x : Name) → N.dropped x ≡ false → N.loose x ≡ true → AlikeCells (N.slack x) (s.store x) (t.store x)

-- and the first keeps what is known of guarded names
pub record Off (N : Names) (s t : State) : Type 0 where
  pub apart : Apart N s t
  pub guards : Guards N t → Guards N s

-- The second outcome is the first but for cells of dropped names, wherever the first neither leaves the core nor is cut.
pub data Trimmed (N : Names) {A : Type 0} : Outcome A → Outcome A → Type 0 where
  same_value : {a : A} {s t : State} → Off N s t → Trimmed N (Done a s) (Done a t)
  same_jump : {j : Jump} {s t : State} → Off N s t → Trimmed N (Jumps j s) (Jumps j t)
  left_core : (o : Outcome A) → Trimmed N Outside o
  was_cut : (o : Outcome A) → Trimmed N Cut o

-- The second tree does what the first does, but for cells of dropped names.
pub record Trims (N : Names) (does : Evaluation) (t u : Tree) : Type 0 where
  pub by : (n d : ℕ) (c : Context) (s : State) → Guards N s → Trimmed N (run_at does n d t c s) (run_at does n d u c s)

pub record ListTrims (N : Names) (does : Evaluation) (ts us : Forest) : Type 0 where
  pub by : (n d : ℕ) (c : Context) (s : State) → Guards N s → Trimmed N (list_at does n d ts c s) (list_at does n d us c s)

-- an outcome that gives some value, in a state that is related to the first
pub data Idled (R : State → State → Type 0) (s : State) : Outcome Value → Type 0 where
  idled : {v : Value} {t : State} → R t s → Idled R s (Done v t)
  idle_left : Idled R s Outside
  idle_cut : Idled R s Cut

-- a tree that does nothing but write to dropped names
pub record Idle (N : Names) (does : Evaluation) (t : Tree) : Type 0 where
  pub by : (n d : ℕ) (c : Context) (s : State) → Guards N s → Idled (Off N) s (run_at does n d t c s)

-- the same of a tree of the second module
pub record IdleAfter (N : Names) (mark : ℕ) (t : Tree) : Type 0 where
  pub by : (n d : ℕ) (c : Context) (s : State) → Idled (Apart N) s (run_at (eval mark) n d t c s)

-- an outcome that gives no other value
pub data Yielded (v : Value) : Outcome Value → Type 0 where
  yielded : {s : State} → Yielded v (Done v s)
  yield_jumped : {j : Jump} {s : State} → Yielded v (Jumps j s)
  yield_left : Yielded v Outside
  yield_cut : Yielded v Cut

-- a tree that gives no value but one
pub record Yields (mark : ℕ) (v : Value) (t : Tree) : Type 0 where
  pub by : (n d : ℕ) (c : Context) (s : State) → Yielded v (run_at (eval mark) n d t c s)

-- a tree that gives undefined and does nothing else, wherever it stays in the core
pub record GivesUndefined (mark : ℕ) (t : Tree) : Type 0 where
  pub by : (n d : ℕ) (c : Context) (s : State) → Refined (run_at (eval mark) n d t c s) (Done Undefined s)

-- what the cases of a switch do in their scope, for a value of the discriminant
abbrev pub cases_at : Evaluation → ℕ → ℕ → List Bool → Forest → Value → Meaning
cases_at does n d ds cs v c s =
    at_break ((selected (cases_of ds (each_of (run_at does n d) cs)) (default_bodies (cases_of ds (each_of (run_at does n d) cs))) v c >>= λ bodies. run_all bodies c) s)

-- a value that is among those that are known
abbrev pub Among : Option Value → Value → Type 0
Among None v = ⊤
Among (Some w) v = v ≡ w

-- The second cases do what the first do, but for cells of dropped names, for each value that is among those known.
pub record CasesTrim (N : Names) (does : Evaluation) (known : Option Value) (ds : List Bool) (cs : Forest) (es : List Bool) (us : Forest) : Type 0 where
  pub by : (n d : ℕ) (v : Value) (c : Context) (s : State) → Among known v → Guards N s → Trimmed N (cases_at does n d ds cs v c s) (cases_at does n d es us v c s)

-- what is known of a discriminant
pub data Discriminant (mark : ℕ) (t : Tree) : Option Value → Type 0 where
  any_value : Discriminant mark t None
  one_value : {v : Value} → is_data v ≡ true → Yields mark v t → Discriminant mark t (Some v)

-- an outcome with which nothing goes on
pub data Stopped {A : Type 0} : Outcome A → Type 0 where
  stopped_jump : {j : Jump} {s : State} → Stopped (Jumps j s)
  stopped_left : Stopped Outside
  stopped_cut : Stopped Cut

-- a tree that never ends normally, so that nothing behind it is run
pub record Stops (mark : ℕ) (t : Tree) : Type 0 where
  pub by : (n d : ℕ) (c : Context) (s : State) → Stopped (run_at (eval mark) n d t c s)
