-- How values are walked, for private clauses.
use Rattle.std.specs.Prelude.{ℕ, ◌+◌, ◌*◌, ◌<◌, ◌≡◌, nat_lt, Bool, true, false, not, ◌⊎◌, List, [], ◌∷◌, ◌++◌, map, reverse, take, set, length, count_by, slice_get, string_bytes, Option, Some, is_some}
use Rattle.std.specs.List.{All}
use Rattle.swc_ast.specs.Tree.{Tree}
use Rattle.swc_ast.specs.Views.{expr_tree}
use Rattle.std.specs.declared.alloc.Global.{Global}
use Rattle.std.specs.declared.string.String.{String}
use Rattle.swc_ast.specs.declared.errors.PassError.{PassError}
use Rattle.swc_ast.specs.declared.errors.PassError.TheVariants.{CyclicGlobals}
use Rattle.swc_ast.specs.declared.expressions.Expr.{Expr}
use Rattle.swc_pass.specs.Given.{Answers, value_at}
use Rattle.given_shield.specs.Shield.{shield}
use Rattle.given_rules.specs.Cycles.{is_among}
use Rattle.given_rules.specs.Met.{met, covers}
use Rattle.given_rules.specs.Put.{here, put}
use Rattle.given_rules.specs.Worked.{Finals, finished, puts, Worked}
use Rattle.given_globals.specs.Globals.{answers_of, told_name}
use Rattle.given_globals.specs.declared.settings.Settings.{Settings}
use Rattle.swc_inline_globals.specs.Answers.{Refused}
use Rattle.swc_inline_globals.specs.Slots.{slots}
use Rattle.swc_inline_globals.specs.declared.finals.Frame.{Frame}
use Rattle.swc_inline_globals.specs.declared.finals.Walk.{Walk}

-- values that were made

abbrev pub is_done : List (Option Expr) → ℕ → Bool
is_done xs i = is_some (slots xs i)

abbrev pub AllDone : List (Option Expr) → List ℕ → Type 0
AllDone xs is = covers (is_done xs) is ≡ true

abbrev pub Grows : List (Option Expr) → List (Option Expr) → Type 0
Grows xs ys = (i : ℕ) → is_done xs i ≡ true → is_done ys i ≡ true

-- What was made of values.
pub record AreFinals (a : Answers) (xs : List (Option Expr)) : Type 0 where
  pub finals : Finals
  pub worked : Worked a shield finals
  pub is : finished finals ≡ slots xs

abbrev pub AllInRange : ℕ → List ℕ → Type 0
AllInRange n is = covers (λ i. nat_lt i n) is ≡ true

-- What was made of all that some numbers ask for.
pub record AreMade (a : Answers) (roots : List ℕ) (xs : List (Option Expr)) : Type 0 where
  pub made : AreFinals a xs
  pub all : length xs ≡ length a.values
  pub done : AllDone xs roots

-- values that are walked

-- a copy of a value, with what is met in it
pub record IsFrame (a : Answers) (f : Frame) : Type 0 where
  pub in_range : f.number < length a.values
  pub value : expr_tree f.value ≡ value_at a.values f.number
  pub needs : f.needs.items ≡ met a (value_at a.values f.number)

abbrev pub IsReady : List (Option Expr) → Frame → Type 0
IsReady xs f = AllDone xs (take f.next f.needs.items)

pub record IsFresh (a : Answers) (i : ℕ) (f : Frame) : Type 0 where
  pub frame : IsFrame a f
  pub number : f.number ≡ i
  pub next : f.next ≡ 0

-- a number that isn't done
pub record IsNeed (xs : List (Option Expr)) (is : List ℕ) (i : ℕ) : Type 0 where
  pub in_range : i < length xs
  pub among : is_among i is ≡ true
  pub waits : is_done xs i ≡ false

pub record SameFrame (f g : Frame) : Type 0 where
  pub number : g.number ≡ f.number
  pub value : g.value ≡ f.value
  pub needs : g.needs ≡ f.needs

-- the numbers of values that are walked, the last one first
abbrev pub walked : List Frame → List ℕ
walked fs = reverse (map (λ f. f.number) fs)

-- each is met in the value behind it
pub data Path (a : Answers) (roots : List ℕ) : List ℕ → Type 0 where
  nowhere : Path a roots []
  begins : {i : ℕ} → is_among i roots ≡ true → Path a roots (i ∷ [])
  goes : {i j : ℕ} {js : List ℕ} → is_among i (met a (value_at a.values j)) ≡ true → Path a roots (j ∷ js) → Path a roots (i ∷ j ∷ js)

abbrev pub IsBegun : List Bool → ℕ → Type 0
IsBegun bs i = slice_get bs i ≡ Some true

-- what holds between the steps
pub record Standing (a : Answers) (roots : List ℕ) (xs : List (Option Expr)) (bs : List Bool) (fs : List Frame) : Type 0 where
  pub made : AreFinals a xs
  pub all : length xs ≡ length a.values
  pub all_begun : length bs ≡ length a.values
  pub frames : All (IsFrame a) fs
  pub ready : All (IsReady xs) fs
  pub path : Path a roots (walked fs)
  pub begun : (i : ℕ) → IsBegun bs i → (is_done xs i ≡ true) ⊎ (is_among i (walked fs) ≡ true)

abbrev pub Stands : Walk → Type 0
Stands w = Standing (answers_of w.lookup.now.settings) w.roots.now w.finals.items w.begun.items w.stack.items

abbrev pub SameAsked : Walk → Walk → Type 0
SameAsked w v = (v.lookup ≡ w.lookup) × (v.roots ≡ w.roots)

-- how much is to be done
abbrev pub waiting : Walk → ℕ
waiting w = 2 * count_by not w.begun.items + length w.stack.items

-- a step
pub record Steps (w v : Walk) : Type 0 where
  pub stands : Stands v
  pub asked : SameAsked w v
  pub grows : Grows w.finals.items v.finals.items
  pub begun : (i : ℕ) → IsBegun w.begun.items i → IsBegun v.begun.items i
  pub falls : waiting v < waiting w

-- a value was begun
pub record Begins (i : ℕ) (w v : Walk) : Type 0 where
  pub asked : SameAsked w v
  pub finals : v.finals ≡ w.finals
  pub begun : v.begun.items ≡ set w.begun.items i true
  pub frame : Frame
  pub fresh : IsFresh (answers_of w.lookup.now.settings) i frame
  pub stack : v.stack.items ≡ w.stack.items ++ frame ∷ []

-- a value was made
pub record Finishes (f : Frame) (w v : Walk) : Type 0 where
  pub asked : SameAsked w v
  pub begun : v.begun ≡ w.begun
  pub stack : v.stack ≡ w.stack
  pub value : Expr
  pub is : expr_tree value ≡ put (puts (answers_of w.lookup.now.settings) shield (slots w.finals.items)) here (expr_tree f.value)
  pub finals : v.finals.items ≡ set w.finals.items f.number (Some value)

-- a value of a number was asked for, and those that it leads to
pub record Settles (i : ℕ) (w v : Walk) : Type 0 where
  pub stands : Stands v
  pub stack : v.stack.items ≡ []
  pub asked : SameAsked w v
  pub grows : Grows w.finals.items v.finals.items
  pub done : is_done v.finals.items i ≡ true

-- the refusal that tells the name of a value
pub data TellsName (s : Settings) (i : ℕ) : PassError → Type 0 where
  tells : {name : String Global} → told_name s i ≡ Some (string_bytes name) → TellsName s i (CyclicGlobals name)

abbrev pub RefusedFrom : Settings → List ℕ → PassError → Type 0
RefusedFrom s roots e = (t : Tree) → met (answers_of s) t ≡ roots → Refused s t e
