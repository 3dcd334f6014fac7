-- How many levels of expressions and statements there are once what is given is put.
use Rattle.std.specs.Prelude.{ℕ, ◌+◌, ◌<◌, ◌≤◌, ◌≡◌, ⊤, true, List, [], ◌∷◌, length, Some, slice_get}
use Rattle.swc_ast.specs.Tree.{Tree}
use Rattle.swc_levels.specs.Levels.{levels}
use Rattle.swc_pass.specs.Given.{Answers, value_at}
use Rattle.given_rules.specs.Cycles.{is_among, Leads, Cycle}
use Rattle.given_rules.specs.Met.{met}
use Rattle.given_globals.specs.Globals.{answers_of}
use Rattle.swc_inline_globals.specs.declared.levels.Counting.{Counting}
use Rattle.swc_inline_globals.specs.declared.levels.Nesting.{Nesting}
use Rattle.swc_inline_globals.specs.declared.levels.Nesting.TheVariants.{Levels, TooMany, Cyclic}
use Rattle.swc_inline_globals.specs.declared.levels.Seen.{Seen}
use Rattle.swc_inline_globals.specs.declared.levels.Seen.TheVariants.{Begun, Done}

-- A tree may nest so many levels: its own, and those of a value that is met in it, with one for its brackets, and so on.
pub data Nests (a : Answers) : Tree → ℕ → Type 0 where
  alone : (t : Tree) → Nests a t (levels t)
  with_value : (t : Tree) (i : ℕ) {n : ℕ} → is_among i (met a t) ≡ true → Nests a (value_at a.values i) n → Nests a t (levels t + (1 + n))

-- What is told of the numbers that have something, and of cycles: the greatest number, and that it is no more than asked for; or
-- that one is more.
abbrev pub Tells : (ℕ → Type 0) → Type 0 → ℕ → Nesting → Type 0
Tells has cycle most (Levels n) = has n × ((m : ℕ) → has m → m ≤ n) × (n ≤ most)
Tells has cycle most TooMany = (n : ℕ) × has n × (most < n)
Tells has cycle most Cyclic = cycle

abbrev pub TellsOfTree : Answers → Tree → ℕ → Nesting → Type 0
TellsOfTree a t = Tells (Nests a t) ((i : ℕ) × Cycle a t i)

-- what is told of values, for private clauses

-- so many in one of some values, with its brackets; none of no value
pub data Behind (a : Answers) (is : List ℕ) : ℕ → Type 0 where
  nothing_behind : Behind a is 0
  value_behind : (i : ℕ) {n : ℕ} → is_among i is ≡ true → Nests a (value_at a.values i) n → Behind a is (1 + n)

-- a number is one of some, or is met in the value of one, and so on
pub data Reaches (a : Answers) (is : List ℕ) (i : ℕ) : Type 0 where
  asked : is_among i is ≡ true → Reaches a is i
  further : (j : ℕ) → is_among j is ≡ true → Leads a (value_at a.values j) i → Reaches a is i

-- some values lead to one that leads back to itself
pub record TurnsBack (a : Answers) (is : List ℕ) : Type 0 where
  pub to : ℕ
  pub reached : Reaches a is to
  pub again : Leads a (value_at a.values to) to

abbrev pub TellsBehind : Answers → List ℕ → ℕ → Nesting → Type 0
TellsBehind a is = Tells (Behind a is) (TurnsBack a is)

abbrev pub TellsOfValue : Answers → ℕ → ℕ → Nesting → Type 0
TellsOfValue a i = Tells (Nests a (value_at a.values i)) (TurnsBack a (i ∷ []))

abbrev pub IfCounted : Nesting → Type 0 → Type 0
IfCounted (Levels n) P = P
IfCounted r P = ⊤

abbrev pub IsBegun : List Seen → ℕ → Type 0
IsBegun xs i = slice_get xs i ≡ Some Begun

-- of a value that is done the most levels that it may nest are known
pub record Told (a : Answers) (xs : List Seen) : Type 0 where
  pub all : length xs ≡ length a.values
  pub nests : (i n : ℕ) → slice_get xs i ≡ Some (Done n) → Nests a (value_at a.values i) n
  pub most : (i n : ℕ) → slice_get xs i ≡ Some (Done n) → (m : ℕ) → Nests a (value_at a.values i) m → m ≤ n

abbrev pub AreTold : Counting → Type 0
AreTold l = Told (answers_of l.lookup.now.settings) l.seen.items

-- each value that is begun leads to each of some numbers
abbrev pub Lead : Answers → List Seen → List ℕ → Type 0
Lead a xs is = (i j : ℕ) → IsBegun xs i → is_among j is ≡ true → Leads a (value_at a.values i) j

abbrev pub BegunLead : Counting → List ℕ → Type 0
BegunLead l = Lead (answers_of l.lookup.now.settings) l.seen.items

-- no further value is begun
abbrev pub FewerBegun : List Seen → List Seen → Type 0
FewerBegun xs ys = (i : ℕ) → IsBegun ys i → IsBegun xs i

abbrev pub IsFewer : Counting → Counting → Type 0
IsFewer l m = FewerBegun l.seen.items m.seen.items
