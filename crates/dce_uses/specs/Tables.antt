-- What a table tells of names.
use Rattle.std.specs.Prelude.{Bool, true, false, not, ◌≡◌, ◌&&◌, ◌||◌, if◌then◌else◌, ℕ, ◌<◌, ◌≤◌, nat_eq, List, [], ◌∷◌, ◌++◌, length, Option, Some, option_map, option_and_then, position, slice_get, unwrap_or}
use Rattle.std.specs.Int.{bit_at}
use Rattle.swc_ast.specs.Tree.{Name, same_name, Tree}
use Rattle.swc_ast.specs.Scope.{has_name, default_name}
use Rattle.dce_rules.specs.Uses.{free_to_go, is_unread}
use Rattle.dce_uses.specs.declared.tally.Fact.{Fact}
use Rattle.dce_uses.specs.declared.tally.Fact.TheVariants as fact
use Rattle.dce_uses.specs.declared.tally.Tally.{Tally}
use Rattle.dce_uses.specs.declared.table.Table.{Table}
use Rattle.dce_uses.specs.declared.uses.Uses.{Uses}
use Rattle.dce_uses.specs.Noted.{noted, at_top, is_counted}

-- the place of a fact's bit
abbrev pub place_of : Fact → ℕ
place_of fact.Used = 0
place_of fact.Written = 1
place_of fact.Abroad = 2
place_of fact.Declared = 3
place_of fact.Held = 4
place_of fact.Hidden = 5

-- whether two facts are the same
abbrev pub is_same : Fact → Fact → Bool
is_same f g = nat_eq (place_of f) (place_of g)

-- whether a fact was noted
abbrev pub holds : Tally → Fact → Bool
holds t f = nat_eq (bit_at t.facts (place_of f)) 1

-- what was noted of a name, if it has a number
abbrev pub tally_of : Table → Name → Option Tally
tally_of u x = option_and_then (slice_get u.tallies.items) (position (same_name x) u.names)

-- what was noted of a name, nothing where it has no number
abbrev pub fact_of : Table → Fact → Name → Bool
fact_of u f x = unwrap_or (option_map (λ t. holds t f) (tally_of u x)) false

-- whether nothing was noted
abbrev pub is_blank : Tally → Bool
is_blank t = not (((((holds t fact.Used || holds t fact.Written) || holds t fact.Abroad) || holds t fact.Declared) || holds t fact.Held) || holds t fact.Hidden)

-- what was noted at a number, nothing where it has no tally
abbrev pub fact_at : List Tally → Fact → ℕ → Bool
fact_at ts f n = unwrap_or (option_map (λ t. holds t f) (slice_get ts n)) false

-- whether a number is among others
abbrev pub has_number : ℕ → List ℕ → Bool
has_number n [] = false
has_number n (m ∷ ms) = nat_eq n m || has_number n ms

-- Each tally is that of a name, and numbers of which something was noted were touched.
pub record IsNumbered (u : Table) : Type 0 where
  pub within : length u.tallies.items ≤ length u.names
  pub touched : (f : Fact) (n : ℕ) → fact_at u.tallies.items f n ≡ true → has_number n u.touched.items ≡ true

-- The second list is the first with more behind it.
pub record Extends {X : Type 0} (xs ys : List X) : Type 0 where
  pub more : List X
  pub is : ys ≡ xs ++ more

-- the names of a table, in the order of their numbers
abbrev pub names_of : Uses → List Name
names_of u = u.table.names

-- A table becomes another by noting facts.
pub record Notes (u v : Table) (more : Fact → Name → Bool) : Type 0 where
  pub names : Extends u.names v.names
  pub numbered : IsNumbered u → IsNumbered v
  pub facts : IsNumbered u → (f : Fact) (x : Name) → fact_of v f x ≡ (fact_of u f x || more f x)

-- the name of a default export that has no other
abbrev pub is_default : Uses → Name → Bool
is_default u x = u.exports_default && same_name x default_name

-- whether a name is used without being named
abbrev pub is_hidden : Uses → Name → Bool
is_hidden u x = fact_of u.table fact.Hidden x || is_default u x

-- the names that are neither used nor written
abbrev pub is_free : Uses → Name → Bool
is_free u x = not ((fact_of u.table fact.Used x || fact_of u.table fact.Written x) || is_hidden u x)

-- the names that are declared and never read, but in functions of that name
abbrev pub is_unused : Uses → Name → Bool
is_unused u x = fact_of u.table fact.Declared x && not (fact_of u.table fact.Used x || is_hidden u x)

-- the names that are declared at the top level
abbrev pub is_held : Uses → Name → Bool
is_held u x = fact_of u.table fact.Held x

-- the names that occur outside the declarations of functions
abbrev pub is_abroad : Uses → Name → Bool
is_abroad u x = fact_of u.table fact.Abroad x

-- A table tells of each name what a tree says of it.
pub record Tells (u : Uses) (t : Tree) : Type 0 where
  pub free : (x : Name) → is_free u x ≡ free_to_go [] t x
  pub unread : (x : Name) → is_unused u x ≡ is_unread [] t x
  pub held : (x : Name) → is_held u x ≡ noted fact.Held x at_top t
  pub abroad : (x : Name) → is_abroad u x ≡ noted fact.Abroad x at_top t

-- A table of which nothing was noted.
pub record IsBlank (u : Table) : Type 0 where
  pub numbered : IsNumbered u
  pub facts : (f : Fact) (x : Name) → fact_of u f x ≡ false

-- A name has a number in a table, and nothing was noted beside that.
pub record Numbers (u v : Table) (y : Name) (n : ℕ) : Type 0 where
  pub names : Extends u.names v.names
  pub within : n < length v.tallies.items
  pub touched : IsNumbered u → has_number n v.touched.items ≡ true
  pub numbered : IsNumbered u → IsNumbered v
  pub number : position (same_name y) v.names ≡ Some n
  pub facts : IsNumbered u → (f : Fact) (x : Name) → fact_of v f x ≡ fact_of u f x

-- A number has a tally and is touched, and nothing was noted beside that.
pub record Touches (u v : Table) (n : ℕ) : Type 0 where
  pub names : v.names ≡ u.names
  pub within : n < length v.tallies.items
  pub touched : IsNumbered u → has_number n v.touched.items ≡ true
  pub numbered : IsNumbered u → IsNumbered v
  pub facts : (f : Fact) (m : ℕ) → fact_at v.tallies.items f m ≡ fact_at u.tallies.items f m

-- A table becomes another where uses and writes of some names are those of before.
pub record Restores (u v : Table) (xs : List Name) (before : Tally) : Type 0 where
  pub names : Extends u.names v.names
  pub numbered : IsNumbered u → IsNumbered v
  pub facts : IsNumbered u → (f : Fact) (x : Name) → fact_of v f x ≡ (if is_counted f && has_name x xs then holds before f else fact_of u f x)

-- what was noted of the names in a list, which are one at most
abbrev pub IsBefore : Table → List Name → Tally → Type 0
IsBefore u xs before = (f : Fact) (x : Name) → has_name x xs ≡ true → holds before f ≡ fact_of u f x
