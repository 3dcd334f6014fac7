-- What is carried of variables, as a table has it.
use Rattle.std.specs.Prelude.{◌≡◌, ℕ, ◌<◌, ◌≤◌, nat_le, if◌then◌else◌, List, length, Option, Some, None, option_and_then, slice_get}
use Rattle.swc_ast.specs.Tree.{Name}
use Rattle.link_proofs.specs.Links.{Put, nothing}
use Rattle.carry_parts.specs.Carries.{puts_of}
use Rattle.carry_parts.specs.declared.carry.Carry.{Carry}
use Rattle.carry_tables.specs.Tables.{item_of, Keeps}
use Rattle.carry_reads.specs.declared.settled.Settled.{Settled}
use Rattle.carry_reads.specs.Fronts.{names_in}

-- what has a number, from a base on
abbrev pub numbered : List (Option Carry) → ℕ → Option ℕ → Put
numbered cs base None = nothing
numbered cs base (Some n) = if nat_le base n then puts_of (option_and_then (λ o. o) (slice_get cs n)) else nothing

abbrev pub settled_of : Settled → ℕ → Name → Put
settled_of u base x = numbered u.carries.items base (item_of u.numbers x)

-- each number is of something
abbrev pub Within : Settled → Type 0
Within u = (x : Name) (n : ℕ) → item_of u.numbers x ≡ Some n → n < length u.carries.items

-- what is carried goes on to be known
pub record Grows (u v : Settled) : Type 0 where
  pub numbers : Keeps u.numbers v.numbers
  pub names : (x : Name) → names_in v.numbers x ≡ names_in u.numbers x
  pub longer : length u.carries.items ≤ length v.carries.items
  pub carries : (n : ℕ) → n < length u.carries.items → slice_get v.carries.items n ≡ slice_get u.carries.items n
  pub within : Within u → Within v
