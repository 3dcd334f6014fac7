-- Counters that tell none, one and more apart.
use Rattle.std.specs.Prelude.{ℕ, zero, suc, Bool, true, false}
use Rattle.carry_vars.specs.declared.count.Count.{Count}
use Rattle.carry_vars.specs.declared.count.Count.TheVariants as of

abbrev pub count_if : Bool → Count
count_if true = of.One
count_if false = of.Zero

abbrev pub plus : Count → Count → Count
plus of.Zero d = d
plus c of.Zero = c
plus c d = of.More

abbrev pub is_zero : Count → Bool
is_zero of.Zero = true
is_zero c = false

abbrev pub is_one : Count → Bool
is_one of.One = true
is_one c = false

-- the counter of a number
abbrev pub counted : ℕ → Count
counted zero = of.Zero
counted (suc zero) = of.One
counted (suc (suc n)) = of.More
