-- Which statements stop a list, and which of them declare functions.
use Rattle.std.specs.Prelude.{Bool, true, false}
use Rattle.branch_switch.specs.declared.sorts.Sort.{Sort}
use Rattle.branch_switch.specs.declared.sorts.Sort.TheVariants as sort

-- an unlabelled `break`
abbrev pub breaks : Sort → Bool
breaks sort.Break = true
breaks _ = false

-- `break` or another stopper
abbrev pub stops : Sort → Bool
stops sort.Break = true
stops sort.Stopper = true
stops _ = false

-- a function declaration
abbrev pub declares : Sort → Bool
declares sort.Function = true
declares _ = false
