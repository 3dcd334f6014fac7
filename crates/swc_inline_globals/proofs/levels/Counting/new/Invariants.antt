use Rattle.std.proofs.Common.{◌≡◌, length, All}
use Rattle.swc_inline_globals.specs.declared.levels.Seen.TheVariants.{New}
use Rattle.swc_inline_globals.proofs.levels.Counting.new.Given as goal

abbrev pub invariant-loop : goal.invariant-loop
invariant-loop l = (length l.seen.items ≡ l.counter) × All (λ s. s ≡ New) l.seen.items
