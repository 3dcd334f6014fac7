use Rattle.std.proofs.Common.{◌≡◌, false, None, length, All}
use Rattle.swc_inline_globals.proofs.finals.Walk.new.Given as goal

abbrev pub invariant-loop : goal.invariant-loop
invariant-loop l = (length l.finals.items ≡ l.counter) × (length l.begun.items ≡ l.counter) × All (λ x. x ≡ None) l.finals.items × All (λ b. b ≡ false) l.begun.items
