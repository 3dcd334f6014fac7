use Rattle.std.proofs.Common.{◌≡◌, ℕ, ◌≤◌}
use Rattle.swc_ast.specs.Tree.{Name}
use Rattle.carry_tables.specs.Tables.{height, item_before}
use Rattle.carry_tables.proofs.scoped.Scoped.rewind.Given as goal

abbrev pub invariant-loop-self : goal.invariant-loop-self
invariant-loop-self l =
    (l.height ≤ height l.initial.self → l.height ≤ height l.self)
    × ((k : ℕ) → k ≤ l.height → l.height ≤ height l.initial.self → (x : Name) → item_before l.self k x ≡ item_before l.initial.self k x)

abbrev pub decreases-loop-self : goal.decreases-loop-self
decreases-loop-self l = height l.self
