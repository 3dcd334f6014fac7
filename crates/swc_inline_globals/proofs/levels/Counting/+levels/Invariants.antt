use Rattle.std.proofs.Common.{◌≡◌, ◌+◌, ◌*◌}
use Rattle.given_globals.specs.Globals.{answers_of}
use Rattle.swc_inline_globals.specs.Nesting.{AreTold, BegunLead, IsFewer}
use Rattle.swc_inline_globals.proofs.Nested.{FirstTold}
use Rattle.swc_inline_globals.proofs.levels.Counting.+levels.Given as goal

abbrev pub decreases-of_all : goal.decreases-of_all
decreases-of_all l = 3 * l.most + 2

abbrev pub decreases-of_met : goal.decreases-of_met
decreases-of_met l = 3 * l.most + 1

abbrev pub decreases-of_value : goal.decreases-of_value
decreases-of_value l = 3 * l.most + 3

abbrev pub invariant-of_all-loop-i : goal.invariant-of_all-loop-i
invariant-of_all-loop-i l = AreTold l.self × (l.self.lookup ≡ l.fn.self.lookup) × BegunLead l.self l.numbers × IsFewer l.fn.self l.self × FirstTold (answers_of l.fn.self.lookup.now.settings) l.numbers l.i l.most l.highest
