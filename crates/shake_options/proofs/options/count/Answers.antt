use Rattle.std.proofs.Common.{rules}
use Rattle.shake_options.proofs.Counts.{parsed, uncounted}
use Rattle.shake_options.proofs.options.count.Goals as goal

pub returns-then-is_decimal : goal.returns-then-is_decimal
returns-then-is_decimal c = search (rules, parsed)

pub returns-else-is_decimal : goal.returns-else-is_decimal
returns-else-is_decimal c = search (rules, uncounted)
