-- fewer digits
use Rattle.std.proofs.Common.{length}
use Rattle.text_tokens.proofs.number.+all_digits.Given as goal

abbrev pub decreases-all_digits : goal.decreases-all_digits
decreases-all_digits l = length l.text.now
