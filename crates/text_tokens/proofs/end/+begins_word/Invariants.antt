-- a shorter word
use Rattle.std.proofs.Common.{length}
use Rattle.text_tokens.proofs.end.+begins_word.Given as goal

abbrev pub decreases-begins_word : goal.decreases-begins_word
decreases-begins_word l = length l.word.now
