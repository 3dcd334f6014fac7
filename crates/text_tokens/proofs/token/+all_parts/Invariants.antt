-- a shorter text
use Rattle.std.proofs.Common.{length}
use Rattle.text_tokens.proofs.token.+all_parts.Given as goal

abbrev pub decreases-all_parts : goal.decreases-all_parts
decreases-all_parts l = length l.text.now
