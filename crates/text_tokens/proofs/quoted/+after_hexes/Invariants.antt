-- fewer digits
use Rattle.text_tokens.proofs.quoted.+after_hexes.Given as goal

abbrev pub decreases-after_hexes : goal.decreases-after_hexes
decreases-after_hexes l = l.count
