use Rattle.expr_operators.proofs.length.+digits.Given as goal

abbrev pub decreases-digits : goal.decreases-digits
decreases-digits l = l.n
