use Rattle.branch_expressions.proofs.Voids.{literal_at}
use Rattle.branch_expressions.proofs.rules.is_literal.Goals as goal

pub returns-in-Lit : goal.returns-in-Lit
returns-in-Lit c = λ h. literal_at c.args.e.now _ c.in-Lit.is
