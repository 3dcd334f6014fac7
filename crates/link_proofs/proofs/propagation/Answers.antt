use Rattle.link_proofs.proofs.propagation.Goals as goal
use Rattle.link_proofs.proofs.Puts.{puts_same, reexported_same}

pub returns-clause-puts : goal.returns-clause-puts
returns-clause-puts c = λ loads L mark t u p g h. puts_same p loads g h

pub returns-clause-exports : goal.returns-clause-exports
returns-clause-exports c = λ loads L mark ss rs ts us vs p g e h. reexported_same p loads ss rs g e h
