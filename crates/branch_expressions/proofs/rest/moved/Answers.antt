use Rattle.branch_expressions.proofs.Made.{moved_same}
use Rattle.branch_expressions.proofs.rest.moved.Goals as goal

pub returns-in-Same : goal.returns-in-Same
returns-in-Same c = λ mark t h. moved_same mark t c.args.place.now c.take.result c.args.rest c.in-Same.is c.take.ensures h
