-- A pass behind what was put.
use Rattle.swc_ast.specs.Run.{Same}
use Rattle.swc_pass.specs.Given.{SameGiven}
use Rattle.swc_pass.specs.InFront.{InFront}

pub in_front : InFront
unfolding SameGiven Same
in_front a mark loads t u v h s n d w calls o e = s n d w calls o (h n d w calls o e)
