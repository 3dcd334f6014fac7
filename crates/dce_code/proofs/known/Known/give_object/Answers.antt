use Rattle.std.proofs.Common.{refl}
use Rattle.dce_code.specs.Knowledge.{shaker}
use Rattle.dce_code.proofs.Rested.{expr_rests}
use Rattle.dce_code.proofs.known.Known.give_object.Goals as goal

pub returns-in-None-clause-steps : goal.returns-in-None-clause-steps
returns-in-None-clause-steps c = (c.in-None.ensures.stays refl, expr_rests (shaker c.args.self.now) c.take_result.new.e)
