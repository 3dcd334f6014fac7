use Rattle.dce_uses.specs.Said.{register_of}
use Rattle.dce_uses.proofs.Items.{module_told}
use Rattle.dce_uses.proofs.Saying.{untold}
use Rattle.dce_uses.proofs.uses.Uses.of_module.Goals as goal

pub tell-requires : goal.tell-requires
tell-requires c = record { said = untold (register_of c.nothing-uses.result) c.deref.result.now }

pub returns-clause-tells : goal.returns-clause-tells
returns-clause-tells c = module_told c.tell.new.self c.args.m.now c.deref.result.now c.deref.ensures.value c.in_ok-tell.ensures.tells
