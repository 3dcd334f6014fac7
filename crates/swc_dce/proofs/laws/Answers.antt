use Rattle.swc_dce.specs.Shaken.{shake_lawful}
use Rattle.swc_dce.proofs.ShakeLaw.{shaken, tells}
use Rattle.swc_dce.proofs.laws.Goals as goal

pub returns : goal.returns
returns c = record { shaken = shaken; tells = tells; lawful = shake_lawful }
