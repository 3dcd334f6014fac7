use Rattle.std.proofs.Common.{refl}
use Rattle.swc_dce.proofs.Copied.{copied}
use Rattle.swc_dce.proofs.config.ConfigClone.clone.Goals as goal

pub returns : goal.returns
returns c = record { cases = copied c.args.self.now _ refl refl c.in_ok-clone.ensures.cases.0 refl }
