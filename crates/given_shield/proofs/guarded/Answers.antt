use Rattle.std.proofs.Common.{refl}
use Rattle.given_shield.proofs.Forms.{guarded_at}
use Rattle.given_shield.proofs.guarded.Goals as goal

pub returns : goal.returns
returns c = guarded_at c.args.e _ refl c.in_ok-exprs.ensures.items
