use Rattle.std.proofs.Common.{ap, ◌||◌}
use Rattle.swc_resolved.specs.Names.{is_free}
use Rattle.swc_resolved.proofs.names.Taken.make_room.Goals as goal

pub returns : goal.returns
returns c = λ y. ap (λ b. is_free c.args.self.now.unresolved_mark.0 y || b) (c.make_room.ensures y)
