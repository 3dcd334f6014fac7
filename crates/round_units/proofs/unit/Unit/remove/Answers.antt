use Rattle.swc_ast.specs.Modules.{item_tree}
use Rattle.round_units.proofs.Resting.{rests_then}
use Rattle.round_units.proofs.unit.Unit.remove.Goals as goal

pub returns-then-not-changed-clause-known : goal.returns-then-not-changed-clause-known
returns-then-not-changed-clause-known c = (c.in_ok-changed.ensures.known.0, (rests_then c.in_ok-changed.changed (item_tree c.args.self.now.item) (item_tree c.walk.new.self.item) c.if-not-changed.true c.in_ok-changed.ensures.made, c.in_ok-changed.ensures.known.1.1))
