use Rattle.swc_ast.specs.Modules.{item_tree}
use Rattle.swc_names.specs.Ids.{ids}
use Rattle.dce_code.specs.Knowledge.{shaker}
use Rattle.round_units.proofs.Settling.{settles}
use Rattle.round_units.proofs.unit.Unit.shake.Goals as goal

pub returns-in_ok-gone-clause-known : goal.returns-in_ok-gone-clause-known
returns-in_ok-gone-clause-known c =
    let h = c.in_ok-changed.ensures in
    (h.known.0, (h.known.1.0, settles (shaker c.args.rules.now.known) (ids c.in_ok-gone.field-0.items) c.in_ok-changed.changed (item_tree c.args.self.now.item) (item_tree c.walk.new.self.item) c.if-not-changed.true h.made c.in_ok-gone.ensures))
