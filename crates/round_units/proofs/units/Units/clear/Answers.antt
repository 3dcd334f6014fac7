use Rattle.std.proofs.Common.{subst}
use Rattle.std.specs.Prelude.{IfOk}
use Rattle.swc_utils.specs.Globals.{unresolved}
use Rattle.round_units.specs.Cleared.{Cleared}
use Rattle.round_units.specs.Trees.{units_tree}
use Rattle.round_units.proofs.units.Units.clear.Goals as goal

pub returns : goal.returns
returns c =
    let m = unresolved c.args.expressions.now.ctx in let k = unresolved c.args.branches.now.ctx in
    subst (λ t. IfOk c.clear_all.result (λ r. Cleared m k t (units_tree r.whole) r.changed)) c.in_ok-whole.ensures c.clear_all.ensures
