use Rattle.std.proofs.Common.{refl}
use Rattle.swc_utils.specs.Globals.{unresolved}
use Rattle.branch_rules.specs.Turns.{as_it_was}
use Rattle.branch_loops.proofs.ForSteps.{update_turns, update_was}
use Rattle.branch_loops.proofs.fors.fold_update.Goals as goal

pub returns-then-not-changed : goal.returns-then-not-changed
returns-then-not-changed c = as_it_was (update_was (unresolved c.args.ctx.now) c.args.n.now _ c.in_ok-changed.changed c.if-not-changed.true c.in_ok-changed.ensures refl refl refl refl)

pub returns : goal.returns
returns c = update_turns (unresolved c.args.ctx.now) c.args.n.now _ _ _ c.in_ok-changed.changed c.in_ok-take_for.ensures c.if-not-changed.false c.in_ok-changed.ensures refl refl refl
