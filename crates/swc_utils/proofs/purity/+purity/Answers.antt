use Rattle.std.proofs.Common.{sym, ap, ◌∙◌}
use Rattle.swc_ast.specs.Views.{expr_tree}
use Rattle.swc_utils.specs.Globals.{unresolved}
use Rattle.swc_utils.specs.Pure.{pure}
use Rattle.swc_utils.proofs.Items.{items_fail}
use Rattle.swc_utils.proofs.purity.+purity.Goals as goal

pub are_items_pure-returns-then-not-is_pure : goal.are_items_pure-returns-then-not-is_pure
are_items_pure-returns-then-not-is_pure t c = items_fail (unresolved c.args.ctx) _ _ _ _ _ c.loop-item-test.true c.item-item.is c.in-Some.is (ap (λ e. pure (unresolved c.args.ctx) (expr_tree e)) (sym c.deref.ensures) ∙ sym c.is_pure.ensures ∙ c.if-not-is_pure.true) c.loop-item.invariant
