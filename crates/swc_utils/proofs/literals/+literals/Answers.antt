use Rattle.std.proofs.Common.{sym, ap, ◌∙◌}
use Rattle.swc_ast.specs.Views.{expr_tree}
use Rattle.swc_utils.specs.Literals.{is_literal}
use Rattle.swc_utils.proofs.LiteralNodes.{items_fail}
use Rattle.swc_utils.proofs.literals.+literals.Goals as goal

pub are_items_literal-returns-then-not-is_literal : goal.are_items_literal-returns-then-not-is_literal
are_items_literal-returns-then-not-is_literal t c = items_fail _ _ _ _ _ c.loop-item-test.true c.item-item.is c.in-Some.is (ap (λ e. is_literal (expr_tree e)) (sym c.deref.ensures) ∙ sym c.is_literal.ensures ∙ c.if-not-is_literal.true) c.loop-item.invariant
