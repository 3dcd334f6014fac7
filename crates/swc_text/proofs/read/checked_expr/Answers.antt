use Rattle.std.proofs.Common.{◌≡◌, true, sym, subst}
use Rattle.swc_ast.specs.Core.{IsCore}
use Rattle.swc_ast.specs.Marks.{mark_number}
use Rattle.swc_ast.specs.Resolved.{IsResolved}
use Rattle.swc_ast.specs.Valid.{valid}
use Rattle.swc_ast.specs.Views.{expr_tree}
use Rattle.swc_text.proofs.read.checked_expr.Goals as goal

pub returns-then-is_good-clause-valid : goal.returns-then-is_good-clause-valid
returns-then-is_good-clause-valid c = subst (λ e. valid (expr_tree e) ≡ true) (sym c.into_inner.ensures) (c.in_ok-is_good.ensures.answer.0 c.if-is_good.true).0.is_valid

pub returns-then-is_good-clause-resolved : goal.returns-then-is_good-clause-resolved
returns-then-is_good-clause-resolved c = subst (λ e. IsResolved (mark_number c.args.unresolved_mark) (expr_tree e)) (sym c.into_inner.ensures) (c.in_ok-is_good.ensures.answer.0 c.if-is_good.true).1

pub returns-then-is_good-clause-core : goal.returns-then-is_good-clause-core
returns-then-is_good-clause-core c = subst (λ e. IsCore (expr_tree e)) (sym c.into_inner.ensures) (c.in_ok-is_good.ensures.answer.0 c.if-is_good.true).0
