use Rattle.std.proofs.Common.{◌≡◌, true, Some, subst}
use Rattle.swc_ast.specs.Views.{expr_tree}
use Rattle.swc_utils.specs.Globals.{unresolved}
use Rattle.swc_utils.specs.Sound.{IfKnown, numeric}
use Rattle.expr_rules.specs.Arithmetic.{admits, fold_numbers}
use Rattle.expr_operators.proofs.Regrouped.{regroups_by}
use Rattle.expr_operators.proofs.numbers.regrouped.Goals as goal

pub returns-else-not-regroup : goal.returns-else-not-regroup
returns-else-not-regroup c =
    let mark = unresolved c.args.ctx.now in
    let right = expr_tree c.args.right.now in
    regroups_by mark c.args.op c.args.left.now c.in-Bin.inner right c.admitted.result c.in-Bin.is (c.regroup.ensures c.if-not-regroup.false)
    (subst (λ x. IfKnown c.admitted.result (λ k. fold_numbers mark c.args.op (expr_tree x) right ≡ Some (numeric k))) c.deref.ensures c.admitted.ensures.computed)
    (subst (λ x. IfKnown c.admitted.result (λ k. admits c.args.op (expr_tree x) right (numeric k) ≡ true)) c.deref.ensures c.admitted.ensures.admitted)
