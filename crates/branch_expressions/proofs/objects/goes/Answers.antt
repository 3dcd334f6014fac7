use Rattle.std.proofs.Common.{sym, ap, ◌∙◌}
use Rattle.swc_ast.specs.Views.{expr_tree}
use Rattle.swc_utils.specs.Globals.{unresolved}
use Rattle.swc_utils.specs.Literals.{is_literal}
use Rattle.swc_utils.specs.Pure.{pure}
use Rattle.branch_expressions.proofs.Kept.{goes_prop}
use Rattle.branch_expressions.proofs.objects.goes.Goals as goal

pub returns-then-has_plain_key : goal.returns-then-has_plain_key
returns-then-has_plain_key c = λ h. goes_prop (unresolved c.args.ctx.now) _ c.in-Prop.prop c.in-KeyValue.n c.in-Prop.is c.in-KeyValue.is (c.has_plain_key.ensures c.if-has_plain_key.true) (sym (ap (λ e. is_literal (expr_tree e)) c.deref.ensures) ∙ c.is_pure_literal.ensures.literal h) (sym (ap (λ e. pure (unresolved c.args.ctx.now) (expr_tree e)) c.deref.ensures) ∙ c.is_pure_literal.ensures.idle h)
