use Rattle.std.proofs.Common.{refl, sym, ◌∙◌}
use Rattle.tree_put.proofs.Keys.{bracketed}
use Rattle.tree_put.proofs.walk.expressions.property_key.Goals as goal

pub returns : goal.returns
returns c = bracketed c.args.sym c.args.span c.in_ok-expr.expr.value (record { span = c.args.span; value = c.in_ok-value.value }) c.in_ok-expr.ensures.ok refl (c.in_ok-value.ensures.ok ∙ c.as_str.ensures.value) (sym c.is_proto.ensures ∙ c.if-not-is_proto.false)
