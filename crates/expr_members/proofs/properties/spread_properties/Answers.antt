use Rattle.std.proofs.Common.{sym, ap, ◌∙◌}
use Rattle.expr_rules.specs.Spreads.{spreads_object}
use Rattle.expr_members.proofs.Props.{trees_of, object_step}
use Rattle.expr_members.proofs.properties.spread_properties.Goals as goal

pub returns-clause-steps : goal.returns-clause-steps
returns-clause-steps c = λ mark. object_step mark c.args.n.now c.args.n.now.span c.replace-props.result c.in_ok-props.props (ap (λ ps. spreads_object (trees_of ps)) (sym c.deref.ensures.value) ∙ sym c.spreads_object.ensures ∙ c.if-not-spreads_object.false) c.replace-props.ensures.value c.in_ok-props.ensures
