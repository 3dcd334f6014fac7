use Rattle.std.proofs.Common.{refl, ap, ◌∙◌}
use Rattle.swc_ast.specs.Scope.{joined}
use Rattle.expr_rules.specs.Spreads.{opened_properties}
use Rattle.expr_members.proofs.Props.{trees_of, opened_cons, one_opened}
use Rattle.expr_members.proofs.Turns.{trees_on, trees_end}
use Rattle.expr_members.proofs.properties.opened.Goals as goal

pub loop-prop-preserved : goal.loop-prop-preserved
loop-prop-preserved c = trees_on (λ ps. opened_properties (trees_of ps)) opened_cons (trees_of c.loop-prop.out.items) _ c.in-Some.prop _ _ c.in-Some.ensures.steps.0 (c.in_ok-push_opened.ensures ∙ ap (joined (trees_of c.loop-prop.out.items)) (one_opened c.in-Some.prop)) c.loop-prop.invariant

pub returns : goal.returns
returns c = trees_end (λ ps. opened_properties (trees_of ps)) refl _ c.loop-prop.prop-iterator c.in-None.ensures.steps.0 c.loop-prop.invariant
