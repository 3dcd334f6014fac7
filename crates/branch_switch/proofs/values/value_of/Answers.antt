use Rattle.std.proofs.Common.{◌≡◌, Some, IfSome, subst}
use Rattle.swc_ast.specs.Views.{expr_tree}
use Rattle.swc_utils.specs.Globals.{unresolved}
use Rattle.pass_rules.specs.Values as rules
use Rattle.branch_switch.specs.Values.{value_in}
use Rattle.branch_switch.proofs.values.value_of.Goals as goal

pub returns-in-Some : goal.returns-in-Some
returns-in-Some c = record {
  fixed = c.is_fixed.ensures c.if-not-is_fixed.false;
  known = subst (λ o. IfSome o (λ k. rules.value_of (unresolved c.args.ctx.now) (expr_tree c.args.e.now) ≡ Some (value_in k))) c.in-Some.is c.in_ok-value.ensures;
}
