use Rattle.std.proofs.Common.{subst}
use Rattle.swc_ast.specs.Views.{expr_tree}
use Rattle.swc_utils.specs.Globals.{unresolved}
use Rattle.branch_switch.specs.Plans.{Planned}
use Rattle.branch_switch.proofs.switch.carry_out.Goals as goal

pub returns-in_ok-s-in-Nothing : goal.returns-in_ok-s-in-Nothing
returns-in_ok-s-in-Nothing c = c.in_ok-s-in-Nothing.ensures (unresolved c.args.ctx.now) c.args.discriminant.now (subst (λ p. Planned (unresolved c.args.ctx.now) (expr_tree c.args.discriminant.now) c.args.cases.items p) c.in-Nothing.is c.requires)

pub returns-in_ok-s-in-From : goal.returns-in_ok-s-in-From
returns-in_ok-s-in-From c = c.in_ok-s-in-From.ensures (unresolved c.args.ctx.now) c.args.discriminant.now (subst (λ p. Planned (unresolved c.args.ctx.now) (expr_tree c.args.discriminant.now) c.args.cases.items p) c.in-From.is c.requires).0

pub returns-in_ok-s-in-Behind : goal.returns-in_ok-s-in-Behind
returns-in_ok-s-in-Behind c = c.in_ok-s-in-Behind.ensures (unresolved c.args.ctx.now) (subst (λ p. Planned (unresolved c.args.ctx.now) (expr_tree c.args.discriminant.now) c.args.cases.items p) c.in-Behind.is c.requires).0
