use Rattle.std.proofs.Common.{sym, ◌∙◌}
use Rattle.swc_ast.specs.Views.{stmt_tree}
use Rattle.branch_switch.proofs.Keeping.{staying_not_going}
use Rattle.branch_switch.proofs.Loops.{put, not_put}
use Rattle.branch_switch.proofs.unbroken.place.Goals as goal

pub returns-then-stays-clause-kept : goal.returns-then-stays-clause-kept
returns-then-stays-clause-kept c = put _ c.args.kept.now.items _ c.args.s (sym c.stays.ensures ∙ c.if-stays.true) c.in_ok-push.ensures.items

pub returns-then-stays-clause-gone : goal.returns-then-stays-clause-gone
returns-then-stays-clause-gone c = not_put _ c.args.gone.now.items c.args.s (staying_not_going c.args.stopped (stmt_tree c.args.s) (sym c.stays.ensures ∙ c.if-stays.true))

pub returns-then-goes-clause-kept : goal.returns-then-goes-clause-kept
returns-then-goes-clause-kept c = not_put _ c.args.kept.now.items c.args.s (sym c.stays.ensures ∙ c.if-stays.false)

pub returns-then-goes-clause-gone : goal.returns-then-goes-clause-gone
returns-then-goes-clause-gone c = put _ c.args.gone.now.items _ c.args.s (sym c.goes.ensures ∙ c.if-goes.true) c.in_ok-push-2.ensures.items

pub returns-clause-kept : goal.returns-clause-kept
returns-clause-kept c = not_put _ c.args.kept.now.items c.args.s (sym c.stays.ensures ∙ c.if-stays.false)

pub returns-clause-gone : goal.returns-clause-gone
returns-clause-gone c = not_put _ c.args.gone.now.items c.args.s (sym c.goes.ensures ∙ c.if-goes.false)
