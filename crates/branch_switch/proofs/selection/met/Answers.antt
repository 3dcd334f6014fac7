use Rattle.std.proofs.Common.{sym, ap, ◌∙◌}
use Rattle.swc_ast.specs.Parts.{tree_or_absent}
use Rattle.swc_ast.specs.Statements.{is_missing}
use Rattle.swc_ast.specs.Views.{expr_tree}
use Rattle.swc_utils.specs.Globals.{unresolved}
use Rattle.branch_rules.specs.Switches.{none_passed, over_default}
use Rattle.branch_switch.specs.Clauses.{clause}
use Rattle.branch_switch.specs.Values.{value_in}
use Rattle.branch_switch.proofs.Meeting.{met_by}
use Rattle.branch_switch.proofs.selection.met.Goals as goal

pub returns-in_ok-meeting-in-Some : goal.returns-in_ok-meeting-in-Some
returns-in_ok-meeting-in-Some c =
    met_by (unresolved c.args.ctx.now) (value_in c.args.value.now) (clause c.args.case.now) (expr_tree c.deref.result.now) c.in_ok-meeting-in-Some.meeting (ap is_missing c.in-Some.is) (ap (tree_or_absent expr_tree) c.in-Some.is ∙ sym (ap expr_tree c.deref.ensures)) c.in_ok-meeting-in-Some.ensures

pub returns-in-None : goal.returns-in-None
returns-in-None c = over_default (clause c.args.case.now) (ap is_missing c.in-None.is) none_passed
