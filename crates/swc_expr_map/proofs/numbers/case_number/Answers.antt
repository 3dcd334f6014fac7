use Rattle.std.proofs.Common.{sym, ap, ◌∙◌}
use Rattle.swc_ast.specs.Statements.{is_missing}
use Rattle.swc_expr_map.specs.Codes.{truth_number}
use Rattle.swc_expr_map.proofs.Cases.{case_default}
use Rattle.swc_expr_map.proofs.numbers.case_number.Goals as goal

pub returns-in-None : goal.returns-in-None
returns-in-None c = sym (ap truth_number (case_default c.args.case.now ∙ ap is_missing c.in-None.is))

pub returns-in-Some : goal.returns-in-Some
returns-in-Some c = sym (ap truth_number (case_default c.args.case.now ∙ ap is_missing c.in-Some.is))
