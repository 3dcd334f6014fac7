use Rattle.swc_ast.specs.Marks.{mark_number}
use Rattle.swc_resolved.proofs.Verdict.{expr_told}
use Rattle.swc_resolved.proofs.resolved.is_expr_core_and_resolved.Goals as goal

pub returns-clause-answer : goal.returns-clause-answer
returns-clause-answer c = expr_told c.in_ok-answer.answer (mark_number c.args.unresolved_mark) c.args.e.now.value c.in_ok-answer.ensures
