use Rattle.std.proofs.Common.{refl}
use Rattle.swc_ast.specs.Marks.{mark_number}
use Rattle.swc_ast.specs.Modules.{script_tree}
use Rattle.swc_resolved.proofs.Verdict.{core_told}
use Rattle.swc_resolved.proofs.resolved.is_script_core_and_resolved.Goals as goal

pub returns-clause-answer : goal.returns-clause-answer
returns-clause-answer c = core_told c.in_ok-answer.answer (mark_number c.args.unresolved_mark) (script_tree c.args.s.now) (c.laws.ensures.scripts c.args.s.now) refl c.in_ok-answer.ensures
