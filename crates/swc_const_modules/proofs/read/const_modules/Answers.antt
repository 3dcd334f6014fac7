use Rattle.std.proofs.Common.{sym, subst}
use Rattle.swc_ast.specs.Marks.{mark_number}
use Rattle.swc_const_modules.specs.Texts.{AllAreValues}
use Rattle.swc_const_modules.proofs.read.const_modules.Goals as goal

pub returns-clause-values : goal.returns-clause-values
returns-clause-values c = subst (AllAreValues (mark_number c.args.unresolved_mark)) (sym c.new.ensures.given) c.in_ok-given.ensures.values
