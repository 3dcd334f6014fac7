use Rattle.branch_lists.proofs.Going.{no_function}
use Rattle.branch_lists.proofs.cut.add_decl.Goals as goal

pub returns-in-Fn : goal.returns-in-Fn
returns-in-Fn c = no_function _ c.args.n.now c.in-Fn.field-0 _ c.in-Fn.is
