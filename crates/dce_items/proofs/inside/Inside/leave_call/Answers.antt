use Rattle.std.proofs.Common.{refl, subst}
use Rattle.swc_ast.specs.Parts.{list_trees}
use Rattle.swc_ast.specs.Views.{expr_tree}
use Rattle.dce_layer_proofs.specs.Frames.{wrapped_function}
use Rattle.dce_items.specs.Remaining.{RemainsIn}
use Rattle.dce_items.proofs.Leaving.{ok_then, of_call}
use Rattle.dce_items.proofs.inside.Inside.leave_call.Goals as goal

pub returns-clause-remains : goal.returns-clause-remains
returns-clause-remains c =
    let n = c.args.n.now in
    let new = expr_tree c.leave_callee.new.callee in
    let args = list_trees expr_tree n.args.items in
    ok_then c.leave_callee.result c.leave_callee.ensures.remains (λ b h k. of_call c.args.self.now n.span n.span (expr_tree n.callee.value) new args args refl refl (subst (λ e. RemainsIn wrapped_function c.args.self.now (expr_tree e) new) c.deref_mut.ensures.value (h k)))
