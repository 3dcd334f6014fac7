use Rattle.std.proofs.Common.{subst}
use Rattle.std.proofs.lemmas.Option.{IfSome_then}
use Rattle.swc_ast.specs.Parts.{list_trees}
use Rattle.swc_ast.specs.Views.{expr_tree, stmt_tree}
use Rattle.dce_layer_proofs.specs.Frames.{wrapped_function}
use Rattle.dce_items.specs.Wrapped.{Wraps}
use Rattle.dce_items.proofs.Wrapping.{called_so, empty}
use Rattle.dce_items.proofs.wrapper.body_of_call.Goals as goal

pub returns : goal.returns
returns c =
    let n = c.args.n.now in
    IfSome_then c.body_of_callee.result c.body_of_callee.ensures (λ b h. let ts = list_trees stmt_tree b.now.items in called_so n ts (empty _ _ n.args.items c.if-not-is_empty.false c.is_empty.ensures n.args.ok.0) (subst (λ e. Wraps wrapped_function (expr_tree e) ts) c.deref.ensures h))
