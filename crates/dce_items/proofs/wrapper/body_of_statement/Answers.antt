use Rattle.std.proofs.Common.{subst}
use Rattle.std.proofs.lemmas.Option.{IfSome_then}
use Rattle.swc_ast.specs.Parts.{list_trees}
use Rattle.swc_ast.specs.Views.{expr_tree, stmt_tree}
use Rattle.dce_layer_proofs.specs.Frames.{wrapped_call}
use Rattle.dce_items.specs.Wrapped.{Wraps}
use Rattle.dce_items.proofs.Wrapping.{stated}
use Rattle.dce_items.proofs.wrapper.body_of_statement.Goals as goal

pub returns : goal.returns
returns c =
    IfSome_then c.body_of_expr.result c.body_of_expr.ensures (λ b h. let ts = list_trees stmt_tree b.now.items in stated c.args.n.now ts (subst (λ e. Wraps wrapped_call (expr_tree e) ts) c.deref.ensures h))
