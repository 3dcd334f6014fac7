use Rattle.std.proofs.Common.{sym, ap, ◌∙◌}
use Rattle.swc_ast.specs.Views.{for_tree, stmt_tree}
use Rattle.swc_ast.proofs.Equations.{stmt_tree-For, for_tree-is}
use Rattle.branch_loops.proofs.ForSteps.{same_for}
use Rattle.branch_loops.proofs.nodes.take_for.Goals as goal

pub returns : goal.returns
returns c =
    stmt_tree-For _ ∙ ap for_tree c.in_ok-made.ensures.ok ∙ for_tree-is _
    ∙ same_for c.args.n.now.span _ _ _ _ _ _ c.in_ok-body.body c.args.n.now.body c.replace.ensures.value c.replace-2.ensures.value c.replace-3.ensures.value (ap stmt_tree c.in_ok-body.ensures.ok ∙ c.take_stmt.ensures ∙ ap stmt_tree c.deref_mut.ensures.value)
    ∙ sym (for_tree-is c.args.n.now)
