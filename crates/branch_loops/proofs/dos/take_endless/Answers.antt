use Rattle.std.proofs.Common.{[], ◌∷◌, ap, ◌∙◌}
use Rattle.swc_ast.specs.Parts.{absent}
use Rattle.swc_ast.specs.Tree.{For, node, ε, ◌⊳◌}
use Rattle.swc_ast.specs.Views.{stmt_tree}
use Rattle.branch_loops.proofs.OnceSteps.{endless_is}
use Rattle.branch_loops.proofs.dos.take_endless.Goals as goal

pub returns : goal.returns
returns c =
    endless_is c.in_ok-made.made c.args.n.now.span c.in_ok-body.body c.in_ok-made.ensures.ok
    ∙ ap (λ x. node For (c.args.n.now.span ∷ []) (absent ⊳ absent ⊳ absent ⊳ x ⊳ ε)) (ap stmt_tree c.in_ok-body.ensures.ok ∙ c.take_stmt.ensures ∙ ap stmt_tree c.deref_mut.ensures.value)
