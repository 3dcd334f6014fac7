use Rattle.std.proofs.Common.{[], ◌∷◌, sym, ap, ap₂, ◌∙◌}
use Rattle.swc_ast.specs.Tree.{While, node, ε, ◌⊳◌}
use Rattle.swc_ast.specs.Views.{expr_tree, stmt_tree}
use Rattle.swc_ast.proofs.Equations.{stmt_tree-While}
use Rattle.branch_loops.proofs.WhileSteps.{while_is}
use Rattle.branch_loops.proofs.nodes.take_while.Goals as goal

pub returns : goal.returns
returns c =
    stmt_tree-While _ ∙ while_is _
    ∙ ap₂ (λ x y. node While (c.args.n.now.span ∷ []) (x ⊳ y ⊳ ε))
    (ap expr_tree c.in_ok-test.ensures.ok ∙ c.take_expr.ensures ∙ ap expr_tree c.deref_mut.ensures.value)
    (ap stmt_tree c.in_ok-body.ensures.ok ∙ c.take_stmt.ensures ∙ ap stmt_tree c.deref_mut-2.ensures.value)
    ∙ sym (while_is c.args.n.now)
