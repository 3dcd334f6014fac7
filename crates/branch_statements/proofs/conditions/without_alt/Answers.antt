use Rattle.std.proofs.Common.{refl, ap, ◌∙◌}
use Rattle.swc_ast.specs.Views.{expr_tree, stmt_tree}
use Rattle.branch_statements.proofs.Turned.{without_else}
use Rattle.branch_statements.proofs.conditions.without_alt.Goals as goal

pub returns : goal.returns
returns c = λ mark. without_else mark c.args.n.now _ _ refl
    (ap expr_tree c.in_ok-test.ensures.ok ∙ c.take_expr.ensures ∙ ap expr_tree c.deref_mut.ensures.value)
    (ap stmt_tree c.in_ok-cons.ensures.ok ∙ c.take_stmt.ensures ∙ ap stmt_tree c.deref_mut-2.ensures.value)
    refl c.requires.empty c.requires.plain
