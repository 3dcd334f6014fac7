use Rattle.std.proofs.Common.{ap, ◌∙◌, [], ◌∷◌}
use Rattle.swc_ast.specs.Parts.{list_trees}
use Rattle.swc_ast.specs.Views.{expr_tree, stmt_tree}
use Rattle.swc_utils.proofs.Chains.{pushed}
use Rattle.branch_rules.specs.Switches.{bodies_of}
use Rattle.branch_switch.specs.Clauses.{clauses}
use Rattle.branch_switch.proofs.Behind.{behind_switched, rest_tree}
use Rattle.branch_switch.proofs.folds.fold_behind.Goals as goal

pub returns : goal.returns
returns c = λ mark h.
    behind_switched mark c.args.span (c.args.span ∷ []) (c.args.span ∷ []) c.args.discriminant.now c.args.cases.items c.args.i (list_trees stmt_tree c.new-out.result.items) (list_trees stmt_tree c.push_all_vars.new.out.items) _ _ _ c.as_one.result c.requires.some c.requires.within h
    (ap (list_trees stmt_tree) c.new-out.ensures.items)
    (ap (list_trees stmt_tree) c.deref.ensures.value ∙ (c.in_ok-gone.ensures ∙ ap (λ xs. bodies_of (clauses xs)) c.in_ok-back.ensures.items))
    c.in_ok-push_all_vars.ensures
    (rest_tree c.args.span c.in_ok-new.field-0 c.in_ok-back.back _ _ (ap expr_tree c.in_ok-new.ensures.ok ∙ c.take_expr.ensures) c.in_ok-back.ensures.tail)
    (ap (list_trees stmt_tree) c.in_ok-push.ensures.items ∙ pushed stmt_tree _ _)
    c.as_one.ensures
