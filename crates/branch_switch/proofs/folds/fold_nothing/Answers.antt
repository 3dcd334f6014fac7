use Rattle.std.proofs.Common.{ap, ◌∙◌, [], ◌∷◌}
use Rattle.swc_ast.specs.Parts.{list_trees}
use Rattle.swc_ast.specs.Views.{stmt_tree}
use Rattle.branch_switch.proofs.Selected.{none_switched}
use Rattle.branch_switch.proofs.folds.fold_nothing.Goals as goal

pub returns : goal.returns
returns c = λ mark d h.
    none_switched mark c.args.span (c.args.span ∷ []) d c.args.cases.items _ _ _ c.as_one.result h
    (ap (list_trees stmt_tree) c.new-out.ensures.items) (ap (list_trees stmt_tree) c.deref.ensures.value ∙ c.in_ok-gone.ensures) c.in_ok-push_all_vars.ensures c.as_one.ensures
