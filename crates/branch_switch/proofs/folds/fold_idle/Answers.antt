use Rattle.std.proofs.Common.{refl, ap, ◌∙◌, [], ◌∷◌}
use Rattle.swc_ast.specs.Parts.{list_trees}
use Rattle.swc_ast.specs.Views.{stmt_tree}
use Rattle.swc_utils.specs.Globals.{unresolved}
use Rattle.branch_switch.proofs.Idle.{idle_switched}
use Rattle.branch_switch.proofs.folds.fold_idle.Goals as goal

pub returns : goal.returns
returns c =
    idle_switched (unresolved c.args.ctx.now) c.args.span (c.args.span ∷ []) c.args.discriminant.now c.args.discriminant.now c.args.cases.items _ _ _ _ c.as_one.result c.requires
    (ap (list_trees stmt_tree) c.new-out.ensures.items) refl c.in_ok-push_left.ensures
    (ap (list_trees stmt_tree) c.deref.ensures.value ∙ c.in_ok-gone.ensures) c.in_ok-push_all_vars.ensures c.as_one.ensures
