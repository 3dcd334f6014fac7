use Rattle.std.proofs.Common.{[], ◌∷◌, sym, ap, ◌∙◌}
use Rattle.swc_ast.specs.Parts.{list_trees}
use Rattle.swc_ast.specs.Views.{expr_tree}
use Rattle.swc_utils.specs.Globals.{unresolved}
use Rattle.pass_rules.specs.Leaves.{as_sequence}
use Rattle.expr_rules.specs.Sequences.{some_folds, front_folded}
use Rattle.expr_members.proofs.Fronts.{front_step}
use Rattle.expr_members.proofs.sequences.fold_sequence.Goals as goal

pub returns-clause-steps : goal.returns-clause-steps
returns-clause-steps c =
    let mark = unresolved c.args.ctx.now in
    front_step mark c.args.is_callee c.args.n.now c.sequence.result
    (ap (λ xs. some_folds mark c.args.is_callee (list_trees expr_tree xs)) (sym c.deref.ensures.value) ∙ sym c.some_folds.ensures ∙ c.if-not-some_folds.false)
    (c.sequence.ensures ∙ ap (as_sequence (c.args.n.now.span ∷ [])) (c.in_ok-left.ensures ∙ ap (λ v. front_folded mark c.args.is_callee (list_trees expr_tree v.items)) c.replace-exprs.ensures.value))
