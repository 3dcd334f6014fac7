use Rattle.std.proofs.Common.{ap, ◌∙◌, false, [], ◌∷◌}
use Rattle.swc_ast.specs.Parts.{list_trees}
use Rattle.swc_ast.specs.Scope.{joined}
use Rattle.swc_ast.specs.Tree.{Block, node}
use Rattle.swc_ast.specs.Views.{stmt_tree}
use Rattle.swc_ast.proofs.Equations.{stmt_tree-Block}
use Rattle.branch_rules.specs.Switches.{bodies_of}
use Rattle.branch_switch.specs.Clauses.{clauses}
use Rattle.branch_switch.specs.Kept as keeping
use Rattle.branch_switch.proofs.Loops.{appended}
use Rattle.branch_switch.proofs.Selected.{from_switched}
use Rattle.branch_switch.proofs.folds.fold_from.Goals as goal

pub returns : goal.returns
returns c = λ mark d h.
    from_switched mark c.args.span (c.args.span ∷ []) d c.args.cases.items c.args.i (list_trees stmt_tree c.new-stmts.result.items) (list_trees stmt_tree c.push_all_vars.new.out.items) (list_trees stmt_tree c.in_ok-gone.gone.items) (list_trees stmt_tree c.in_ok-body.body.items) _ (list_trees stmt_tree c.part.new.kept.items) _ h
    (c.in_ok-gone.ensures ∙ ap (λ xs. bodies_of (clauses xs)) c.in_ok-back.ensures.items)
    (c.in_ok-body.ensures ∙ ap (λ xs. bodies_of (clauses xs)) c.in_ok-back.ensures.tail)
    (ap (list_trees stmt_tree) c.deref.ensures.value ∙ c.in_ok-part.ensures.gone)
    (c.in_ok-part.ensures.kept ∙ ap (λ xs. joined (list_trees stmt_tree xs) (keeping.kept false (list_trees stmt_tree c.in_ok-body.body.items))) c.new-kept.ensures.items)
    (ap (list_trees stmt_tree) c.new-stmts.ensures.items)
    c.in_ok-push_all_vars.ensures
    (stmt_tree-Block _ ∙ ap (node Block (c.args.span ∷ [])) (ap (list_trees stmt_tree) c.in_ok-append.ensures.items ∙ appended _ _))
