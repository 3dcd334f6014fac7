use Rattle.std.proofs.Common.{refl, sym, ap, ◌∙◌, false, [], ◌∷◌}
use Rattle.swc_ast.specs.Parts.{list_trees}
use Rattle.swc_ast.specs.Scope.{joined}
use Rattle.swc_ast.specs.Tree.{ε, ◌⊳◌}
use Rattle.swc_ast.specs.Views.{stmt_tree}
use Rattle.swc_ast.proofs.Equations.{stmt_tree-Block}
use Rattle.swc_utils.specs.Globals.{unresolved}
use Rattle.swc_utils.proofs.Chains.{pushed}
use Rattle.branch_rules.specs.Statements.{all_plain}
use Rattle.branch_parts.proofs.GivesNothing.{list_gives_nothing}
use Rattle.branch_switch.specs.Kept as keeping
use Rattle.branch_switch.proofs.Default.{beside_switched, apart_switched}
use Rattle.branch_switch.proofs.Loops.{appended}
use Rattle.branch_switch.proofs.defaults.fold_default.Goals as goal

pub returns-then-are_plain : goal.returns-then-are_plain
returns-then-are_plain c =
    beside_switched (unresolved c.args.ctx.now) c.args.span (c.args.span ∷ []) (c.args.span ∷ []) c.args.discriminant.now c.args.discriminant.now c.args.cases.items c.requires
    (list_trees stmt_tree c.new-out.result.items) (list_trees stmt_tree c.push_left.new.out.items) (list_trees stmt_tree c.in_ok-body.body.items) (list_trees stmt_tree c.part.new.kept.items) _ c.as_one.result
    (ap (list_trees stmt_tree) c.new-out.ensures.items) refl c.in_ok-push_left.ensures c.in_ok-body.ensures
    (c.in_ok-part.ensures.kept ∙ ap (λ xs. joined (list_trees stmt_tree xs) (keeping.kept false (list_trees stmt_tree c.in_ok-body.body.items))) c.new-kept.ensures.items)
    (ap (λ xs. all_plain (list_trees stmt_tree xs)) (sym c.deref.ensures.value) ∙ (sym c.are_plain.ensures ∙ c.if-are_plain.true))
    (list_gives_nothing c.part.new.kept.items)
    (ap (list_trees stmt_tree) c.in_ok-append.ensures.items ∙ appended c.push_left.new.out.items c.part.new.kept.items)
    c.as_one.ensures

pub returns : goal.returns
returns c =
    apart_switched (unresolved c.args.ctx.now) c.args.span (c.args.span ∷ []) (c.args.span ∷ []) c.args.discriminant.now c.args.discriminant.now c.args.cases.items c.requires
    (list_trees stmt_tree c.new-out.result.items) (list_trees stmt_tree c.push_left.new.out.items) (list_trees stmt_tree c.in_ok-body.body.items) (list_trees stmt_tree c.part.new.kept.items) _ _
    (ap (list_trees stmt_tree) c.new-out.ensures.items) refl c.in_ok-push_left.ensures c.in_ok-body.ensures
    (c.in_ok-part.ensures.kept ∙ ap (λ xs. joined (list_trees stmt_tree xs) (keeping.kept false (list_trees stmt_tree c.in_ok-body.body.items))) c.new-kept.ensures.items)
    (ap (list_trees stmt_tree) c.in_ok-push.ensures.items ∙ (pushed stmt_tree c.push_left.new.out.items _ ∙ ap (λ x. joined (list_trees stmt_tree c.push_left.new.out.items) (x ⊳ ε)) (stmt_tree-Block _)))
    c.as_one-2.ensures
