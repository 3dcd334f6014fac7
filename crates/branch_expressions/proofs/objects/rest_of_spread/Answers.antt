use Rattle.std.proofs.Common.{[], ◌∷◌, subst}
use Rattle.swc_ast.specs.Expressions.{object_tree}
use Rattle.swc_ast.specs.Parts.{list_trees}
use Rattle.swc_ast.specs.Views.{prop_or_spread_tree}
use Rattle.swc_ast.proofs.Equations.{expr_tree-Object}
use Rattle.swc_utils.specs.Globals.{unresolved}
use Rattle.branch_rules.specs.Ignored.{PropertiesLeft}
use Rattle.branch_expressions.proofs.Kept.{object_changed, object_kept}
use Rattle.branch_expressions.proofs.objects.rest_of_spread.Goals as goal

pub returns-then-changed : goal.returns-then-changed
returns-then-changed c =
    object_changed (unresolved c.args.ctx.now) (c.args.n.now.span ∷ []) c.in_ok-changed.changed c.args.n.now.props.items c.in_ok-changed.props.items (c.args.n.now.span ∷ []) (object_tree prop_or_spread_tree c.args.n.now) _ c.if-changed.true
    (subst (λ v. PropertiesLeft (unresolved c.args.ctx.now) c.in_ok-changed.changed (list_trees prop_or_spread_tree v.items) (list_trees prop_or_spread_tree c.in_ok-changed.props.items)) c.replace-props.ensures.value c.in_ok-changed.ensures)
    (expr_tree-Object _)

pub returns : goal.returns
returns c =
    object_kept (unresolved c.args.ctx.now) (c.args.n.now.span ∷ []) c.in_ok-changed.changed c.args.n.now.props.items c.in_ok-changed.props.items c.if-changed.false
    (subst (λ v. PropertiesLeft (unresolved c.args.ctx.now) c.in_ok-changed.changed (list_trees prop_or_spread_tree v.items) (list_trees prop_or_spread_tree c.in_ok-changed.props.items)) c.replace-props.ensures.value c.in_ok-changed.ensures)
