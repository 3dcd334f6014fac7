use Rattle.std.proofs.Common.{sym, ap, ◌∙◌, [], ◌∷◌}
use Rattle.swc_ast.specs.Tree.{Seq, node}
use Rattle.swc_ast.specs.Parts.{list_trees}
use Rattle.swc_ast.specs.Scope.{joined}
use Rattle.swc_ast.specs.Views.{expr_tree}
use Rattle.swc_ast.proofs.Equations.{expr_tree-Seq}
use Rattle.swc_utils.specs.Globals.{unresolved}
use Rattle.swc_utils.specs.Pure.{no_trees}
use Rattle.swc_utils.specs.Effects.{effects_all}
use Rattle.swc_utils.proofs.Chains.{pushed}
use Rattle.swc_utils.proofs.Pushes.{some_in_front}
use Rattle.swc_utils.proofs.effects.put_behind.Goals as goal

pub returns : goal.returns
returns c =
    let parts = effects_all (unresolved c.args.ctx) (list_trees expr_tree c.args.exprs.now) in
    expr_tree-Seq _
    ∙ ap (λ xs. node Seq (c.args.span ∷ []) (list_trees expr_tree xs)) c.in_ok-push.ensures.items
    ∙ ap (node Seq (c.args.span ∷ [])) (pushed expr_tree c.in_ok-parts.parts.items c.args.value)
    ∙ some_in_front (c.args.span ∷ []) parts (list_trees expr_tree c.in_ok-parts.parts.items) (expr_tree c.args.value) (c.in_ok-parts.ensures ∙ ap (λ xs. joined (list_trees expr_tree xs) parts) c.new.ensures.items) (ap (λ xs. no_trees (list_trees expr_tree xs)) (sym c.deref.ensures.value) ∙ sym c.has_no_exprs.ensures ∙ c.if-has_no_exprs.false)
