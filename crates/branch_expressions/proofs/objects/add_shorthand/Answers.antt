use Rattle.std.proofs.Common.{[], ◌∷◌, ap, ◌∙◌}
use Rattle.swc_ast.specs.Parts.{ident_name, ident_tree}
use Rattle.swc_ast.proofs.Equations.{expr_tree-Ident}
use Rattle.swc_utils.specs.Globals.{unresolved}
use Rattle.branch_expressions.proofs.Hosts.{adds_host, adds_no_host}
use Rattle.branch_expressions.proofs.objects.add_shorthand.Goals as goal

pub returns-in_ok-push : goal.returns-in_ok-push
returns-in_ok-push c =
    let n = c.args.n.now in
    adds_host (unresolved c.args.ctx.now) (ident_name n) (n.span ∷ []) _ c.args.out.now.items c.push.new.self.items c.may_have_side_effects.result
    (expr_tree-Ident (record { span = n.span; sym = c.replace-sym.result; ctxt = n.ctxt }) ∙ ap (λ s. ident_tree (record { span = n.span; sym = s; ctxt = n.ctxt })) c.replace-sym.ensures.value)
    c.may_have_side_effects.ensures.answer c.if-may_have_side_effects.true c.in_ok-push.ensures.items

pub returns-else-may_have_side_effects : goal.returns-else-may_have_side_effects
returns-else-may_have_side_effects c =
    let n = c.args.n.now in
    adds_no_host (unresolved c.args.ctx.now) (ident_name n) (n.span ∷ []) _ c.args.out.now.items c.may_have_side_effects.result
    (expr_tree-Ident (record { span = n.span; sym = c.replace-sym.result; ctxt = n.ctxt }) ∙ ap (λ s. ident_tree (record { span = n.span; sym = s; ctxt = n.ctxt })) c.replace-sym.ensures.value)
    c.may_have_side_effects.ensures.answer c.if-may_have_side_effects.false
