use Rattle.std.proofs.Common.{rules, [], ◌∷◌, ◌∙◌}
use Rattle.swc_ast.proofs.Equations.{expr_tree-Seq}
use Rattle.swc_utils.specs.Globals.{unresolved}
use Rattle.branch_expressions.proofs.Fronts.{front_same, front_step}
use Rattle.branch_expressions.proofs.rules.fold_front.Goals as goal

pub returns-then-not-changed : goal.returns-then-not-changed
returns-then-not-changed c = front_same (unresolved c.args.ctx.now) (c.args.n.now.span ∷ []) c.pop.new.self.items c.args.n.now.exprs.items c.new-out.result.items c.add_all.new.out.items c.push.new.self.items c.in-Some.last c.in_ok-changed-in-Some.changed (search rules) c.new-out.ensures.items c.in_ok-changed-in-Some.ensures c.if-not-changed.true c.in_ok-push-in-Some.ensures.items

pub returns-in_ok-push-in-Some-2 : goal.returns-in_ok-push-in-Some-2
returns-in_ok-push-in-Some-2 c = front_step (unresolved c.args.ctx.now) (c.args.n.now.span ∷ []) (c.args.n.now.span ∷ []) c.pop.new.self.items c.args.n.now.exprs.items c.new-out.result.items c.add_all.new.out.items c.push-in-Some.new.self.items c.in-Some.last _ c.in_ok-changed-in-Some.changed (search rules) c.new-out.ensures.items c.in_ok-changed-in-Some.ensures c.if-not-changed.false (λ h. c.if-len-eq0.false (c.len.ensures ∙ c.add_all.new.out.ok.0 ∙ h)) c.in_ok-push-in-Some-2.ensures.items (expr_tree-Seq _)
