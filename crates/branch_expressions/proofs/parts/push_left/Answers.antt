use Rattle.std.proofs.Common.{◌∷◌, [], ◌++◌, ap, ◌∙◌}
use Rattle.branch_expressions.proofs.Adding.{adds_items, adds_one}
use Rattle.branch_expressions.proofs.parts.push_left.Goals as goal

pub returns-in_ok-push_all-in-Some : goal.returns-in_ok-push_all-in-Some
returns-in_ok-push_all-in-Some c = λ mark t h. adds_items mark t c.args.is_change c.args.out.now.items c.push_all.new.out.items c.args.left c.in-Some.ensures.spans c.in-Some.items.items c.in_ok-push_all-in-Some.ensures c.in-Some.ensures.is h

pub returns-in_ok-push-in-None : goal.returns-in_ok-push-in-None
returns-in_ok-push-in-None c = λ mark t h. adds_one mark t c.args.is_change c.args.out.now.items c.push.new.self.items c.args.left (c.in_ok-push-in-None.ensures.items ∙ ap (λ x. c.args.out.now.items ++ x ∷ []) c.in-None.ensures) h
