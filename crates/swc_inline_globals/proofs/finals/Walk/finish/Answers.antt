use Rattle.std.proofs.Common.{refl, ap, ◌∙◌}
use Rattle.swc_ast.specs.Views.{expr_tree}
use Rattle.given_shield.specs.Shield.{shield}
use Rattle.given_rules.specs.Put.{here, put}
use Rattle.given_rules.specs.Worked.{puts}
use Rattle.given_rules.proofs.FormedViews.{expr_formed}
use Rattle.given_globals.specs.Globals.{answers_of}
use Rattle.swc_inline_globals.specs.Slots.{slots}
use Rattle.swc_inline_globals.proofs.Passing.{walk_puts}
use Rattle.swc_inline_globals.proofs.finals.Walk.finish.Goals as goal

pub returns-clause-finishes : goal.returns-clause-finishes
returns-clause-finishes c =
    let s = c.args.self.now.lookup.now.settings in
    let t = expr_tree c.args.frame.value in
    record {
      asked = (refl, refl);
      begun = refl;
      stack = refl;
      value = c.put_expr.new.e;
      is = walk_puts s (slots c.deref.result.now) t (expr_tree c.put_expr.new.e) (answers_of c.put_expr.new.rules.lookup.now.settings, slots c.put_expr.new.rules.finals.now) (expr_formed c.args.frame.value).is c.in_ok-put_expr.ensures
          ∙ ap (λ xs. put (puts (answers_of s) shield (slots xs)) here t) c.deref.ensures.value;
      finals = refl;
    }
