use Rattle.std.proofs.Common.{option_map, refl, sym, ap, ◌∙◌}
use Rattle.swc_ast.specs.Views.{expr_tree}
use Rattle.swc_pass.specs.Given.{or_invalid}
use Rattle.given_rules.proofs.FormedViews.{expr_formed}
use Rattle.given_rules.specs.Met.{met}
use Rattle.given_globals.specs.Globals.{answers_of}
use Rattle.swc_inline_globals.proofs.Passing.{gather_tells}
use Rattle.swc_inline_globals.proofs.finals.Frame.new.Goals as goal

pub returns : goal.returns
returns c =
    let s = c.args.lookup.now.settings in
    let v = c.in_ok-value.value in
    let k = gather_tells s (expr_tree v) (expr_tree c.put_expr.new.e) (answers_of c.new-gathering.result.lookup.now.settings) (answers_of c.put_expr.new.rules.lookup.now.settings) c.new-gathering.result.met.items c.put_expr.new.rules.met.items
    (ap (λ l. answers_of l.now.settings) c.new-gathering.ensures.lookup) c.new-gathering.ensures.met (expr_formed v).is c.in_ok-put_expr.ensures in
    let e = c.in_ok-value.ensures.cases ∙ ap or_invalid (ap (option_map (λ x. expr_tree x.now)) (sym c.unwrap.ensures) ∙ c.value.ensures) in
    record {
      frame = record { in_range = c.requires; value = k.0 ∙ e; needs = k.1 ∙ ap (met (answers_of s)) e };
      number = refl;
      next = refl;
    }
