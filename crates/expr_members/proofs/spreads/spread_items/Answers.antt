use Rattle.std.proofs.Common.{sym, ap, ◌∙◌}
use Rattle.expr_rules.specs.Spreads.{spreads_array}
use Rattle.expr_members.proofs.Opened.{kinds_of, trees_of, spread_step}
use Rattle.expr_members.proofs.spreads.spread_items.Goals as goal

pub returns-clause-steps : goal.returns-clause-steps
returns-clause-steps c = λ mark. spread_step mark c.args.n.now c.args.n.now.span c.replace-items.result c.in_ok-elems.elems (ap (λ xs. spreads_array (kinds_of xs) (trees_of xs)) (sym c.deref.ensures.value) ∙ sym c.spreads_array.ensures ∙ c.if-not-spreads_array.false) c.replace-items.ensures.value c.in_ok-elems.ensures.kinds c.in_ok-elems.ensures.trees
