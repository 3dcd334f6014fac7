use Rattle.std.proofs.Common.{Some, sym, ap, ◌∙◌}
use Rattle.swc_ast.specs.Views.{expr_tree}
use Rattle.swc_expr_map.specs.Entries.{number_of}
use Rattle.given_globals.specs.Globals.{entries_of}
use Rattle.given_globals.proofs.Founds.{chain_found, chain_unknown}
use Rattle.given_globals.proofs.lookup.Lookup.expression.Goals as goal

pub returns-in_default : goal.returns-in_default
returns-in_default c = let t = expr_tree c.args.e.now in chain_unknown c.args.self.now.settings t (ap (λ o. number_of t (entries_of o)) (sym c.in_default.is))

pub returns-then-leads_outside : goal.returns-then-leads_outside
returns-then-leads_outside c =
    let t = expr_tree c.args.e.now in
    chain_found c.args.self.now.settings t (Some c.in-Some-number.number) (sym c.in-Some-number.is ∙ c.number.ensures ∙ ap (λ o. number_of t (entries_of o)) (sym c.in-Some.is)) (sym c.leads_outside.ensures ∙ c.if-leads_outside.true)

pub returns-in-None : goal.returns-in-None
returns-in-None c =
    let t = expr_tree c.args.e.now in
    chain_unknown c.args.self.now.settings t (sym c.in-None.is ∙ c.number.ensures ∙ ap (λ o. number_of t (entries_of o)) (sym c.in-Some.is))
