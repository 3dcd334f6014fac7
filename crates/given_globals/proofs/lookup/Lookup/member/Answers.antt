use Rattle.std.proofs.Common.{option_map, sym, ap, ◌∙◌}
use Rattle.swc_ast.specs.Views.{expr_tree}
use Rattle.swc_pass.specs.Given.{nothing, a_plain}
use Rattle.swc_pass.specs.Inlined.{by_value, by_plain, by_part}
use Rattle.given_shield.specs.Names.{mark_of}
use Rattle.given_globals.specs.Globals.{given_of}
use Rattle.given_globals.proofs.Founds.{found_chain, found_part}
use Rattle.given_globals.proofs.lookup.Lookup.member.Goals as goal

pub returns-in-Some : goal.returns-in-Some
returns-in-Some c = found_chain c.args.self.now.settings (expr_tree c.args.e.now) c.in-Some.number (ap by_value (sym c.in-Some.is) ∙ c.expression.ensures)

pub returns-in-Some-env : goal.returns-in-Some-env
returns-in-Some-env c =
    let s = c.args.self.now.settings in
    found_part s (expr_tree c.args.e.now) (a_plain (expr_tree c.in-Some-env.value.now)) (ap by_value (sym c.in_default.is) ∙ c.expression.ensures)
    (ap (λ o. by_plain (option_map (λ e. expr_tree e.now) o)) (sym c.in-Some-env.is) ∙ c.env.ensures ∙ sym (ap (by_part (given_of s) (mark_of s.mark)) c.requires))

pub returns-in-None : goal.returns-in-None
returns-in-None c =
    let s = c.args.self.now.settings in
    found_part s (expr_tree c.args.e.now) nothing (ap by_value (sym c.in_default.is) ∙ c.expression.ensures)
    (ap (λ o. by_plain (option_map (λ e. expr_tree e.now) o)) (sym c.in-None.is) ∙ c.env.ensures ∙ sym (ap (by_part (given_of s) (mark_of s.mark)) c.requires))
