use Rattle.std.proofs.Common.{option_map, sym, ap, ◌∙◌}
use Rattle.swc_ast.specs.Views.{expr_tree}
use Rattle.swc_pass.specs.Inlined.{is_env}
use Rattle.given_shield.specs.Names.{mark_of}
use Rattle.given_globals.specs.Globals.{given_of}
use Rattle.given_globals.proofs.Founds.{member_env}
use Rattle.given_globals.proofs.Values.{copied}
use Rattle.given_globals.proofs.lookup.Lookup.env.Goals as goal

pub returns-then-is_env : goal.returns-then-is_env
returns-then-is_env c =
    let s = c.args.self.now.settings in
    let n = c.args.n.now in
    member_env s n.span n.obj.value n.prop c.in-Some.key.now (option_map (λ e. expr_tree e.now) c.get.result)
    (ap (option_map (λ t. t.now)) (sym c.in-Some.is) ∙ c.key_text.ensures)
    (ap (λ o. is_env (given_of s) (mark_of s.mark) (expr_tree o)) (sym c.deref.ensures) ∙ sym c.is_env.ensures ∙ c.if-is_env.true)
    (copied s c.get.result ∙ ap (option_map expr_tree) c.get.ensures.value)
