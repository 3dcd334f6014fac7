use Rattle.std.proofs.Common.{sym, ap, ◌∙◌}
use Rattle.swc_ast.specs.Views.{expr_tree}
use Rattle.swc_pass.specs.Given.{a_value, a_plain}
use Rattle.tree_put.specs.Puts.{stay}
use Rattle.given_globals.specs.Globals.{answers_of}
use Rattle.given_globals.specs.Rows.{found_of}
use Rattle.swc_inline_globals.proofs.Founds.{gathered_found}
use Rattle.swc_inline_globals.proofs.gather.Gathering.gather.Goals as goal

pub returns-in_ok-push-in-Value : goal.returns-in_ok-push-in-Value
returns-in_ok-push-in-Value c =
    let w = c.args.self.now in
    gathered_found w.lookup.now.settings (expr_tree c.args.e.now) (a_value c.in-Value.number) w.met.items (ap found_of (sym c.in-Value.is) ∙ c.found.ensures)
    ∙ ap (λ js. (stay, (answers_of w.lookup.now.settings, js))) (sym c.in_ok-push-in-Value.ensures.items)

pub returns-in-Plain : goal.returns-in-Plain
returns-in-Plain c =
    let w = c.args.self.now in
    gathered_found w.lookup.now.settings (expr_tree c.args.e.now) (a_plain (expr_tree c.in-Plain.field-0.now)) w.met.items (ap found_of (sym c.in-Plain.is) ∙ c.found.ensures)
