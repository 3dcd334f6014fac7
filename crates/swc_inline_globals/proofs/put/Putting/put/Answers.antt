use Rattle.std.proofs.Common.{sym, ap, ◌∙◌}
use Rattle.swc_ast.specs.Views.{expr_tree}
use Rattle.swc_ast.proofs.Equations.{expr_tree-Unary}
use Rattle.given_shield.specs.Shield.{shield}
use Rattle.given_rules.specs.Walk.{answer}
use Rattle.given_rules.specs.Worked.{put_found, put_expression}
use Rattle.given_globals.specs.Globals.{answers_of}
use Rattle.swc_inline_globals.specs.Slots.{slots}
use Rattle.swc_inline_globals.proofs.Forms.{other_operator}
use Rattle.swc_inline_globals.proofs.Founds.{ok_map, put_read}
use Rattle.swc_inline_globals.proofs.put.Putting.put.Goals as goal

pub returns-in-Unary : goal.returns-in-Unary
returns-in-Unary c =
    let w = c.args.self.now in
    let s = w.lookup.now.settings in
    let e = sym (ap expr_tree c.in-Unary.is ∙ expr_tree-Unary c.in-Unary.n) in
    ok_map c.put_type.result (λ a h. h c.args.spot ∙ ap (λ t. answer (put_expression (answers_of s) shield (slots w.finals.now) c.args.spot t)) e) c.put_type.ensures

pub returns-in_default : goal.returns-in_default
returns-in_default c =
    let w = c.args.self.now in
    let s = w.lookup.now.settings in
    let h = slots w.finals.now in
    ok_map c.put_found.result (λ a k. k ∙ ap (λ f. answer (put_found (answers_of s) shield h c.args.spot f)) c.found.ensures ∙ ap answer (put_read s h c.args.spot (expr_tree c.args.e.now) (other_operator c.args.e.now c.in_default.not-Unary))) c.put_found.ensures
