use Rattle.std.proofs.Common.{sym, ap, ◌∙◌}
use Rattle.swc_ast.proofs.Equations.{expr_tree-Ident}
use Rattle.tree_put.specs.declared.rules.Spot.TheVariants.{Property}
use Rattle.given_shield.specs.Shield.{shield}
use Rattle.given_rules.specs.Walk.{answer}
use Rattle.given_rules.specs.Worked.{put_expression}
use Rattle.given_globals.specs.Globals.{answers_of}
use Rattle.swc_inline_globals.specs.Slots.{slots}
use Rattle.swc_inline_globals.proofs.Founds.{ok_map}
use Rattle.swc_inline_globals.proofs.put.PuttingPuts.property.Goals as goal

pub returns : goal.returns
returns c =
    let w = c.args.self.now in
    let s = w.lookup.now.settings in
    let h = slots w.finals.now in
    let e = expr_tree-Ident c.in_ok-clone.field-0 ∙ c.in_ok-clone.ensures.cases in
    ok_map c.put.result (λ a k. ap (λ x. (x, (answers_of s, h))) (sym (k ∙ ap (λ t. answer (put_expression (answers_of s) shield h Property t)) e))) c.put.ensures
