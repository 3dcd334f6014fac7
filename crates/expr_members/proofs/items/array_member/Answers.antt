use Rattle.std.proofs.Common.{◌≡◌, length, Some, rules, true, refl, sym, ap, subst, ◌∙◌}
use Rattle.std.specs.Prelude.{IfSome}
use Rattle.swc_ast.specs.Operators.{index_of}
use Rattle.swc_utils.specs.Globals.{unresolved}
use Rattle.swc_utils.specs.Pure.{has_spread, pure_all}
use Rattle.expr_members.specs.Members.{IsLength}
use Rattle.expr_members.proofs.MemberSteps.{answered_or, array_length_stands, item_stands}
use Rattle.expr_members.proofs.Opened.{kinds_of, trees_of}
use Rattle.expr_members.proofs.items.array_member.Goals as goal

pub returns-then-eq : goal.returns-then-eq
returns-then-eq c =
    let mark = unresolved c.args.ctx.now in
    array_length_stands mark c.args.span _ c.args.array.now.elems.items c.args.key.now c.array_length.result refl (search rules)
    (ap (λ xs. has_spread (kinds_of xs)) (sym c.deref.ensures.value) ∙ sym c.has_spread.ensures ∙ c.if-has_spread.false)
    (subst (λ xs. IfSome c.array_length.result (λ e. IsLength c.args.span (length xs) e)) c.deref-then-eq.ensures.value c.array_length.ensures.length)
    (subst (λ xs. IfSome c.array_length.result (λ e. pure_all mark (trees_of xs) ≡ true)) c.deref-then-eq.ensures.value c.array_length.ensures.pure)

pub returns-in-Some : goal.returns-in-Some
returns-in-Some c = answered_or _ c.array_item.result (λ e h. item_stands (unresolved c.args.ctx.now) c.args.span _ c.args.array.now.elems.items c.args.key.now c.in-Some.i e (subst (λ o. IfSome o (λ i. index_of c.args.key.now ≡ Some i)) c.in-Some.is c.in_ok-i.ensures) h) c.array_item.ensures
