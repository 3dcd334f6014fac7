use Rattle.std.proofs.Common.{◌+◌, drop, take, sym, ap, subst, ◌∙◌}
use Rattle.std.specs.Prelude.{IfSome}
use Rattle.swc_utils.specs.Globals.{unresolved}
use Rattle.expr_rules.specs.Members.{none_named}
use Rattle.expr_members.specs.Objects.{IsPlace}
use Rattle.expr_members.proofs.MemberSteps.{behind_all}
use Rattle.expr_members.proofs.Named.{place_value}
use Rattle.expr_members.proofs.Props.{trees_of}
use Rattle.expr_members.proofs.object_members.object_value.Goals as goal

pub returns-else-not-branch-2 : goal.returns-else-not-branch-2
returns-else-not-branch-2 c =
    let mark = unresolved c.args.ctx.now in
    let key = c.args.key.now in
    let i = c.in-Some.i in
    let ps = c.args.object.now.props.items in
    place_value mark key ps i c.swap_remove-prop.result c.value_of.result
    (subst (λ xs. IsPlace key xs i) c.deref.ensures.value (subst (λ o. IfSome o (λ j. IsPlace key c.deref.result.now j)) c.in-Some.is c.in_ok-i.ensures))
    c.swap_remove-prop.ensures.value
    (ap (λ xs. none_named mark key (trees_of (take i xs))) (sym c.deref-in-Some.ensures.value) ∙ sym c.in_ok-are_others-in-Some.ensures ∙ c.if-not-branch.false)
    (ap (λ xs. none_named mark key (trees_of (drop (i + 1) xs))) (sym c.deref-in-Some-2.ensures.value) ∙ sym (ap (λ ys. none_named mark key (trees_of ys)) (behind_all c.deref-in-Some-2.result.now (i + 1))) ∙ sym c.in_ok-are_others-in-Some-2.ensures ∙ c.if-not-branch-2.false)
    c.value_of.ensures
