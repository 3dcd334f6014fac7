use Rattle.std.proofs.Common.{◌+◌, drop, sym, ap, subst, ◌∙◌, arith}
use Rattle.swc_utils.specs.Globals.{unresolved}
use Rattle.swc_utils.specs.Pure.{pure_all}
use Rattle.expr_members.specs.Members.{IsItem}
use Rattle.expr_members.proofs.MemberSteps.{behind_all, item_found}
use Rattle.expr_members.proofs.Opened.{trees_of}
use Rattle.expr_members.proofs.items.array_item.Goals as goal

pub returns : goal.returns
returns c =
    let mark = unresolved c.args.ctx.now in
    item_found mark c.args.span c.args.array.now.elems.items c.args.i c.in_ok-answer.answer (omega (arith, c.args.array.now.elems.ok.0)) c.requires
    (ap (λ xs. pure_all mark (trees_of (drop (c.args.i + 1) xs))) (sym c.deref.ensures.value) ∙ sym (ap (λ ys. pure_all mark (trees_of ys)) (behind_all c.deref.result.now (c.args.i + 1))) ∙ sym c.are_pure.ensures ∙ c.if-not-are_pure.false)
    (subst (λ v. IsItem mark c.args.span v.items c.args.i c.in_ok-answer.answer) c.replace-items.ensures.value c.in_ok-answer.ensures)
