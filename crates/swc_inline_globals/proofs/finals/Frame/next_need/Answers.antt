use Rattle.std.proofs.Common.{◌<◌, length, not, sym, ap, subst, ◌∙◌, arith}
use Rattle.swc_inline_globals.specs.Walking.{AllInRange}
use Rattle.swc_inline_globals.proofs.Stepping.{need_at, done_at}
use Rattle.swc_inline_globals.proofs.finals.Frame.next_need.Goals as goal

pub returns-then-is_none-clause-need : goal.returns-then-is_none-clause-need
returns-then-is_none-clause-need c =
    let f = c.loop-self.self in
    let xs = c.args.finals.now in
    let h : f.next < length f.needs.items = omega (arith, c.len.ensures, c.loop-self-test.true) in
    let r = subst (λ v. AllInRange (length xs) v.items) (sym c.loop-self.invariant.0.needs) c.requires.in_range in
    need_at xs f.needs.items f.next c.index-need.result.now c.index-finals-need.result r h c.index-need.ensures c.index-finals-need.is (c.is_none.ensures ∙ ap not c.if-is_none.true)

pub loop-self-preserved : goal.loop-self-preserved
loop-self-preserved c =
    let f = c.loop-self.self in
    let xs = c.args.finals.now in
    let h : f.next < length f.needs.items = omega (arith, c.len.ensures, c.loop-self-test.true) in
    let same = c.loop-self.invariant.0 in
    let r = subst (λ v. AllInRange (length xs) v.items) (sym same.needs) c.requires.in_range in
    (record { number = same.number; value = same.value; needs = same.needs }, done_at xs f.needs.items f.next c.index-need.result.now c.index-finals-need.result r h c.index-need.ensures c.index-finals-need.is (c.is_none.ensures ∙ ap not c.if-is_none.false) c.loop-self.invariant.1)
