use Rattle.std.proofs.Common.{◌≤◌, length, drop, sym, ap, ◌∙◌, arith}
use Rattle.carry_tables.specs.Tables.{at, item_of, undone}
use Rattle.carry_tables.proofs.Undone.{popped, one_longer}
use Rattle.carry_tables.proofs.scoped.Scoped.rewind.Goals as goal

pub loop-self-preserved-in-Some : goal.loop-self-preserved-in-Some
loop-self-preserved-in-Some c =
    let u = c.loop-self.self in
    let left = c.pop.new.self.items in
    let shorter = ap length c.in-Some.ensures.items in
    let room : c.args.height ≤ length left = omega (arith, c.loop-self-test.true, c.len.ensures, u.log.ok.0, shorter, one_longer left (c.in-Some.name, c.in-Some.old)) in (
      λ h. room,
      λ k i h x. popped left k c.in-Some.name c.in-Some.old (λ y. item_of u y) (λ y. at c.set.new.self y) (omega (arith, i, room)) c.set.ensures x
          ∙ ap (λ l. undone (drop k l) (item_of u x) x) (sym c.in-Some.ensures.items) ∙ c.loop-self.invariant.1 k i h x,
    )
