use Rattle.std.proofs.Common.{length, drop, sym, ap, ◌∙◌, arith}
use Rattle.carry_tables.specs.Tables.{at, item_of, undone}
use Rattle.carry_tables.proofs.Undone.{noted, one_longer}
use Rattle.carry_tables.proofs.scoped.Scoped.set.Goals as goal

pub returns-clause-keeps : goal.returns-clause-keeps
returns-clause-keeps c =
    let u = c.args.self.now in
    let longer = ap length c.in_ok-push.ensures.items in
    record {
      higher = omega (arith, longer, one_longer u.log.items (c.args.name, c.in-Some.old));
      before = λ h i x. ap (λ l. undone (drop h l) (at c.set.new.self x) x) c.in_ok-push.ensures.items
          ∙ noted u.log.items h c.args.name c.in-Some.old c.args.item (λ y. item_of u y) (λ y. at c.set.new.self y) i (sym c.get.ensures ∙ c.in-Some.is) c.set.ensures x;
    }
