use Rattle.std.proofs.Common.{rules, ◌≡◌, [], ◌∷◌, ◌++◌, sym, subst}
use Rattle.std.specs.Vec.Iter.{into_iter_items}
use Rattle.std.proofs.lemmas.List.Elements.{All-nil, All-cons, All-append}
use Rattle.round_units.specs.Rests.{Known, SaidOf, AllKnown, AllSay, unknown}
use Rattle.round_units.proofs.Lists.{items_pushed, unknown_known}
use Rattle.round_units.proofs.units.units_of.Goals as goal

pub loop-item-preserved : goal.loop-item-preserved
loop-item-preserved c =
    let us = c.loop-item.out.items in let vs = c.push.new.self.items in let u = unknown c.in-Some.item in
    let pushed : vs ≡ us ++ u ∷ [] = search rules in (
      items_pushed us vs c.in-Some.item (into_iter_items c.loop-item.item-iterator) (into_iter_items c.next.new.self) _ pushed (search rules) c.loop-item.invariant.0,
      (
        subst AllKnown (sym pushed) (All-append Known us (u ∷ []) c.loop-item.invariant.1.0 (All-cons Known u [] (unknown_known c.in-Some.item) (All-nil Known))),
        λ g. subst (AllSay g) (sym pushed) (All-append (SaidOf g) us (u ∷ []) (c.loop-item.invariant.1.1 g) (All-cons (SaidOf g) u [] tt (All-nil (SaidOf g)))),
      ),
    )
