use Rattle.std.proofs.Common.{rules, ◌≡◌, get_or, refl, sym, subst}
use Rattle.std.proofs.lemmas.List.Elements.{All-set, All-get_or}
use Rattle.tree_walk.specs.Walks.{none}
use Rattle.tree_walk.proofs.Walked.{each_all, each_more}
use Rattle.dce_uses.specs.Said.{register_of}
use Rattle.round_units.specs.Rests.{AllSay, Known, SaidOf}
use Rattle.round_units.proofs.Lists.{say_more}
use Rattle.round_units.proofs.units.clear_units.Goals as goal

pub loop-i-init : goal.loop-i-init
loop-i-init c = (((refl, λ k d h. refl), none), (c.forget.ensures.unused, (c.requires.known, subst (λ g. AllSay g c.args.items.now.items) (sym c.forget.ensures.register) c.requires.said)))

pub clear-requires : goal.clear-requires
clear-requires c =
    let us = c.loop-i.items.items in let i = c.loop-i.i in let x = c.index_mut.result.now in
    let at : x ≡ get_or us i x = search rules in
    let P = SaidOf (register_of c.loop-i.uses) in
    record {
      unused = c.loop-i.invariant.1.0;
      known = subst Known (sym at) (All-get_or Known us i x (search rules) c.loop-i.invariant.1.1.0);
      said = subst P (sym at) (All-get_or P us i x (search rules) c.loop-i.invariant.1.1.1);
    }

pub loop-i-preserved : goal.loop-i-preserved
loop-i-preserved c =
    let us = c.loop-i.items.items in let i = c.loop-i.i in let x = c.index_mut.result.now in let v = c.clear.new.self in
    let at : x ≡ get_or us i x = search rules in (
      (search rules, each_more _ _ _ _ x v _ _ (search rules) c.loop-i.invariant.0.0.0 (search rules) c.in_ok-made.ensures.cleared c.loop-i.invariant.0.1),
      (
        c.in_ok-made.ensures.unused,
        (
          All-set Known us i v c.in_ok-made.ensures.known c.loop-i.invariant.1.1.0,
          All-set (SaidOf (register_of c.clear.new.uses)) us i v c.in_ok-made.ensures.said (say_more us _ _ c.in_ok-made.ensures.grows c.loop-i.invariant.1.1.1),
        ),
      ),
    )

pub returns-clause-cleared : goal.returns-clause-cleared
returns-clause-cleared c = each_all _ _ _ _ _ (search rules) c.loop-i.invariant.0.0.0 c.loop-i.invariant.0.1
