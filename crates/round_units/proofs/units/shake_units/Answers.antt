use Rattle.std.proofs.Common.{rules, ◌≡◌, get_or, refl, sym, subst}
use Rattle.std.proofs.lemmas.List.Elements.{All-set, All-get_or}
use Rattle.tree_walk.specs.Walks.{none}
use Rattle.tree_walk.proofs.Walked.{each_all, each_more}
use Rattle.dce_uses.specs.Said.{register_of}
use Rattle.round_units.specs.Rests.{Known, SaidOf}
use Rattle.round_units.proofs.units.shake_units.Goals as goal

pub loop-i-init : goal.loop-i-init
loop-i-init c = (((refl, λ k d h. refl), none), (c.requires.known, λ g h. h))

pub shake-requires : goal.shake-requires
shake-requires c =
    let us = c.loop-i.items.items in let i = c.loop-i.i in let x = c.index_mut.result.now in
    let at : x ≡ get_or us i x = search rules in
    let P = SaidOf (register_of c.args.rules.now.known.uses.now) in
    record {
      known = subst Known (sym at) (All-get_or Known us i x (search rules) c.loop-i.invariant.1.0);
      said = subst P (sym at) (All-get_or P us i x (search rules) (c.loop-i.invariant.1.1 (register_of c.args.rules.now.known.uses.now) c.requires.said));
    }

pub loop-i-preserved : goal.loop-i-preserved
loop-i-preserved c =
    let us = c.loop-i.items.items in let i = c.loop-i.i in let x = c.index_mut.result.now in let v = c.shake.new.self in
    let at : x ≡ get_or us i x = search rules in (
      (search rules, each_more _ _ _ _ x v _ _ (search rules) c.loop-i.invariant.0.0.0 (search rules) c.in_ok-made.ensures.made c.loop-i.invariant.0.1),
      (
        All-set Known us i v c.in_ok-made.ensures.known c.loop-i.invariant.1.0,
        λ g h. All-set (SaidOf g) us i v (c.in_ok-made.ensures.said g (subst (SaidOf g) (sym at) (All-get_or (SaidOf g) us i x (search rules) (c.loop-i.invariant.1.1 g h)))) (c.loop-i.invariant.1.1 g h),
      ),
    )

pub returns-clause-walked : goal.returns-clause-walked
returns-clause-walked c = each_all _ _ _ _ _ (search rules) c.loop-i.invariant.0.0.0 c.loop-i.invariant.0.1
