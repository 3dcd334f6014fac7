use Rattle.std.proofs.Common.{◌||◌, subst}
use Rattle.swc_utils.specs.Globals.{unresolved}
use Rattle.round_units.specs.Cleared.{Cleared}
use Rattle.round_units.specs.Held.{Held}
use Rattle.round_units.specs.Trees.{units_tree, tree_of}
use Rattle.round_units.proofs.Lists.{apart, cleared, items_tidied, known_kept, said_kept}
use Rattle.round_units.proofs.units.Units.clear_all.Goals as goal

pub clear_units-requires : goal.clear_units-requires
clear_units-requires c = record { known = c.self.invariant.0; said = c.self.invariant.1 }

pub invariant_of-whole : goal.invariant_of-whole
invariant_of-whole c =
    let us = c.clear_units.new.items.items in let vs = c.tidy_items.new.items.items in let k = c.in_ok-left.ensures.kept in
    (known_kept us vs k c.in_ok-inside.ensures.known, said_kept us vs k _ c.in_ok-inside.ensures.said)

pub returns : goal.returns
returns c =
    let us = c.clear_units.new.items.items in let vs = c.tidy_items.new.items.items in
    let m = unresolved c.args.expressions.now.ctx in let k = unresolved c.args.branches.now.ctx in
    subst (λ (h : Held). Cleared m k (units_tree h) (tree_of c.self.inside.span vs) (c.in_ok-inside.inside || c.in_ok-left.left)) c.self.view_is
    (cleared m k c.self.inside.span c.self.inside.items.items us vs c.in_ok-inside.inside c.in_ok-left.left (apart c.in_ok-inside.ensures.cleared)
    (items_tidied k c.in_ok-left.left us vs c.in_ok-left.ensures.tidied))
