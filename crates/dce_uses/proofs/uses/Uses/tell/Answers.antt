use Rattle.std.proofs.Common.{subst}
use Rattle.swc_ast.specs.Modules.{item_tree}
use Rattle.swc_ast.specs.Parts.{list_trees}
use Rattle.dce_uses.specs.Said.{Grows, register_of}
use Rattle.dce_uses.proofs.Items.{items_past}
use Rattle.dce_uses.proofs.Saying.{first_said, tell_begins, tell_goes_on}
use Rattle.dce_uses.proofs.uses.Uses.tell.Goals as goal

pub loop-left-init : goal.loop-left-init
loop-left-init g c = tell_begins g.T.StmtLike.item g.T.Speaks.tells c.args.self.now c.forget.new.self c.args.items.now c.forget.ensures.unused c.forget.ensures.register c.requires.said

pub add_item-requires : goal.add_item-requires
add_item-requires g c = first_said g.T.StmtLike.item g.T.Speaks.tells (register_of c.loop-left.self) c.loop-left.left.now c.item-item.result c.in-len1-up.len_at_least c.item-item.is c.loop-left.invariant.said

pub loop-left-preserved : goal.loop-left-preserved
loop-left-preserved g c =
    tell_goes_on g.T.StmtLike.item g.T.Speaks.tells (register_of c.forget.new.self) c.loop-left.self c.add_item.new.self c.loop-left.left.now c.args.items.now c.item-item.result
    c.in-len1-up.len_at_least c.item-item.is c.in_ok-add_item.ensures.notes c.add_item.ensures.rows c.loop-left.invariant

pub returns-clause-tells : goal.returns-clause-tells
returns-clause-tells g c = items_past g.T.StmtLike.item c.loop-left.self c.loop-left.left.now (list_trees (λ x. item_tree (g.T.StmtLike.item x)) c.args.items.now) c.in_default.len_below c.loop-left.invariant.noted

pub returns-clause-grows : goal.returns-clause-grows
returns-clause-grows g c = subst (λ k. Grows k (register_of c.loop-left.self)) c.forget.ensures.register c.loop-left.invariant.grows
