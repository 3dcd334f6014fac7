use Rattle.std.proofs.Common.{◌-◌, ◌∙◌, arith}
use Rattle.dce_items.proofs.Rows.{around_is}
use Rattle.dce_items.proofs.nodes.nodes_around.Goals as goal

pub returns : goal.returns
returns c =
    around_is c.args.items c.args.body c.new-nodes.result.items c.add_nodes.new.nodes.items c.add_nodes-2.new.nodes.items c.add_nodes-3.new.nodes.items c.args.at (c.args.at - 0) c.len.result (c.len-2.result - 0) c.requires (omega arith) (c.len.ensures ∙ c.args.items.now.ok.0) (omega (arith, c.len-2.ensures ∙ c.args.body.now.ok.0)) c.new-nodes.ensures.items c.in_ok-add_nodes.ensures c.in_ok-add_nodes-2.ensures c.in_ok-add_nodes-3.ensures
