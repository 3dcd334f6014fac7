use Rattle.std.proofs.Common.{◌-◌, ◌∙◌, arith}
use Rattle.dce_items.proofs.Rows.{own_is}
use Rattle.dce_items.proofs.nodes.own_nodes.Goals as goal

pub returns : goal.returns
returns c = own_is c.args.items c.new-nodes.result.items c.add_nodes.new.nodes.items (c.len.result - 0) (omega (arith, c.len.ensures ∙ c.args.items.now.ok.0)) c.new-nodes.ensures.items c.in_ok-add_nodes.ensures
