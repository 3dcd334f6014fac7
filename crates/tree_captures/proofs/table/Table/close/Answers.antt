use Rattle.std.proofs.Common.{◌++◌, option_to_list, ap, ◌∙◌}
use Rattle.tree_captures.specs.Views.{captures}
use Rattle.tree_captures.proofs.Tables.{one_back}
use Rattle.tree_captures.proofs.table.Table.close.Goals as goal

pub loop-last-preserved : goal.loop-last-preserved
loop-last-preserved c = one_back c.loop-last.left.items c.pop.new.self.items c.in-Some.last (captures c.loop-last.self) (captures c.put_back.new.self) _ (c.pop.ensures.items ∙ ap (λ o. c.pop.new.self.items ++ option_to_list o) c.in-Some.is) c.in_ok-put_back.ensures c.loop-last.invariant
