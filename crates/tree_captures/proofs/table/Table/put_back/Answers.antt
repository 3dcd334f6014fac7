use Rattle.std.proofs.Common.{None, Some}
use Rattle.tree_captures.proofs.Tables.{put_back}
use Rattle.tree_captures.proofs.table.Table.put_back.Goals as goal

pub returns-in-None : goal.returns-in-None
returns-in-None c = put_back c.args.self.now (record { known = c.remove.new.self }) c.args.outer None c.in-None.is c.remove.ensures.updates

pub returns-in_ok-insert-in-Some : goal.returns-in_ok-insert-in-Some
returns-in_ok-insert-in-Some c = put_back c.args.self.now (record { known = c.insert.new.self }) c.args.outer (Some c.in-Some.known) c.in-Some.is c.in_ok-insert-in-Some.ensures.updates
