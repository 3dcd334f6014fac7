use Rattle.swc_resolved.specs.Names.{names}
use Rattle.tree_captures.proofs.Tables.{opened_first}
use Rattle.tree_captures.proofs.table.Table.with.Goals as goal

pub returns : goal.returns
returns c = opened_first (names c.args.names.now) (record { known = c.in_ok-known.known }) c.put_in.new.self c.in_ok-known.ensures.empty c.in_ok-put_in.ensures.texts c.in_ok-put_in.ensures.names
