use Rattle.swc_resolved.specs.Names.{names}
use Rattle.tree_captures.proofs.Tables.{opened, outside}
use Rattle.tree_captures.proofs.table.Table.open.Goals as goal

pub returns-clause-inside : goal.returns-clause-inside
returns-clause-inside c = opened (names c.args.names.now) c.args.self.now c.take_out.new.self c.put_in.new.self c.in_ok-outer.ensures.taken c.in_ok-put_in.ensures.texts c.in_ok-put_in.ensures.names

pub returns-clause-outside : goal.returns-clause-outside
returns-clause-outside c = outside (names c.args.names.now) c.in_ok-outer.outer.items c.args.self.now c.put_in.new.self (opened (names c.args.names.now) c.args.self.now c.take_out.new.self c.put_in.new.self c.in_ok-outer.ensures.taken c.in_ok-put_in.ensures.texts c.in_ok-put_in.ensures.names) c.in_ok-outer.ensures.outside
