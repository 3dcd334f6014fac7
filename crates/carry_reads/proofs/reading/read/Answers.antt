use Rattle.std.proofs.Common.{sym, subst}
use Rattle.carry_reads.specs.declared.reader.Reader.{Reader}
use Rattle.carry_reads.specs.declared.reading.Reading.{Reading}
use Rattle.carry_reads.specs.Walks.{puts, Walks}
use Rattle.carry_reads.proofs.Starting.{new_fits, new_state, top_room, told_of}
use Rattle.carry_reads.proofs.reading.read.Goals as goal

pub node-requires : goal.node-requires
node-requires c = record {
  fits = new_fits c.args.vars c.names.result.now c.in_ok-tables.tables c.names.ensures c.in_ok-tables.ensures;
  room = top_room c.top.result _ c.top.ensures;
}

pub returns : goal.returns
returns c = λ t is h.
    let r : Reader = record { pass = c.args.pass; vars = c.args.vars } in
    let k : Reading = record { reads = c.node.new.reads; reader = r; tables = c.node.new.tables } in
    told_of k c.top.result c.in_ok-tables.tables c.new-reads.result.items t h
    (new_state r c.top.result c.names.result.now c.in_ok-tables.tables c.top.ensures c.in_ok-tables.ensures) c.new-reads.ensures.items
    (subst (Walks r c.top.result c.in_ok-tables.tables c.node.new.tables (puts c.new-reads.result.items) (puts c.node.new.reads.items)) (sym is) c.in_ok-node.ensures)
