use Rattle.dce_uses.proofs.Numbering.{changes, with_tally}
use Rattle.dce_uses.proofs.Rows.{row_noted}
use Rattle.dce_uses.proofs.table.Table.add_row.Goals as goal

pub returns-then-number-len-clause-notes : goal.returns-then-number-len-clause-notes
returns-then-number-len-clause-notes c =
    let v = c.touch.new.self in let r = c.args.row.now in let t = c.index.result.now in let s = c.and.result in
    row_noted c.args.self.now v (with_tally v r.number s) r t s c.in_ok-touch.ensures
    (changes v r.number c.len.result t s c.if-number-len.true c.len.ensures c.index.ensures) c.and.ensures
