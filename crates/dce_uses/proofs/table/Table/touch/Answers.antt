use Rattle.std.proofs.Common.{refl, sym, ◌∙◌}
use Rattle.dce_uses.specs.declared.table.Table.{Table}
use Rattle.dce_uses.proofs.Numbering.{had_tally, got_tally, noted_tally}
use Rattle.dce_uses.proofs.Rows.{some_fact, told_there}
use Rattle.dce_uses.proofs.table.Table.touch.Goals as goal

pub returns-in_ok-push : goal.returns-in_ok-push
returns-in_ok-push c =
    let v : Table = record { names = c.args.self.now.names; tallies = c.args.self.now.tallies; touched = c.push.new.self } in
    had_tally c.args.self.now v c.args.number c.len.result refl refl c.in_ok-push.ensures.items c.if-number-len.true c.len.ensures

pub returns-else-is_empty : goal.returns-else-is_empty
returns-else-is_empty c =
    let u = c.args.self.now in let n = c.args.number in let t = c.index.result.now in
    let some = some_fact t (sym c.is_empty.ensures ∙ c.if-is_empty.false) in
    noted_tally u n c.len.result some.0 c.if-number-len.true c.len.ensures (told_there u n c.len.result t some.0 c.if-number-len.true c.len.ensures c.index.ensures ∙ some.1)

pub returns : goal.returns
returns c =
    let v : Table = record { names = c.args.self.now.names; tallies = c.resize.new.self; touched = c.push-2.new.self } in
    got_tally c.args.self.now v c.args.number c.len.result c.len-2.result c.empty.result refl
    c.in_ok-resize.ensures.items c.in_ok-push-2.ensures.items c.empty.ensures c.requires c.len-2.ensures c.if-number-len.false c.len.ensures
