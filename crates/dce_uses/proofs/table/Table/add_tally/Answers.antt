use Rattle.swc_ast.specs.Parts.{ident_name}
use Rattle.dce_uses.specs.Tables.{holds}
use Rattle.dce_uses.proofs.Numbering.{changes, with_tally, noted_one, never_beyond}
use Rattle.dce_uses.proofs.table.Table.add_tally.Goals as goal

pub returns-then-number-len : goal.returns-then-number-len
returns-then-number-len c =
    let v = c.number.new.self in let n = c.in_ok-number.number in let t = c.index.result.now in let r = c.and.result in
    noted_one c.args.self.now v (with_tally v n r) (ident_name c.args.name.now) n t r (holds c.args.more) c.in_ok-number.ensures
    (changes v n c.len.result t r c.if-number-len.true c.len.ensures c.index.ensures) c.and.ensures

pub returns-else-number-len : goal.returns-else-number-len
returns-else-number-len c = absurd (never_beyond c.number.new.self c.in_ok-number.number c.len.result c.in_ok-number.ensures.within c.if-number-len.false c.len.ensures)
