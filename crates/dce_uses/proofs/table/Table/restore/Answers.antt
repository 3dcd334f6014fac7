use Rattle.std.proofs.Common.{sym, ap, subst}
use Rattle.swc_ast.specs.Parts.{ident_name}
use Rattle.swc_names.specs.Ids.{optional}
use Rattle.dce_uses.specs.Tables.{Restores}
use Rattle.dce_uses.proofs.Numbering.{changes, with_tally, restored_one, none_restored, never_beyond}
use Rattle.dce_uses.proofs.table.Table.restore.Goals as goal

pub returns-then-number-len : goal.returns-then-number-len
returns-then-number-len c =
    let u = c.args.self.now in let v = c.number.new.self in let y = ident_name c.in-Some.name.now in let n = c.in_ok-number.number in let t = c.index.result.now in let r = c.counted_as.result in
    subst (λ xs. Restores u (with_tally v n r) xs c.args.before) (sym (ap optional c.in-Some.is))
    (restored_one u v (with_tally v n r) y n t r c.args.before c.in_ok-number.ensures
    (changes v n c.len.result t r c.if-number-len.true c.len.ensures c.index.ensures) c.counted_as.ensures)

pub returns-else-number-len : goal.returns-else-number-len
returns-else-number-len c = absurd (never_beyond c.number.new.self c.in_ok-number.number c.len.result c.in_ok-number.ensures.within c.if-number-len.false c.len.ensures)

pub returns-in_default : goal.returns-in_default
returns-in_default c = none_restored c.args.self.now (optional c.args.name) c.args.before (sym (ap optional c.in_default.is))
