use Rattle.std.proofs.Common.{◌<◌, length, refl, arith}
use Rattle.dce_code.proofs.Valued.{sequence_statement}
use Rattle.dce_code.proofs.values.as_statement.Goals as goal

pub returns-then-len-gt1 : goal.returns-then-len-gt1
returns-then-len-gt1 c =
    let more : 1 < length c.args.exprs.items = omega (arith, c.if-len-gt1.true, c.len.ensures, c.args.exprs.ok.0) in
    sequence_statement c.args.span (record { span = c.args.span; exprs = c.args.exprs }) c.in_ok-s.s refl more c.in_ok-s.ensures
