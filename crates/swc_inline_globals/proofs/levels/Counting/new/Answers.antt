use Rattle.std.proofs.Common.{◌≡◌, length, arith}
use Rattle.given_globals.specs.Globals.{answers_of}
use Rattle.swc_inline_globals.proofs.Nested.{none_told, none_begun}
use Rattle.swc_inline_globals.proofs.levels.Counting.new.Goals as goal

pub returns-clause-told : goal.returns-clause-told
returns-clause-told c =
    let a = answers_of c.args.lookup.now.settings in
    let i = c.loop.invariant in
    let n : length c.loop.seen.items ≡ length a.values = omega (arith, i.0, c.len-end.ensures) in
    none_told a c.loop.seen.items n i.1

pub returns-clause-begun : goal.returns-clause-begun
returns-clause-begun c = none_begun c.loop.seen.items c.loop.invariant.1
