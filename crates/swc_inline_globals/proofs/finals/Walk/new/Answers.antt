use Rattle.std.proofs.Common.{◌≡◌, length, sym, subst, arith}
use Rattle.given_globals.specs.Globals.{answers_of}
use Rattle.swc_inline_globals.specs.Walking.{Standing}
use Rattle.swc_inline_globals.proofs.Standing.{standing_new}
use Rattle.swc_inline_globals.proofs.finals.Walk.new.Goals as goal

pub returns-clause-stands : goal.returns-clause-stands
returns-clause-stands c =
    let a = answers_of c.args.lookup.now.settings in
    let i = c.loop.invariant in
    let n : length c.loop.finals.items ≡ length a.values = omega (arith, i.0, c.len-end.ensures) in
    let m : length c.loop.begun.items ≡ length a.values = omega (arith, i.1, c.len-end.ensures) in
    subst (Standing a c.args.roots.now c.loop.finals.items c.loop.begun.items) (sym c.new.ensures.items) (standing_new a c.args.roots.now c.loop.finals.items c.loop.begun.items n m i.2 i.3)
