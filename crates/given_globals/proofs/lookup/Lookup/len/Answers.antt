use Rattle.std.proofs.Common.{◌≡◌, length, arith}
use Rattle.given_globals.specs.Globals.{answers_of}
use Rattle.given_globals.proofs.Numbers.{names_length}
use Rattle.given_globals.proofs.lookup.Lookup.len.Goals as goal

pub returns : goal.returns
returns c =
    let w = c.args.self.now in
    let e : length w.names.items ≡ length (answers_of w.settings).values = names_length w.settings w.names.items w.first_global w.listed w.first in
    omega (arith, c.len.ensures)
