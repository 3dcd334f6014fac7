use Rattle.std.proofs.Common.{◌≡◌, ◌<◌, length, Some, option_map, sym, ap, ◌∙◌, arith}
use Rattle.std.proofs.lemmas.Option.{slice_get-get_or}
use Rattle.given_globals.specs.Globals.{answers_of}
use Rattle.given_globals.proofs.Numbers.{names_length, name_at_place}
use Rattle.given_globals.proofs.lookup.Lookup.name.Goals as goal

pub index-requires : goal.index-requires
index-requires c =
    let w = c.args.self.now in
    let e : length w.names.items ≡ length (answers_of w.settings).values = names_length w.settings w.names.items w.first_global w.listed w.first in
    omega (arith, c.requires)

pub returns : goal.returns
returns c =
    let w = c.args.self.now in
    let e : length w.names.items ≡ length (answers_of w.settings).values = names_length w.settings w.names.items w.first_global w.listed w.first in
    let h : c.args.number < length w.names.items = omega (arith, c.requires) in
    sym (name_at_place w.settings w.names.items w.first_global w.listed w.first c.args.number)
    ∙ ap (option_map (λ m. m.now)) (slice_get-get_or w.names.items c.args.number c.index.result.now h ∙ ap Some (sym c.index.ensures))
