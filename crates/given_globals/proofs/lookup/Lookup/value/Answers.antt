use Rattle.std.proofs.Common.{◌≡◌, ◌<◌, ◌≤◌, length, Some, option_map, sym, ap, ◌∙◌, arith}
use Rattle.std.proofs.lemmas.Option.{slice_get-get_or, slice_get_past}
use Rattle.swc_expr_map.specs.Entries.{value_at}
use Rattle.given_globals.specs.Globals.{entries_of, expressions, told_name, answers_of}
use Rattle.given_globals.proofs.Numbers.{names_length, name_at_place}
use Rattle.given_globals.proofs.Values.{expression_value, global_value}
use Rattle.given_globals.proofs.lookup.Lookup.value.Goals as goal

pub returns-in-Some : goal.returns-in-Some
returns-in-Some c =
    let w = c.args.self.now in
    let f : w.first_global ≡ length (expressions w.settings) = w.first in
    let h : c.args.number < length (expressions w.settings) = omega (arith, c.if-number-self.true) in
    c.value.ensures ∙ ap (λ o. value_at (entries_of o) c.args.number) (sym c.in-Some.is) ∙ expression_value w.settings c.args.number h

pub returns-then-number-len : goal.returns-then-number-len
returns-then-number-len c =
    let w = c.args.self.now in
    let f : w.first_global ≡ length (expressions w.settings) = w.first in
    let low : length (expressions w.settings) ≤ c.args.number = omega (arith, c.if-number-self.false) in
    let h : c.args.number < length w.names.items = omega (arith, c.if-number-len.true, c.len.ensures) in
    let told : told_name w.settings c.args.number ≡ Some c.index.result.now.now =
    sym (name_at_place w.settings w.names.items w.first_global w.listed w.first c.args.number)
    ∙ ap (option_map (λ m. m.now)) (slice_get-get_or w.names.items c.args.number c.index.result.now h ∙ ap Some (sym c.index.ensures)) in
    global_value w.settings c.args.number c.index.result.now.now c.get.result low told w.ordered c.get.ensures.value

pub returns-else-number-len : goal.returns-else-number-len
returns-else-number-len c =
    let w = c.args.self.now in
    let e : length w.names.items ≡ length (answers_of w.settings).values = names_length w.settings w.names.items w.first_global w.listed w.first in
    let h : length (answers_of w.settings).values ≤ c.args.number = omega (arith, c.if-number-len.false, c.len.ensures) in
    sym (slice_get_past (answers_of w.settings).values c.args.number h)
