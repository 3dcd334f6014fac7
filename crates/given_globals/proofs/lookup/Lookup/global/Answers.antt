use Rattle.std.proofs.Common.{sym, ap, ◌∙◌}
use Rattle.given_globals.specs.Globals.{global_number}
use Rattle.given_globals.proofs.Founds.{name_found}
use Rattle.given_globals.proofs.lookup.Lookup.global.Goals as goal

pub returns-then-is_unresolved : goal.returns-then-is_unresolved
returns-then-is_unresolved c =
    let s = c.args.self.now.settings in
    name_found s c.args.name.now c.global_number.result (c.global_number.ensures ∙ ap (global_number s) c.deref.ensures) (sym c.is_unresolved.ensures ∙ c.if-is_unresolved.true)
