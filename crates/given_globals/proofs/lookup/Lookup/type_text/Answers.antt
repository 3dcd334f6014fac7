use Rattle.std.proofs.Common.{Some, option_map, string_bytes, sym, ap, ◌∙◌}
use Rattle.std.specs.Prelude.{option_copied}
use Rattle.std.specs.BTreeMap.{get_by_text}
use Rattle.given_globals.proofs.Founds.{type_bound, type_found}
use Rattle.given_globals.proofs.lookup.Lookup.type_text.Goals as goal

pub returns-then-not-is_unresolved : goal.returns-then-not-is_unresolved
returns-then-not-is_unresolved c = type_bound c.args.self.now.settings c.args.name.now (sym c.is_unresolved.ensures ∙ c.if-not-is_unresolved.true)

pub returns-in-Some : goal.returns-in-Some
returns-in-Some c =
    let s = c.args.self.now.settings in
    ap Some c.as_str-in-Some.ensures.value
    ∙ ap (λ o. option_map string_bytes (option_copied o)) (sym c.in-Some.is)
    ∙ ap (option_map string_bytes) (c.get.ensures.value ∙ ap (get_by_text s.typeofs.now) c.as_str.ensures.value)
    ∙ type_found s c.args.name.now (sym c.is_unresolved.ensures ∙ c.if-not-is_unresolved.false)

pub returns-in-None : goal.returns-in-None
returns-in-None c =
    let s = c.args.self.now.settings in
    ap (λ o. option_map string_bytes (option_copied o)) (sym c.in-None.is)
    ∙ ap (option_map string_bytes) (c.get.ensures.value ∙ ap (get_by_text s.typeofs.now) c.as_str.ensures.value)
    ∙ type_found s c.args.name.now (sym c.is_unresolved.ensures ∙ c.if-not-is_unresolved.false)
