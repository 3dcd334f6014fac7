use Rattle.std.proofs.Common.{Some, sym, ap, ◌∙◌}
use Rattle.swc_inline_globals.specs.Walking.{tells}
use Rattle.swc_inline_globals.proofs.finals.Walk.cyclic.Goals as goal

pub returns : goal.returns
returns c = tells (c.name.ensures ∙ ap Some (sym c.in_ok-from_str.ensures.ok))
