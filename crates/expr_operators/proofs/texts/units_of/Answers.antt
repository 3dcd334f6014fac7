use Rattle.std.proofs.lemmas.Str.{IsUtf8-past_char}
use Rattle.expr_operators.proofs.Units.{more_units, all_units}
use Rattle.expr_operators.proofs.texts.units_of.Goals as goal

pub loop-c-preserved : goal.loop-c-preserved
loop-c-preserved c =
    let step = c.in-Some.ensures.steps.0 in
    let held = c.loop-c.invariant in
    (more_units _ _ _ _ _ held.1 step c.in_ok-units.ensures held.0, IsUtf8-past_char _ _ c.in-Some.c held.1 step)

pub returns : goal.returns
returns c = all_units _ _ _ c.in-None.ensures.steps.0.0 c.loop-c.invariant.0
