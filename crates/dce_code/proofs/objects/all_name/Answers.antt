use Rattle.dce_code.proofs.Given.{none_named}
use Rattle.dce_code.proofs.objects.all_name.Goals as goal

pub returns : goal.returns
returns c = λ _. c.loop-left.invariant (none_named _ c.in_default.len_below)
