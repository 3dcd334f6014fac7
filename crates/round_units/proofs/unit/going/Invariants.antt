use Rattle.swc_names.specs.Ids.{ids}
use Rattle.dce_code.specs.Knowledge.{shaker}
use Rattle.round_units.specs.Rests.{AllGo}
use Rattle.round_units.proofs.unit.going.Given as goal

abbrev pub invariant-loop-sym : goal.invariant-loop-sym
invariant-loop-sym l = AllGo (shaker l.rules.known) (ids l.going.items)
