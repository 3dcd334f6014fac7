-- What the optimizer may answer.
use Rattle.std.specs.Prelude.{ℕ}
use Rattle.carry_rules.specs.Carry.{inlines}
use Rattle.carry_proofs.specs.Propagation.{propagation_spec}
use Rattle.swc_pass.specs.Chain.{chained}
use Rattle.swc_pass.specs.Pass.{PassSpec}
use Rattle.swc_pass.specs.Repeat.{repeated}
use Rattle.swc_dce.specs.Shaken.{Told}
use Rattle.swc_optimization.specs.Simplifier.{rounds_spec}

-- rounds, at most so many, of names inlined and then of the simplifier, which has at most as many rounds of its own in each
abbrev pub optimize_spec : Told → ℕ → PassSpec
optimize_spec told most = repeated (chained (propagation_spec inlines) (rounds_spec told most)) most
