use Rattle.std.proofs.Common.{ap}
use Rattle.std.proofs.lemmas.Result.{on_ok_weaker}
use Rattle.carry_parts.specs.Carries.{pass_of}
use Rattle.carry_reads.specs.Readings.{value_of}
use Rattle.carry_pass.specs.Exports.{binds}
use Rattle.carry_pass.proofs.Making.{module_exported}
use Rattle.carry_pass.proofs.readable.ModuleReadable.export.Goals as goal

pub returns-in_ok-exports-in-Constants : goal.returns-in_ok-exports-in-Constants
returns-in_ok-exports-in-Constants c =
    let e = c.in_ok-exports-in-Constants in
    on_ok_weaker c.rename_all.result (λ h. module_exported c.args.input.now c.args.self.now (binds e.exports) (ap pass_of c.in-Constants.is) e.ensures.binds (ap value_of e.ensures.reading) h) c.rename_all.ensures
