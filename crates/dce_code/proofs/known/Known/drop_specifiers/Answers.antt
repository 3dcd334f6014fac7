use Rattle.std.proofs.Common.{refl, sym, ◌∙◌}
use Rattle.dce_code.specs.Knowledge.{shaker}
use Rattle.dce_code.proofs.Sifted.{import_stays, import_shaken}
use Rattle.dce_code.proofs.known.Known.drop_specifiers.Goals as goal

pub returns-then-import_goes : goal.returns-then-import_goes
returns-then-import_goes c = (refl, import_stays (shaker c.args.self.now) _ (sym c.import_goes.ensures ∙ c.if-import_goes.true))

pub returns : goal.returns
returns c = import_shaken (shaker c.args.self.now) _ _ _ _ _ c.sift_specifiers.ensures
