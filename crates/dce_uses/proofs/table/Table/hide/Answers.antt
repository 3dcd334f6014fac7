use Rattle.std.proofs.Common.{[], ◌∷◌, sym, ap}
use Rattle.std.proofs.lemmas.Result.{on_ok_weaker}
use Rattle.swc_ast.specs.Parts.{ident_name}
use Rattle.swc_names.specs.Ids.{optional}
use Rattle.dce_uses.specs.Noted.{is_hiding}
use Rattle.dce_uses.proofs.Counting.{one_said, none_said}
use Rattle.dce_uses.proofs.Tallies.{hiding_holds}
use Rattle.dce_uses.proofs.table.Table.hide.Goals as goal

pub returns-in-Some : goal.returns-in-Some
returns-in-Some c =
    on_ok_weaker c.add_tally.result
    (one_said c.args.self.now c.add_tally.new.self c.with.result is_hiding (ident_name c.in-Some.name.now ∷ []) (optional c.args.name) (hiding_holds c.empty.result c.with.result c.empty.ensures c.with.ensures) (sym (ap optional c.in-Some.is)))
    c.add_tally.ensures

pub returns-in-None : goal.returns-in-None
returns-in-None c = none_said c.args.self.now is_hiding (optional c.args.name) (sym (ap optional c.in-None.is))
