use Rattle.std.proofs.Common.{subst}
use Rattle.dce_code.specs.Knowledge.{shaker}
use Rattle.swc_dce.proofs.Entering.{ShutBy, items_shut}
use Rattle.swc_dce.proofs.rules.ShakeRulesRules.enters_items.Goals as goal

pub returns : goal.returns
returns c = items_shut (shaker c.args.self.now.known) c.args.items.now.items c.begins_with_asm.result (subst (λ xs. ShutBy (λ x. x) xs c.begins_with_asm.result) c.deref.ensures.value c.begins_with_asm.ensures)
