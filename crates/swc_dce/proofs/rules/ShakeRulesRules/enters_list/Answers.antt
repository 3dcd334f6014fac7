use Rattle.std.proofs.Common.{subst}
use Rattle.swc_ast.specs.declared.modules.ModuleItem.TheVariants as in_item
use Rattle.dce_code.specs.Knowledge.{shaker}
use Rattle.swc_dce.proofs.Entering.{ShutBy, list_shut}
use Rattle.swc_dce.proofs.rules.ShakeRulesRules.enters_list.Goals as goal

pub returns : goal.returns
returns c = list_shut (shaker c.args.self.now.known) c.args._place c.args.stmts.now.items c.begins_with_asm.result (subst (λ xs. ShutBy in_item.Stmt xs c.begins_with_asm.result) c.deref.ensures.value c.begins_with_asm.ensures)
