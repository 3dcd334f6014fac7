use Rattle.std.proofs.Common.{subst}
use Rattle.swc_ast.specs.declared.modules.ModuleItem.TheVariants as in_item
use Rattle.swc_dce.proofs.Entering.{ShutBy, block_shut}
use Rattle.swc_dce.proofs.rules.ShakeRulesRules.enters_stmt.Goals as goal

pub returns-in-Block : goal.returns-in-Block
returns-in-Block c = block_shut c.args.s.now c.in-Block.n c.begins_with_asm.result c.in-Block.is (subst (λ xs. ShutBy in_item.Stmt xs c.begins_with_asm.result) c.deref.ensures.value c.begins_with_asm.ensures)
