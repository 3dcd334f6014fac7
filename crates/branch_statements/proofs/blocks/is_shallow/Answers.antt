use Rattle.std.proofs.Common.{ap, ◌∙◌}
use Rattle.swc_ast.specs.declared.statements.ForStmt.{ForStmt}
use Rattle.branch_statements.proofs.Tells.{decl_shallow, do_shallow, for_shallow, if_shallow, while_shallow}
use Rattle.branch_statements.proofs.blocks.is_shallow.Goals as goal

pub returns-in-If : goal.returns-in-If
returns-in-If c = if_shallow c.args.s.now _ _ c.in-If.is c.has_flat_arms.ensures

pub returns-in-While : goal.returns-in-While
returns-in-While c = while_shallow c.args.s.now c.in-While.n _ _ c.in-While.is c.deref.ensures c.is_flat.ensures

pub returns-in-DoWhile : goal.returns-in-DoWhile
returns-in-DoWhile c = do_shallow c.args.s.now c.in-DoWhile.n _ _ c.in-DoWhile.is c.deref-in-DoWhile.ensures c.is_flat-in-DoWhile.ensures

pub returns-in-For : goal.returns-in-For
returns-in-For c = for_shallow c.args.s.now c.in-For.n _ _ c.in-For.is (c.deref-in-For-2.ensures ∙ ap (λ (k : ForStmt). k.body.value) c.deref-in-For.ensures) c.is_flat-in-For.ensures

pub returns-in-Decl : goal.returns-in-Decl
returns-in-Decl c = decl_shallow c.args.s.now c.in-Decl.n _ c.in-Decl.is c.is_flat_decl.ensures.answer c.is_flat_decl.ensures.holds
