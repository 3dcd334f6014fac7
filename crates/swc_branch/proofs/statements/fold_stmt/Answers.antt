use Rattle.std.proofs.Common.{rules}
use Rattle.swc_ast.specs.Statements.{block_tree, labeled_tree, try_tree}
use Rattle.swc_ast.specs.Views.{stmt_tree}
use Rattle.swc_ast.specs.declared.statements.Stmt.TheVariants as in_stmt
use Rattle.swc_ast.proofs.Equations.{stmt_tree-Block, stmt_tree-Labeled, stmt_tree-Try}
use Rattle.swc_branch.proofs.Turning.{turns_in, all_turn_in}
use Rattle.swc_branch.proofs.statements.fold_stmt.Goals as goal

pub returns-in-Block-clause-steps : goal.returns-in-Block-clause-steps
returns-in-Block-clause-steps c = turns_in in_stmt.Block (block_tree stmt_tree) stmt_tree-Block _ _ _ c.in-Block.n _ c.fold_block.new.n _ c.in-Block.is c.in-Block.n-is (search rules) (c.fold_block.ensures.steps _)

pub returns-in-Labeled-clause-steps : goal.returns-in-Labeled-clause-steps
returns-in-Labeled-clause-steps c = turns_in in_stmt.Labeled (labeled_tree stmt_tree) stmt_tree-Labeled _ _ _ c.in-Labeled.n _ c.fold_label.new.n _ c.in-Labeled.is c.in-Labeled.n-is (search rules) (c.fold_label.ensures.steps _)

pub returns-in-Try-clause-steps : goal.returns-in-Try-clause-steps
returns-in-Try-clause-steps c = all_turn_in in_stmt.Try (λ b. try_tree stmt_tree b.value) stmt_tree-Try _ _ _ _ c.in-Try.n _ c.fold_boxed_try.new.n c.in-Try.is c.in-Try.n-is (search rules) c.fold_boxed_try.ensures.steps
