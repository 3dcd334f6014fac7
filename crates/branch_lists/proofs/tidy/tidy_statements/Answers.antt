use Rattle.std.proofs.Common.{subst}
use Rattle.std.specs.Prelude.{IfOk}
use Rattle.swc_ast.specs.Parts.{list_trees}
use Rattle.swc_ast.specs.Tree.{Name}
use Rattle.swc_ast.specs.Views.{stmt_tree}
use Rattle.std.specs.Prelude.{Bool}
use Rattle.branch_lists.specs.Tidy.{ListTidied}
use Rattle.branch_lists.proofs.Lists.{statements_keep}
use Rattle.branch_lists.proofs.tidy.tidy_statements.Goals as goal

pub returns : goal.returns
returns c = subst (λ (kept : Name → Bool). IfOk c.tidy_items.result (λ changed. ListTidied kept changed (list_trees stmt_tree c.args.stmts.now.items) (list_trees stmt_tree c.tidy_items.new.items.items))) (statements_keep c.args.stmts.now.items) c.tidy_items.ensures.tidied
