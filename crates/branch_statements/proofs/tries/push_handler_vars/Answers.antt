use Rattle.std.proofs.Common.{subst, sym}
use Rattle.swc_ast.specs.Parts.{list_trees}
use Rattle.swc_ast.specs.Statements.{handler_tree}
use Rattle.swc_ast.specs.Tree.{ε, ◌⊳◌}
use Rattle.swc_ast.specs.Views.{stmt_tree}
use Rattle.branch_parts.specs.Behind.{VarsBehind}
use Rattle.branch_statements.proofs.Turned.{handler_behind, no_handler}
use Rattle.branch_statements.proofs.tries.push_handler_vars.Goals as goal

pub returns-in_ok-push_all_vars : goal.returns-in_ok-push_all_vars
returns-in_ok-push_all_vars c =
    subst (λ h. VarsBehind (handler_tree stmt_tree h ⊳ ε) (list_trees stmt_tree c.args.out.now.items) (list_trees stmt_tree c.push_all_vars.new.out.items)) (sym c.in-Some.is)
    (handler_behind c.in-Some.handler _ _ (subst (λ ss. VarsBehind (list_trees stmt_tree ss) (list_trees stmt_tree c.args.out.now.items) (list_trees stmt_tree c.push_all_vars.new.out.items)) c.deref.ensures.value c.in_ok-push_all_vars.ensures))

pub returns-in_default : goal.returns-in_default
returns-in_default c = subst (λ h. VarsBehind (handler_tree stmt_tree h ⊳ ε) (list_trees stmt_tree c.args.out.now.items) (list_trees stmt_tree c.args.out.now.items)) (sym c.in_default.is) (no_handler _)
