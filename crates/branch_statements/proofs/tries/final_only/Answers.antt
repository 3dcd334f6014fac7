use Rattle.std.proofs.Common.{[], ◌∷◌, ap, length, sym, ◌∙◌}
use Rattle.swc_ast.specs.Parts.{list_trees}
use Rattle.swc_ast.specs.Scope.{joined}
use Rattle.swc_ast.specs.Tree.{Block, node, ε, ◌⊳◌}
use Rattle.swc_ast.specs.Views.{stmt_tree}
use Rattle.swc_ast.proofs.Equations.{stmt_tree-Block}
use Rattle.swc_utils.proofs.Chains.{pushed}
use Rattle.branch_rules.specs.Statements.{all_plain}
use Rattle.branch_statements.proofs.Turned.{alone_turns, beside_turns, inside_turns}
use Rattle.branch_statements.proofs.tries.final_only.Goals as goal

pub returns-in-None : goal.returns-in-None
returns-in-None c = λ mark. alone_turns mark c.args.n.now (list_trees stmt_tree c.new-out.result.items) _ _ c.as_one.result (ap length c.requires) (ap (list_trees stmt_tree) c.new-out.ensures.items) _ c.in-None.is c.in_ok-push_handler_vars.ensures c.as_one.ensures

pub returns-then-are_plain : goal.returns-then-are_plain
returns-then-are_plain c =
    let middle = list_trees stmt_tree c.push_handler_vars.new.out.items in
    λ mark. inside_turns mark c.args.n.now (list_trees stmt_tree c.new-out.result.items) middle _ _ (ap length c.requires) (ap (list_trees stmt_tree) c.new-out.ensures.items) c.args.n.now.span c.in-Some.last (list_trees stmt_tree c.push_all.new.out.items) c.in-Some.is
    (sym (ap (λ xs. all_plain (list_trees stmt_tree xs)) c.deref.ensures.value) ∙ sym c.are_plain.ensures ∙ c.if-are_plain.true)
    c.in_ok-push_handler_vars.ensures
    (c.in_ok-push_all-in-Some.ensures ∙ ap (λ xs. joined middle (list_trees stmt_tree xs)) c.take_stmts.ensures)
    (stmt_tree-Block _)

pub returns-in_ok-push-in-Some : goal.returns-in_ok-push-in-Some
returns-in_ok-push-in-Some c =
    let middle = list_trees stmt_tree c.push_handler_vars.new.out.items in
    λ mark. beside_turns mark c.args.n.now (list_trees stmt_tree c.new-out.result.items) middle _ c.as_one-in-Some.result (ap length c.requires) (ap (list_trees stmt_tree) c.new-out.ensures.items) _ c.in-Some.last (list_trees stmt_tree c.push.new.self.items) c.in-Some.is
    c.in_ok-push_handler_vars.ensures
    (ap (list_trees stmt_tree) c.in_ok-push-in-Some.ensures.items ∙ pushed stmt_tree c.push_handler_vars.new.out.items _ ∙ ap (λ t. joined middle (t ⊳ ε)) (stmt_tree-Block _ ∙ ap (λ xs. node Block (c.in-Some.last.span ∷ []) (list_trees stmt_tree xs)) c.take_stmts-in-Some.ensures))
    c.as_one-in-Some.ensures
