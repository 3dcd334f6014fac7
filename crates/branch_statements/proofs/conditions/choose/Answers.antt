use Rattle.std.proofs.Common.{ap, subst}
use Rattle.swc_ast.specs.Parts.{list_trees}
use Rattle.swc_ast.specs.Views.{expr_tree, stmt_tree}
use Rattle.swc_utils.specs.Globals.{unresolved}
use Rattle.branch_parts.specs.Behind.{LeftBehind}
use Rattle.branch_statements.specs.Arms.{arms}
use Rattle.branch_statements.proofs.Turned.{arms_give, at_if, choose_turns}
use Rattle.branch_statements.proofs.conditions.choose.Goals as goal

pub returns : goal.returns
returns c =
    let mark = unresolved c.args.ctx.now in
    at_if mark c.args.n.now _ _
    (choose_turns mark c.args.known c.args.n.now.span _ c.args.n.now.test.value (arms c.args.n.now) (list_trees stmt_tree c.new-out.result.items) (list_trees stmt_tree c.push_effects.new.out.items) (list_trees stmt_tree c.push_arms.new.out.items) _ c.as_one.result
    c.requires.truth c.requires.plain (arms_give c.args.n.now.cons.value c.args.n.now.alt) (ap (list_trees stmt_tree) c.new-out.ensures.items)
    (subst (λ e. LeftBehind mark (expr_tree e) (list_trees stmt_tree c.new-out.result.items) (list_trees stmt_tree c.push_effects.new.out.items)) c.deref_mut.ensures.value c.in_ok-push_effects.ensures)
    c.in_ok-push_arms.ensures c.as_one.ensures)
