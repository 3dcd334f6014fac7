use Rattle.std.proofs.Common.{sym, ap, ◌∙◌}
use Rattle.swc_ast.specs.Parts.{list_trees}
use Rattle.swc_ast.specs.Views.{stmt_tree}
use Rattle.branch_rules.specs.Jumps.{some_escape}
use Rattle.branch_jumps.specs.Aims.{kinds, texts}
use Rattle.branch_jumps.proofs.Nodes.{at_while, at_do, case_found, case_passed}
use Rattle.branch_jumps.proofs.walk.+jumps.Goals as goal

pub cases_have_jump-returns-then-have_jumps : goal.cases_have_jump-returns-then-have_jumps
cases_have_jump-returns-then-have_jumps t c =
    case_found (kinds c.args.jumps) c.args.cases.now c.loop-case.case-index c.case-item.result _ c.loop-case-test.true c.case-item.is
    (ap (λ xs. some_escape (kinds c.args.jumps) (list_trees stmt_tree xs)) (sym c.deref.ensures.value) ∙ (sym c.have_jumps.ensures ∙ c.if-have_jumps.true)) c.loop-case.invariant

pub cases_have_jump-loop-case-preserved : goal.cases_have_jump-loop-case-preserved
cases_have_jump-loop-case-preserved t c =
    case_passed (kinds c.args.jumps) c.args.cases.now c.loop-case.case-index c.case-item.result _ c.loop-case-test.true c.case-item.is
    (ap (λ xs. some_escape (kinds c.args.jumps) (list_trees stmt_tree xs)) (sym c.deref.ensures.value) ∙ (sym c.have_jumps.ensures ∙ c.if-have_jumps.false)) c.loop-case.invariant

pub has_jump_behind-returns-in-While : goal.has_jump_behind-returns-in-While
has_jump_behind-returns-in-While t c = at_while (texts c.args.near) (kinds c.args.jumps) _ c.args.s.now _ c.in-While.n _ c.in-While.is c.in_loop.ensures c.deref-in-While.ensures c.has_jump.ensures

pub has_jump_behind-returns-in-DoWhile : goal.has_jump_behind-returns-in-DoWhile
has_jump_behind-returns-in-DoWhile t c = at_do (texts c.args.near) (kinds c.args.jumps) _ c.args.s.now _ c.in-DoWhile.n _ c.in-DoWhile.is c.in_loop-in-DoWhile.ensures c.deref-in-DoWhile.ensures c.has_jump-in-DoWhile.ensures
