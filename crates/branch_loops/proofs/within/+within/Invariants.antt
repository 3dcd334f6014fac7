use Rattle.std.proofs.Common.{◌+◌, ◌*◌, take}
use Rattle.swc_ast.specs.Views.{case_trees, stmt_tree}
use Rattle.swc_utils.specs.Globals.{unresolved}
use Rattle.tree_walk.specs.Walks.{Each}
use Rattle.branch_rules.specs.Within.{Within}
use Rattle.branch_jumps.specs.Aims.{texts}
use Rattle.branch_loops.specs.Runs.{CaseWithin}
use Rattle.branch_loops.proofs.within.+within.Given as goal

abbrev pub decreases-run_inside : goal.decreases-run_inside
decreases-run_inside l = 8 * goal.size-run_inside l

abbrev pub decreases-run_block : goal.decreases-run_block
decreases-run_block l = 8 * goal.size-run_block l + 4

abbrev pub decreases-run_part : goal.decreases-run_part
decreases-run_part l = 8 * goal.size-run_part l + 3

abbrev pub decreases-run_stmts : goal.decreases-run_stmts
decreases-run_stmts l = 8 * goal.size-run_stmts l + 2

abbrev pub decreases-run_arms : goal.decreases-run_arms
decreases-run_arms l = 8 * goal.size-run_arms l + 3

abbrev pub decreases-run_boxed : goal.decreases-run_boxed
decreases-run_boxed l = 8 * goal.size-run_boxed l + 1

abbrev pub decreases-run_option : goal.decreases-run_option
decreases-run_option l = 8 * goal.size-run_option l + 2

abbrev pub decreases-run_labelled : goal.decreases-run_labelled
decreases-run_labelled l = 8 * goal.size-run_labelled l + 3

abbrev pub decreases-run_try : goal.decreases-run_try
decreases-run_try l = 8 * goal.size-run_try l + 5

abbrev pub decreases-run_boxed_try : goal.decreases-run_boxed_try
decreases-run_boxed_try l = 8 * goal.size-run_boxed_try l + 6

abbrev pub decreases-run_handler : goal.decreases-run_handler
decreases-run_handler l = 8 * goal.size-run_handler l + 4

abbrev pub decreases-run_finalizer : goal.decreases-run_finalizer
decreases-run_finalizer l = 8 * goal.size-run_finalizer l + 4

abbrev pub decreases-run_switch : goal.decreases-run_switch
decreases-run_switch l = 8 * goal.size-run_switch l + 5

abbrev pub decreases-run_cases : goal.decreases-run_cases
decreases-run_cases l = 8 * goal.size-run_cases l + 4

abbrev pub decreases-run_case : goal.decreases-run_case
decreases-run_case l = 8 * goal.size-run_case l + 3

abbrev pub invariant-run_stmts-loop-i : goal.invariant-run_stmts-loop-i
invariant-run_stmts-loop-i l = goal.unvisited-run_stmts-loop-i l × Each (λ x y d. Within (unresolved l.ctx) (texts l.labels) d (stmt_tree x) (stmt_tree y)) (take l.i l.initial.stmts.items) (take l.i l.stmts.items) l.changed

abbrev pub invariant-run_cases-loop-i : goal.invariant-run_cases-loop-i
invariant-run_cases-loop-i l = goal.unvisited-run_cases-loop-i l × Each (λ x y d. CaseWithin (unresolved l.ctx) (texts l.labels) (case_trees x) (case_trees y) d) (take l.i l.initial.cases.items) (take l.i l.cases.items) l.changed
