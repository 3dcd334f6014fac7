use Rattle.std.proofs.Common.{◌≡◌, map, ◌+◌, ◌*◌, drop}
use Rattle.swc_ast.specs.Parts.{list_trees}
use Rattle.swc_ast.specs.Statements.{case_children}
use Rattle.swc_ast.specs.Views.{case_trees, stmt_tree}
use Rattle.branch_rules.specs.Jumps.{some_escape}
use Rattle.branch_jumps.specs.Aims.{kinds}
use Rattle.branch_jumps.proofs.walk.+jumps.Given as goal

abbrev pub decreases-has_jump : goal.decreases-has_jump
decreases-has_jump l = 8 * goal.size-has_jump l + 1

abbrev pub decreases-has_jump_behind : goal.decreases-has_jump_behind
decreases-has_jump_behind l = 8 * goal.size-has_jump_behind l

abbrev pub decreases-label_has_jump : goal.decreases-label_has_jump
decreases-label_has_jump l = 8 * goal.size-label_has_jump l + 3

abbrev pub decreases-have_jumps : goal.decreases-have_jumps
decreases-have_jumps l = 8 * goal.size-have_jumps l + 2

abbrev pub decreases-block_has_jump : goal.decreases-block_has_jump
decreases-block_has_jump l = 8 * goal.size-block_has_jump l + 3

abbrev pub decreases-if_has_jump : goal.decreases-if_has_jump
decreases-if_has_jump l = 8 * goal.size-if_has_jump l + 3

abbrev pub decreases-option_has_jump : goal.decreases-option_has_jump
decreases-option_has_jump l = 8 * goal.size-option_has_jump l + 2

abbrev pub decreases-handler_has_jump : goal.decreases-handler_has_jump
decreases-handler_has_jump l = 8 * goal.size-handler_has_jump l + 4

abbrev pub decreases-option_block_has_jump : goal.decreases-option_block_has_jump
decreases-option_block_has_jump l = 8 * goal.size-option_block_has_jump l + 4

abbrev pub decreases-try_has_jump : goal.decreases-try_has_jump
decreases-try_has_jump l = 8 * goal.size-try_has_jump l + 5

abbrev pub decreases-cases_have_jump : goal.decreases-cases_have_jump
decreases-cases_have_jump l = 8 * goal.size-cases_have_jump l + 3

abbrev pub invariant-have_jumps-loop-s : goal.invariant-have_jumps-loop-s
invariant-have_jumps-loop-s l = some_escape (kinds l.jumps) (list_trees stmt_tree (drop l.s-index l.stmts)) ≡ some_escape (kinds l.fn.jumps) (list_trees stmt_tree l.stmts)

abbrev pub invariant-cases_have_jump-loop-case : goal.invariant-cases_have_jump-loop-case
invariant-cases_have_jump-loop-case l = some_escape (kinds l.jumps) (case_children (map case_trees (drop l.case-index l.cases))) ≡ some_escape (kinds l.fn.jumps) (case_children (map case_trees l.cases))
