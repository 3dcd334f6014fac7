use Rattle.std.proofs.Common.{◌+◌, ◌*◌, take}
use Rattle.swc_ast.specs.Expressions.{param_tree}
use Rattle.swc_ast.specs.Views.{expr_tree, prop_or_spread_tree, stmt_tree, case_trees}
use Rattle.tree_walk.specs.Walks.{Walks, Each}
use Rattle.tree_walk.specs.Parts.{ItemWalks}
use Rattle.tree_walk.specs.StatementParts.{CaseWalks, DeclaratorWalks}
use Rattle.tree_walk.proofs.walk.+walk.Given as goal

abbrev pub decreases-expressions::walk_parts : goal.decreases-expressions::walk_parts
decreases-expressions::walk_parts g l = 16 * goal.size-expressions::walk_parts g l

abbrev pub decreases-expressions::walk_expr : goal.decreases-expressions::walk_expr
decreases-expressions::walk_expr g l = 16 * goal.size-expressions::walk_expr g l + 1

abbrev pub decreases-expressions::walk_boxed : goal.decreases-expressions::walk_boxed
decreases-expressions::walk_boxed g l = 16 * goal.size-expressions::walk_boxed g l + 2

abbrev pub decreases-expressions::walk_callee : goal.decreases-expressions::walk_callee
decreases-expressions::walk_callee g l = 16 * goal.size-expressions::walk_callee g l + 3

abbrev pub decreases-expressions::walk_operand : goal.decreases-expressions::walk_operand
decreases-expressions::walk_operand g l = 16 * goal.size-expressions::walk_operand g l + 3

abbrev pub decreases-expressions::walk_item : goal.decreases-expressions::walk_item
decreases-expressions::walk_item g l = 16 * goal.size-expressions::walk_item g l + 3

abbrev pub decreases-expressions::walk_member_prop : goal.decreases-expressions::walk_member_prop
decreases-expressions::walk_member_prop g l = 16 * goal.size-expressions::walk_member_prop g l + 3

abbrev pub decreases-expressions::walk_member : goal.decreases-expressions::walk_member
decreases-expressions::walk_member g l = 16 * goal.size-expressions::walk_member g l + 4

abbrev pub decreases-expressions::walk_exprs : goal.decreases-expressions::walk_exprs
decreases-expressions::walk_exprs g l = 16 * goal.size-expressions::walk_exprs g l + 4

abbrev pub decreases-expressions::walk_items : goal.decreases-expressions::walk_items
decreases-expressions::walk_items g l = 16 * goal.size-expressions::walk_items g l + 4

abbrev pub decreases-expressions::walk_target : goal.decreases-expressions::walk_target
decreases-expressions::walk_target g l = 16 * goal.size-expressions::walk_target g l + 5

abbrev pub decreases-expressions::walk_update : goal.decreases-expressions::walk_update
decreases-expressions::walk_update g l = 16 * goal.size-expressions::walk_update g l + 6

abbrev pub decreases-expressions::walk_boxed_update : goal.decreases-expressions::walk_boxed_update
decreases-expressions::walk_boxed_update g l = 16 * goal.size-expressions::walk_boxed_update g l + 7

abbrev pub decreases-expressions::walk_assign : goal.decreases-expressions::walk_assign
decreases-expressions::walk_assign g l = 16 * goal.size-expressions::walk_assign g l + 6

abbrev pub decreases-expressions::walk_boxed_assign : goal.decreases-expressions::walk_boxed_assign
decreases-expressions::walk_boxed_assign g l = 16 * goal.size-expressions::walk_boxed_assign g l + 7

abbrev pub invariant-expressions::walk_exprs-loop-i : goal.invariant-expressions::walk_exprs-loop-i
invariant-expressions::walk_exprs-loop-i g l = goal.unvisited-expressions::walk_exprs-loop-i g l × Each (λ x y d. Walks (g.R.Rules.pass l.rules) d (expr_tree x) (expr_tree y)) (take l.i l.initial.es.items) (take l.i l.es.items) l.changed

abbrev pub invariant-expressions::walk_items-loop-i : goal.invariant-expressions::walk_items-loop-i
invariant-expressions::walk_items-loop-i g l = goal.unvisited-expressions::walk_items-loop-i g l × Each (ItemWalks (g.R.Rules.pass l.rules)) (take l.i l.initial.es.items) (take l.i l.es.items) l.changed

abbrev pub decreases-expressions::walk_option : goal.decreases-expressions::walk_option
decreases-expressions::walk_option g l = 16 * goal.size-expressions::walk_option g l + 3

abbrev pub decreases-expressions::walk_key : goal.decreases-expressions::walk_key
decreases-expressions::walk_key g l = 16 * goal.size-expressions::walk_key g l + 3

abbrev pub decreases-expressions::walk_props : goal.decreases-expressions::walk_props
decreases-expressions::walk_props g l = 16 * goal.size-expressions::walk_props g l + 1

abbrev pub decreases-expressions::walk_prop_or_spread : goal.decreases-expressions::walk_prop_or_spread
decreases-expressions::walk_prop_or_spread g l = 16 * goal.size-expressions::walk_prop_or_spread g l

abbrev pub decreases-expressions::walk_prop : goal.decreases-expressions::walk_prop
decreases-expressions::walk_prop g l = 16 * goal.size-expressions::walk_prop g l

abbrev pub decreases-expressions::walk_method : goal.decreases-expressions::walk_method
decreases-expressions::walk_method g l = 16 * goal.size-expressions::walk_method g l

abbrev pub decreases-expressions::walk_boxed_function : goal.decreases-expressions::walk_boxed_function
decreases-expressions::walk_boxed_function g l = 16 * goal.size-expressions::walk_boxed_function g l + 1

abbrev pub decreases-expressions::walk_function : goal.decreases-expressions::walk_function
decreases-expressions::walk_function g l = 16 * goal.size-expressions::walk_function g l

abbrev pub decreases-expressions::walk_params : goal.decreases-expressions::walk_params
decreases-expressions::walk_params g l = 16 * goal.size-expressions::walk_params g l + 5

abbrev pub decreases-expressions::walk_param : goal.decreases-expressions::walk_param
decreases-expressions::walk_param g l = 16 * goal.size-expressions::walk_param g l + 4

abbrev pub decreases-expressions::walk_default : goal.decreases-expressions::walk_default
decreases-expressions::walk_default g l = 16 * goal.size-expressions::walk_default g l + 3

abbrev pub decreases-expressions::walk_arrow : goal.decreases-expressions::walk_arrow
decreases-expressions::walk_arrow g l = 16 * goal.size-expressions::walk_arrow g l

abbrev pub decreases-expressions::walk_boxed_arrow : goal.decreases-expressions::walk_boxed_arrow
decreases-expressions::walk_boxed_arrow g l = 16 * goal.size-expressions::walk_boxed_arrow g l + 1

abbrev pub decreases-expressions::walk_arrow_body : goal.decreases-expressions::walk_arrow_body
decreases-expressions::walk_arrow_body g l = 16 * goal.size-expressions::walk_arrow_body g l

abbrev pub decreases-statements::walk_body : goal.decreases-statements::walk_body
decreases-statements::walk_body g l = 16 * goal.size-statements::walk_body g l + 6

abbrev pub decreases-statements::walk_inner_block : goal.decreases-statements::walk_inner_block
decreases-statements::walk_inner_block g l = 16 * goal.size-statements::walk_inner_block g l + 6

abbrev pub decreases-statements::walk_part : goal.decreases-statements::walk_part
decreases-statements::walk_part g l = 16 * goal.size-statements::walk_part g l + 5

abbrev pub decreases-statements::walk_block : goal.decreases-statements::walk_block
decreases-statements::walk_block g l = 16 * goal.size-statements::walk_block g l + 5

abbrev pub decreases-statements::walk_list : goal.decreases-statements::walk_list
decreases-statements::walk_list g l = 16 * goal.size-statements::walk_list g l + 4

abbrev pub decreases-statements::walk_stmts : goal.decreases-statements::walk_stmts
decreases-statements::walk_stmts g l = 16 * goal.size-statements::walk_stmts g l + 3

abbrev pub decreases-statements::walk_stmt : goal.decreases-statements::walk_stmt
decreases-statements::walk_stmt g l = 16 * goal.size-statements::walk_stmt g l + 1

abbrev pub decreases-statements::walk_stmt_parts : goal.decreases-statements::walk_stmt_parts
decreases-statements::walk_stmt_parts g l = 16 * goal.size-statements::walk_stmt_parts g l

abbrev pub decreases-statements::walk_boxed_stmt : goal.decreases-statements::walk_boxed_stmt
decreases-statements::walk_boxed_stmt g l = 16 * goal.size-statements::walk_boxed_stmt g l + 2

abbrev pub decreases-statements::walk_alt : goal.decreases-statements::walk_alt
decreases-statements::walk_alt g l = 16 * goal.size-statements::walk_alt g l + 3

abbrev pub decreases-statements::walk_handler : goal.decreases-statements::walk_handler
decreases-statements::walk_handler g l = 16 * goal.size-statements::walk_handler g l + 7

abbrev pub decreases-statements::walk_finalizer : goal.decreases-statements::walk_finalizer
decreases-statements::walk_finalizer g l = 16 * goal.size-statements::walk_finalizer g l + 7

abbrev pub decreases-statements::walk_try : goal.decreases-statements::walk_try
decreases-statements::walk_try g l = 16 * goal.size-statements::walk_try g l + 8

abbrev pub decreases-statements::walk_boxed_try : goal.decreases-statements::walk_boxed_try
decreases-statements::walk_boxed_try g l = 16 * goal.size-statements::walk_boxed_try g l + 9

abbrev pub decreases-statements::walk_if : goal.decreases-statements::walk_if
decreases-statements::walk_if g l = 16 * goal.size-statements::walk_if g l

abbrev pub decreases-statements::walk_switch : goal.decreases-statements::walk_switch
decreases-statements::walk_switch g l = 16 * goal.size-statements::walk_switch g l

abbrev pub decreases-statements::walk_cases : goal.decreases-statements::walk_cases
decreases-statements::walk_cases g l = 16 * goal.size-statements::walk_cases g l + 1

abbrev pub decreases-statements::walk_case : goal.decreases-statements::walk_case
decreases-statements::walk_case g l = 16 * goal.size-statements::walk_case g l

abbrev pub decreases-statements::walk_loop : goal.decreases-statements::walk_loop
decreases-statements::walk_loop g l = 16 * goal.size-statements::walk_loop g l

abbrev pub decreases-statements::walk_for : goal.decreases-statements::walk_for
decreases-statements::walk_for g l = 16 * goal.size-statements::walk_for g l

abbrev pub decreases-statements::walk_boxed_for : goal.decreases-statements::walk_boxed_for
decreases-statements::walk_boxed_for g l = 16 * goal.size-statements::walk_boxed_for g l + 1

abbrev pub decreases-statements::walk_init : goal.decreases-statements::walk_init
decreases-statements::walk_init g l = 16 * goal.size-statements::walk_init g l + 8

abbrev pub decreases-statements::walk_var_or_expr : goal.decreases-statements::walk_var_or_expr
decreases-statements::walk_var_or_expr g l = 16 * goal.size-statements::walk_var_or_expr g l + 7

abbrev pub decreases-statements::walk_var : goal.decreases-statements::walk_var
decreases-statements::walk_var g l = 16 * goal.size-statements::walk_var g l + 6

abbrev pub decreases-statements::walk_declarators : goal.decreases-statements::walk_declarators
decreases-statements::walk_declarators g l = 16 * goal.size-statements::walk_declarators g l + 5

abbrev pub decreases-statements::walk_declarator : goal.decreases-statements::walk_declarator
decreases-statements::walk_declarator g l = 16 * goal.size-statements::walk_declarator g l + 4

abbrev pub decreases-statements::walk_decl : goal.decreases-statements::walk_decl
decreases-statements::walk_decl g l = 16 * goal.size-statements::walk_decl g l

abbrev pub invariant-expressions::walk_props-loop-i : goal.invariant-expressions::walk_props-loop-i
invariant-expressions::walk_props-loop-i g l = goal.unvisited-expressions::walk_props-loop-i g l × Each (λ x y d. Walks (g.R.Rules.pass l.rules) d (prop_or_spread_tree x) (prop_or_spread_tree y)) (take l.i l.initial.ps.items) (take l.i l.ps.items) l.changed

abbrev pub invariant-expressions::walk_params-loop-i : goal.invariant-expressions::walk_params-loop-i
invariant-expressions::walk_params-loop-i g l = goal.unvisited-expressions::walk_params-loop-i g l × Each (λ x y d. Walks (g.R.Rules.pass l.rules) d (param_tree expr_tree x) (param_tree expr_tree y)) (take l.i l.initial.ps.items) (take l.i l.ps.items) l.changed

abbrev pub invariant-statements::walk_stmts-loop-i : goal.invariant-statements::walk_stmts-loop-i
invariant-statements::walk_stmts-loop-i g l = goal.unvisited-statements::walk_stmts-loop-i g l × Each (λ x y d. Walks (g.R.Rules.pass l.rules) d (stmt_tree x) (stmt_tree y)) (take l.i l.initial.ss.items) (take l.i l.ss.items) l.changed

abbrev pub invariant-statements::walk_cases-loop-i : goal.invariant-statements::walk_cases-loop-i
invariant-statements::walk_cases-loop-i g l = goal.unvisited-statements::walk_cases-loop-i g l × Each (λ x y d. CaseWalks (g.R.Rules.pass l.rules) (case_trees x) (case_trees y) d) (take l.i l.initial.cs.items) (take l.i l.cs.items) l.changed

abbrev pub invariant-statements::walk_declarators-loop-i : goal.invariant-statements::walk_declarators-loop-i
invariant-statements::walk_declarators-loop-i g l = goal.unvisited-statements::walk_declarators-loop-i g l × Each (DeclaratorWalks (g.R.Rules.pass l.rules)) (take l.i l.initial.ds.items) (take l.i l.ds.items) l.changed
