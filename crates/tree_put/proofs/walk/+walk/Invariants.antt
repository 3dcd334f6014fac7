use Rattle.std.proofs.Common.{◌+◌, ◌*◌, take}
use Rattle.swc_ast.specs.Expressions.{param_tree}
use Rattle.swc_ast.specs.Views.{expr_tree, prop_or_spread_tree, stmt_tree, case_trees}
use Rattle.tree_put.specs.Walks.{Each, EachGoes, ItemGoes, CaseGoes, DeclaratorGoes}
use Rattle.tree_put.proofs.walk.+walk.Given as goal

abbrev pub decreases-expressions::put_parts : goal.decreases-expressions::put_parts
decreases-expressions::put_parts g l = 16 * goal.size-expressions::put_parts g l

abbrev pub decreases-expressions::put_expr : goal.decreases-expressions::put_expr
decreases-expressions::put_expr g l = 16 * goal.size-expressions::put_expr g l + 1

abbrev pub decreases-expressions::put_boxed : goal.decreases-expressions::put_boxed
decreases-expressions::put_boxed g l = 16 * goal.size-expressions::put_boxed g l + 2

abbrev pub decreases-expressions::put_unary : goal.decreases-expressions::put_unary
decreases-expressions::put_unary g l = 16 * goal.size-expressions::put_unary g l + 4

abbrev pub decreases-expressions::put_item : goal.decreases-expressions::put_item
decreases-expressions::put_item g l = 16 * goal.size-expressions::put_item g l + 3

abbrev pub decreases-expressions::put_member_prop : goal.decreases-expressions::put_member_prop
decreases-expressions::put_member_prop g l = 16 * goal.size-expressions::put_member_prop g l + 3

abbrev pub decreases-expressions::put_member : goal.decreases-expressions::put_member
decreases-expressions::put_member g l = 16 * goal.size-expressions::put_member g l + 4

abbrev pub decreases-expressions::put_target_member : goal.decreases-expressions::put_target_member
decreases-expressions::put_target_member g l = 16 * goal.size-expressions::put_target_member g l + 4

abbrev pub decreases-expressions::put_exprs : goal.decreases-expressions::put_exprs
decreases-expressions::put_exprs g l = 16 * goal.size-expressions::put_exprs g l + 4

abbrev pub decreases-expressions::put_items : goal.decreases-expressions::put_items
decreases-expressions::put_items g l = 16 * goal.size-expressions::put_items g l + 4

abbrev pub decreases-expressions::put_target : goal.decreases-expressions::put_target
decreases-expressions::put_target g l = 16 * goal.size-expressions::put_target g l + 5

abbrev pub decreases-expressions::put_update : goal.decreases-expressions::put_update
decreases-expressions::put_update g l = 16 * goal.size-expressions::put_update g l + 6

abbrev pub decreases-expressions::put_boxed_update : goal.decreases-expressions::put_boxed_update
decreases-expressions::put_boxed_update g l = 16 * goal.size-expressions::put_boxed_update g l + 7

abbrev pub decreases-expressions::put_assign : goal.decreases-expressions::put_assign
decreases-expressions::put_assign g l = 16 * goal.size-expressions::put_assign g l + 6

abbrev pub decreases-expressions::put_boxed_assign : goal.decreases-expressions::put_boxed_assign
decreases-expressions::put_boxed_assign g l = 16 * goal.size-expressions::put_boxed_assign g l + 7

abbrev pub decreases-expressions::put_option : goal.decreases-expressions::put_option
decreases-expressions::put_option g l = 16 * goal.size-expressions::put_option g l + 3

abbrev pub decreases-expressions::put_key : goal.decreases-expressions::put_key
decreases-expressions::put_key g l = 16 * goal.size-expressions::put_key g l + 3

abbrev pub decreases-expressions::put_key_value : goal.decreases-expressions::put_key_value
decreases-expressions::put_key_value g l = 16 * goal.size-expressions::put_key_value g l + 4

abbrev pub decreases-expressions::put_props : goal.decreases-expressions::put_props
decreases-expressions::put_props g l = 16 * goal.size-expressions::put_props g l + 1

abbrev pub decreases-expressions::put_prop_or_spread : goal.decreases-expressions::put_prop_or_spread
decreases-expressions::put_prop_or_spread g l = 16 * goal.size-expressions::put_prop_or_spread g l

abbrev pub decreases-expressions::put_prop : goal.decreases-expressions::put_prop
decreases-expressions::put_prop g l = 16 * goal.size-expressions::put_prop g l

abbrev pub decreases-expressions::put_method : goal.decreases-expressions::put_method
decreases-expressions::put_method g l = 16 * goal.size-expressions::put_method g l

abbrev pub decreases-expressions::put_boxed_function : goal.decreases-expressions::put_boxed_function
decreases-expressions::put_boxed_function g l = 16 * goal.size-expressions::put_boxed_function g l + 1

abbrev pub decreases-expressions::put_function : goal.decreases-expressions::put_function
decreases-expressions::put_function g l = 16 * goal.size-expressions::put_function g l

abbrev pub decreases-expressions::put_params : goal.decreases-expressions::put_params
decreases-expressions::put_params g l = 16 * goal.size-expressions::put_params g l + 5

abbrev pub decreases-expressions::put_param : goal.decreases-expressions::put_param
decreases-expressions::put_param g l = 16 * goal.size-expressions::put_param g l + 4

abbrev pub decreases-expressions::put_arrow : goal.decreases-expressions::put_arrow
decreases-expressions::put_arrow g l = 16 * goal.size-expressions::put_arrow g l

abbrev pub decreases-expressions::put_boxed_arrow : goal.decreases-expressions::put_boxed_arrow
decreases-expressions::put_boxed_arrow g l = 16 * goal.size-expressions::put_boxed_arrow g l + 1

abbrev pub decreases-expressions::put_arrow_body : goal.decreases-expressions::put_arrow_body
decreases-expressions::put_arrow_body g l = 16 * goal.size-expressions::put_arrow_body g l

abbrev pub decreases-statements::put_body : goal.decreases-statements::put_body
decreases-statements::put_body g l = 16 * goal.size-statements::put_body g l + 6

abbrev pub decreases-statements::put_block : goal.decreases-statements::put_block
decreases-statements::put_block g l = 16 * goal.size-statements::put_block g l + 6

abbrev pub decreases-statements::put_stmts : goal.decreases-statements::put_stmts
decreases-statements::put_stmts g l = 16 * goal.size-statements::put_stmts g l + 3

abbrev pub decreases-statements::put_stmt : goal.decreases-statements::put_stmt
decreases-statements::put_stmt g l = 16 * goal.size-statements::put_stmt g l + 1

abbrev pub decreases-statements::put_boxed_stmt : goal.decreases-statements::put_boxed_stmt
decreases-statements::put_boxed_stmt g l = 16 * goal.size-statements::put_boxed_stmt g l + 2

abbrev pub decreases-statements::put_alt : goal.decreases-statements::put_alt
decreases-statements::put_alt g l = 16 * goal.size-statements::put_alt g l + 3

abbrev pub decreases-statements::put_try : goal.decreases-statements::put_try
decreases-statements::put_try g l = 16 * goal.size-statements::put_try g l + 8

abbrev pub decreases-statements::put_boxed_try : goal.decreases-statements::put_boxed_try
decreases-statements::put_boxed_try g l = 16 * goal.size-statements::put_boxed_try g l + 9

abbrev pub decreases-statements::put_handler : goal.decreases-statements::put_handler
decreases-statements::put_handler g l = 16 * goal.size-statements::put_handler g l + 7

abbrev pub decreases-statements::put_finalizer : goal.decreases-statements::put_finalizer
decreases-statements::put_finalizer g l = 16 * goal.size-statements::put_finalizer g l + 7

abbrev pub decreases-statements::put_if : goal.decreases-statements::put_if
decreases-statements::put_if g l = 16 * goal.size-statements::put_if g l

abbrev pub decreases-statements::put_switch : goal.decreases-statements::put_switch
decreases-statements::put_switch g l = 16 * goal.size-statements::put_switch g l

abbrev pub decreases-statements::put_cases : goal.decreases-statements::put_cases
decreases-statements::put_cases g l = 16 * goal.size-statements::put_cases g l + 1

abbrev pub decreases-statements::put_case : goal.decreases-statements::put_case
decreases-statements::put_case g l = 16 * goal.size-statements::put_case g l

abbrev pub decreases-statements::put_case_body : goal.decreases-statements::put_case_body
decreases-statements::put_case_body g l = 16 * goal.size-statements::put_case_body g l + 5

abbrev pub decreases-statements::put_while : goal.decreases-statements::put_while
decreases-statements::put_while g l = 16 * goal.size-statements::put_while g l

abbrev pub decreases-statements::put_do_while : goal.decreases-statements::put_do_while
decreases-statements::put_do_while g l = 16 * goal.size-statements::put_do_while g l

abbrev pub decreases-statements::put_for : goal.decreases-statements::put_for
decreases-statements::put_for g l = 16 * goal.size-statements::put_for g l

abbrev pub decreases-statements::put_boxed_for : goal.decreases-statements::put_boxed_for
decreases-statements::put_boxed_for g l = 16 * goal.size-statements::put_boxed_for g l + 1

abbrev pub decreases-statements::put_init : goal.decreases-statements::put_init
decreases-statements::put_init g l = 16 * goal.size-statements::put_init g l + 8

abbrev pub decreases-statements::put_var_or_expr : goal.decreases-statements::put_var_or_expr
decreases-statements::put_var_or_expr g l = 16 * goal.size-statements::put_var_or_expr g l + 7

abbrev pub decreases-statements::put_var : goal.decreases-statements::put_var
decreases-statements::put_var g l = 16 * goal.size-statements::put_var g l + 6

abbrev pub decreases-statements::put_declarators : goal.decreases-statements::put_declarators
decreases-statements::put_declarators g l = 16 * goal.size-statements::put_declarators g l + 5

abbrev pub decreases-statements::put_declarator : goal.decreases-statements::put_declarator
decreases-statements::put_declarator g l = 16 * goal.size-statements::put_declarator g l + 4

abbrev pub decreases-statements::put_decl : goal.decreases-statements::put_decl
decreases-statements::put_decl g l = 16 * goal.size-statements::put_decl g l

abbrev pub invariant-expressions::put_exprs-loop-i : goal.invariant-expressions::put_exprs-loop-i
invariant-expressions::put_exprs-loop-i g l = goal.unvisited-expressions::put_exprs-loop-i g l × EachGoes (g.P.Puts.puts) expr_tree (g.P.Puts.state l.initial.rules) (take l.i l.initial.es.items) (take l.i l.es.items) (g.P.Puts.state l.rules)

abbrev pub invariant-expressions::put_items-loop-i : goal.invariant-expressions::put_items-loop-i
invariant-expressions::put_items-loop-i g l = goal.unvisited-expressions::put_items-loop-i g l × Each (ItemGoes (g.P.Puts.puts)) (g.P.Puts.state l.initial.rules) (take l.i l.initial.es.items) (take l.i l.es.items) (g.P.Puts.state l.rules)

abbrev pub invariant-expressions::put_props-loop-i : goal.invariant-expressions::put_props-loop-i
invariant-expressions::put_props-loop-i g l = goal.unvisited-expressions::put_props-loop-i g l × EachGoes (g.P.Puts.puts) prop_or_spread_tree (g.P.Puts.state l.initial.rules) (take l.i l.initial.ps.items) (take l.i l.ps.items) (g.P.Puts.state l.rules)

abbrev pub invariant-expressions::put_params-loop-i : goal.invariant-expressions::put_params-loop-i
invariant-expressions::put_params-loop-i g l = goal.unvisited-expressions::put_params-loop-i g l × EachGoes (g.P.Puts.puts) (param_tree expr_tree) (g.P.Puts.state l.initial.rules) (take l.i l.initial.ps.items) (take l.i l.ps.items) (g.P.Puts.state l.rules)

abbrev pub invariant-statements::put_stmts-loop-i : goal.invariant-statements::put_stmts-loop-i
invariant-statements::put_stmts-loop-i g l = goal.unvisited-statements::put_stmts-loop-i g l × EachGoes (g.P.Puts.puts) stmt_tree (g.P.Puts.state l.initial.rules) (take l.i l.initial.ss.items) (take l.i l.ss.items) (g.P.Puts.state l.rules)

abbrev pub invariant-statements::put_cases-loop-i : goal.invariant-statements::put_cases-loop-i
invariant-statements::put_cases-loop-i g l = goal.unvisited-statements::put_cases-loop-i g l × Each (λ s x y t. CaseGoes (g.P.Puts.puts) s (case_trees x) (case_trees y) t) (g.P.Puts.state l.initial.rules) (take l.i l.initial.cs.items) (take l.i l.cs.items) (g.P.Puts.state l.rules)

abbrev pub invariant-statements::put_declarators-loop-i : goal.invariant-statements::put_declarators-loop-i
invariant-statements::put_declarators-loop-i g l = goal.unvisited-statements::put_declarators-loop-i g l × Each (DeclaratorGoes (g.P.Puts.puts) l.kind) (g.P.Puts.state l.initial.rules) (take l.i l.initial.ds.items) (take l.i l.ds.items) (g.P.Puts.state l.rules)
