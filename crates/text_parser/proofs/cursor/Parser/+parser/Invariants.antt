-- How much room is left for deeper recursion, and which function may call which at the same room.
use Rattle.std.proofs.Common.{◌+◌, ◌*◌}
use Rattle.text_parser.proofs.cursor.Parser.+parser.Given as goal

abbrev pub decreases-arguments : goal.decreases-arguments
decreases-arguments l = 30 * l.room + 1

abbrev pub decreases-array : goal.decreases-array
decreases-array l = 30 * l.room + 18

abbrev pub decreases-arrow : goal.decreases-arrow
decreases-arrow l = 30 * l.room + 22

abbrev pub decreases-arrow_body : goal.decreases-arrow_body
decreases-arrow_body l = 30 * l.room + 15

abbrev pub decreases-arrow_params : goal.decreases-arrow_params
decreases-arrow_params l = 30 * l.room + 14

abbrev pub decreases-assignment : goal.decreases-assignment
decreases-assignment l = 30 * l.room + 24

abbrev pub decreases-assignment_behind : goal.decreases-assignment_behind
decreases-assignment_behind l = 30 * l.room + 22

abbrev pub decreases-assignment_inside : goal.decreases-assignment_inside
decreases-assignment_inside l = 30 * l.room

abbrev pub decreases-attempt : goal.decreases-attempt
decreases-attempt l = 30 * l.room + 18

abbrev pub decreases-attempt_behind : goal.decreases-attempt_behind
decreases-attempt_behind l = 30 * l.room + 17

abbrev pub decreases-behind_innermost : goal.decreases-behind_innermost
decreases-behind_innermost l = 30 * l.room + 3

abbrev pub decreases-behind_operators : goal.decreases-behind_operators
decreases-behind_operators l = 30 * l.room + 3

abbrev pub decreases-behind_parentheses : goal.decreases-behind_parentheses
decreases-behind_parentheses l = 30 * l.room + 23

abbrev pub decreases-behind_run : goal.decreases-behind_run
decreases-behind_run l = 30 * l.room + 24

abbrev pub decreases-binary_behind : goal.decreases-binary_behind
decreases-binary_behind l = 30 * l.room + 2

abbrev pub decreases-block : goal.decreases-block
decreases-block l = 30 * l.room + 13

abbrev pub decreases-block_stmt : goal.decreases-block_stmt
decreases-block_stmt l = 30 * l.room + 14

abbrev pub decreases-body : goal.decreases-body
decreases-body l = 30 * l.room + 14

abbrev pub decreases-boxed_statement : goal.decreases-boxed_statement
decreases-boxed_statement l = 30 * l.room + 1

abbrev pub decreases-branch : goal.decreases-branch
decreases-branch l = 30 * l.room + 18

abbrev pub decreases-call_behind : goal.decreases-call_behind
decreases-call_behind l = 30 * l.room + 2

abbrev pub decreases-case : goal.decreases-case
decreases-case l = 30 * l.room + 16

abbrev pub decreases-case_test : goal.decreases-case_test
decreases-case_test l = 30 * l.room + 1

abbrev pub decreases-cases : goal.decreases-cases
decreases-cases l = 30 * l.room + 17

abbrev pub decreases-choice_behind : goal.decreases-choice_behind
decreases-choice_behind l = 30 * l.room + 1

abbrev pub decreases-computed_member : goal.decreases-computed_member
decreases-computed_member l = 30 * l.room + 2

abbrev pub decreases-construction : goal.decreases-construction
decreases-construction l = 30 * l.room + 18

abbrev pub decreases-constructor : goal.decreases-constructor
decreases-constructor l = 30 * l.room + 21

abbrev pub decreases-declarator : goal.decreases-declarator
decreases-declarator l = 30 * l.room + 11

abbrev pub decreases-declarators : goal.decreases-declarators
decreases-declarators l = 30 * l.room + 12

abbrev pub decreases-declared_function : goal.decreases-declared_function
decreases-declared_function l = 30 * l.room + 17

abbrev pub decreases-do_loop : goal.decreases-do_loop
decreases-do_loop l = 30 * l.room + 18

abbrev pub decreases-do_test : goal.decreases-do_test
decreases-do_test l = 30 * l.room + 2

abbrev pub decreases-expression : goal.decreases-expression
decreases-expression l = 30 * l.room + 25

abbrev pub decreases-expression_behind : goal.decreases-expression_behind
decreases-expression_behind l = 30 * l.room + 2

abbrev pub decreases-expression_inside : goal.decreases-expression_inside
decreases-expression_inside l = 30 * l.room

abbrev pub decreases-expression_stmt : goal.decreases-expression_stmt
decreases-expression_stmt l = 30 * l.room + 18

abbrev pub decreases-first_part : goal.decreases-first_part
decreases-first_part l = 30 * l.room + 16

abbrev pub decreases-for_head : goal.decreases-for_head
decreases-for_head l = 30 * l.room + 17

abbrev pub decreases-for_loop : goal.decreases-for_loop
decreases-for_loop l = 30 * l.room + 18

abbrev pub decreases-function : goal.decreases-function
decreases-function l = 30 * l.room + 16

abbrev pub decreases-function_expr : goal.decreases-function_expr
decreases-function_expr l = 30 * l.room + 18

abbrev pub decreases-function_stmt : goal.decreases-function_stmt
decreases-function_stmt l = 30 * l.room + 18

abbrev pub decreases-handler : goal.decreases-handler
decreases-handler l = 30 * l.room + 16

abbrev pub decreases-head : goal.decreases-head
decreases-head l = 30 * l.room + 1

abbrev pub decreases-item : goal.decreases-item
decreases-item l = 30 * l.room + 1

abbrev pub decreases-key : goal.decreases-key
decreases-key l = 30 * l.room + 1

abbrev pub decreases-labeled : goal.decreases-labeled
decreases-labeled l = 30 * l.room + 18

abbrev pub decreases-leave_function : goal.decreases-leave_function
decreases-leave_function l = 30 * l.room + 18

abbrev pub decreases-listed : goal.decreases-listed
decreases-listed l = 30 * l.room + 24

abbrev pub decreases-longer_assignment : goal.decreases-longer_assignment
decreases-longer_assignment l = 30 * l.room + 23

abbrev pub decreases-loop_body : goal.decreases-loop_body
decreases-loop_body l = 30 * l.room + 2

abbrev pub decreases-members_behind : goal.decreases-members_behind
decreases-members_behind l = 30 * l.room + 19

abbrev pub decreases-object : goal.decreases-object
decreases-object l = 30 * l.room + 18

abbrev pub decreases-operand : goal.decreases-operand
decreases-operand l = 30 * l.room + 21

abbrev pub decreases-operand_behind : goal.decreases-operand_behind
decreases-operand_behind l = 30 * l.room + 20

abbrev pub decreases-optional : goal.decreases-optional
decreases-optional l = 30 * l.room + 1

abbrev pub decreases-param : goal.decreases-param
decreases-param l = 30 * l.room + 12

abbrev pub decreases-params : goal.decreases-params
decreases-params l = 30 * l.room + 13

abbrev pub decreases-parenthesized : goal.decreases-parenthesized
decreases-parenthesized l = 30 * l.room + 18

abbrev pub decreases-primary : goal.decreases-primary
decreases-primary l = 30 * l.room + 20

abbrev pub decreases-property : goal.decreases-property
decreases-property l = 30 * l.room + 17

abbrev pub decreases-right_operand : goal.decreases-right_operand
decreases-right_operand l = 30 * l.room + 1

abbrev pub decreases-sequence_behind : goal.decreases-sequence_behind
decreases-sequence_behind l = 30 * l.room + 1

abbrev pub decreases-spread : goal.decreases-spread
decreases-spread l = 30 * l.room + 1

abbrev pub decreases-statement : goal.decreases-statement
decreases-statement l = 30 * l.room + 23

abbrev pub decreases-statements : goal.decreases-statements
decreases-statements l = 30 * l.room + 1

abbrev pub decreases-switch : goal.decreases-switch
decreases-switch l = 30 * l.room + 18

abbrev pub decreases-template : goal.decreases-template
decreases-template l = 30 * l.room + 18

abbrev pub decreases-throw : goal.decreases-throw
decreases-throw l = 30 * l.room + 18

abbrev pub decreases-unary : goal.decreases-unary
decreases-unary l = 30 * l.room + 20

abbrev pub decreases-update_in_front : goal.decreases-update_in_front
decreases-update_in_front l = 30 * l.room + 1

abbrev pub decreases-value_behind : goal.decreases-value_behind
decreases-value_behind l = 30 * l.room + 1

abbrev pub decreases-value_of_key : goal.decreases-value_of_key
decreases-value_of_key l = 30 * l.room + 1

abbrev pub decreases-variable_stmt : goal.decreases-variable_stmt
decreases-variable_stmt l = 30 * l.room + 14

abbrev pub decreases-while_loop : goal.decreases-while_loop
decreases-while_loop l = 30 * l.room + 18
