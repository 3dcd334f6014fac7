-- How deep the node is, and which function may call which at the same depth.
use Rattle.std.proofs.Common.{◌+◌, ◌*◌}
use Rattle.text_printer.proofs.writer.Printer.+print.Given as goal

abbrev pub decreases-bare_expr : goal.decreases-bare_expr
decreases-bare_expr l = 16 * goal.size-bare_expr l

abbrev pub decreases-wrapped : goal.decreases-wrapped
decreases-wrapped l = 16 * goal.size-wrapped l + 1

abbrev pub decreases-expr : goal.decreases-expr
decreases-expr l = 16 * goal.size-expr l + 2

abbrev pub decreases-expr_alone : goal.decreases-expr_alone
decreases-expr_alone l = 16 * goal.size-expr_alone l + 3

abbrev pub decreases-list : goal.decreases-list
decreases-list l = 16 * goal.size-list l + 4

abbrev pub decreases-arguments : goal.decreases-arguments
decreases-arguments l = 16 * goal.size-arguments l + 5

abbrev pub decreases-array : goal.decreases-array
decreases-array l = 16 * goal.size-array l + 4

abbrev pub decreases-unary : goal.decreases-unary
decreases-unary l = 16 * goal.size-unary l + 4

abbrev pub decreases-construction : goal.decreases-construction
decreases-construction l = 16 * goal.size-construction l + 6

abbrev pub decreases-update : goal.decreases-update
decreases-update l = 16 * goal.size-update l + 7

abbrev pub decreases-target : goal.decreases-target
decreases-target l = 16 * goal.size-target l + 6

abbrev pub decreases-member : goal.decreases-member
decreases-member l = 16 * goal.size-member l + 5

abbrev pub decreases-binary : goal.decreases-binary
decreases-binary l = 16 * goal.size-binary l + 4

abbrev pub decreases-condition : goal.decreases-condition
decreases-condition l = 16 * goal.size-condition l + 4

abbrev pub decreases-template : goal.decreases-template
decreases-template l = 16 * goal.size-template l + 4

abbrev pub decreases-function_expr : goal.decreases-function_expr
decreases-function_expr l = 16 * goal.size-function_expr l + 1

abbrev pub decreases-function : goal.decreases-function
decreases-function l = 16 * goal.size-function l

abbrev pub decreases-params : goal.decreases-params
decreases-params l = 16 * goal.size-params l + 4

abbrev pub decreases-arrow : goal.decreases-arrow
decreases-arrow l = 16 * goal.size-arrow l

abbrev pub decreases-object : goal.decreases-object
decreases-object l = 16 * goal.size-object l + 1

abbrev pub decreases-prop : goal.decreases-prop
decreases-prop l = 16 * goal.size-prop l

abbrev pub decreases-key : goal.decreases-key
decreases-key l = 16 * goal.size-key l + 4

abbrev pub decreases-stmt : goal.decreases-stmt
decreases-stmt l = 16 * goal.size-stmt l

abbrev pub decreases-block : goal.decreases-block
decreases-block l = 16 * goal.size-block l + 5

abbrev pub decreases-stmts : goal.decreases-stmts
decreases-stmts l = 16 * goal.size-stmts l + 4

abbrev pub decreases-word_and_expr : goal.decreases-word_and_expr
decreases-word_and_expr l = 16 * goal.size-word_and_expr l + 3

abbrev pub decreases-word_and_test : goal.decreases-word_and_test
decreases-word_and_test l = 16 * goal.size-word_and_test l + 3

abbrev pub decreases-head : goal.decreases-head
decreases-head l = 16 * goal.size-head l + 4

abbrev pub decreases-if_stmt : goal.decreases-if_stmt
decreases-if_stmt l = 16 * goal.size-if_stmt l

abbrev pub decreases-switch : goal.decreases-switch
decreases-switch l = 16 * goal.size-switch l

abbrev pub decreases-case : goal.decreases-case
decreases-case l = 16 * goal.size-case l

abbrev pub decreases-try_stmt : goal.decreases-try_stmt
decreases-try_stmt l = 16 * goal.size-try_stmt l + 6

abbrev pub decreases-do_while : goal.decreases-do_while
decreases-do_while l = 16 * goal.size-do_while l

abbrev pub decreases-for_stmt : goal.decreases-for_stmt
decreases-for_stmt l = 16 * goal.size-for_stmt l

abbrev pub decreases-declarators : goal.decreases-declarators
decreases-declarators l = 16 * goal.size-declarators l + 4

abbrev pub decreases-decl : goal.decreases-decl
decreases-decl l = 16 * goal.size-decl l
