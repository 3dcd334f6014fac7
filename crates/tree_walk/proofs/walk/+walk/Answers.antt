use Rattle.std.proofs.Common.{rules, refl, sym, ap, ◌∙◌, subst, false}
use Rattle.swc_ast.proofs.Equations.{expr_tree-This, expr_tree-Ident, expr_tree-Lit, expr_tree-Invalid, prop_tree-Shorthand, stmt_tree-Empty, stmt_tree-Break, stmt_tree-Continue, function_trees-is, arrow_tree-is, if_tree-is, case_trees-is, loop_trees-is, for_tree-is}
use Rattle.tree_walk.proofs.FunctionArms.{object_arm, fn_arm, arrow_arm, spread_arm, prop_arm, key_value_arm, method_arm, method_rolled, computed_key, assign_param, param_unseen, function_made, arrow_made, arrow_block, arrow_expr}
use Rattle.tree_walk.proofs.StatementArms.{option_some, option_none, list_then, block_arm, return_arm, labeled_arm, throw_arm, expr_stmt_arm, if_arm, switch_arm, for_arm, decl_arm, while_arm, do_while_arm, loop_made, try_arm, try_made, handler_made, no_handler, if_made, for_made, switch_rolled, case_made, declarator_made, var_made, fn_decl_arm, var_arm, head_at, init_var, init_shut, init_expr, part_shut, part_walks}
use Rattle.tree_walk.proofs.Walked.{walks_at, shortened, made_then, opened_then, opened_closed, placed_then, placed_opened, placed_closed, shallow_at, entered_at_shallow, unvisited_at, each_all, each_more}
use Rattle.tree_walk.proofs.Arms.{bin_arm, cond_arm, unary_arm, update_arm, update_made, assign_arm, assign_made, member_arm, call_arm, new_arm, seq_arm, tpl_arm, array_arm, member_parts}
use Rattle.tree_walk.proofs.Targets.{shallow_lit, member_callee_at, plain_callee, kept_callee, plain_operand, kept_operand, member_target, name_target}
use Rattle.swc_ast.specs.declared.expressions.AssignTarget.TheVariants as target
use Rattle.swc_ast.specs.Statements.{option_block_tree, option_init_tree}
use Rattle.swc_ast.specs.Expressions.{key_tree, param_tree}
use Rattle.swc_ast.specs.Views.{expr_tree, stmt_tree, prop_tree}
use Rattle.tree_walk.specs.Walks.{none, block}
use Rattle.tree_walk.specs.StatementParts.{walked}
use Rattle.tree_walk.specs.Parts.{TargetWalks}
use Rattle.tree_walk.proofs.walk.+walk.Goals as goal

pub expressions::walk_expr-returns-then-not-enters_expr : goal.expressions::walk_expr-returns-then-not-enters_expr
expressions::walk_expr-returns-then-not-enters_expr g t c = placed_closed _ _ c.in_ok-opened.ensures.opens c.in_ok-opened.ensures.fits (c.if-not-enters_expr.ensures refl)

pub expressions::walk_expr-returns : goal.expressions::walk_expr-returns
expressions::walk_expr-returns g t c = placed_opened _ _ _ c.in_ok-opened.ensures.opens c.in_ok-opened.ensures.fits (placed_then _ _ _ c.in_ok-inside.ensures c.in_ok-left.ensures.steps c.in_ok-left.ensures.fits)

pub expressions::walk_parts-returns-in-This : goal.expressions::walk_parts-returns-in-This
expressions::walk_parts-returns-in-This g t c = shallow_at _ expr_tree (ap expr_tree c.in-This.is ∙ expr_tree-This _) refl

pub expressions::walk_parts-returns-in-Ident : goal.expressions::walk_parts-returns-in-Ident
expressions::walk_parts-returns-in-Ident g t c = shallow_at _ expr_tree (ap expr_tree c.in-Ident.is ∙ expr_tree-Ident _) refl

pub expressions::walk_parts-returns-in-Lit : goal.expressions::walk_parts-returns-in-Lit
expressions::walk_parts-returns-in-Lit g t c = shallow_at _ expr_tree (ap expr_tree c.in-Lit.is ∙ expr_tree-Lit _) (shallow_lit _)

pub expressions::walk_parts-returns-in-Invalid : goal.expressions::walk_parts-returns-in-Invalid
expressions::walk_parts-returns-in-Invalid g t c = shallow_at _ expr_tree (ap expr_tree c.in-Invalid.is ∙ expr_tree-Invalid _) refl

pub expressions::walk_parts-returns-in_ok-items-in-Array : goal.expressions::walk_parts-returns-in_ok-items-in-Array
expressions::walk_parts-returns-in_ok-items-in-Array g t c = array_arm c.walk_items.new.es c.in-Array.is c.in-Array.n-is (search rules) c.in_ok-items-in-Array.ensures

pub expressions::walk_parts-returns-in_ok-arg-in-Unary : goal.expressions::walk_parts-returns-in_ok-arg-in-Unary
expressions::walk_parts-returns-in_ok-arg-in-Unary g t c = unary_arm c.walk_operand.new.e c.in-Unary.is c.in-Unary.n-is (search rules) c.in_ok-arg-in-Unary.ensures

pub expressions::walk_parts-returns-in_ok-update-in-Update : goal.expressions::walk_parts-returns-in_ok-update-in-Update
expressions::walk_parts-returns-in_ok-update-in-Update g t c = update_arm c.walk_boxed_update.new.n c.in-Update.is c.in-Update.n-is (search rules) c.in_ok-update-in-Update.ensures

pub expressions::walk_update-returns : goal.expressions::walk_update-returns
expressions::walk_update-returns g t c = update_made c.args.n.now c.walk_target.new.t c.in_ok-arg.ensures

pub expressions::walk_parts-returns-in_ok-right-in-Bin : goal.expressions::walk_parts-returns-in_ok-right-in-Bin
expressions::walk_parts-returns-in_ok-right-in-Bin g t c = bin_arm c.walk_boxed.new.e c.walk_boxed-in-Bin.new.e c.in-Bin.is c.in-Bin.n-is (search rules) c.in_ok-left-in-Bin.ensures.0 c.in_ok-right-in-Bin.ensures.0

pub expressions::walk_parts-returns-in_ok-assign-in-Assign : goal.expressions::walk_parts-returns-in_ok-assign-in-Assign
expressions::walk_parts-returns-in_ok-assign-in-Assign g t c = assign_arm c.walk_boxed_assign.new.n c.in-Assign.is c.in-Assign.n-is (search rules) c.in_ok-assign-in-Assign.ensures

pub expressions::walk_assign-returns : goal.expressions::walk_assign-returns
expressions::walk_assign-returns g t c = assign_made c.args.n.now c.walk_target.new.t c.walk_boxed.new.e c.in_ok-target.ensures c.in_ok-right.ensures.0

pub expressions::walk_parts-returns-in_ok-member-in-Member : goal.expressions::walk_parts-returns-in_ok-member-in-Member
expressions::walk_parts-returns-in_ok-member-in-Member g t c = member_arm c.walk_member.new.n c.in-Member.is c.in-Member.n-is (search rules) c.in_ok-member-in-Member.ensures

pub expressions::walk_parts-returns-in_ok-alt-in-Cond : goal.expressions::walk_parts-returns-in_ok-alt-in-Cond
expressions::walk_parts-returns-in_ok-alt-in-Cond g t c = cond_arm c.walk_boxed-in-Cond.new.e c.walk_boxed-in-Cond-2.new.e c.walk_boxed-in-Cond-3.new.e c.in-Cond.is c.in-Cond.n-is (search rules) c.in_ok-test-in-Cond.ensures.0 c.in_ok-cons-in-Cond.ensures.0 c.in_ok-alt-in-Cond.ensures.0

pub expressions::walk_parts-returns-in_ok-args-in-Call : goal.expressions::walk_parts-returns-in_ok-args-in-Call
expressions::walk_parts-returns-in_ok-args-in-Call g t c = call_arm _ c.walk_callee.new.e c.walk_exprs.new.es c.in-Call.is c.in-Call.n-is (search rules) c.in_ok-callee-in-Call.ensures c.in_ok-args-in-Call.ensures

pub expressions::walk_parts-returns-in_ok-args-in-New : goal.expressions::walk_parts-returns-in_ok-args-in-New
expressions::walk_parts-returns-in_ok-args-in-New g t c = new_arm c.walk_boxed-in-New.new.e c.walk_exprs-in-New.new.es c.in-New.is c.in-New.n-is (search rules) c.in_ok-callee-in-New.ensures.0 c.in_ok-args-in-New.ensures

pub expressions::walk_parts-returns-in_ok-exprs-in-Seq : goal.expressions::walk_parts-returns-in_ok-exprs-in-Seq
expressions::walk_parts-returns-in_ok-exprs-in-Seq g t c = seq_arm c.walk_exprs-in-Seq.new.es c.in-Seq.is c.in-Seq.n-is (search rules) c.in_ok-exprs-in-Seq.ensures

pub expressions::walk_parts-returns-in_ok-exprs-in-Tpl : goal.expressions::walk_parts-returns-in_ok-exprs-in-Tpl
expressions::walk_parts-returns-in_ok-exprs-in-Tpl g t c = tpl_arm c.walk_exprs-in-Tpl.new.es c.in-Tpl.is c.in-Tpl.n-is (search rules) c.in_ok-exprs-in-Tpl.ensures

pub expressions::walk_callee-returns-then-is_member : goal.expressions::walk_callee-returns-then-is_member
expressions::walk_callee-returns-then-is_member g t c = member_callee_at _ (sym c.if-is_member.ensures) c.in_ok-parts.ensures (search rules) (search rules)

pub expressions::walk_callee-returns-then-not-is_plain : goal.expressions::walk_callee-returns-then-not-is_plain
expressions::walk_callee-returns-then-not-is_plain g t c = let t = c.if-not-is_plain.ensures.eval refl (search rules) in kept_callee _ (search rules)

pub expressions::walk_callee-returns : goal.expressions::walk_callee-returns
expressions::walk_callee-returns g t c = plain_callee _ _ _ (search rules) c.in_ok-made.ensures

pub expressions::walk_operand-returns-then-is_named_typeof : goal.expressions::walk_operand-returns-then-is_named_typeof
expressions::walk_operand-returns-then-is_named_typeof g t c = let t = c.if-is_named_typeof.ensures.shallow refl in kept_operand _ _ (search rules) (search rules)

pub expressions::walk_operand-returns : goal.expressions::walk_operand-returns
expressions::walk_operand-returns g t c = plain_operand c.args.place _ _ _ _ (search rules) (search rules)

pub expressions::walk_member-returns : goal.expressions::walk_member-returns
expressions::walk_member-returns g t c = member_parts c.args.n.now (record c.args.n.now { obj = c.walk_boxed.new.e; prop = c.walk_member_prop.new.p }) _ _ refl c.in_ok-object.ensures.0 c.in_ok-key.ensures

pub expressions::walk_target-returns-in-Ident : goal.expressions::walk_target-returns-in-Ident
expressions::walk_target-returns-in-Ident g t c = subst (λ k. TargetWalks (g.R.Rules.pass c.args.rules.now) k k false) (sym c.in-Ident.is) (name_target _)

pub expressions::walk_target-returns-in_ok-member-in-Member : goal.expressions::walk_target-returns-in_ok-member-in-Member
expressions::walk_target-returns-in_ok-member-in-Member g t c = subst (λ k. TargetWalks (g.R.Rules.pass c.args.rules.now) k (target.Member c.walk_member.new.n) c.in_ok-member-in-Member.member) (sym c.in-Member.is) (member_target c.in_ok-member-in-Member.ensures)

pub expressions::walk_exprs-loop-i-preserved : goal.expressions::walk_exprs-loop-i-preserved
expressions::walk_exprs-loop-i-preserved g t c = (search rules, each_more _ _ _ _ _ _ _ _ (search rules) c.loop-i.invariant.0.0 (search rules) c.in_ok-made.ensures.0 c.loop-i.invariant.1)

pub expressions::walk_exprs-returns : goal.expressions::walk_exprs-returns
expressions::walk_exprs-returns g t c = each_all _ _ _ _ _ (search rules) c.loop-i.invariant.0.0 c.loop-i.invariant.1

pub expressions::walk_items-loop-i-preserved : goal.expressions::walk_items-loop-i-preserved
expressions::walk_items-loop-i-preserved g t c = (search rules, each_more _ _ _ _ _ _ _ _ (search rules) c.loop-i.invariant.0.0 (search rules) c.in_ok-made.ensures c.loop-i.invariant.1)

pub expressions::walk_items-returns : goal.expressions::walk_items-returns
expressions::walk_items-returns g t c = each_all _ _ _ _ _ (search rules) c.loop-i.invariant.0.0 c.loop-i.invariant.1

pub expressions::walk_exprs-loop-i-init : goal.expressions::walk_exprs-loop-i-init
expressions::walk_exprs-loop-i-init g t c = (search rules, none)

pub expressions::walk_items-loop-i-init : goal.expressions::walk_items-loop-i-init
expressions::walk_items-loop-i-init g t c = (search rules, none)

pub expressions::walk_parts-returns-in_ok-props-in-Object : goal.expressions::walk_parts-returns-in_ok-props-in-Object
expressions::walk_parts-returns-in_ok-props-in-Object g t c = object_arm c.walk_props.new.ps c.in-Object.is c.in-Object.n-is (search rules) c.in_ok-props-in-Object.ensures

pub expressions::walk_parts-returns-in_ok-function-in-Fn : goal.expressions::walk_parts-returns-in_ok-function-in-Fn
expressions::walk_parts-returns-in_ok-function-in-Fn g t c = fn_arm c.walk_boxed_function.new.n c.in-Fn.is c.in-Fn.n-is (search rules) c.in_ok-function-in-Fn.ensures

pub expressions::walk_parts-returns-in_ok-arrow-in-Arrow : goal.expressions::walk_parts-returns-in_ok-arrow-in-Arrow
expressions::walk_parts-returns-in_ok-arrow-in-Arrow g t c = arrow_arm c.walk_boxed_arrow.new.n c.in-Arrow.is c.in-Arrow.n-is (search rules) c.in_ok-arrow-in-Arrow.ensures

pub expressions::walk_option-returns-in_ok-made-in-Some : goal.expressions::walk_option-returns-in_ok-made-in-Some
expressions::walk_option-returns-in_ok-made-in-Some g t c = option_some expr_tree _ c.in-Some.n c.walk_boxed.new.e _ c.in-Some.is c.in_ok-made-in-Some.ensures.0

pub expressions::walk_option-returns-in-None : goal.expressions::walk_option-returns-in-None
expressions::walk_option-returns-in-None g t c = option_none _ expr_tree _ c.in-None.is

pub expressions::walk_prop_or_spread-returns-in_ok-made-in-Spread : goal.expressions::walk_prop_or_spread-returns-in_ok-made-in-Spread
expressions::walk_prop_or_spread-returns-in_ok-made-in-Spread g t c = spread_arm c.walk_boxed.new.e c.in-Spread.is c.in-Spread.n-is (search rules) c.in_ok-made-in-Spread.ensures.0

pub expressions::walk_prop_or_spread-returns-in_ok-made-in-Prop : goal.expressions::walk_prop_or_spread-returns-in_ok-made-in-Prop
expressions::walk_prop_or_spread-returns-in_ok-made-in-Prop g t c = prop_arm c.walk_prop.new.p c.in-Prop.is c.in-Prop.n-is (search rules) c.in_ok-made-in-Prop.ensures

pub expressions::walk_prop-returns-in-Shorthand : goal.expressions::walk_prop-returns-in-Shorthand
expressions::walk_prop-returns-in-Shorthand g t c = unvisited_at _ prop_tree (ap prop_tree c.in-Shorthand.is ∙ prop_tree-Shorthand _) refl

pub expressions::walk_prop-returns-in_ok-value-in-KeyValue : goal.expressions::walk_prop-returns-in_ok-value-in-KeyValue
expressions::walk_prop-returns-in_ok-value-in-KeyValue g t c = key_value_arm c.walk_key.new.k c.walk_boxed.new.e c.in-KeyValue.is c.in-KeyValue.n-is (search rules) c.in_ok-key-in-KeyValue.ensures c.in_ok-value-in-KeyValue.ensures.0

pub expressions::walk_prop-returns-in_ok-made-in-Method : goal.expressions::walk_prop-returns-in_ok-made-in-Method
expressions::walk_prop-returns-in_ok-made-in-Method g t c = method_arm c.walk_method.new.n c.in-Method.is c.in-Method.n-is (search rules) c.in_ok-made-in-Method.ensures

pub expressions::walk_key-returns-in-Ident : goal.expressions::walk_key-returns-in-Ident
expressions::walk_key-returns-in-Ident g t c = unvisited_at _ (key_tree expr_tree) (ap (key_tree expr_tree) c.in-Ident.is) refl

pub expressions::walk_key-returns-in-Str : goal.expressions::walk_key-returns-in-Str
expressions::walk_key-returns-in-Str g t c = unvisited_at _ (key_tree expr_tree) (ap (key_tree expr_tree) c.in-Str.is) refl

pub expressions::walk_key-returns-in-Num : goal.expressions::walk_key-returns-in-Num
expressions::walk_key-returns-in-Num g t c = unvisited_at _ (key_tree expr_tree) (ap (key_tree expr_tree) c.in-Num.is) refl

pub expressions::walk_key-returns-in_ok-made-in-Computed : goal.expressions::walk_key-returns-in_ok-made-in-Computed
expressions::walk_key-returns-in_ok-made-in-Computed g t c = computed_key _ _ c.in-Computed.n c.in-Computed.n c.walk_boxed.new.e c.in-Computed.is refl refl c.in_ok-made-in-Computed.ensures.0

pub expressions::walk_method-returns : goal.expressions::walk_method-returns
expressions::walk_method-returns g t c = method_rolled c.args.n.now c.walk_key.new.k c.walk_boxed_function.new.n c.in_ok-key.ensures c.in_ok-function.ensures

pub expressions::walk_function-returns : goal.expressions::walk_function-returns
expressions::walk_function-returns g t c = function_made _ c.args.n.now.params c.walk_params.new.ps c.args.n.now.body c.walk_body.new.n (function_trees-is _) (function_trees-is _) c.in_ok-params.ensures c.in_ok-body.ensures

pub expressions::walk_param-returns : goal.expressions::walk_param-returns
expressions::walk_param-returns g t c = shortened _ _ (param_unseen _) c.in_ok-inside.ensures c.in_ok-left.ensures

pub expressions::walk_default-returns-in-Ident : goal.expressions::walk_default-returns-in-Ident
expressions::walk_default-returns-in-Ident g t c = shallow_at _ (param_tree expr_tree) (ap (param_tree expr_tree) c.in-Ident.is) refl

pub expressions::walk_default-returns-in_ok-made-in-Assign : goal.expressions::walk_default-returns-in_ok-made-in-Assign
expressions::walk_default-returns-in_ok-made-in-Assign g t c = assign_param _ _ c.in-Assign.n c.in-Assign.n c.walk_boxed.new.e c.in-Assign.is refl refl c.in_ok-made-in-Assign.ensures.0

pub expressions::walk_arrow-returns : goal.expressions::walk_arrow-returns
expressions::walk_arrow-returns g t c = arrow_made _ c.args.n.now.params c.walk_params.new.ps c.args.n.now.body c.walk_arrow_body.new.b (arrow_tree-is _) (arrow_tree-is _) c.in_ok-params.ensures c.in_ok-body.ensures

pub expressions::walk_arrow_body-returns-in_ok-made-in-BlockStmt : goal.expressions::walk_arrow_body-returns-in_ok-made-in-BlockStmt
expressions::walk_arrow_body-returns-in_ok-made-in-BlockStmt g t c = arrow_block c.walk_body.new.n c.in-BlockStmt.is c.in-BlockStmt.n-is (search rules) c.in_ok-made-in-BlockStmt.ensures

pub expressions::walk_arrow_body-returns-in_ok-made-in-Expr : goal.expressions::walk_arrow_body-returns-in_ok-made-in-Expr
expressions::walk_arrow_body-returns-in_ok-made-in-Expr g t c = arrow_expr c.walk_boxed.new.e c.in-Expr.is c.in-Expr.n-is (search rules) c.in_ok-made-in-Expr.ensures.0

pub statements::walk_body-returns : goal.statements::walk_body-returns
statements::walk_body-returns g t c = c.in_ok-made.ensures refl _

pub statements::walk_inner_block-returns : goal.statements::walk_inner_block-returns
statements::walk_inner_block-returns g t c = c.in_ok-made.ensures refl _

pub statements::walk_part-returns-then-not-enters_list : goal.statements::walk_part-returns-then-not-enters_list
statements::walk_part-returns-then-not-enters_list g t c = part_shut _ _ (c.if-not-enters_list.ensures refl)

pub statements::walk_part-returns : goal.statements::walk_part-returns
statements::walk_part-returns g t c = part_walks _ _ _ c.in_ok-made.ensures

pub statements::walk_block-returns : goal.statements::walk_block-returns
statements::walk_block-returns g t c = block refl c.in_ok-made.ensures

pub statements::walk_list-returns : goal.statements::walk_list-returns
statements::walk_list-returns g t c = list_then _ _ _ _ _ _ c.in_ok-inside.ensures c.in_ok-left.ensures

pub statements::walk_stmt-returns-then-not-enters_stmt : goal.statements::walk_stmt-returns-then-not-enters_stmt
statements::walk_stmt-returns-then-not-enters_stmt g t c = opened_closed _ c.in_ok-opened.ensures.opens (c.if-not-enters_stmt.ensures refl)

pub statements::walk_stmt-returns : goal.statements::walk_stmt-returns
statements::walk_stmt-returns g t c = opened_then _ _ c.in_ok-opened.ensures.opens (made_then _ _ c.in_ok-inside.ensures c.in_ok-left.ensures)

pub statements::walk_stmt_parts-returns-in_ok-made-in-Block : goal.statements::walk_stmt_parts-returns-in_ok-made-in-Block
statements::walk_stmt_parts-returns-in_ok-made-in-Block g t c = block_arm c.walk_block.new.n c.in-Block.is c.in-Block.n-is (search rules) c.in_ok-made-in-Block.ensures

pub statements::walk_stmt_parts-returns-in-Empty : goal.statements::walk_stmt_parts-returns-in-Empty
statements::walk_stmt_parts-returns-in-Empty g t c = entered_at_shallow _ stmt_tree (ap stmt_tree c.in-Empty.is ∙ stmt_tree-Empty _) refl

pub statements::walk_stmt_parts-returns-in-Break : goal.statements::walk_stmt_parts-returns-in-Break
statements::walk_stmt_parts-returns-in-Break g t c = entered_at_shallow _ stmt_tree (ap stmt_tree c.in-Break.is ∙ stmt_tree-Break _) refl

pub statements::walk_stmt_parts-returns-in-Continue : goal.statements::walk_stmt_parts-returns-in-Continue
statements::walk_stmt_parts-returns-in-Continue g t c = entered_at_shallow _ stmt_tree (ap stmt_tree c.in-Continue.is ∙ stmt_tree-Continue _) refl

pub statements::walk_stmt_parts-returns-in_ok-made-in-Return : goal.statements::walk_stmt_parts-returns-in_ok-made-in-Return
statements::walk_stmt_parts-returns-in_ok-made-in-Return g t c = return_arm c.walk_option.new.e c.in-Return.is c.in-Return.n-is (search rules) c.in_ok-made-in-Return.ensures

pub statements::walk_stmt_parts-returns-in_ok-made-in-Labeled : goal.statements::walk_stmt_parts-returns-in_ok-made-in-Labeled
statements::walk_stmt_parts-returns-in_ok-made-in-Labeled g t c = labeled_arm c.walk_boxed_stmt.new.s c.in-Labeled.is c.in-Labeled.n-is (search rules) c.in_ok-made-in-Labeled.ensures

pub statements::walk_stmt_parts-returns-in_ok-made-in-If : goal.statements::walk_stmt_parts-returns-in_ok-made-in-If
statements::walk_stmt_parts-returns-in_ok-made-in-If g t c = if_arm c.walk_if.new.n c.in-If.is c.in-If.n-is (search rules) c.in_ok-made-in-If.ensures

pub statements::walk_stmt_parts-returns-in_ok-made-in-Switch : goal.statements::walk_stmt_parts-returns-in_ok-made-in-Switch
statements::walk_stmt_parts-returns-in_ok-made-in-Switch g t c = switch_arm c.walk_switch.new.n c.in-Switch.is c.in-Switch.n-is (search rules) c.in_ok-made-in-Switch.ensures

pub statements::walk_stmt_parts-returns-in_ok-made-in-Throw : goal.statements::walk_stmt_parts-returns-in_ok-made-in-Throw
statements::walk_stmt_parts-returns-in_ok-made-in-Throw g t c = throw_arm c.walk_boxed.new.e c.in-Throw.is c.in-Throw.n-is (search rules) c.in_ok-made-in-Throw.ensures.0

pub statements::walk_stmt_parts-returns-in_ok-made-in-Try : goal.statements::walk_stmt_parts-returns-in_ok-made-in-Try
statements::walk_stmt_parts-returns-in_ok-made-in-Try g t c = try_arm c.walk_boxed_try.new.n c.in-Try.is c.in-Try.n-is (search rules) c.in_ok-made-in-Try.ensures

pub statements::walk_try-returns : goal.statements::walk_try-returns
statements::walk_try-returns g t c = try_made c.args.n.now c.walk_inner_block.new.n c.walk_handler.new.h c.walk_finalizer.new.f c.in_ok-block.ensures c.in_ok-handler.ensures c.in_ok-finalizer.ensures

pub statements::walk_stmt_parts-returns-in_ok-made-in-While : goal.statements::walk_stmt_parts-returns-in_ok-made-in-While
statements::walk_stmt_parts-returns-in_ok-made-in-While g t c = while_arm c.walk_loop.new.n c.in-While.is c.in-While.n-is (search rules) c.in_ok-made-in-While.ensures

pub statements::walk_stmt_parts-returns-in_ok-made-in-DoWhile : goal.statements::walk_stmt_parts-returns-in_ok-made-in-DoWhile
statements::walk_stmt_parts-returns-in_ok-made-in-DoWhile g t c = do_while_arm c.walk_loop-in-DoWhile.new.n c.in-DoWhile.is c.in-DoWhile.n-is (search rules) c.in_ok-made-in-DoWhile.ensures

pub statements::walk_stmt_parts-returns-in_ok-made-in-For : goal.statements::walk_stmt_parts-returns-in_ok-made-in-For
statements::walk_stmt_parts-returns-in_ok-made-in-For g t c = for_arm c.walk_boxed_for.new.n c.in-For.is c.in-For.n-is (search rules) c.in_ok-made-in-For.ensures

pub statements::walk_stmt_parts-returns-in_ok-made-in-Decl : goal.statements::walk_stmt_parts-returns-in_ok-made-in-Decl
statements::walk_stmt_parts-returns-in_ok-made-in-Decl g t c = decl_arm c.walk_decl.new.d c.in-Decl.is c.in-Decl.n-is (search rules) c.in_ok-made-in-Decl.ensures

pub statements::walk_stmt_parts-returns-in_ok-made-in-Expr : goal.statements::walk_stmt_parts-returns-in_ok-made-in-Expr
statements::walk_stmt_parts-returns-in_ok-made-in-Expr g t c = expr_stmt_arm c.walk_boxed-in-Expr.new.e c.in-Expr.is c.in-Expr.n-is (search rules) c.in_ok-made-in-Expr.ensures.0

pub statements::walk_alt-returns-in_ok-made-in-Some : goal.statements::walk_alt-returns-in_ok-made-in-Some
statements::walk_alt-returns-in_ok-made-in-Some g t c = option_some stmt_tree _ c.in-Some.n c.walk_boxed_stmt.new.s _ c.in-Some.is c.in_ok-made-in-Some.ensures

pub statements::walk_alt-returns-in-None : goal.statements::walk_alt-returns-in-None
statements::walk_alt-returns-in-None g t c = option_none _ stmt_tree _ c.in-None.is

pub statements::walk_handler-returns-in_ok-made-in-Some : goal.statements::walk_handler-returns-in_ok-made-in-Some
statements::walk_handler-returns-in_ok-made-in-Some g t c = handler_made _ _ c.in-Some.n c.in-Some.n c.walk_inner_block.new.n c.in-Some.is refl refl c.in_ok-made-in-Some.ensures

pub statements::walk_handler-returns-in-None : goal.statements::walk_handler-returns-in-None
statements::walk_handler-returns-in-None g t c = no_handler _ _ c.in-None.is

pub statements::walk_finalizer-returns-in_ok-made-in-Some : goal.statements::walk_finalizer-returns-in_ok-made-in-Some
statements::walk_finalizer-returns-in_ok-made-in-Some g t c = walks_at (ap (option_block_tree stmt_tree) c.in-Some.is) refl c.in_ok-made-in-Some.ensures

pub statements::walk_finalizer-returns-in-None : goal.statements::walk_finalizer-returns-in-None
statements::walk_finalizer-returns-in-None g t c = unvisited_at _ (option_block_tree stmt_tree) (ap (option_block_tree stmt_tree) c.in-None.is) refl

pub statements::walk_if-returns : goal.statements::walk_if-returns
statements::walk_if-returns g t c = if_made _ _ c.args.n.now.test c.walk_boxed.new.e c.args.n.now.cons c.walk_boxed_stmt.new.s c.args.n.now.alt c.walk_alt.new.s (if_tree-is _) (if_tree-is _) c.in_ok-test.ensures.0 c.in_ok-cons.ensures c.in_ok-alt.ensures

pub statements::walk_switch-returns : goal.statements::walk_switch-returns
statements::walk_switch-returns g t c = switch_rolled c.args.n.now c.walk_boxed.new.e c.walk_cases.new.cs c.in_ok-discriminant.ensures.0 c.in_ok-cases.ensures

pub statements::walk_case-returns : goal.statements::walk_case-returns
statements::walk_case-returns g t c = case_made _ _ c.args.n.now.test c.walk_option.new.e c.args.n.now.cons c.walk_part.new.stmts (case_trees-is _) (case_trees-is _) c.in_ok-test.ensures c.in_ok-cons.ensures

pub statements::walk_loop-returns : goal.statements::walk_loop-returns
statements::walk_loop-returns g t c = loop_made _ c.args.n.now.test c.walk_boxed.new.e c.args.n.now.body c.walk_boxed_stmt.new.s (loop_trees-is _) (loop_trees-is _) c.in_ok-test.ensures.0 c.in_ok-body.ensures

pub statements::walk_for-returns : goal.statements::walk_for-returns
statements::walk_for-returns g t c = for_made _ _ _ c.args.n.now.init c.walk_init.new.i c.args.n.now.test c.walk_option.new.e c.args.n.now.update c.walk_option-2.new.e c.args.n.now.body c.walk_boxed_stmt.new.s (for_tree-is _) (for_tree-is _) c.in_ok-init.ensures c.in_ok-test.ensures c.in_ok-update.ensures c.in_ok-body.ensures

pub statements::walk_init-returns-in-None : goal.statements::walk_init-returns-in-None
statements::walk_init-returns-in-None g t c = walked (unvisited_at _ (option_init_tree expr_tree) (ap (option_init_tree expr_tree) c.in-None.is) refl)

pub statements::walk_init-returns-in_ok-made-in-Some : goal.statements::walk_init-returns-in_ok-made-in-Some
statements::walk_init-returns-in_ok-made-in-Some g t c = head_at (ap (option_init_tree expr_tree) c.in-Some.is) refl c.in_ok-made-in-Some.ensures

pub statements::walk_var_or_expr-returns-then-not-enters_head : goal.statements::walk_var_or_expr-returns-then-not-enters_head
statements::walk_var_or_expr-returns-then-not-enters_head g t c = init_shut _ _ c.in-VarDecl.is (c.if-not-enters_head.ensures refl)

pub statements::walk_var_or_expr-returns-in_ok-made-in-VarDecl : goal.statements::walk_var_or_expr-returns-in_ok-made-in-VarDecl
statements::walk_var_or_expr-returns-in_ok-made-in-VarDecl g t c = init_var _ _ c.in-VarDecl.n c.in-VarDecl.n c.walk_var.new.n c.in-VarDecl.is refl refl c.in_ok-made-in-VarDecl.ensures

pub statements::walk_var_or_expr-returns-in_ok-made-in-Expr : goal.statements::walk_var_or_expr-returns-in_ok-made-in-Expr
statements::walk_var_or_expr-returns-in_ok-made-in-Expr g t c = init_expr _ _ c.in-Expr.n c.in-Expr.n c.walk_boxed.new.e c.in-Expr.is refl refl c.in_ok-made-in-Expr.ensures.0

pub statements::walk_var-returns : goal.statements::walk_var-returns
statements::walk_var-returns g t c = var_made c.args.n.now c.walk_declarators.new.ds _ c.in_ok-made.ensures

pub statements::walk_declarator-returns : goal.statements::walk_declarator-returns
statements::walk_declarator-returns g t c = declarator_made c.args.n.now (record c.args.n.now { init = c.walk_option.new.e }) _ refl c.in_ok-made.ensures

pub statements::walk_decl-returns-in_ok-made-in-Fn : goal.statements::walk_decl-returns-in_ok-made-in-Fn
statements::walk_decl-returns-in_ok-made-in-Fn g t c = fn_decl_arm c.walk_boxed_function.new.n c.in-Fn.is c.in-Fn.n-is (search rules) c.in_ok-made-in-Fn.ensures

pub statements::walk_decl-returns-in_ok-made-in-Var : goal.statements::walk_decl-returns-in_ok-made-in-Var
statements::walk_decl-returns-in_ok-made-in-Var g t c = var_arm c.walk_var.new.n c.in-Var.is c.in-Var.n-is (search rules) c.in_ok-made-in-Var.ensures

pub expressions::walk_props-loop-i-init : goal.expressions::walk_props-loop-i-init
expressions::walk_props-loop-i-init g t c = (search rules, none)

pub expressions::walk_props-loop-i-preserved : goal.expressions::walk_props-loop-i-preserved
expressions::walk_props-loop-i-preserved g t c = (search rules, each_more _ _ _ _ _ _ _ _ (search rules) c.loop-i.invariant.0.0 (search rules) c.in_ok-made.ensures c.loop-i.invariant.1)

pub expressions::walk_props-returns : goal.expressions::walk_props-returns
expressions::walk_props-returns g t c = each_all _ _ _ _ _ (search rules) c.loop-i.invariant.0.0 c.loop-i.invariant.1

pub expressions::walk_params-loop-i-init : goal.expressions::walk_params-loop-i-init
expressions::walk_params-loop-i-init g t c = (search rules, none)

pub expressions::walk_params-loop-i-preserved : goal.expressions::walk_params-loop-i-preserved
expressions::walk_params-loop-i-preserved g t c = (search rules, each_more _ _ _ _ _ _ _ _ (search rules) c.loop-i.invariant.0.0 (search rules) c.in_ok-made.ensures c.loop-i.invariant.1)

pub expressions::walk_params-returns : goal.expressions::walk_params-returns
expressions::walk_params-returns g t c = each_all _ _ _ _ _ (search rules) c.loop-i.invariant.0.0 c.loop-i.invariant.1

pub statements::walk_stmts-loop-i-init : goal.statements::walk_stmts-loop-i-init
statements::walk_stmts-loop-i-init g t c = (search rules, none)

pub statements::walk_stmts-loop-i-preserved : goal.statements::walk_stmts-loop-i-preserved
statements::walk_stmts-loop-i-preserved g t c = (search rules, each_more _ _ _ _ _ _ _ _ (search rules) c.loop-i.invariant.0.0 (search rules) c.in_ok-made.ensures c.loop-i.invariant.1)

pub statements::walk_stmts-returns : goal.statements::walk_stmts-returns
statements::walk_stmts-returns g t c = each_all _ _ _ _ _ (search rules) c.loop-i.invariant.0.0 c.loop-i.invariant.1

pub statements::walk_cases-loop-i-init : goal.statements::walk_cases-loop-i-init
statements::walk_cases-loop-i-init g t c = (search rules, none)

pub statements::walk_cases-loop-i-preserved : goal.statements::walk_cases-loop-i-preserved
statements::walk_cases-loop-i-preserved g t c = (search rules, each_more _ _ _ _ _ _ _ _ (search rules) c.loop-i.invariant.0.0 (search rules) c.in_ok-made.ensures c.loop-i.invariant.1)

pub statements::walk_cases-returns : goal.statements::walk_cases-returns
statements::walk_cases-returns g t c = each_all _ _ _ _ _ (search rules) c.loop-i.invariant.0.0 c.loop-i.invariant.1

pub statements::walk_declarators-loop-i-init : goal.statements::walk_declarators-loop-i-init
statements::walk_declarators-loop-i-init g t c = (search rules, none)

pub statements::walk_declarators-loop-i-preserved : goal.statements::walk_declarators-loop-i-preserved
statements::walk_declarators-loop-i-preserved g t c = (search rules, each_more _ _ _ _ c.index_mut.result.now c.walk_declarator.new.n _ _ (search rules) c.loop-i.invariant.0.0 (search rules) c.in_ok-made.ensures c.loop-i.invariant.1)

pub statements::walk_declarators-returns : goal.statements::walk_declarators-returns
statements::walk_declarators-returns g t c = each_all _ _ _ _ _ (search rules) c.loop-i.invariant.0.0 c.loop-i.invariant.1
