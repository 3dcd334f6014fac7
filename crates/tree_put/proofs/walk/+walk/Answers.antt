use Rattle.std.proofs.Common.{rules, refl, sym, ap, ◌∙◌}
use Rattle.swc_ast.proofs.Equations.{function_trees-is, arrow_tree-is, if_tree-is, case_trees-is, loop_trees-is, for_tree-is}
use Rattle.tree_put.proofs.Putting.{told, entered, stayed, became, each_more, each_all, each_list, in_scope}
use Rattle.tree_put.proofs.Arms.{is_asked, this_arm, ident_arm, lit_arm, invalid_arm, bin_arm, cond_arm, new_arm, seq_arm, tpl_arm, object_arm, unary_arm, member_arm, arrow_arm, update_arm, update_made, assign_arm, assign_made, call_arm, array_arm, member_parts, member_target, fn_arm, target_name, target_at, operand_made, operand_deleted}
use Rattle.tree_put.proofs.FunctionArms.{spread_arm, prop_arm, key_value_arm, key_value_made, method_arm, method_rolled, key_stays, computed_key, name_param, assign_param, function_made, arrow_made, arrow_block, arrow_expr, prop_becomes, prop_stays}
use Rattle.tree_put.proofs.StatementArms.{body_made, block_made, block_arm, empty_arm, break_arm, continue_arm, return_arm, labeled_arm, throw_arm, expr_stmt_arm, if_made, if_arm, switch_arm, for_arm, decl_arm, try_arm, while_arm, do_while_arm, loop_made, do_loop_made, for_made, no_handler, no_finalizer, try_made, switch_rolled, case_made, declarator_made, var_made, fn_decl_arm, var_arm, no_init}
use Rattle.swc_ast.specs.Expressions.{key_tree}
use Rattle.swc_ast.specs.Tree.{Arrow, For, CaseBody, children_of}
use Rattle.swc_ast.specs.Views.{expr_tree}
use Rattle.tree_put.specs.Walks.{none}
use Rattle.tree_put.specs.declared.rules.Put.TheVariants as in_put
use Rattle.tree_put.proofs.walk.+walk.Goals as goal

pub expressions::put_expr-returns-in_ok-put_parts-in-Enter : goal.expressions::put_expr-returns-in_ok-put_parts-in-Enter
expressions::put_expr-returns-in_ok-put_parts-in-Enter g t c = entered (is_asked _) (told c.in_ok-expression.field-0 in_put.Enter c.in-Enter.is c.in_ok-expression.ensures) c.in_ok-put_parts-in-Enter.ensures

pub expressions::put_expr-returns-in-Stay : goal.expressions::put_expr-returns-in-Stay
expressions::put_expr-returns-in-Stay g t c = stayed (is_asked _) (told c.in_ok-expression.field-0 in_put.Stay c.in-Stay.is c.in_ok-expression.ensures)

pub expressions::put_expr-returns-in-Become : goal.expressions::put_expr-returns-in-Become
expressions::put_expr-returns-in-Become g t c = became (is_asked _) (told c.in_ok-expression.field-0 (in_put.Become c.in-Become.v) c.in-Become.is c.in_ok-expression.ensures)

pub expressions::put_parts-returns-in-This : goal.expressions::put_parts-returns-in-This
expressions::put_parts-returns-in-This g t c = this_arm c.in-This.is

pub expressions::put_parts-returns-in-Ident : goal.expressions::put_parts-returns-in-Ident
expressions::put_parts-returns-in-Ident g t c = ident_arm c.in-Ident.is

pub expressions::put_parts-returns-in-Lit : goal.expressions::put_parts-returns-in-Lit
expressions::put_parts-returns-in-Lit g t c = lit_arm c.in-Lit.is

pub expressions::put_parts-returns-in-Invalid : goal.expressions::put_parts-returns-in-Invalid
expressions::put_parts-returns-in-Invalid g t c = invalid_arm c.in-Invalid.is

pub expressions::put_parts-returns-in_ok-put_items-in-Array : goal.expressions::put_parts-returns-in_ok-put_items-in-Array
expressions::put_parts-returns-in_ok-put_items-in-Array g t c = array_arm c.put_items.new.es c.in-Array.is c.in-Array.n-is (search rules) c.in_ok-put_items-in-Array.ensures

pub expressions::put_parts-returns-in_ok-put_unary-in-Unary : goal.expressions::put_parts-returns-in_ok-put_unary-in-Unary
expressions::put_parts-returns-in_ok-put_unary-in-Unary g t c = unary_arm c.put_unary.new.n c.in-Unary.is c.in-Unary.n-is (search rules) c.in_ok-put_unary-in-Unary.ensures

pub expressions::put_parts-returns-in_ok-put_boxed_update-in-Update : goal.expressions::put_parts-returns-in_ok-put_boxed_update-in-Update
expressions::put_parts-returns-in_ok-put_boxed_update-in-Update g t c = update_arm c.put_boxed_update.new.n c.in-Update.is c.in-Update.n-is (search rules) c.in_ok-put_boxed_update-in-Update.ensures

pub expressions::put_update-returns : goal.expressions::put_update-returns
expressions::put_update-returns g t c = update_made c.args.n.now c.put_target.new.t c.in_ok-put_target.ensures

pub expressions::put_parts-returns-in_ok-put_boxed-in-Bin-2 : goal.expressions::put_parts-returns-in_ok-put_boxed-in-Bin-2
expressions::put_parts-returns-in_ok-put_boxed-in-Bin-2 g t c = bin_arm c.put_boxed.new.e c.put_boxed-in-Bin.new.e c.in-Bin.is c.in-Bin.n-is (search rules) c.in_ok-put_boxed-in-Bin.ensures c.in_ok-put_boxed-in-Bin-2.ensures

pub expressions::put_parts-returns-in_ok-put_boxed_assign-in-Assign : goal.expressions::put_parts-returns-in_ok-put_boxed_assign-in-Assign
expressions::put_parts-returns-in_ok-put_boxed_assign-in-Assign g t c = assign_arm c.put_boxed_assign.new.n c.in-Assign.is c.in-Assign.n-is (search rules) c.in_ok-put_boxed_assign-in-Assign.ensures

pub expressions::put_assign-returns : goal.expressions::put_assign-returns
expressions::put_assign-returns g t c = assign_made c.args.n.now c.put_target.new.t c.put_boxed.new.e c.in_ok-put_target.ensures c.in_ok-put_boxed.ensures

pub expressions::put_parts-returns-in_ok-put_member-in-Member : goal.expressions::put_parts-returns-in_ok-put_member-in-Member
expressions::put_parts-returns-in_ok-put_member-in-Member g t c = member_arm c.put_member.new.n c.in-Member.is c.in-Member.n-is (search rules) c.in_ok-put_member-in-Member.ensures

pub expressions::put_parts-returns-in_ok-put_boxed-in-Cond-3 : goal.expressions::put_parts-returns-in_ok-put_boxed-in-Cond-3
expressions::put_parts-returns-in_ok-put_boxed-in-Cond-3 g t c = cond_arm c.put_boxed-in-Cond.new.e c.put_boxed-in-Cond-2.new.e c.put_boxed-in-Cond-3.new.e c.in-Cond.is c.in-Cond.n-is (search rules) c.in_ok-put_boxed-in-Cond.ensures c.in_ok-put_boxed-in-Cond-2.ensures c.in_ok-put_boxed-in-Cond-3.ensures

pub expressions::put_parts-returns-in_ok-put_exprs-in-Call : goal.expressions::put_parts-returns-in_ok-put_exprs-in-Call
expressions::put_parts-returns-in_ok-put_exprs-in-Call g t c = call_arm c.put_boxed-in-Call.new.e c.put_exprs.new.es c.in-Call.is c.in-Call.n-is (search rules) c.in_ok-put_boxed-in-Call.ensures c.in_ok-put_exprs-in-Call.ensures

pub expressions::put_parts-returns-in_ok-put_exprs-in-New : goal.expressions::put_parts-returns-in_ok-put_exprs-in-New
expressions::put_parts-returns-in_ok-put_exprs-in-New g t c = new_arm c.put_boxed-in-New.new.e c.put_exprs-in-New.new.es c.in-New.is c.in-New.n-is (search rules) c.in_ok-put_boxed-in-New.ensures c.in_ok-put_exprs-in-New.ensures

pub expressions::put_parts-returns-in_ok-put_exprs-in-Seq : goal.expressions::put_parts-returns-in_ok-put_exprs-in-Seq
expressions::put_parts-returns-in_ok-put_exprs-in-Seq g t c = seq_arm c.put_exprs-in-Seq.new.es c.in-Seq.is c.in-Seq.n-is (search rules) c.in_ok-put_exprs-in-Seq.ensures

pub expressions::put_parts-returns-in_ok-put_exprs-in-Tpl : goal.expressions::put_parts-returns-in_ok-put_exprs-in-Tpl
expressions::put_parts-returns-in_ok-put_exprs-in-Tpl g t c = tpl_arm c.put_exprs-in-Tpl.new.es c.in-Tpl.is c.in-Tpl.n-is (search rules) c.in_ok-put_exprs-in-Tpl.ensures

pub expressions::put_parts-returns-in_ok-put_props-in-Object : goal.expressions::put_parts-returns-in_ok-put_props-in-Object
expressions::put_parts-returns-in_ok-put_props-in-Object g t c = object_arm c.put_props.new.ps c.in-Object.is c.in-Object.n-is (search rules) c.in_ok-put_props-in-Object.ensures

pub expressions::put_parts-returns-in_ok-close-in-Fn : goal.expressions::put_parts-returns-in_ok-close-in-Fn
expressions::put_parts-returns-in_ok-close-in-Fn g t c = fn_arm c.put_boxed_function.new.n c.in-Fn.is c.in-Fn.n-is (search rules) c.in_ok-open-in-Fn.ensures c.in_ok-put_boxed_function-in-Fn.ensures c.in_ok-close-in-Fn.ensures

pub expressions::put_parts-returns-in_ok-put_boxed_arrow-in-Arrow : goal.expressions::put_parts-returns-in_ok-put_boxed_arrow-in-Arrow
expressions::put_parts-returns-in_ok-put_boxed_arrow-in-Arrow g t c = arrow_arm c.put_boxed_arrow.new.n c.in-Arrow.is c.in-Arrow.n-is (search rules) c.in_ok-put_boxed_arrow-in-Arrow.ensures

pub expressions::put_exprs-loop-i-init : goal.expressions::put_exprs-loop-i-init
expressions::put_exprs-loop-i-init g t c = (search rules, none)

pub expressions::put_exprs-loop-i-preserved : goal.expressions::put_exprs-loop-i-preserved
expressions::put_exprs-loop-i-preserved g t c = (search rules, each_more _ _ _ _ _ (search rules) c.loop-i.invariant.0.0 (search rules) c.in_ok-put_expr.ensures c.loop-i.invariant.1)

pub expressions::put_exprs-returns : goal.expressions::put_exprs-returns
expressions::put_exprs-returns g t c = each_all _ _ _ (search rules) c.loop-i.invariant.0.0 c.loop-i.invariant.1

pub expressions::put_items-loop-i-init : goal.expressions::put_items-loop-i-init
expressions::put_items-loop-i-init g t c = (search rules, none)

pub expressions::put_items-loop-i-preserved : goal.expressions::put_items-loop-i-preserved
expressions::put_items-loop-i-preserved g t c = (search rules, each_more _ _ _ _ _ (search rules) c.loop-i.invariant.0.0 (search rules) c.in_ok-put_item.ensures c.loop-i.invariant.1)

pub expressions::put_items-returns : goal.expressions::put_items-returns
expressions::put_items-returns g t c = each_all _ _ _ (search rules) c.loop-i.invariant.0.0 c.loop-i.invariant.1

pub expressions::put_props-loop-i-init : goal.expressions::put_props-loop-i-init
expressions::put_props-loop-i-init g t c = (search rules, none)

pub expressions::put_props-loop-i-preserved : goal.expressions::put_props-loop-i-preserved
expressions::put_props-loop-i-preserved g t c = (search rules, each_more _ _ _ _ _ (search rules) c.loop-i.invariant.0.0 (search rules) c.in_ok-put_prop_or_spread.ensures c.loop-i.invariant.1)

pub expressions::put_props-returns : goal.expressions::put_props-returns
expressions::put_props-returns g t c = each_all _ _ _ (search rules) c.loop-i.invariant.0.0 c.loop-i.invariant.1

pub expressions::put_params-loop-i-init : goal.expressions::put_params-loop-i-init
expressions::put_params-loop-i-init g t c = (search rules, none)

pub expressions::put_params-loop-i-preserved : goal.expressions::put_params-loop-i-preserved
expressions::put_params-loop-i-preserved g t c = (search rules, each_more _ _ _ _ _ (search rules) c.loop-i.invariant.0.0 (search rules) c.in_ok-put_param.ensures c.loop-i.invariant.1)

pub expressions::put_params-returns : goal.expressions::put_params-returns
expressions::put_params-returns g t c = each_all _ _ _ (search rules) c.loop-i.invariant.0.0 c.loop-i.invariant.1

pub statements::put_stmts-loop-i-init : goal.statements::put_stmts-loop-i-init
statements::put_stmts-loop-i-init g t c = (search rules, none)

pub statements::put_stmts-loop-i-preserved : goal.statements::put_stmts-loop-i-preserved
statements::put_stmts-loop-i-preserved g t c = (search rules, each_more _ _ _ _ _ (search rules) c.loop-i.invariant.0.0 (search rules) c.in_ok-put_stmt.ensures c.loop-i.invariant.1)

pub statements::put_stmts-returns : goal.statements::put_stmts-returns
statements::put_stmts-returns g t c = each_all _ _ _ (search rules) c.loop-i.invariant.0.0 c.loop-i.invariant.1

pub statements::put_cases-loop-i-init : goal.statements::put_cases-loop-i-init
statements::put_cases-loop-i-init g t c = (search rules, none)

pub statements::put_cases-loop-i-preserved : goal.statements::put_cases-loop-i-preserved
statements::put_cases-loop-i-preserved g t c = (search rules, each_more _ _ _ _ _ (search rules) c.loop-i.invariant.0.0 (search rules) c.in_ok-put_case.ensures c.loop-i.invariant.1)

pub statements::put_cases-returns : goal.statements::put_cases-returns
statements::put_cases-returns g t c = each_all _ _ _ (search rules) c.loop-i.invariant.0.0 c.loop-i.invariant.1

pub statements::put_declarators-loop-i-init : goal.statements::put_declarators-loop-i-init
statements::put_declarators-loop-i-init g t c = (search rules, none)

pub statements::put_declarators-loop-i-preserved : goal.statements::put_declarators-loop-i-preserved
statements::put_declarators-loop-i-preserved g t c = (search rules, each_more _ _ _ c.index_mut.result.now c.put_declarator.new.n (search rules) c.loop-i.invariant.0.0 (search rules) c.in_ok-put_declarator.ensures c.loop-i.invariant.1)

pub statements::put_declarators-returns : goal.statements::put_declarators-returns
statements::put_declarators-returns g t c = each_all _ _ _ (search rules) c.loop-i.invariant.0.0 c.loop-i.invariant.1

pub expressions::put_unary-returns-in-None : goal.expressions::put_unary-returns-in-None
expressions::put_unary-returns-in-None g t c = operand_deleted _ c.args.n.now _ (sym c.operand_spot.ensures ∙ c.in-None.is)

pub expressions::put_unary-returns-in_ok-put_boxed-in-Some : goal.expressions::put_unary-returns-in_ok-put_boxed-in-Some
expressions::put_unary-returns-in_ok-put_boxed-in-Some g t c = operand_made c.args.n.now c.put_boxed.new.e (sym c.operand_spot.ensures ∙ c.in-Some.is) c.in_ok-put_boxed-in-Some.ensures

pub expressions::put_member-returns : goal.expressions::put_member-returns
expressions::put_member-returns g t c = member_parts c.args.n.now (record c.args.n.now { obj = c.put_boxed.new.e; prop = c.put_member_prop.new.p }) refl c.in_ok-put_boxed.ensures c.in_ok-put_member_prop.ensures

pub expressions::put_target_member-returns : goal.expressions::put_target_member-returns
expressions::put_target_member-returns g t c = member_target c.args.n.now (record c.args.n.now { obj = c.put_boxed.new.e; prop = c.put_member_prop.new.p }) refl c.in_ok-put_boxed.ensures c.in_ok-put_member_prop.ensures

pub expressions::put_target-returns-in-Ident : goal.expressions::put_target-returns-in-Ident
expressions::put_target-returns-in-Ident g t c = target_name _ _ _ c.in-Ident.is

pub expressions::put_target-returns-in_ok-put_target_member-in-Member : goal.expressions::put_target-returns-in_ok-put_target_member-in-Member
expressions::put_target-returns-in_ok-put_target_member-in-Member g t c = target_at c.put_target_member.new.n c.in-Member.is c.in-Member.n-is (search rules) c.in_ok-put_target_member-in-Member.ensures

pub expressions::put_prop_or_spread-returns-in_ok-put_boxed-in-Spread : goal.expressions::put_prop_or_spread-returns-in_ok-put_boxed-in-Spread
expressions::put_prop_or_spread-returns-in_ok-put_boxed-in-Spread g t c = spread_arm c.put_boxed.new.e c.in-Spread.is c.in-Spread.n-is (search rules) c.in_ok-put_boxed-in-Spread.ensures

pub expressions::put_prop_or_spread-returns-in_ok-put_prop-in-Prop : goal.expressions::put_prop_or_spread-returns-in_ok-put_prop-in-Prop
expressions::put_prop_or_spread-returns-in_ok-put_prop-in-Prop g t c = prop_arm c.put_prop.new.p c.in-Prop.is c.in-Prop.n-is (search rules) c.in_ok-put_prop-in-Prop.ensures

pub expressions::put_prop-returns-in_ok-put_key_value-in-KeyValue : goal.expressions::put_prop-returns-in_ok-put_key_value-in-KeyValue
expressions::put_prop-returns-in_ok-put_key_value-in-KeyValue g t c = key_value_arm c.put_key_value.new.n c.in-KeyValue.is c.in-KeyValue.n-is (search rules) c.in_ok-put_key_value-in-KeyValue.ensures

pub expressions::put_prop-returns-in_ok-put_method-in-Method : goal.expressions::put_prop-returns-in_ok-put_method-in-Method
expressions::put_prop-returns-in_ok-put_method-in-Method g t c = method_arm c.put_method.new.n c.in-Method.is c.in-Method.n-is (search rules) c.in_ok-put_method-in-Method.ensures

pub expressions::put_prop-returns-in-Some : goal.expressions::put_prop-returns-in-Some
expressions::put_prop-returns-in-Some g t c = prop_becomes c.put_shorthand.new.n c.in-Some.q c.in-Shorthand.is c.in-Shorthand.n-is c.in-Some.is c.in_ok-made-in-Shorthand.ensures

pub expressions::put_prop-returns-in_default : goal.expressions::put_prop-returns-in_default
expressions::put_prop-returns-in_default g t c = prop_stays c.put_shorthand.new.n _ c.in-Shorthand.is c.in-Shorthand.n-is (search rules) c.in_default.not-Some c.in_ok-made-in-Shorthand.ensures

pub expressions::put_key_value-returns : goal.expressions::put_key_value-returns
expressions::put_key_value-returns g t c = key_value_made c.args.n.now (record c.args.n.now { key = c.put_key.new.k; value = c.put_boxed.new.e }) c.in_ok-put_key.ensures c.in_ok-put_boxed.ensures

pub expressions::put_key-returns-in-Ident : goal.expressions::put_key-returns-in-Ident
expressions::put_key-returns-in-Ident g t c = key_stays _ c.args.k.now _ (ap (key_tree expr_tree) c.in-Ident.is)

pub expressions::put_key-returns-in-Str : goal.expressions::put_key-returns-in-Str
expressions::put_key-returns-in-Str g t c = key_stays _ c.args.k.now _ (ap (key_tree expr_tree) c.in-Str.is)

pub expressions::put_key-returns-in-Num : goal.expressions::put_key-returns-in-Num
expressions::put_key-returns-in-Num g t c = key_stays _ c.args.k.now _ (ap (key_tree expr_tree) c.in-Num.is)

pub expressions::put_key-returns-in_ok-put_boxed-in-Computed : goal.expressions::put_key-returns-in_ok-put_boxed-in-Computed
expressions::put_key-returns-in_ok-put_boxed-in-Computed g t c = computed_key c.put_boxed.new.e c.in-Computed.is refl refl c.in_ok-put_boxed-in-Computed.ensures

pub expressions::put_method-returns : goal.expressions::put_method-returns
expressions::put_method-returns g t c = method_rolled c.args.n.now c.put_key.new.k c.put_boxed_function.new.n c.in_ok-put_key.ensures c.in_ok-open.ensures c.in_ok-put_boxed_function.ensures c.in_ok-close.ensures

pub expressions::put_function-returns : goal.expressions::put_function-returns
expressions::put_function-returns g t c = function_made _ c.args.n.now.params c.put_params.new.ps c.args.n.now.body c.put_body.new.n (function_trees-is _) (function_trees-is _) c.in_ok-put_params.ensures c.in_ok-put_body.ensures

pub expressions::put_param-returns-in-Ident : goal.expressions::put_param-returns-in-Ident
expressions::put_param-returns-in-Ident g t c = name_param _ _ c.in-Ident.is

pub expressions::put_param-returns-in_ok-put_boxed-in-Assign : goal.expressions::put_param-returns-in_ok-put_boxed-in-Assign
expressions::put_param-returns-in_ok-put_boxed-in-Assign g t c = assign_param c.put_boxed.new.e c.in-Assign.is refl refl c.in_ok-put_boxed-in-Assign.ensures

pub expressions::put_arrow-returns : goal.expressions::put_arrow-returns
expressions::put_arrow-returns g t c = arrow_made _ c.args.n.now.params c.put_params.new.ps c.args.n.now.body c.put_arrow_body.new.b (arrow_tree-is _) (arrow_tree-is _) (ap (λ t. (g.P.Puts.puts).opens (g.P.Puts.state c.args.rules.now) Arrow (children_of t)) (sym (arrow_tree-is _)) ∙ c.in_ok-open.ensures) c.in_ok-put_params.ensures c.in_ok-put_arrow_body.ensures c.in_ok-close.ensures

pub expressions::put_arrow_body-returns-in_ok-put_body-in-BlockStmt : goal.expressions::put_arrow_body-returns-in_ok-put_body-in-BlockStmt
expressions::put_arrow_body-returns-in_ok-put_body-in-BlockStmt g t c = arrow_block c.put_body.new.n c.in-BlockStmt.is c.in-BlockStmt.n-is (search rules) c.in_ok-put_body-in-BlockStmt.ensures

pub expressions::put_arrow_body-returns-in_ok-put_boxed-in-Expr : goal.expressions::put_arrow_body-returns-in_ok-put_boxed-in-Expr
expressions::put_arrow_body-returns-in_ok-put_boxed-in-Expr g t c = arrow_expr c.put_boxed.new.e c.in-Expr.is c.in-Expr.n-is (search rules) c.in_ok-put_boxed-in-Expr.ensures

pub statements::put_body-returns : goal.statements::put_body-returns
statements::put_body-returns g t c = body_made c.args.n.now (record c.args.n.now { stmts = c.put_stmts.new.ss }) refl c.in_ok-open.ensures c.in_ok-put_stmts.ensures c.in_ok-close.ensures

pub statements::put_block-returns : goal.statements::put_block-returns
statements::put_block-returns g t c = block_made c.args.n.now (record c.args.n.now { stmts = c.put_stmts.new.ss }) refl c.in_ok-open.ensures c.in_ok-put_stmts.ensures c.in_ok-close.ensures

pub statements::put_stmt-returns-in_ok-put_block-in-Block : goal.statements::put_stmt-returns-in_ok-put_block-in-Block
statements::put_stmt-returns-in_ok-put_block-in-Block g t c = block_arm c.put_block.new.n c.in-Block.is c.in-Block.n-is (search rules) c.in_ok-put_block-in-Block.ensures

pub statements::put_stmt-returns-in-Empty : goal.statements::put_stmt-returns-in-Empty
statements::put_stmt-returns-in-Empty g t c = empty_arm _ _ c.in-Empty.is

pub statements::put_stmt-returns-in-Break : goal.statements::put_stmt-returns-in-Break
statements::put_stmt-returns-in-Break g t c = break_arm _ _ c.in-Break.is

pub statements::put_stmt-returns-in-Continue : goal.statements::put_stmt-returns-in-Continue
statements::put_stmt-returns-in-Continue g t c = continue_arm _ _ c.in-Continue.is

pub statements::put_stmt-returns-in_ok-put_option-in-Return : goal.statements::put_stmt-returns-in_ok-put_option-in-Return
statements::put_stmt-returns-in_ok-put_option-in-Return g t c = return_arm c.put_option.new.e c.in-Return.is c.in-Return.n-is (search rules) c.in_ok-put_option-in-Return.ensures

pub statements::put_stmt-returns-in_ok-put_boxed_stmt-in-Labeled : goal.statements::put_stmt-returns-in_ok-put_boxed_stmt-in-Labeled
statements::put_stmt-returns-in_ok-put_boxed_stmt-in-Labeled g t c = labeled_arm c.put_boxed_stmt.new.s c.in-Labeled.is c.in-Labeled.n-is (search rules) c.in_ok-put_boxed_stmt-in-Labeled.ensures

pub statements::put_stmt-returns-in_ok-put_if-in-If : goal.statements::put_stmt-returns-in_ok-put_if-in-If
statements::put_stmt-returns-in_ok-put_if-in-If g t c = if_arm c.put_if.new.n c.in-If.is c.in-If.n-is (search rules) c.in_ok-put_if-in-If.ensures

pub statements::put_stmt-returns-in_ok-put_switch-in-Switch : goal.statements::put_stmt-returns-in_ok-put_switch-in-Switch
statements::put_stmt-returns-in_ok-put_switch-in-Switch g t c = switch_arm c.put_switch.new.n c.in-Switch.is c.in-Switch.n-is (search rules) c.in_ok-put_switch-in-Switch.ensures

pub statements::put_stmt-returns-in_ok-put_boxed-in-Throw : goal.statements::put_stmt-returns-in_ok-put_boxed-in-Throw
statements::put_stmt-returns-in_ok-put_boxed-in-Throw g t c = throw_arm c.put_boxed.new.e c.in-Throw.is c.in-Throw.n-is (search rules) c.in_ok-put_boxed-in-Throw.ensures

pub statements::put_stmt-returns-in_ok-put_boxed_try-in-Try : goal.statements::put_stmt-returns-in_ok-put_boxed_try-in-Try
statements::put_stmt-returns-in_ok-put_boxed_try-in-Try g t c = try_arm c.put_boxed_try.new.n c.in-Try.is c.in-Try.n-is (search rules) c.in_ok-put_boxed_try-in-Try.ensures

pub statements::put_stmt-returns-in_ok-put_while-in-While : goal.statements::put_stmt-returns-in_ok-put_while-in-While
statements::put_stmt-returns-in_ok-put_while-in-While g t c = while_arm c.put_while.new.n c.in-While.is c.in-While.n-is (search rules) c.in_ok-put_while-in-While.ensures

pub statements::put_stmt-returns-in_ok-put_do_while-in-DoWhile : goal.statements::put_stmt-returns-in_ok-put_do_while-in-DoWhile
statements::put_stmt-returns-in_ok-put_do_while-in-DoWhile g t c = do_while_arm c.put_do_while.new.n c.in-DoWhile.is c.in-DoWhile.n-is (search rules) c.in_ok-put_do_while-in-DoWhile.ensures

pub statements::put_stmt-returns-in_ok-put_boxed_for-in-For : goal.statements::put_stmt-returns-in_ok-put_boxed_for-in-For
statements::put_stmt-returns-in_ok-put_boxed_for-in-For g t c = for_arm c.put_boxed_for.new.n c.in-For.is c.in-For.n-is (search rules) c.in_ok-put_boxed_for-in-For.ensures

pub statements::put_stmt-returns-in_ok-put_decl-in-Decl : goal.statements::put_stmt-returns-in_ok-put_decl-in-Decl
statements::put_stmt-returns-in_ok-put_decl-in-Decl g t c = decl_arm c.put_decl.new.d c.in-Decl.is c.in-Decl.n-is (search rules) c.in_ok-put_decl-in-Decl.ensures

pub statements::put_stmt-returns-in_ok-put_boxed-in-Expr : goal.statements::put_stmt-returns-in_ok-put_boxed-in-Expr
statements::put_stmt-returns-in_ok-put_boxed-in-Expr g t c = expr_stmt_arm c.put_boxed-in-Expr.new.e c.in-Expr.is c.in-Expr.n-is (search rules) c.in_ok-put_boxed-in-Expr.ensures

pub statements::put_try-returns : goal.statements::put_try-returns
statements::put_try-returns g t c = try_made c.args.n.now (record c.args.n.now { block = c.put_block.new.n; handler = c.put_handler.new.h; finalizer = c.put_finalizer.new.f }) refl c.in_ok-put_block.ensures c.in_ok-put_handler.ensures c.in_ok-put_finalizer.ensures

pub statements::put_handler-returns-in-None : goal.statements::put_handler-returns-in-None
statements::put_handler-returns-in-None g t c = no_handler _ _ _ c.in-None.is

pub statements::put_finalizer-returns-in-None : goal.statements::put_finalizer-returns-in-None
statements::put_finalizer-returns-in-None g t c = no_finalizer _ _ _ c.in-None.is

pub statements::put_if-returns : goal.statements::put_if-returns
statements::put_if-returns g t c = if_made _ c.args.n.now.test c.put_boxed.new.e c.args.n.now.cons c.put_boxed_stmt.new.s c.args.n.now.alt c.put_alt.new.s (if_tree-is _) (if_tree-is _) c.in_ok-put_boxed.ensures c.in_ok-put_boxed_stmt.ensures c.in_ok-put_alt.ensures

pub statements::put_switch-returns : goal.statements::put_switch-returns
statements::put_switch-returns g t c = switch_rolled c.args.n.now c.put_boxed.new.e c.put_cases.new.cs c.in_ok-put_boxed.ensures c.in_ok-open.ensures c.in_ok-put_cases.ensures c.in_ok-close.ensures

pub statements::put_case-returns : goal.statements::put_case-returns
statements::put_case-returns g t c = case_made _ c.args.n.now.test c.put_option.new.e c.args.n.now.cons c.put_case_body.new.ss (case_trees-is _) (case_trees-is _) c.in_ok-put_option.ensures c.in_ok-put_case_body.ensures

pub statements::put_case_body-returns : goal.statements::put_case_body-returns
statements::put_case_body-returns g t c = in_scope {l = CaseBody} c.in_ok-open.ensures (each_list c.in_ok-put_stmts.ensures) c.in_ok-close.ensures

pub statements::put_while-returns : goal.statements::put_while-returns
statements::put_while-returns g t c = loop_made _ c.args.n.now.test c.put_boxed.new.e c.args.n.now.body c.put_boxed_stmt.new.s (loop_trees-is _) (loop_trees-is _) c.in_ok-put_boxed.ensures c.in_ok-put_boxed_stmt.ensures

pub statements::put_do_while-returns : goal.statements::put_do_while-returns
statements::put_do_while-returns g t c = do_loop_made _ c.args.n.now.test c.put_boxed.new.e c.args.n.now.body c.put_boxed_stmt.new.s (loop_trees-is _) (loop_trees-is _) c.in_ok-put_boxed_stmt.ensures c.in_ok-put_boxed.ensures

pub statements::put_for-returns : goal.statements::put_for-returns
statements::put_for-returns g t c = for_made (g.P.Puts.state c.put_option.new.rules) _ c.args.n.now.init c.put_init.new.i c.args.n.now.test c.put_option.new.e c.args.n.now.update c.put_option-2.new.e c.args.n.now.body c.put_boxed_stmt.new.s (for_tree-is _) (for_tree-is _) (ap (λ t. (g.P.Puts.puts).opens (g.P.Puts.state c.args.rules.now) For (children_of t)) (sym (for_tree-is _)) ∙ c.in_ok-open.ensures) c.in_ok-put_init.ensures c.in_ok-put_option.ensures c.in_ok-put_option-2.ensures c.in_ok-put_boxed_stmt.ensures c.in_ok-close.ensures

pub statements::put_init-returns-in-None : goal.statements::put_init-returns-in-None
statements::put_init-returns-in-None g t c = no_init _ _ _ c.in-None.is

pub statements::put_var-returns : goal.statements::put_var-returns
statements::put_var-returns g t c = var_made c.args.n.now c.put_declarators.new.ds c.in_ok-put_declarators.ensures

pub statements::put_declarator-returns : goal.statements::put_declarator-returns
statements::put_declarator-returns g t c = declarator_made (g.P.Puts.state c.put_option.new.rules) c.args.kind c.args.n.now (record c.args.n.now { init = c.put_option.new.e }) refl refl c.in_ok-put_option.ensures c.in_ok-declare.ensures

pub statements::put_decl-returns-in_ok-close-in-Fn : goal.statements::put_decl-returns-in_ok-close-in-Fn
statements::put_decl-returns-in_ok-close-in-Fn g t c = fn_decl_arm c.put_boxed_function.new.n c.in-Fn.is c.in-Fn.n-is (search rules) c.in_ok-open-in-Fn.ensures c.in_ok-put_boxed_function-in-Fn.ensures c.in_ok-close-in-Fn.ensures

pub statements::put_decl-returns-in_ok-put_var-in-Var : goal.statements::put_decl-returns-in_ok-put_var-in-Var
statements::put_decl-returns-in_ok-put_var-in-Var g t c = var_arm c.put_var.new.n c.in-Var.is c.in-Var.n-is (search rules) c.in_ok-put_var-in-Var.ensures
