use Rattle.std.proofs.Common.{refl, sym, ◌∙◌, [], ◌∷◌}
use Rattle.std.specs.Prelude.{None}
use Rattle.swc_ast.specs.Tree as tree
use Rattle.swc_ast.specs.Tree.{node, ε, ◌⊳◌}
use Rattle.swc_ast.specs.Parts.{list_trees, ident_name}
use Rattle.swc_ast.specs.Expressions.{function_node, body_tree}
use Rattle.swc_ast.specs.Statements.{while_node}
use Rattle.swc_ast.specs.Same.{same, same_label}
use Rattle.swc_ast.specs.Views.{expr_tree, stmt_tree, function_trees, loop_trees}
use Rattle.swc_ast.proofs.ApartExpressions.{no_expr, no_expr-2, other_expr-This, other_expr-Array, other_expr-Object, other_expr-Fn, other_expr-Unary, other_expr-Update, other_expr-Bin, other_expr-Assign, other_expr-Member, other_expr-Cond, other_expr-Call, other_expr-New, other_expr-Seq, other_expr-Ident, other_expr-Lit, other_expr-Tpl, other_expr-Arrow, other_expr-Invalid}
use Rattle.swc_ast.proofs.ApartProps.{prop_or_spread_apart, other_prop-Shorthand, other_prop-KeyValue, other_prop-Method}
use Rattle.swc_ast.proofs.ApartStatements.{other_stmt-Block, other_stmt-Empty, other_stmt-Return, other_stmt-Labeled, other_stmt-Break, other_stmt-Continue, other_stmt-If, other_stmt-Switch, other_stmt-Throw, other_stmt-Try, other_stmt-While, other_stmt-DoWhile, other_stmt-For, other_stmt-Decl, other_stmt-Expr}
use Rattle.swc_ast.proofs.Equations.{arrow_tree-is, case_trees-is, for_tree-is, function_trees-is, if_tree-is, loop_trees-is, method_tree-is, switch_tree-is}
use Rattle.swc_ast.proofs.Joined.{joined-3}
use Rattle.swc_ast.proofs.Places.{at_expr-This, at_expr-Array, at_expr-Object, at_expr-Fn, at_expr-Unary, at_expr-Update, at_expr-Bin, at_expr-Assign, at_expr-Member, at_expr-Cond, at_expr-Call, at_expr-New, at_expr-Seq, at_expr-Ident, at_expr-Lit, at_expr-Tpl, at_expr-Arrow, at_expr-Invalid, at_prop_or_spread-Spread, at_prop_or_spread-Prop, at_prop-Shorthand, at_prop-KeyValue, at_prop-Method, at_arrow_body-BlockStmt, at_arrow_body-Expr, at_decl-Fn, at_decl-Var, at_stmt-Block, at_stmt-Empty, at_stmt-Return, at_stmt-Labeled, at_stmt-Break, at_stmt-Continue, at_stmt-If, at_stmt-Switch, at_stmt-Throw, at_stmt-Try, at_stmt-While, at_stmt-DoWhile, at_stmt-For, at_stmt-Decl, at_stmt-Expr}
use Rattle.swc_ast.proofs.SameCalls.{callee, call-same}
use Rattle.swc_ast.proofs.SameHubs.{all-four, joined-5, named-function, with-name, method-same, do-same, test-same, init-same, case-same, switch-same}
use Rattle.swc_ast.proofs.SameParts.{both, two-at}
use Rattle.swc_ast.specs.declared.declarations.Decl.TheOpen as Open
use Rattle.swc_ast.specs.declared.declarations.Decl.TheViews.{out-MethodProp, out-SwitchStmt}
use Rattle.swc_ast.specs.declared.expressions.PropOrSpread.TheVariants as in_prop_or_spread
use Rattle.swc_ast.proofs.same_hubs.+same.Goals as goal

pub ExprCompare::is_same-returns-in-This-other : goal.ExprCompare::is_same-returns-in-This-other
unfolding same same_label
ExprCompare::is_same-returns-in-This-other t c = c.is_same.ensures ∙ two-at (same c.args.spans) (at_expr-This _ _ c.in-This.is) (at_expr-This _ _ c.in-This-other.is)

pub ExprCompare::is_same-returns-in_default : goal.ExprCompare::is_same-returns-in_default
unfolding same same_label
ExprCompare::is_same-returns-in_default t c = other_expr-This _ _ _ _ c.in-This.is c.in_default.not-This

pub ExprCompare::is_same-returns-in-Array-other : goal.ExprCompare::is_same-returns-in-Array-other
unfolding same same_label
ExprCompare::is_same-returns-in-Array-other t c = c.is_same-in-Array-other.ensures ∙ two-at (same c.args.spans) (at_expr-Array _ _ c.in-Array.is) (at_expr-Array _ _ c.in-Array-other.is)

pub ExprCompare::is_same-returns-in_default-other : goal.ExprCompare::is_same-returns-in_default-other
unfolding same same_label
ExprCompare::is_same-returns-in_default-other t c = other_expr-Array _ _ _ _ c.in-Array.is c.in_default-other.not-Array

pub ExprCompare::is_same-returns-in-Object-other : goal.ExprCompare::is_same-returns-in-Object-other
unfolding same same_label
ExprCompare::is_same-returns-in-Object-other t c = c.is_same-in-Object-other.ensures ∙ two-at (same c.args.spans) (at_expr-Object _ _ c.in-Object.is) (at_expr-Object _ _ c.in-Object-other.is)

pub ExprCompare::is_same-returns-in_default-other-2 : goal.ExprCompare::is_same-returns-in_default-other-2
unfolding same same_label
ExprCompare::is_same-returns-in_default-other-2 t c = other_expr-Object _ _ _ _ c.in-Object.is c.in_default-other-2.not-Object

pub ExprCompare::is_same-returns-in-Fn-other : goal.ExprCompare::is_same-returns-in-Fn-other
unfolding same same_label
ExprCompare::is_same-returns-in-Fn-other t c = c.same_fn_exprs.ensures ∙ with-name c.args.spans c.in-Fn.a.ident c.in-Fn-other.b.ident (function_trees c.in-Fn.a.function.value) (function_trees c.in-Fn-other.b.function.value) ∙ two-at (same c.args.spans) (at_expr-Fn _ _ c.in-Fn.is) (at_expr-Fn _ _ c.in-Fn-other.is)

pub ExprCompare::is_same-returns-in_default-other-3 : goal.ExprCompare::is_same-returns-in_default-other-3
unfolding same same_label
ExprCompare::is_same-returns-in_default-other-3 t c = other_expr-Fn _ _ _ _ c.in-Fn.is c.in_default-other-3.not-Fn

pub ExprCompare::is_same-returns-in-Unary-other : goal.ExprCompare::is_same-returns-in-Unary-other
unfolding same same_label
ExprCompare::is_same-returns-in-Unary-other t c = c.is_same-in-Unary-other.ensures ∙ two-at (same c.args.spans) (at_expr-Unary _ _ c.in-Unary.is) (at_expr-Unary _ _ c.in-Unary-other.is)

pub ExprCompare::is_same-returns-in_default-other-4 : goal.ExprCompare::is_same-returns-in_default-other-4
unfolding same same_label
ExprCompare::is_same-returns-in_default-other-4 t c = other_expr-Unary _ _ _ _ c.in-Unary.is c.in_default-other-4.not-Unary

pub ExprCompare::is_same-returns-in-Update-other : goal.ExprCompare::is_same-returns-in-Update-other
unfolding same same_label
ExprCompare::is_same-returns-in-Update-other t c = c.is_same-in-Update-other.ensures ∙ two-at (same c.args.spans) (at_expr-Update _ _ c.in-Update.is) (at_expr-Update _ _ c.in-Update-other.is)

pub ExprCompare::is_same-returns-in_default-other-5 : goal.ExprCompare::is_same-returns-in_default-other-5
unfolding same same_label
ExprCompare::is_same-returns-in_default-other-5 t c = other_expr-Update _ _ _ _ c.in-Update.is c.in_default-other-5.not-Update

pub ExprCompare::is_same-returns-in-Bin-other : goal.ExprCompare::is_same-returns-in-Bin-other
unfolding same same_label
ExprCompare::is_same-returns-in-Bin-other t c = c.is_same-in-Bin-other.ensures ∙ two-at (same c.args.spans) (at_expr-Bin _ _ c.in-Bin.is) (at_expr-Bin _ _ c.in-Bin-other.is)

pub ExprCompare::is_same-returns-in_default-other-6 : goal.ExprCompare::is_same-returns-in_default-other-6
unfolding same same_label
ExprCompare::is_same-returns-in_default-other-6 t c = other_expr-Bin _ _ _ _ c.in-Bin.is c.in_default-other-6.not-Bin

pub ExprCompare::is_same-returns-in-Assign-other : goal.ExprCompare::is_same-returns-in-Assign-other
unfolding same same_label
ExprCompare::is_same-returns-in-Assign-other t c = c.is_same-in-Assign-other.ensures ∙ two-at (same c.args.spans) (at_expr-Assign _ _ c.in-Assign.is) (at_expr-Assign _ _ c.in-Assign-other.is)

pub ExprCompare::is_same-returns-in_default-other-7 : goal.ExprCompare::is_same-returns-in_default-other-7
unfolding same same_label
ExprCompare::is_same-returns-in_default-other-7 t c = other_expr-Assign _ _ _ _ c.in-Assign.is c.in_default-other-7.not-Assign

pub ExprCompare::is_same-returns-in-Member-other : goal.ExprCompare::is_same-returns-in-Member-other
unfolding same same_label
ExprCompare::is_same-returns-in-Member-other t c = c.is_same-in-Member-other.ensures ∙ two-at (same c.args.spans) (at_expr-Member _ _ c.in-Member.is) (at_expr-Member _ _ c.in-Member-other.is)

pub ExprCompare::is_same-returns-in_default-other-8 : goal.ExprCompare::is_same-returns-in_default-other-8
unfolding same same_label
ExprCompare::is_same-returns-in_default-other-8 t c = other_expr-Member _ _ _ _ c.in-Member.is c.in_default-other-8.not-Member

pub ExprCompare::is_same-returns-in-Cond-other : goal.ExprCompare::is_same-returns-in-Cond-other
unfolding same same_label
ExprCompare::is_same-returns-in-Cond-other t c = c.is_same-in-Cond-other.ensures ∙ two-at (same c.args.spans) (at_expr-Cond _ _ c.in-Cond.is) (at_expr-Cond _ _ c.in-Cond-other.is)

pub ExprCompare::is_same-returns-in_default-other-9 : goal.ExprCompare::is_same-returns-in_default-other-9
unfolding same same_label
ExprCompare::is_same-returns-in_default-other-9 t c = other_expr-Cond _ _ _ _ c.in-Cond.is c.in_default-other-9.not-Cond

pub ExprCompare::is_same-returns-in-Call-other : goal.ExprCompare::is_same-returns-in-Call-other
unfolding same same_label
ExprCompare::is_same-returns-in-Call-other t c = c.same_calls.ensures ∙ call-same c.args.spans c.in-Call.a.span c.in-Call-other.b.span (expr_tree c.in-Call.a.callee.value) (expr_tree c.in-Call-other.b.callee.value) (callee c.in-Call.a.callee.value) (callee c.in-Call-other.b.callee.value) (list_trees expr_tree c.in-Call.a.args.items) (list_trees expr_tree c.in-Call-other.b.args.items) ∙ two-at (same c.args.spans) (at_expr-Call _ _ c.in-Call.is) (at_expr-Call _ _ c.in-Call-other.is)

pub ExprCompare::is_same-returns-in_default-other-10 : goal.ExprCompare::is_same-returns-in_default-other-10
unfolding same same_label
ExprCompare::is_same-returns-in_default-other-10 t c = other_expr-Call _ _ _ _ c.in-Call.is c.in_default-other-10.not-Call

pub ExprCompare::is_same-returns-in-New-other : goal.ExprCompare::is_same-returns-in-New-other
unfolding same same_label
ExprCompare::is_same-returns-in-New-other t c = c.is_same-in-New-other.ensures ∙ two-at (same c.args.spans) (at_expr-New _ _ c.in-New.is) (at_expr-New _ _ c.in-New-other.is)

pub ExprCompare::is_same-returns-in_default-other-11 : goal.ExprCompare::is_same-returns-in_default-other-11
unfolding same same_label
ExprCompare::is_same-returns-in_default-other-11 t c = other_expr-New _ _ _ _ c.in-New.is c.in_default-other-11.not-New

pub ExprCompare::is_same-returns-in-Seq-other : goal.ExprCompare::is_same-returns-in-Seq-other
unfolding same same_label
ExprCompare::is_same-returns-in-Seq-other t c = c.is_same-in-Seq-other.ensures ∙ two-at (same c.args.spans) (at_expr-Seq _ _ c.in-Seq.is) (at_expr-Seq _ _ c.in-Seq-other.is)

pub ExprCompare::is_same-returns-in_default-other-12 : goal.ExprCompare::is_same-returns-in_default-other-12
unfolding same same_label
ExprCompare::is_same-returns-in_default-other-12 t c = other_expr-Seq _ _ _ _ c.in-Seq.is c.in_default-other-12.not-Seq

pub ExprCompare::is_same-returns-in-Ident-other : goal.ExprCompare::is_same-returns-in-Ident-other
unfolding same same_label
ExprCompare::is_same-returns-in-Ident-other t c = c.is_same-in-Ident-other.ensures ∙ two-at (same c.args.spans) (at_expr-Ident _ _ c.in-Ident.is) (at_expr-Ident _ _ c.in-Ident-other.is)

pub ExprCompare::is_same-returns-in_default-other-13 : goal.ExprCompare::is_same-returns-in_default-other-13
unfolding same same_label
ExprCompare::is_same-returns-in_default-other-13 t c = other_expr-Ident _ _ _ _ c.in-Ident.is c.in_default-other-13.not-Ident

pub ExprCompare::is_same-returns-in-Lit-other : goal.ExprCompare::is_same-returns-in-Lit-other
unfolding same same_label
ExprCompare::is_same-returns-in-Lit-other t c = c.is_same-in-Lit-other.ensures ∙ two-at (same c.args.spans) (at_expr-Lit _ _ c.in-Lit.is) (at_expr-Lit _ _ c.in-Lit-other.is)

pub ExprCompare::is_same-returns-in_default-other-14 : goal.ExprCompare::is_same-returns-in_default-other-14
unfolding same same_label
ExprCompare::is_same-returns-in_default-other-14 t c = other_expr-Lit _ _ _ _ c.in-Lit.is c.in_default-other-14.not-Lit

pub ExprCompare::is_same-returns-in-Tpl-other : goal.ExprCompare::is_same-returns-in-Tpl-other
unfolding same same_label
ExprCompare::is_same-returns-in-Tpl-other t c = c.is_same-in-Tpl-other.ensures ∙ two-at (same c.args.spans) (at_expr-Tpl _ _ c.in-Tpl.is) (at_expr-Tpl _ _ c.in-Tpl-other.is)

pub ExprCompare::is_same-returns-in_default-other-15 : goal.ExprCompare::is_same-returns-in_default-other-15
unfolding same same_label
ExprCompare::is_same-returns-in_default-other-15 t c = other_expr-Tpl _ _ _ _ c.in-Tpl.is c.in_default-other-15.not-Tpl

pub ExprCompare::is_same-returns-in-Arrow-other : goal.ExprCompare::is_same-returns-in-Arrow-other
unfolding same same_label
ExprCompare::is_same-returns-in-Arrow-other t c = c.is_same-in-Arrow-other.ensures ∙ two-at (same c.args.spans) (at_expr-Arrow _ _ c.in-Arrow.is) (at_expr-Arrow _ _ c.in-Arrow-other.is)

pub ExprCompare::is_same-returns-in_default-other-16 : goal.ExprCompare::is_same-returns-in_default-other-16
unfolding same same_label
ExprCompare::is_same-returns-in_default-other-16 t c = other_expr-Arrow _ _ _ _ c.in-Arrow.is c.in_default-other-16.not-Arrow

pub ExprCompare::is_same-returns-in-Invalid-other : goal.ExprCompare::is_same-returns-in-Invalid-other
unfolding same same_label
ExprCompare::is_same-returns-in-Invalid-other t c = c.is_same-in-Invalid-other.ensures ∙ two-at (same c.args.spans) (at_expr-Invalid _ _ c.in-Invalid.is) (at_expr-Invalid _ _ c.in-Invalid-other.is)

pub ExprCompare::is_same-returns-in_default-other-17 : goal.ExprCompare::is_same-returns-in_default-other-17
unfolding same same_label
ExprCompare::is_same-returns-in_default-other-17 t c = other_expr-Invalid _ _ _ _ c.in-Invalid.is c.in_default-other-17.not-Invalid

pub PropOrSpreadCompare::is_same-returns-in-Spread-Spread : goal.PropOrSpreadCompare::is_same-returns-in-Spread-Spread
unfolding same same_label
PropOrSpreadCompare::is_same-returns-in-Spread-Spread t c = c.is_same.ensures ∙ two-at (same c.args.spans) (at_prop_or_spread-Spread _ _ c.in-Spread-Spread.is-0) (at_prop_or_spread-Spread _ _ c.in-Spread-Spread.is-1)

pub PropOrSpreadCompare::is_same-returns-in-Prop-Prop : goal.PropOrSpreadCompare::is_same-returns-in-Prop-Prop
unfolding same same_label
PropOrSpreadCompare::is_same-returns-in-Prop-Prop t c = c.is_same-in-Prop-Prop.ensures ∙ two-at (same c.args.spans) (at_prop_or_spread-Prop _ _ c.in-Prop-Prop.is-0) (at_prop_or_spread-Prop _ _ c.in-Prop-Prop.is-1)

pub PropOrSpreadCompare::is_same-returns-in_default : goal.PropOrSpreadCompare::is_same-returns-in_default
unfolding same same_label
PropOrSpreadCompare::is_same-returns-in_default t c = prop_or_spread_apart _ (Open.Spread c.in_default.field-0-0) (Open.Prop c.in_default.field-0-1) _ _ (in_prop_or_spread.rolls-Spread _ ∙ sym c.in_default.is-0) (in_prop_or_spread.rolls-Prop _ ∙ sym c.in_default.is-1) refl

pub PropOrSpreadCompare::is_same-returns-in_default-2 : goal.PropOrSpreadCompare::is_same-returns-in_default-2
unfolding same same_label
PropOrSpreadCompare::is_same-returns-in_default-2 t c = prop_or_spread_apart _ (Open.Prop c.in_default.field-0-0) (Open.Spread c.in_default.field-0-1) _ _ (in_prop_or_spread.rolls-Prop _ ∙ sym c.in_default.is-0) (in_prop_or_spread.rolls-Spread _ ∙ sym c.in_default.is-1) refl

pub PropCompare::is_same-returns-in-Shorthand-Shorthand : goal.PropCompare::is_same-returns-in-Shorthand-Shorthand
unfolding same same_label
PropCompare::is_same-returns-in-Shorthand-Shorthand t c = c.is_same.ensures ∙ two-at (same c.args.spans) (at_prop-Shorthand _ _ c.in-Shorthand-Shorthand.is-0) (at_prop-Shorthand _ _ c.in-Shorthand-Shorthand.is-1)

pub PropCompare::is_same-returns-in-KeyValue-KeyValue : goal.PropCompare::is_same-returns-in-KeyValue-KeyValue
unfolding same same_label
PropCompare::is_same-returns-in-KeyValue-KeyValue t c = c.is_same-in-KeyValue-KeyValue.ensures ∙ two-at (same c.args.spans) (at_prop-KeyValue _ _ c.in-KeyValue-KeyValue.is-0) (at_prop-KeyValue _ _ c.in-KeyValue-KeyValue.is-1)

pub PropCompare::is_same-returns-in-Method-Method : goal.PropCompare::is_same-returns-in-Method-Method
unfolding same same_label
PropCompare::is_same-returns-in-Method-Method t c = c.is_same-in-Method-Method.ensures ∙ two-at (same c.args.spans) (at_prop-Method _ _ c.in-Method-Method.is-0) (at_prop-Method _ _ c.in-Method-Method.is-1)

pub PropCompare::is_same-returns-in_default : goal.PropCompare::is_same-returns-in_default
unfolding same same_label
PropCompare::is_same-returns-in_default t c = other_prop-Shorthand _ _ _ _ c.in_default.is-0 c.in_default.not-Shorthand-1

pub PropCompare::is_same-returns-in_default-2 : goal.PropCompare::is_same-returns-in_default-2
unfolding same same_label
PropCompare::is_same-returns-in_default-2 t c = other_prop-KeyValue _ _ _ _ c.in_default.is-0 c.in_default.not-KeyValue-1

pub PropCompare::is_same-returns-in_default-3 : goal.PropCompare::is_same-returns-in_default-3
unfolding same same_label
PropCompare::is_same-returns-in_default-3 t c = other_prop-Method _ _ _ _ c.in_default.is-0 c.in_default.not-Method-1

pub MethodPropCompare::is_same-returns : goal.MethodPropCompare::is_same-returns
unfolding same same_label
MethodPropCompare::is_same-returns t c = both c.is_same.ensures c.is_same-2.ensures ∙ method-same c.args.spans (out-MethodProp c.args.self.now).key (out-MethodProp c.args.other.now).key (function_trees (out-MethodProp c.args.self.now).function.value) (function_trees (out-MethodProp c.args.other.now).function.value) ∙ two-at (same c.args.spans) (method_tree-is c.args.self.now) (method_tree-is c.args.other.now)

pub ArrowExprCompare::is_same-returns : goal.ArrowExprCompare::is_same-returns
unfolding same same_label
ArrowExprCompare::is_same-returns t c = joined-3 c.spans_agree.ensures c.is_same.ensures c.is_same-2.ensures ∙ two-at (same c.args.spans) (arrow_tree-is c.args.self.now) (arrow_tree-is c.args.other.now)

pub BlockStmtOrExprCompare::is_same-returns-in-BlockStmt-BlockStmt : goal.BlockStmtOrExprCompare::is_same-returns-in-BlockStmt-BlockStmt
unfolding same same_label
BlockStmtOrExprCompare::is_same-returns-in-BlockStmt-BlockStmt t c = c.is_same.ensures ∙ two-at (same c.args.spans) (at_arrow_body-BlockStmt _ _ c.in-BlockStmt-BlockStmt.is-0) (at_arrow_body-BlockStmt _ _ c.in-BlockStmt-BlockStmt.is-1)

pub BlockStmtOrExprCompare::is_same-returns-in-Expr-Expr : goal.BlockStmtOrExprCompare::is_same-returns-in-Expr-Expr
unfolding same same_label
BlockStmtOrExprCompare::is_same-returns-in-Expr-Expr t c = c.is_same-in-Expr-Expr.ensures ∙ two-at (same c.args.spans) (at_arrow_body-Expr _ _ c.in-Expr-Expr.is-0) (at_arrow_body-Expr _ _ c.in-Expr-Expr.is-1)

pub BlockStmtOrExprCompare::is_same-returns-in_default : goal.BlockStmtOrExprCompare::is_same-returns-in_default
unfolding same same_label
BlockStmtOrExprCompare::is_same-returns-in_default t c = no_expr c.args.spans (body_tree stmt_tree c.in_default.field-0-0) c.in_default.field-0-1.value refl ∙ two-at (same c.args.spans) (at_arrow_body-BlockStmt _ _ c.in_default.is-0) (at_arrow_body-Expr _ _ c.in_default.is-1)

pub BlockStmtOrExprCompare::is_same-returns-in_default-2 : goal.BlockStmtOrExprCompare::is_same-returns-in_default-2
unfolding same same_label
BlockStmtOrExprCompare::is_same-returns-in_default-2 t c = no_expr-2 c.args.spans c.in_default.field-0-0.value (body_tree stmt_tree c.in_default.field-0-1) refl ∙ two-at (same c.args.spans) (at_arrow_body-Expr _ _ c.in_default.is-0) (at_arrow_body-BlockStmt _ _ c.in_default.is-1)

pub FunctionCompare::is_same-returns : goal.FunctionCompare::is_same-returns
unfolding same same_label
FunctionCompare::is_same-returns t c = joined-3 c.spans_agree.ensures c.is_same.ensures c.is_same-2.ensures ∙ two-at (λ o p. same c.args.spans (function_node (tree.Fn None) [] o) (function_node (tree.Fn None) [] p)) (function_trees-is c.args.self.now) (function_trees-is c.args.other.now)

pub DeclCompare::is_same-returns-in-Fn-Fn : goal.DeclCompare::is_same-returns-in-Fn-Fn
unfolding same same_label
DeclCompare::is_same-returns-in-Fn-Fn t c = c.same_fn_decls.ensures ∙ named-function c.args.spans (tree.FnDecl (ident_name c.in-Fn-Fn.a.ident)) (tree.FnDecl (ident_name c.in-Fn-Fn.b.ident)) c.in-Fn-Fn.a.ident c.in-Fn-Fn.b.ident (function_trees c.in-Fn-Fn.a.function.value) (function_trees c.in-Fn-Fn.b.function.value) refl ∙ two-at (same c.args.spans) (at_decl-Fn _ _ c.in-Fn-Fn.is-0) (at_decl-Fn _ _ c.in-Fn-Fn.is-1)

pub DeclCompare::is_same-returns-in-Var-Var : goal.DeclCompare::is_same-returns-in-Var-Var
unfolding same same_label
DeclCompare::is_same-returns-in-Var-Var t c = c.is_same.ensures ∙ two-at (same c.args.spans) (at_decl-Var _ _ c.in-Var-Var.is-0) (at_decl-Var _ _ c.in-Var-Var.is-1)

pub DeclCompare::is_same-returns-in_default : goal.DeclCompare::is_same-returns-in_default
unfolding same same_label
DeclCompare::is_same-returns-in_default t c = two-at (same c.args.spans) (at_decl-Fn _ _ c.in_default.is-0) (at_decl-Var _ _ c.in_default.is-1)

pub DeclCompare::is_same-returns-in_default-2 : goal.DeclCompare::is_same-returns-in_default-2
unfolding same same_label
DeclCompare::is_same-returns-in_default-2 t c = two-at (same c.args.spans) (at_decl-Var _ _ c.in_default.is-0) (at_decl-Fn _ _ c.in_default.is-1)

pub StmtCompare::is_same-returns-in-Block-Block : goal.StmtCompare::is_same-returns-in-Block-Block
unfolding same same_label
StmtCompare::is_same-returns-in-Block-Block t c = c.is_same.ensures ∙ two-at (same c.args.spans) (at_stmt-Block _ _ c.in-Block-Block.is-0) (at_stmt-Block _ _ c.in-Block-Block.is-1)

pub StmtCompare::is_same-returns-in-Empty-Empty : goal.StmtCompare::is_same-returns-in-Empty-Empty
unfolding same same_label
StmtCompare::is_same-returns-in-Empty-Empty t c = c.is_same-in-Empty-Empty.ensures ∙ two-at (same c.args.spans) (at_stmt-Empty _ _ c.in-Empty-Empty.is-0) (at_stmt-Empty _ _ c.in-Empty-Empty.is-1)

pub StmtCompare::is_same-returns-in-Return-Return : goal.StmtCompare::is_same-returns-in-Return-Return
unfolding same same_label
StmtCompare::is_same-returns-in-Return-Return t c = c.is_same-in-Return-Return.ensures ∙ two-at (same c.args.spans) (at_stmt-Return _ _ c.in-Return-Return.is-0) (at_stmt-Return _ _ c.in-Return-Return.is-1)

pub StmtCompare::is_same-returns-in-Labeled-Labeled : goal.StmtCompare::is_same-returns-in-Labeled-Labeled
unfolding same same_label
StmtCompare::is_same-returns-in-Labeled-Labeled t c = c.is_same-in-Labeled-Labeled.ensures ∙ two-at (same c.args.spans) (at_stmt-Labeled _ _ c.in-Labeled-Labeled.is-0) (at_stmt-Labeled _ _ c.in-Labeled-Labeled.is-1)

pub StmtCompare::is_same-returns-in-Break-Break : goal.StmtCompare::is_same-returns-in-Break-Break
unfolding same same_label
StmtCompare::is_same-returns-in-Break-Break t c = c.is_same-in-Break-Break.ensures ∙ two-at (same c.args.spans) (at_stmt-Break _ _ c.in-Break-Break.is-0) (at_stmt-Break _ _ c.in-Break-Break.is-1)

pub StmtCompare::is_same-returns-in-Continue-Continue : goal.StmtCompare::is_same-returns-in-Continue-Continue
unfolding same same_label
StmtCompare::is_same-returns-in-Continue-Continue t c = c.is_same-in-Continue-Continue.ensures ∙ two-at (same c.args.spans) (at_stmt-Continue _ _ c.in-Continue-Continue.is-0) (at_stmt-Continue _ _ c.in-Continue-Continue.is-1)

pub StmtCompare::is_same-returns-in-If-If : goal.StmtCompare::is_same-returns-in-If-If
unfolding same same_label
StmtCompare::is_same-returns-in-If-If t c = c.is_same-in-If-If.ensures ∙ two-at (same c.args.spans) (at_stmt-If _ _ c.in-If-If.is-0) (at_stmt-If _ _ c.in-If-If.is-1)

pub StmtCompare::is_same-returns-in-Switch-Switch : goal.StmtCompare::is_same-returns-in-Switch-Switch
unfolding same same_label
StmtCompare::is_same-returns-in-Switch-Switch t c = c.is_same-in-Switch-Switch.ensures ∙ two-at (same c.args.spans) (at_stmt-Switch _ _ c.in-Switch-Switch.is-0) (at_stmt-Switch _ _ c.in-Switch-Switch.is-1)

pub StmtCompare::is_same-returns-in-Throw-Throw : goal.StmtCompare::is_same-returns-in-Throw-Throw
unfolding same same_label
StmtCompare::is_same-returns-in-Throw-Throw t c = c.is_same-in-Throw-Throw.ensures ∙ two-at (same c.args.spans) (at_stmt-Throw _ _ c.in-Throw-Throw.is-0) (at_stmt-Throw _ _ c.in-Throw-Throw.is-1)

pub StmtCompare::is_same-returns-in-Try-Try : goal.StmtCompare::is_same-returns-in-Try-Try
unfolding same same_label
StmtCompare::is_same-returns-in-Try-Try t c = c.is_same-in-Try-Try.ensures ∙ two-at (same c.args.spans) (at_stmt-Try _ _ c.in-Try-Try.is-0) (at_stmt-Try _ _ c.in-Try-Try.is-1)

pub StmtCompare::is_same-returns-in-While-While : goal.StmtCompare::is_same-returns-in-While-While
unfolding same same_label
StmtCompare::is_same-returns-in-While-While t c = c.is_same-in-While-While.ensures ∙ two-at (same c.args.spans) (at_stmt-While _ _ c.in-While-While.is-0) (at_stmt-While _ _ c.in-While-While.is-1)

pub StmtCompare::is_same-returns-in-DoWhile-DoWhile : goal.StmtCompare::is_same-returns-in-DoWhile-DoWhile
unfolding same same_label
StmtCompare::is_same-returns-in-DoWhile-DoWhile t c = c.is_same-in-DoWhile-DoWhile.ensures ∙ do-same c.args.spans (loop_trees c.in-DoWhile-DoWhile.a) (loop_trees c.in-DoWhile-DoWhile.b) ∙ two-at (same c.args.spans) (at_stmt-DoWhile _ _ c.in-DoWhile-DoWhile.is-0) (at_stmt-DoWhile _ _ c.in-DoWhile-DoWhile.is-1)

pub StmtCompare::is_same-returns-in-For-For : goal.StmtCompare::is_same-returns-in-For-For
unfolding same same_label
StmtCompare::is_same-returns-in-For-For t c = c.is_same-in-For-For.ensures ∙ two-at (same c.args.spans) (at_stmt-For _ _ c.in-For-For.is-0) (at_stmt-For _ _ c.in-For-For.is-1)

pub StmtCompare::is_same-returns-in-Decl-Decl : goal.StmtCompare::is_same-returns-in-Decl-Decl
unfolding same same_label
StmtCompare::is_same-returns-in-Decl-Decl t c = c.is_same-in-Decl-Decl.ensures ∙ two-at (same c.args.spans) (at_stmt-Decl _ _ c.in-Decl-Decl.is-0) (at_stmt-Decl _ _ c.in-Decl-Decl.is-1)

pub StmtCompare::is_same-returns-in-Expr-Expr : goal.StmtCompare::is_same-returns-in-Expr-Expr
unfolding same same_label
StmtCompare::is_same-returns-in-Expr-Expr t c = c.is_same-in-Expr-Expr.ensures ∙ two-at (same c.args.spans) (at_stmt-Expr _ _ c.in-Expr-Expr.is-0) (at_stmt-Expr _ _ c.in-Expr-Expr.is-1)

pub StmtCompare::is_same-returns-in_default : goal.StmtCompare::is_same-returns-in_default
unfolding same same_label
StmtCompare::is_same-returns-in_default t c = other_stmt-Block _ _ _ _ c.in_default.is-0 c.in_default.not-Block-1

pub StmtCompare::is_same-returns-in_default-2 : goal.StmtCompare::is_same-returns-in_default-2
unfolding same same_label
StmtCompare::is_same-returns-in_default-2 t c = other_stmt-Empty _ _ _ _ c.in_default.is-0 c.in_default.not-Empty-1

pub StmtCompare::is_same-returns-in_default-3 : goal.StmtCompare::is_same-returns-in_default-3
unfolding same same_label
StmtCompare::is_same-returns-in_default-3 t c = other_stmt-Return _ _ _ _ c.in_default.is-0 c.in_default.not-Return-1

pub StmtCompare::is_same-returns-in_default-4 : goal.StmtCompare::is_same-returns-in_default-4
unfolding same same_label
StmtCompare::is_same-returns-in_default-4 t c = other_stmt-Labeled _ _ _ _ c.in_default.is-0 c.in_default.not-Labeled-1

pub StmtCompare::is_same-returns-in_default-5 : goal.StmtCompare::is_same-returns-in_default-5
unfolding same same_label
StmtCompare::is_same-returns-in_default-5 t c = other_stmt-Break _ _ _ _ c.in_default.is-0 c.in_default.not-Break-1

pub StmtCompare::is_same-returns-in_default-6 : goal.StmtCompare::is_same-returns-in_default-6
unfolding same same_label
StmtCompare::is_same-returns-in_default-6 t c = other_stmt-Continue _ _ _ _ c.in_default.is-0 c.in_default.not-Continue-1

pub StmtCompare::is_same-returns-in_default-7 : goal.StmtCompare::is_same-returns-in_default-7
unfolding same same_label
StmtCompare::is_same-returns-in_default-7 t c = other_stmt-If _ _ _ _ c.in_default.is-0 c.in_default.not-If-1

pub StmtCompare::is_same-returns-in_default-8 : goal.StmtCompare::is_same-returns-in_default-8
unfolding same same_label
StmtCompare::is_same-returns-in_default-8 t c = other_stmt-Switch _ _ _ _ c.in_default.is-0 c.in_default.not-Switch-1

pub StmtCompare::is_same-returns-in_default-9 : goal.StmtCompare::is_same-returns-in_default-9
unfolding same same_label
StmtCompare::is_same-returns-in_default-9 t c = other_stmt-Throw _ _ _ _ c.in_default.is-0 c.in_default.not-Throw-1

pub StmtCompare::is_same-returns-in_default-10 : goal.StmtCompare::is_same-returns-in_default-10
unfolding same same_label
StmtCompare::is_same-returns-in_default-10 t c = other_stmt-Try _ _ _ _ c.in_default.is-0 c.in_default.not-Try-1

pub StmtCompare::is_same-returns-in_default-11 : goal.StmtCompare::is_same-returns-in_default-11
unfolding same same_label
StmtCompare::is_same-returns-in_default-11 t c = other_stmt-While _ _ _ _ c.in_default.is-0 c.in_default.not-While-1

pub StmtCompare::is_same-returns-in_default-12 : goal.StmtCompare::is_same-returns-in_default-12
unfolding same same_label
StmtCompare::is_same-returns-in_default-12 t c = other_stmt-DoWhile _ _ _ _ c.in_default.is-0 c.in_default.not-DoWhile-1

pub StmtCompare::is_same-returns-in_default-13 : goal.StmtCompare::is_same-returns-in_default-13
unfolding same same_label
StmtCompare::is_same-returns-in_default-13 t c = other_stmt-For _ _ _ _ c.in_default.is-0 c.in_default.not-For-1

pub StmtCompare::is_same-returns-in_default-14 : goal.StmtCompare::is_same-returns-in_default-14
unfolding same same_label
StmtCompare::is_same-returns-in_default-14 t c = other_stmt-Decl _ _ _ _ c.in_default.is-0 c.in_default.not-Decl-1

pub StmtCompare::is_same-returns-in_default-15 : goal.StmtCompare::is_same-returns-in_default-15
unfolding same same_label
StmtCompare::is_same-returns-in_default-15 t c = other_stmt-Expr _ _ _ _ c.in_default.is-0 c.in_default.not-Expr-1

pub IfStmtCompare::is_same-returns : goal.IfStmtCompare::is_same-returns
unfolding same same_label
IfStmtCompare::is_same-returns t c = all-four c.spans_agree.ensures c.is_same.ensures c.is_same-2.ensures c.is_same-3.ensures ∙ two-at (same c.args.spans) (if_tree-is c.args.self.now) (if_tree-is c.args.other.now)

pub SwitchStmtCompare::is_same-returns : goal.SwitchStmtCompare::is_same-returns
unfolding same same_label
SwitchStmtCompare::is_same-returns t c = both (both c.spans_agree.ensures c.is_same.ensures) c.is_same-2.ensures ∙ switch-same c.args.spans (out-SwitchStmt c.args.self.now).span (out-SwitchStmt c.args.other.now).span (expr_tree (out-SwitchStmt c.args.self.now).discriminant.value) (expr_tree (out-SwitchStmt c.args.other.now).discriminant.value) (out-SwitchStmt c.args.self.now).cases.items (out-SwitchStmt c.args.other.now).cases.items ∙ two-at (same c.args.spans) (switch_tree-is c.args.self.now) (switch_tree-is c.args.other.now)

pub SwitchCaseCompare::is_same-returns : goal.SwitchCaseCompare::is_same-returns
unfolding same same_label
SwitchCaseCompare::is_same-returns t c = both (both c.spans_agree.ensures c.is_same.ensures) c.is_same-2.ensures ∙ case-same c.args.spans c.args.self.now.span c.args.other.now.span c.args.self.now.test c.args.other.now.test (list_trees stmt_tree c.args.self.now.cons.items) (list_trees stmt_tree c.args.other.now.cons.items) ∙ two-at (λ o p. same c.args.spans (node (tree.Switch (o.is_default ∷ [])) [] (o.test ⊳ o.body ⊳ ε)) (node (tree.Switch (p.is_default ∷ [])) [] (p.test ⊳ p.body ⊳ ε))) (case_trees-is c.args.self.now) (case_trees-is c.args.other.now)

pub WhileStmtCompare::is_same-returns : goal.WhileStmtCompare::is_same-returns
unfolding same same_label
WhileStmtCompare::is_same-returns t c = joined-3 c.spans_agree.ensures c.is_same.ensures c.is_same-2.ensures ∙ two-at (λ o p. same c.args.spans (while_node o) (while_node p)) (loop_trees-is c.args.self.now) (loop_trees-is c.args.other.now)

pub ForStmtCompare::is_same-returns : goal.ForStmtCompare::is_same-returns
unfolding same same_label
ForStmtCompare::is_same-returns t c = joined-5 c.spans_agree.ensures (c.is_same.ensures ∙ init-same c.args.spans c.args.self.now.init c.args.other.now.init) (c.is_same-2.ensures ∙ test-same c.args.spans c.args.self.now.test c.args.other.now.test) (c.is_same-3.ensures ∙ test-same c.args.spans c.args.self.now.update c.args.other.now.update) c.is_same-4.ensures ∙ two-at (same c.args.spans) (for_tree-is c.args.self.now) (for_tree-is c.args.other.now)
