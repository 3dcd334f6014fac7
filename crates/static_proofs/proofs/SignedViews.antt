-- The nodes of views have their signatures.
use Rattle.std.proofs.Common.{◌≡◌, ℕ, zero, suc, ◌+◌, ◌≤◌, Bool, true, false, not, ◌&&◌, if◌then◌else◌, List, [], ◌∷◌, map, refl, sym, ap, subst, ◌∙◌, arith}
use Rattle.std.specs.Prelude.{Option, Some, None}
use Rattle.std.proofs.lemmas.Bool.{and_from, and_parts, false≢true}
use Rattle.swc_ast.specs.Labels.{is_declaration, is_params, is_body, is_param}
use Rattle.swc_ast.specs.Tree as tree
use Rattle.swc_ast.specs.Tree.{Label, Tree, node, Forest, ε, ◌⊳◌, label_of}
use Rattle.swc_ast.specs.Parts.{list_trees, ident_name, lit_tree}
use Rattle.swc_ast.specs.Expressions.{FunctionTrees, is_eval, item_trees, key_tree, member_node, unary_node, member_update, update_node, member_assign, assign_node, call_node, param_tree, params_tree, body_tree}
use Rattle.swc_ast.specs.Statements.{declarator_tree, var_tree, option_init_tree, block_tree, option_block_tree, handler_tree, case_children}
use Rattle.swc_ast.specs.Views.{decl_tree, arrow_body_tree, expr_tree, prop_tree, prop_or_spread_tree, stmt_tree, function_trees, method_tree, case_trees, loop_trees}
use Rattle.swc_ast.specs.Modules.{import_specifier_tree, export_specifier_tree, module_decl_tree, item_tree, module_tree, script_tree}
use Rattle.swc_ast.proofs.Equations.{expr_tree-This, expr_tree-Array, expr_tree-Object, expr_tree-Fn, expr_tree-Unary, expr_tree-Update, expr_tree-Bin, expr_tree-Assign, expr_tree-Member, expr_tree-Cond, expr_tree-Call, expr_tree-New, expr_tree-Seq, expr_tree-Ident, expr_tree-Lit, expr_tree-Tpl, expr_tree-Arrow, expr_tree-Invalid, prop_or_spread_tree-Spread, prop_or_spread_tree-Prop, prop_tree-Shorthand, prop_tree-KeyValue, prop_tree-Method, method_tree-is, arrow_tree-is, arrow_body_tree-BlockStmt, arrow_body_tree-Expr}
use Rattle.swc_ast.proofs.Equations.{stmt_tree-Block, stmt_tree-Empty, stmt_tree-Return, stmt_tree-Labeled, stmt_tree-Break, stmt_tree-Continue, stmt_tree-If, stmt_tree-Switch, stmt_tree-Throw, stmt_tree-Try, stmt_tree-While, stmt_tree-DoWhile, stmt_tree-For, stmt_tree-Decl, stmt_tree-Expr, if_tree-is, loop_trees-is, case_trees-is, switch_tree-is, decl_tree-Fn, decl_tree-Var, function_trees-is, for_tree-is}
use Rattle.swc_ast.proofs.ApartExpressions.{ExprForm}
use Rattle.swc_ast.proofs.ApartProps.{PropForm, PropOrSpreadForm}
use Rattle.swc_ast.proofs.ApartStatements.{StmtForm}
use Rattle.swc_ast.specs.declared.declarations.Decl.TheOpen as Open
use Rattle.swc_ast.specs.declared.declarations.Decl.TheViews.{roll-Expr, out-Expr, roll-out-Expr, roll-Prop, out-Prop, roll-out-Prop, roll-PropOrSpread, out-PropOrSpread, roll-out-PropOrSpread, out-MethodProp, roll-BlockStmtOrExpr, out-BlockStmtOrExpr, roll-out-BlockStmtOrExpr, roll-Stmt, out-Stmt, roll-out-Stmt, roll-Decl, out-Decl, roll-out-Decl, out-SwitchStmt}
use Rattle.swc_ast.specs.declared.expressions.Expr.TheVariants as in_expr
use Rattle.swc_ast.specs.declared.expressions.Prop.TheVariants as in_prop
use Rattle.swc_ast.specs.declared.expressions.PropOrSpread.TheVariants as in_prop_or_spread
use Rattle.swc_ast.specs.declared.expressions.BlockStmtOrExpr.TheVariants as in_arrow_body
use Rattle.swc_ast.specs.declared.statements.Stmt.TheVariants as in_stmt
use Rattle.swc_ast.specs.declared.declarations.Decl.TheVariants as in_decl
use Rattle.swc_ast.specs.declared.expressions.AssignTarget.{AssignTarget}
use Rattle.swc_ast.specs.declared.expressions.AssignTarget.TheVariants as target
use Rattle.swc_ast.specs.declared.expressions.MemberProp.{MemberProp}
use Rattle.swc_ast.specs.declared.expressions.MemberProp.TheVariants as prop
use Rattle.swc_ast.specs.declared.expressions.PropName.{PropName}
use Rattle.swc_ast.specs.declared.expressions.PropName.TheVariants as key
use Rattle.swc_ast.specs.declared.expressions.ExprOrSpread.{ExprOrSpread}
use Rattle.swc_ast.specs.declared.literals.Lit.{Lit}
use Rattle.swc_ast.specs.declared.literals.Lit.TheVariants as lit
use Rattle.swc_ast.specs.declared.declarations.Pat.{Pat}
use Rattle.swc_ast.specs.declared.declarations.Pat.TheVariants as pat
use Rattle.swc_ast.specs.declared.statements.VarDeclOrExpr.{VarDeclOrExpr}
use Rattle.swc_ast.specs.declared.statements.VarDeclOrExpr.TheVariants as init
use Rattle.swc_ast.specs.declared.AssignOp.{AssignOp}
use Rattle.swc_ast.specs.declared.UnaryOp.{UnaryOp}
use Rattle.swc_ast.specs.declared.UnaryOp.TheVariants as op
use Rattle.swc_ast.specs.declared.UpdateOp.{UpdateOp}
use Rattle.swc_ast.specs.declared.Span.{Span}
use Rattle.swc_ast.specs.declared.VarDeclKind.{VarDeclKind}
use Rattle.swc_ast.specs.declared.VarDeclKind.TheVariants.{Var, Let, Const}
use Rattle.swc_ast.specs.declared.declarations.Decl.{Decl}
use Rattle.swc_ast.specs.declared.declarations.Function.{Function}
use Rattle.swc_ast.specs.declared.declarations.VarDecl.{VarDecl}
use Rattle.swc_ast.specs.declared.declarations.VarDeclarator.{VarDeclarator}
use Rattle.swc_ast.specs.declared.expressions.ArrowExpr.{ArrowExpr}
use Rattle.swc_ast.specs.declared.expressions.BlockStmtOrExpr.{BlockStmtOrExpr}
use Rattle.swc_ast.specs.declared.expressions.Expr.{Expr}
use Rattle.swc_ast.specs.declared.expressions.MethodProp.{MethodProp}
use Rattle.swc_ast.specs.declared.expressions.Prop.{Prop}
use Rattle.swc_ast.specs.declared.expressions.PropOrSpread.{PropOrSpread}
use Rattle.swc_ast.specs.declared.modules.Module.{Module}
use Rattle.swc_ast.specs.declared.modules.Script.{Script}
use Rattle.swc_ast.specs.declared.modules.ModuleItem.{ModuleItem}
use Rattle.swc_ast.specs.declared.modules.ModuleItem.TheVariants as items
use Rattle.swc_ast.specs.declared.modules.ModuleDecl.{ModuleDecl}
use Rattle.swc_ast.specs.declared.modules.ModuleDecl.TheVariants as decls
use Rattle.swc_ast.specs.declared.modules.ImportSpecifier.{ImportSpecifier}
use Rattle.swc_ast.specs.declared.modules.ImportSpecifier.TheVariants as imports
use Rattle.swc_ast.specs.declared.statements.BlockStmt.{BlockStmt}
use Rattle.swc_ast.specs.declared.statements.CatchClause.{CatchClause}
use Rattle.swc_ast.specs.declared.statements.ForStmt.{ForStmt}
use Rattle.swc_ast.specs.declared.statements.IfStmt.{IfStmt}
use Rattle.swc_ast.specs.declared.statements.SwitchCase.{SwitchCase}
use Rattle.swc_ast.specs.declared.statements.SwitchStmt.{SwitchStmt}
use Rattle.swc_ast.specs.declared.statements.WhileStmt.{WhileStmt}
use Rattle.swc_ast.specs.declared.statements.Stmt.{Stmt}
use Rattle.static_proofs.specs.Shaped.{is_inner, is_statement, is_whole_item, is_block_or_inner, is_case_or_inner, is_head, is_declarator_of, is_specifier, is_body_or_inner, labels_of, holds}
use Rattle.static_proofs.specs.Signature.{fine, has_parts, is_case, are_cases, is_switched, is_signed}
use Rattle.static_proofs.proofs.ShapedParts.{nodes, nodes_all, some_node, inner_statement, declared_statement, statement_item, a_body, nodes_then}
use Rattle.static_proofs.proofs.SignedParts.{Good, AllGood, widened, no_tree, good_cons, good_one, made, unmade, each_good, option_good, absent_good, good_then, function_good, method_good, loop_good, own_parts}

-- the same of what a view is
viewed : {p : Label → Bool} {t u : Tree} {n : ℕ} → t ≡ u → (nodes u ≤ n → Good p u) → nodes t ≤ n → Good p t
viewed {p} {t} {u} {n} e f = subst (λ v. nodes v ≤ n → Good p v) (sym e) f

a_leaf : {p : Label → Bool} (l : Label) (ss : List Span) → p l ≡ true → holds l [] ≡ true → fine l ss ε ≡ true → has_parts l ε ≡ true → Good p (node l ss ε)
a_leaf l ss e f a b = made {q = λ m. true} l ss e f a b (no_tree _)

literal_good : (n : Lit) → Good is_inner (lit_tree n)
literal_good (lit.Str n) = a_leaf _ _ refl refl refl refl
literal_good (lit.Bool n) = a_leaf _ _ refl refl refl refl
literal_good (lit.Null n) = a_leaf _ _ refl refl refl refl
literal_good (lit.Num n) = a_leaf _ _ refl refl refl refl

-- expressions and statements up to a size
record Below (n : ℕ) : Type 0 where
  pub exprs : (e : Expr) → nodes (expr_tree e) ≤ n → Good is_inner (expr_tree e)
  pub stmts : (s : Stmt) → nodes (stmt_tree s) ≤ n → Good is_statement (stmt_tree s)

-- nodes that take others up

unary_good : (o : UnaryOp) (s : Span) (t : Tree) {n : ℕ} → (nodes t ≤ n → Good is_inner t) → nodes (unary_node o s t) ≤ suc n → Good is_inner (unary_node o s t)
unfolding unary_node
unary_good op.TypeOf s (node (tree.Read x) ss ε) f b = made (tree.TypeOfName x) (s ∷ ss) refl refl refl refl (no_tree is_inner)
unary_good op.TypeOf s (node (tree.Read x) ss (t ⊳ ts)) f b = absurd (false≢true (own_parts (tree.Read x) ss (f (omega (arith, b)))))
unary_good op.TypeOf s (node l ss cs) f b = made (tree.Unary op.TypeOf) (s ∷ []) refl refl refl refl (good_one (f (omega (arith, b))))
unary_good o s t f b = made (tree.Unary o) (s ∷ []) refl refl refl refl (good_one (f (omega (arith, b))))

call_good : (s : Span) (t : Tree) (args : Forest) {n : ℕ} → (nodes t ≤ n → Good is_inner t) → (nodes_all args ≤ n → AllGood is_inner args) → nodes (call_node s t args) ≤ suc n → Good is_inner (call_node s t args)
unfolding call_node
call_good s (node (tree.Dot k) ss cs) args f g b = made (tree.CallDot k) (s ∷ ss) refl refl refl refl (good_then cs (unmade (tree.Dot k) ss refl (f (omega (arith, b, nodes_then cs args)))) (g (omega (arith, b, nodes_then cs args))))
call_good s (node tree.Index ss cs) args f g b = made tree.CallIndex (s ∷ ss) refl refl refl refl (good_then cs (unmade tree.Index ss refl (f (omega (arith, b, nodes_then cs args)))) (g (omega (arith, b, nodes_then cs args))))
call_good s (node (tree.Read x) ss cs) args {n} f g b = by (is_eval x) refl b
  where
    by : (e : Bool) → is_eval x ≡ e → nodes (if e then node (tree.CallEval x) (s ∷ ss) args else node tree.Call (s ∷ []) (node (tree.Read x) ss cs ⊳ args)) ≤ suc n → Good is_inner (if e then node (tree.CallEval x) (s ∷ ss) args else node tree.Call (s ∷ []) (node (tree.Read x) ss cs ⊳ args))
    by true q c = made (tree.CallEval x) (s ∷ ss) refl refl q refl (g (omega (arith, c)))
    by false q c = made tree.Call (s ∷ []) refl refl (ap not q) refl (good_cons (f (omega (arith, c))) (g (omega (arith, c))))
call_good s (node l ss cs) args f g b = made tree.Call (s ∷ []) refl refl refl refl (good_cons (f (omega (arith, b))) (g (omega (arith, b))))

-- what is switched on, and tests and bodies by turns

turns : (t b : Tree) (ts : Forest) → is_inner (label_of t) ≡ true → is_case (label_of b) ≡ true → are_cases (labels_of ts) ≡ true → are_cases (labels_of (t ⊳ b ⊳ ts)) ≡ true
turns (node l ss cs) (node m rs ds) ts e f g = and_from (is_inner l) _ e (and_from (is_case m) (are_cases (labels_of ts)) f g)

switched : (t : Tree) (ts : Forest) → is_inner (label_of t) ≡ true → are_cases (labels_of ts) ≡ true → is_switched (labels_of (t ⊳ ts)) ≡ true
switched (node l ss cs) ts e f = and_from (is_inner l) _ e f

module _ {n : ℕ} (h : Below n) where
  member_good : (s : Span) (o : Expr) (p : MemberProp Expr) → nodes (member_node expr_tree s o p) ≤ suc n → Good is_inner (member_node expr_tree s o p)
  member_good s o (prop.Ident i) b = made _ _ refl refl refl refl (good_one (h.exprs o (omega (arith, b))))
  member_good s o (prop.Computed c) b = made _ _ refl refl refl refl (good_cons (h.exprs o (omega (arith, b))) (good_one (h.exprs c.expr.value (omega (arith, b)))))

  update_good : (o : UpdateOp) (q : Bool) (s : Span) (t : AssignTarget Expr) → nodes (update_node expr_tree o q s t) ≤ suc n → Good is_inner (update_node expr_tree o q s t)
  update_good o q s (target.Ident i) b = a_leaf _ _ refl refl refl refl
  update_good o q s (target.Member m) b = by m.prop b
    where
      by : (p : MemberProp Expr) → nodes (member_update expr_tree o q s m.span m.obj.value p) ≤ suc n → Good is_inner (member_update expr_tree o q s m.span m.obj.value p)
      by (prop.Ident i) c = made _ _ refl refl refl refl (good_one (h.exprs m.obj.value (omega (arith, c))))
      by (prop.Computed k) c = made _ _ refl refl refl refl (good_cons (h.exprs m.obj.value (omega (arith, c))) (good_one (h.exprs k.expr.value (omega (arith, c)))))

  assign_good : (o : AssignOp) (s : Span) (t : AssignTarget Expr) (v : Expr) → nodes (assign_node expr_tree o s t (expr_tree v)) ≤ suc n → Good is_inner (assign_node expr_tree o s t (expr_tree v))
  assign_good o s (target.Ident i) v b = made _ _ refl refl refl refl (good_one (h.exprs v (omega (arith, b))))
  assign_good o s (target.Member m) v b = by m.prop b
    where
      by : (p : MemberProp Expr) → nodes (member_assign expr_tree o s m.span m.obj.value p (expr_tree v)) ≤ suc n → Good is_inner (member_assign expr_tree o s m.span m.obj.value p (expr_tree v))
      by (prop.Ident i) c = made _ _ refl refl refl refl (good_cons (h.exprs m.obj.value (omega (arith, c))) (good_one (h.exprs v (omega (arith, c)))))
      by (prop.Computed k) c = made _ _ refl refl refl refl (good_cons (h.exprs m.obj.value (omega (arith, c))) (good_cons (h.exprs k.expr.value (omega (arith, c))) (good_one (h.exprs v (omega (arith, c))))))

  items_good : (xs : List (Option (ExprOrSpread Expr))) → nodes_all (item_trees expr_tree xs) ≤ n → AllGood is_inner (item_trees expr_tree xs)
  items_good [] b = no_tree is_inner
  items_good (None ∷ xs) b = items_good xs b
  items_good (Some x ∷ xs) b = good_cons (h.exprs x.expr.value (omega (arith, b))) (items_good xs (omega (arith, b)))

  key_good : (k : PropName Expr) → nodes (key_tree expr_tree k) ≤ n → Good is_inner (key_tree expr_tree k)
  key_good (key.Ident i) b = a_leaf _ _ refl refl refl refl
  key_good (key.Str i) b = a_leaf _ _ refl refl refl refl
  key_good (key.Num i) b = a_leaf _ _ refl refl refl refl
  key_good (key.Computed c) b = made _ _ refl refl refl refl (good_one (h.exprs c.expr.value (omega (arith, b))))

  -- functions

  param_good : (p : Pat Expr) → nodes (param_tree expr_tree p) ≤ n → Good is_param (param_tree expr_tree p)
  param_good (pat.Ident i) b = a_leaf _ _ refl refl refl refl
  param_good (pat.Assign a) b = made _ _ refl refl refl refl (good_one (h.exprs a.right.value (omega (arith, b))))

  params_good : (ps : List (Pat Expr)) → nodes (params_tree expr_tree ps) ≤ n → Good is_params (params_tree expr_tree ps)
  params_good ps b = made tree.Params [] refl refl refl refl (each_good (param_tree expr_tree) n param_good ps (omega (arith, b)))

  body_good : (s : BlockStmt Stmt) → nodes (body_tree stmt_tree s) ≤ n → Good is_body (body_tree stmt_tree s)
  body_good s b = made tree.Body _ refl refl refl refl (each_good stmt_tree n h.stmts s.stmts.items (omega (arith, b)))

  abbrev FunctionGood : FunctionTrees → Type 0
  FunctionGood p = Good is_params p.parameters × Good is_body p.body

  function_parts_good : (f : Function) → nodes (function_trees f).parameters + nodes (function_trees f).body ≤ n → FunctionGood (function_trees f)
  function_parts_good f = subst (λ p. nodes p.parameters + nodes p.body ≤ n → FunctionGood p) (sym (function_trees-is f)) (λ b. (params_good f.params.items (omega (arith, b)), body_good f.body (omega (arith, b))))

  method_node_good : (m : MethodProp) → nodes (method_tree m) ≤ suc n → Good is_inner (method_tree m)
  method_node_good m = viewed (method_tree-is m) (λ b.
      let f = function_parts_good (out-MethodProp m).function.value (omega (arith, b)) in
      method_good _ (key_good (out-MethodProp m).key (omega (arith, b))) f.0 f.1)

  -- properties

  prop_good : (o : PropForm) → nodes (prop_tree (roll-Prop o)) ≤ suc n → Good is_inner (prop_tree (roll-Prop o))
  prop_good (Open.Shorthand i) = viewed (ap prop_tree (in_prop.rolls-Shorthand i) ∙ prop_tree-Shorthand i) (λ b. a_leaf _ _ refl refl refl refl)
  prop_good (Open.KeyValue k) = viewed (ap prop_tree (in_prop.rolls-KeyValue k) ∙ prop_tree-KeyValue k) (λ b. made tree.KeyValue [] refl refl refl refl (good_cons (key_good k.key (omega (arith, b))) (good_one (h.exprs k.value.value (omega (arith, b))))))
  prop_good (Open.Method m) = viewed (ap prop_tree (in_prop.rolls-Method m) ∙ prop_tree-Method m) (method_node_good m)

  any_prop_good : (p : Prop) → nodes (prop_tree p) ≤ suc n → Good is_inner (prop_tree p)
  any_prop_good p = subst (λ q. nodes (prop_tree q) ≤ suc n → Good is_inner (prop_tree q)) (roll-out-Prop p) (prop_good (out-Prop p))

  prop_or_spread_good : (o : PropOrSpreadForm) → nodes (prop_or_spread_tree (roll-PropOrSpread o)) ≤ suc n → Good is_inner (prop_or_spread_tree (roll-PropOrSpread o))
  prop_or_spread_good (Open.Spread s) = viewed (ap prop_or_spread_tree (in_prop_or_spread.rolls-Spread s) ∙ prop_or_spread_tree-Spread s) (λ b. made tree.SpreadRecord _ refl refl refl refl (good_one (h.exprs s.expr.value (omega (arith, b)))))
  prop_or_spread_good (Open.Prop p) = viewed (ap prop_or_spread_tree (in_prop_or_spread.rolls-Prop p) ∙ prop_or_spread_tree-Prop p) (any_prop_good p)

  entry_good : (p : PropOrSpread) → nodes (prop_or_spread_tree p) ≤ suc n → Good is_inner (prop_or_spread_tree p)
  entry_good p = subst (λ q. nodes (prop_or_spread_tree q) ≤ suc n → Good is_inner (prop_or_spread_tree q)) (roll-out-PropOrSpread p) (prop_or_spread_good (out-PropOrSpread p))

  -- arrows

  abbrev ArrowBodyForm : Type 0
  ArrowBodyForm = Open.BlockStmtOrExpr-F Decl BlockStmtOrExpr Expr Prop PropOrSpread Stmt Function ArrowExpr MethodProp ForStmt IfStmt SwitchCase SwitchStmt WhileStmt

  an_inner : (l : Label) → is_inner l ≡ true → is_body_or_inner l ≡ true
  an_inner tree.Body e = refl
  an_inner l e = e

  arrow_body_good : (o : ArrowBodyForm) → nodes (arrow_body_tree (roll-BlockStmtOrExpr o)) ≤ n → Good is_body_or_inner (arrow_body_tree (roll-BlockStmtOrExpr o))
  arrow_body_good (Open.BlockStmt s) = viewed (ap arrow_body_tree (in_arrow_body.rolls-BlockStmt s) ∙ arrow_body_tree-BlockStmt s) (λ b. widened a_body (body_good s b))
  arrow_body_good (Open.BlockStmtOrExpr::Expr e) = viewed (ap arrow_body_tree (in_arrow_body.rolls-Expr e) ∙ arrow_body_tree-Expr e) (λ b. widened an_inner (h.exprs e.value b))

  any_body_good : (a : BlockStmtOrExpr) → nodes (arrow_body_tree a) ≤ n → Good is_body_or_inner (arrow_body_tree a)
  any_body_good a = subst (λ q. nodes (arrow_body_tree q) ≤ n → Good is_body_or_inner (arrow_body_tree q)) (roll-out-BlockStmtOrExpr a) (arrow_body_good (out-BlockStmtOrExpr a))

  -- expressions

  expr_good : (o : ExprForm) → nodes (expr_tree (roll-Expr o)) ≤ suc n → Good is_inner (expr_tree (roll-Expr o))
  expr_good (Open.This e) = viewed (ap expr_tree (in_expr.rolls-This e) ∙ expr_tree-This e) (λ b. a_leaf _ _ refl refl refl refl)
  expr_good (Open.Array e) = viewed (ap expr_tree (in_expr.rolls-Array e) ∙ expr_tree-Array e) (λ b. made _ _ refl refl refl refl (items_good e.elems.items (omega (arith, b))))
  expr_good (Open.Object e) = viewed (ap expr_tree (in_expr.rolls-Object e) ∙ expr_tree-Object e) (λ b. made _ _ refl refl refl refl (each_good prop_or_spread_tree (suc n) entry_good e.props.items (omega (arith, b))))
  expr_good (Open.Expr::Fn e) = viewed (ap expr_tree (in_expr.rolls-Fn e) ∙ expr_tree-Fn e) (λ b. let f = function_parts_good e.function.value (omega (arith, b)) in function_good _ _ refl refl refl refl f.0 f.1)
  expr_good (Open.Unary e) = viewed (ap expr_tree (in_expr.rolls-Unary e) ∙ expr_tree-Unary e) (unary_good e.op e.span (expr_tree e.arg.value) (h.exprs e.arg.value))
  expr_good (Open.Update e) = viewed (ap expr_tree (in_expr.rolls-Update e) ∙ expr_tree-Update e) (update_good e.value.op e.value.prefix e.value.span e.value.arg)
  expr_good (Open.Bin e) = viewed (ap expr_tree (in_expr.rolls-Bin e) ∙ expr_tree-Bin e) (λ b. made _ _ refl refl refl refl (good_cons (h.exprs e.left.value (omega (arith, b))) (good_one (h.exprs e.right.value (omega (arith, b))))))
  expr_good (Open.Assign e) = viewed (ap expr_tree (in_expr.rolls-Assign e) ∙ expr_tree-Assign e) (assign_good e.value.op e.value.span e.value.left e.value.right.value)
  expr_good (Open.Member e) = viewed (ap expr_tree (in_expr.rolls-Member e) ∙ expr_tree-Member e) (member_good e.span e.obj.value e.prop)
  expr_good (Open.Cond e) = viewed (ap expr_tree (in_expr.rolls-Cond e) ∙ expr_tree-Cond e) (λ b. made _ _ refl refl refl refl (good_cons (h.exprs e.test.value (omega (arith, b))) (good_cons (h.exprs e.cons.value (omega (arith, b))) (good_one (h.exprs e.alt.value (omega (arith, b)))))))
  expr_good (Open.Call e) = viewed (ap expr_tree (in_expr.rolls-Call e) ∙ expr_tree-Call e) (call_good e.span (expr_tree e.callee.value) (list_trees expr_tree e.args.items) (h.exprs e.callee.value) (each_good expr_tree n h.exprs e.args.items))
  expr_good (Open.New e) = viewed (ap expr_tree (in_expr.rolls-New e) ∙ expr_tree-New e) (λ b. made _ _ refl refl refl refl (good_cons (h.exprs e.callee.value (omega (arith, b))) (each_good expr_tree n h.exprs e.args.items (omega (arith, b)))))
  expr_good (Open.Seq e) = viewed (ap expr_tree (in_expr.rolls-Seq e) ∙ expr_tree-Seq e) (λ b. made _ _ refl refl refl refl (each_good expr_tree n h.exprs e.exprs.items (omega (arith, b))))
  expr_good (Open.Ident e) = viewed (ap expr_tree (in_expr.rolls-Ident e) ∙ expr_tree-Ident e) (λ b. a_leaf _ _ refl refl refl refl)
  expr_good (Open.Lit e) = viewed (ap expr_tree (in_expr.rolls-Lit e) ∙ expr_tree-Lit e) (λ b. literal_good e)
  expr_good (Open.Tpl e) = viewed (ap expr_tree (in_expr.rolls-Tpl e) ∙ expr_tree-Tpl e) (λ b. made _ _ refl refl refl refl (each_good expr_tree n h.exprs e.exprs.items (omega (arith, b))))
  expr_good (Open.Arrow e) = viewed (ap expr_tree (in_expr.rolls-Arrow e) ∙ expr_tree-Arrow e ∙ arrow_tree-is e.value) (λ b. function_good _ _ refl refl refl refl (params_good e.value.params.items (omega (arith, b))) (any_body_good e.value.body (omega (arith, b))))
  expr_good (Open.Invalid e) = viewed (ap expr_tree (in_expr.rolls-Invalid e) ∙ expr_tree-Invalid e) (λ b. a_leaf _ _ refl refl refl refl)

  -- declarations

  own_kind : (k : VarDeclKind) (x : tree.Name) → is_declarator_of k (tree.Declarator k x) ≡ true
  own_kind Var x = refl
  own_kind Let x = refl
  own_kind Const x = refl

  declarator_good : (k : VarDeclKind) (d : VarDeclarator Expr) → nodes (declarator_tree expr_tree k d) ≤ n → Good (is_declarator_of k) (declarator_tree expr_tree k d)
  declarator_good k d b = made (tree.Declarator k (ident_name d.name)) _ (own_kind k (ident_name d.name)) refl refl refl (option_good expr_tree n h.exprs d.init (omega (arith, b)))

  var_good : (v : VarDecl Expr) → nodes (var_tree expr_tree v) ≤ suc n → Good is_declaration (var_tree expr_tree v)
  var_good v b = made (tree.VarDecl v.kind) _ refl refl refl refl (each_good (declarator_tree expr_tree v.kind) n (declarator_good v.kind) v.decls.items (omega (arith, b)))

  abbrev DeclForm : Type 0
  DeclForm = Open.Decl-F Decl BlockStmtOrExpr Expr Prop PropOrSpread Stmt Function ArrowExpr MethodProp ForStmt IfStmt SwitchCase SwitchStmt WhileStmt

  decl_good : (o : DeclForm) → nodes (decl_tree (roll-Decl o)) ≤ suc n → Good is_declaration (decl_tree (roll-Decl o))
  decl_good (Open.Decl::Fn d) = viewed (ap decl_tree (in_decl.rolls-Fn d) ∙ decl_tree-Fn d) (λ b. let f = function_parts_good d.function.value (omega (arith, b)) in function_good _ _ refl refl refl refl f.0 f.1)
  decl_good (Open.Var d) = viewed (ap decl_tree (in_decl.rolls-Var d) ∙ decl_tree-Var d) (var_good d)

  any_decl_good : (d : Decl) → nodes (decl_tree d) ≤ suc n → Good is_declaration (decl_tree d)
  any_decl_good d = subst (λ q. nodes (decl_tree q) ≤ suc n → Good is_declaration (decl_tree q)) (roll-out-Decl d) (decl_good (out-Decl d))

  -- statements

  block_good : {p : Label → Bool} → p tree.Block ≡ true → (s : BlockStmt Stmt) → nodes (block_tree stmt_tree s) ≤ suc n → Good p (block_tree stmt_tree s)
  block_good e s b = made tree.Block _ e refl refl refl (each_good stmt_tree n h.stmts s.stmts.items (omega (arith, b)))

  option_block_good : (o : Option (BlockStmt Stmt)) → nodes (option_block_tree stmt_tree o) ≤ suc n → Good is_block_or_inner (option_block_tree stmt_tree o)
  option_block_good None b = a_leaf _ _ refl refl refl refl
  option_block_good (Some s) b = block_good refl s b

  handler_good : (o : Option (CatchClause Stmt)) → nodes (handler_tree stmt_tree o) ≤ suc n → Good is_block_or_inner (handler_tree stmt_tree o)
  handler_good None b = a_leaf _ _ refl refl refl refl
  handler_good (Some c) b = block_good refl c.body b

  a_case : (l : Label) → is_inner l ≡ true → is_case_or_inner l ≡ true
  a_case tree.CaseBody e = refl
  a_case l e = e

  case_too : (l : Label) → is_case l ≡ true → is_case_or_inner l ≡ true
  case_too tree.CaseBody e = refl
  case_too l e = absurd (false≢true e)

  case_good : (c : SwitchCase) → nodes (case_trees c).test + nodes (case_trees c).body ≤ n → Good is_inner (case_trees c).test × Good is_case (case_trees c).body
  case_good c = subst (λ p. nodes p.test + nodes p.body ≤ n → Good is_inner p.test × Good is_case p.body) (sym (case_trees-is c))
      (λ b. (absent_good expr_tree n h.exprs c.test (omega (arith, b)), made tree.CaseBody _ refl refl refl refl (each_good stmt_tree n h.stmts c.cons.items (omega (arith, b)))))

  cases_good : (cs : List SwitchCase) → nodes_all (case_children (map case_trees cs)) ≤ n → AllGood is_case_or_inner (case_children (map case_trees cs))
  cases_good [] b = no_tree is_case_or_inner
  cases_good (c ∷ cs) b = let g = case_good c (omega (arith, b)) in good_cons (widened a_case g.0) (good_cons (widened case_too g.1) (cases_good cs (omega (arith, b))))

  cases_turn : (cs : List SwitchCase) → nodes_all (case_children (map case_trees cs)) ≤ n → are_cases (labels_of (case_children (map case_trees cs))) ≡ true
  cases_turn [] b = refl
  cases_turn (c ∷ cs) b = let g = case_good c (omega (arith, b)) in turns (case_trees c).test (case_trees c).body (case_children (map case_trees cs)) g.0.stands g.1.stands (cases_turn cs (omega (arith, b)))

  loop_parts_good : (w : WhileStmt) → nodes (loop_trees w).test + nodes (loop_trees w).body ≤ n → Good is_inner (loop_trees w).test × Good is_statement (loop_trees w).body
  loop_parts_good w = subst (λ p. nodes p.test + nodes p.body ≤ n → Good is_inner p.test × Good is_statement p.body) (sym (loop_trees-is w)) (λ b. (h.exprs w.test.value (omega (arith, b)), h.stmts w.body.value (omega (arith, b))))

  a_head : (l : Label) → is_inner l ≡ true → is_head l ≡ true
  a_head (tree.VarDecl k) e = refl
  a_head l e = e

  head_good : (o : Option (VarDeclOrExpr Expr)) → nodes (option_init_tree expr_tree o) ≤ n → Good is_head (option_init_tree expr_tree o)
  head_good None b = a_leaf _ _ refl refl refl refl
  head_good (Some (init.VarDecl v)) b = record { stands = refl; signed = (var_good v (omega (arith, b))).signed }
  head_good (Some (init.Expr e)) b = widened a_head (h.exprs e.value b)

  stmt_good : (o : StmtForm) → nodes (stmt_tree (roll-Stmt o)) ≤ suc n → Good is_statement (stmt_tree (roll-Stmt o))
  stmt_good (Open.Block s) = viewed (ap stmt_tree (in_stmt.rolls-Block s) ∙ stmt_tree-Block s) (block_good refl s)
  stmt_good (Open.Empty s) = viewed (ap stmt_tree (in_stmt.rolls-Empty s) ∙ stmt_tree-Empty s) (λ b. a_leaf _ _ refl refl refl refl)
  stmt_good (Open.Return s) = viewed (ap stmt_tree (in_stmt.rolls-Return s) ∙ stmt_tree-Return s) (λ b. made _ _ refl refl refl refl (option_good expr_tree n h.exprs s.arg (omega (arith, b))))
  stmt_good (Open.Labeled s) = viewed (ap stmt_tree (in_stmt.rolls-Labeled s) ∙ stmt_tree-Labeled s) (λ b. made _ _ refl refl refl refl (good_one (h.stmts s.body.value (omega (arith, b)))))
  stmt_good (Open.Break s) = viewed (ap stmt_tree (in_stmt.rolls-Break s) ∙ stmt_tree-Break s) (λ b. a_leaf _ _ refl refl refl refl)
  stmt_good (Open.Continue s) = viewed (ap stmt_tree (in_stmt.rolls-Continue s) ∙ stmt_tree-Continue s) (λ b. a_leaf _ _ refl refl refl refl)
  stmt_good (Open.If s) = viewed (ap stmt_tree (in_stmt.rolls-If s) ∙ stmt_tree-If s ∙ if_tree-is s) (λ b. made tree.If _ refl refl refl refl (good_cons (widened inner_statement (h.exprs s.test.value (omega (arith, b)))) (good_cons (h.stmts s.cons.value (omega (arith, b))) (option_good stmt_tree n h.stmts s.alt (omega (arith, b))))))
  stmt_good (Open.Switch s) = viewed (ap stmt_tree (in_stmt.rolls-Switch s) ∙ stmt_tree-Switch s ∙ switch_tree-is s) (λ b. made _ _ refl refl refl (switched (expr_tree (out-SwitchStmt s).discriminant.value) (case_children (map case_trees (out-SwitchStmt s).cases.items)) (h.exprs (out-SwitchStmt s).discriminant.value (omega (arith, b))).stands (cases_turn (out-SwitchStmt s).cases.items (omega (arith, b)))) (good_cons (widened a_case (h.exprs (out-SwitchStmt s).discriminant.value (omega (arith, b)))) (cases_good (out-SwitchStmt s).cases.items (omega (arith, b)))))
  stmt_good (Open.Throw s) = viewed (ap stmt_tree (in_stmt.rolls-Throw s) ∙ stmt_tree-Throw s) (λ b. made _ _ refl refl refl refl (good_one (h.exprs s.arg.value (omega (arith, b)))))
  stmt_good (Open.Try s) = viewed (ap stmt_tree (in_stmt.rolls-Try s) ∙ stmt_tree-Try s) (λ b. made _ _ refl refl refl refl (good_cons (block_good refl s.value.block (omega (arith, b))) (good_cons (handler_good s.value.handler (omega (arith, b))) (good_one (option_block_good s.value.finalizer (omega (arith, b)))))))
  stmt_good (Open.While s) = viewed (ap stmt_tree (in_stmt.rolls-While s) ∙ stmt_tree-While s) (λ b. let g = loop_parts_good s (omega (arith, b)) in made tree.While _ refl refl refl refl (good_cons (widened inner_statement g.0) (good_one g.1)))
  stmt_good (Open.DoWhile s) = viewed (ap stmt_tree (in_stmt.rolls-DoWhile s) ∙ stmt_tree-DoWhile s) (λ b. let g = loop_parts_good s (omega (arith, b)) in made tree.DoWhile _ refl refl refl refl (good_cons g.1 (good_one (widened inner_statement g.0))))
  stmt_good (Open.For s) = viewed (ap stmt_tree (in_stmt.rolls-For s) ∙ stmt_tree-For s ∙ for_tree-is s.value) (λ b. loop_good _ (head_good s.value.init (omega (arith, b))) (absent_good expr_tree n h.exprs s.value.test (omega (arith, b))) (absent_good expr_tree n h.exprs s.value.update (omega (arith, b))) (h.stmts s.value.body.value (omega (arith, b))))
  stmt_good (Open.Decl d) = viewed (ap stmt_tree (in_stmt.rolls-Decl d) ∙ stmt_tree-Decl d) (λ b. widened declared_statement (any_decl_good d b))
  stmt_good (Open.Stmt::Expr s) = viewed (ap stmt_tree (in_stmt.rolls-Expr s) ∙ stmt_tree-Expr s) (λ b. made _ _ refl refl refl refl (good_one (h.exprs s.expr.value (omega (arith, b)))))

-- all sizes

below : (n : ℕ) → Below n
below zero = record { exprs = λ e b. absurd (omega (arith, b, some_node (expr_tree e))); stmts = λ s b. absurd (omega (arith, b, some_node (stmt_tree s))) }
below (suc n) = record {
  exprs = λ e. subst (λ q. nodes (expr_tree q) ≤ suc n → Good is_inner (expr_tree q)) (roll-out-Expr e) (expr_good (below n) (out-Expr e));
  stmts = λ s. subst (λ q. nodes (stmt_tree q) ≤ suc n → Good is_statement (stmt_tree q)) (roll-out-Stmt s) (stmt_good (below n) (out-Stmt s));
}

pub expr_signed : (e : Expr) → Good is_inner (expr_tree e)
expr_signed e = (below (nodes (expr_tree e))).exprs e (omega arith)

pub stmt_signed : (s : Stmt) → Good is_statement (stmt_tree s)
stmt_signed s = (below (nodes (stmt_tree s))).stmts s (omega arith)

-- modules and scripts

specifier_good : (s : ImportSpecifier) → Good is_specifier (import_specifier_tree s)
specifier_good (imports.Named s) = a_leaf _ _ refl refl refl refl
specifier_good (imports.Default s) = a_leaf _ _ refl refl refl refl
specifier_good (imports.Namespace s) = a_leaf _ _ refl refl refl refl

export_good : (ss : List Span) (t : Tree) → Good is_declaration t → Good is_whole_item (node tree.ExportDecl ss (t ⊳ ε))
export_good ss (node l rs cs) g = record { stands = refl; signed = and_from (is_declaration l && true) _ (and_from (is_declaration l) true g.stands refl) (and_from (is_signed (node l rs cs)) true g.signed refl) }

declaration_good : (d : ModuleDecl) → Good is_whole_item (module_decl_tree d)
declaration_good (decls.Import d) = made _ _ refl refl refl refl (each_good import_specifier_tree (nodes_all (list_trees import_specifier_tree d.specifiers.items)) (λ s b. specifier_good s) d.specifiers.items (omega arith))
declaration_good (decls.ExportDecl d) = export_good _ (decl_tree d.decl) (any_decl_good (below (nodes (decl_tree d.decl))) d.decl (omega arith))
declaration_good (decls.ExportNamed d) = made tree.ExportNamed _ refl refl refl refl (each_good export_specifier_tree (nodes_all (list_trees export_specifier_tree d.specifiers.items)) (λ s b. a_leaf _ _ refl refl refl refl) d.specifiers.items (omega arith))
declaration_good (decls.ExportDefaultDecl d) = let f = function_parts_good (below (nodes (function_trees d.decl.function.value).parameters + nodes (function_trees d.decl.function.value).body)) d.decl.function.value (omega arith) in function_good _ _ refl refl refl refl f.0 f.1
declaration_good (decls.ExportDefaultExpr d) = made tree.ExportDefaultExpr _ refl refl refl refl (good_one (expr_signed d.expr.value))

item_good : (i : ModuleItem) → Good is_whole_item (item_tree i)
item_good (items.ModuleDecl d) = declaration_good d
item_good (items.Stmt s) = widened statement_item (stmt_signed s)

-- items of a module, in a row
pub items_signed : (s : Span) (xs : List ModuleItem) → is_signed (node tree.Module (s ∷ []) (list_trees item_tree xs)) ≡ true
items_signed s xs = (made {p = λ l. true} tree.Module (s ∷ []) refl refl refl refl (each_good item_tree (nodes_all (list_trees item_tree xs)) (λ i b. item_good i) xs (omega arith))).signed

pub module_signed : (m : Module) → is_signed (module_tree m) ≡ true
module_signed m = items_signed m.span m.body.items

pub script_signed : (s : Script) → is_signed (script_tree s) ≡ true
script_signed s = (made {p = λ l. true} tree.Script (s.span ∷ []) refl refl refl refl (each_good stmt_tree (nodes_all (list_trees stmt_tree s.body.items)) (λ i b. stmt_signed i) s.body.items (omega arith))).signed
