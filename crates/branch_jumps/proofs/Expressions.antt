-- No jump leaves an expression: statements stand in functions alone, which no jump leaves.
use Rattle.std.proofs.Common.{◌≡◌, ℕ, zero, suc, ◌≤◌, Bool, true, false, ◌||◌, if◌then◌else◌, List, [], ◌∷◌, refl, sym, ap, subst, ◌∙◌, arith}
use Rattle.std.specs.Prelude.{Option, Some, None}
use Rattle.std.specs.declared.alloc.Global.{Global}
use Rattle.std.specs.declared.boxed.Box.{Box}
use Rattle.swc_ast.specs.Tree as tree
use Rattle.swc_ast.specs.Tree.{Tree, node, Forest, ε, ◌⊳◌}
use Rattle.swc_ast.specs.Parts.{then_all, list_trees, optional_trees, tree_or_absent, lit_tree}
use Rattle.swc_ast.specs.Expressions.{is_eval, item_trees, key_tree, member_node, unary_node, member_update, update_node, member_assign, assign_node, call_node}
use Rattle.swc_ast.specs.Views.{expr_tree, prop_tree, prop_or_spread_tree, method_tree}
use Rattle.swc_ast.proofs.Equations.{expr_tree-This, expr_tree-Array, expr_tree-Object, expr_tree-Fn, expr_tree-Unary, expr_tree-Update, expr_tree-Bin, expr_tree-Assign, expr_tree-Member, expr_tree-Cond, expr_tree-Call, expr_tree-New, expr_tree-Seq, expr_tree-Ident, expr_tree-Lit, expr_tree-Tpl, expr_tree-Arrow, expr_tree-Invalid, arrow_tree-is, prop_or_spread_tree-Spread, prop_or_spread_tree-Prop, prop_tree-Shorthand, prop_tree-KeyValue, prop_tree-Method, method_tree-is}
use Rattle.swc_ast.proofs.ApartExpressions.{ExprForm}
use Rattle.swc_ast.proofs.ApartProps.{PropForm, PropOrSpreadForm}
use Rattle.swc_ast.specs.declared.declarations.Decl.TheOpen as Open
use Rattle.swc_ast.specs.declared.declarations.Decl.TheViews.{roll-Expr, out-Expr, roll-out-Expr, roll-Prop, out-Prop, roll-out-Prop, roll-PropOrSpread, out-PropOrSpread, roll-out-PropOrSpread, out-MethodProp}
use Rattle.swc_ast.specs.declared.expressions.Expr.TheVariants as in_expr
use Rattle.swc_ast.specs.declared.expressions.Prop.TheVariants as in_prop
use Rattle.swc_ast.specs.declared.expressions.PropOrSpread.TheVariants as in_prop_or_spread
use Rattle.swc_ast.specs.declared.expressions.AssignTarget.{AssignTarget}
use Rattle.swc_ast.specs.declared.expressions.AssignTarget.TheVariants as target
use Rattle.swc_ast.specs.declared.expressions.MemberProp.{MemberProp}
use Rattle.swc_ast.specs.declared.expressions.MemberProp.TheVariants as prop
use Rattle.swc_ast.specs.declared.expressions.PropName.{PropName}
use Rattle.swc_ast.specs.declared.expressions.PropName.TheVariants as key
use Rattle.swc_ast.specs.declared.expressions.ExprOrSpread.{ExprOrSpread}
use Rattle.swc_ast.specs.declared.literals.Lit.{Lit}
use Rattle.swc_ast.specs.declared.literals.Lit.TheVariants as lit
use Rattle.swc_ast.specs.declared.AssignOp.{AssignOp}
use Rattle.swc_ast.specs.declared.UnaryOp.{UnaryOp}
use Rattle.swc_ast.specs.declared.UnaryOp.TheVariants as op
use Rattle.swc_ast.specs.declared.UpdateOp.{UpdateOp}
use Rattle.swc_ast.specs.declared.Span.{Span}
use Rattle.swc_ast.specs.declared.expressions.Expr.{Expr}
use Rattle.swc_ast.specs.declared.expressions.MethodProp.{MethodProp}
use Rattle.swc_ast.specs.declared.expressions.Prop.{Prop}
use Rattle.swc_ast.specs.declared.expressions.PropOrSpread.{PropOrSpread}
use Rattle.static_proofs.proofs.ShapedParts.{nodes, nodes_all, some_node, nodes_then}
use Rattle.branch_rules.specs.Jumps.{Kinds, escapes, some_escape}

-- no jump leaves a tree
pub record Closed (t : Tree) : Type 0 where
  pub none_leaves : (g : Kinds) → escapes g t ≡ false

-- nor one of several
pub record AllClosed (ts : Forest) : Type 0 where
  pub none_leave : (g : Kinds) → some_escape g ts ≡ false

pub neither : (a b : Bool) → a ≡ false → b ≡ false → (a || b) ≡ false
neither true b e f = e
neither false b e f = f

first_of : (a b : Bool) → (a || b) ≡ false → a ≡ false
first_of true b e = e
first_of false b e = refl

second_of : (a b : Bool) → (a || b) ≡ false → b ≡ false
second_of true false e = refl
second_of true true e = e
second_of false b e = e

none : AllClosed ε
none = record { none_leave = λ g. refl }

closed_cons : {t : Tree} {ts : Forest} → Closed t → AllClosed ts → AllClosed (t ⊳ ts)
closed_cons {t} {ts} h i = record { none_leave = λ g. neither (escapes g t) (some_escape g ts) (h.none_leaves g) (i.none_leave g) }

closed_one : {t : Tree} → Closed t → AllClosed (t ⊳ ε)
closed_one h = closed_cons h none

closed_then : (ts : Forest) {us : Forest} → AllClosed ts → AllClosed us → AllClosed (then_all ts us)
closed_then ε h i = i
closed_then (t ⊳ ts) h i =
    closed_cons (record { none_leaves = λ g. first_of (escapes g t) (some_escape g ts) (h.none_leave g) })
    (closed_then ts (record { none_leave = λ g. second_of (escapes g t) (some_escape g ts) (h.none_leave g) }) i)

-- a node that passes on the jumps of its children, and back
made : (l : tree.Label) (ss : List Span) {cs : Forest} → ((g : Kinds) → escapes g (node l ss cs) ≡ some_escape g cs) → AllClosed cs → Closed (node l ss cs)
made l ss f h = record { none_leaves = λ g. f g ∙ h.none_leave g }

unmade : (l : tree.Label) (ss : List Span) {cs : Forest} → ((g : Kinds) → escapes g (node l ss cs) ≡ some_escape g cs) → Closed (node l ss cs) → AllClosed cs
unmade l ss f h = record { none_leave = λ g. sym (f g) ∙ h.none_leaves g }

a_leaf : (l : tree.Label) (ss : List Span) → ((g : Kinds) → escapes g (node l ss ε) ≡ false) → Closed (node l ss ε)
a_leaf l ss f = record { none_leaves = f }

each_closed : {X : Type 0} (f : X → Tree) (n : ℕ) → ((x : X) → nodes (f x) ≤ n → Closed (f x)) → (xs : List X) → nodes_all (list_trees f xs) ≤ n → AllClosed (list_trees f xs)
each_closed f n h [] b = none
each_closed f n h (x ∷ xs) b = closed_cons (h x (omega (arith, b))) (each_closed f n h xs (omega (arith, b)))

-- the same of what a view is
viewed : {t u : Tree} {n : ℕ} → t ≡ u → (nodes u ≤ n → Closed u) → nodes t ≤ n → Closed t
viewed {t} {u} {n} e f = subst (λ v. nodes v ≤ n → Closed v) (sym e) f

literal_closed : (n : Lit) → Closed (lit_tree n)
literal_closed (lit.Str n) = a_leaf _ _ (λ g. refl)
literal_closed (lit.Bool n) = a_leaf _ _ (λ g. refl)
literal_closed (lit.Null n) = a_leaf _ _ (λ g. refl)
literal_closed (lit.Num n) = a_leaf _ _ (λ g. refl)

-- nodes that take others up

unary_closed : (o : UnaryOp) (s : Span) (t : Tree) {n : ℕ} → (nodes t ≤ n → Closed t) → nodes (unary_node o s t) ≤ suc n → Closed (unary_node o s t)
unfolding unary_node
unary_closed op.TypeOf s (node (tree.Read x) ss cs) f b = made (tree.TypeOfName x) (s ∷ ss) (λ g. refl) (unmade (tree.Read x) ss (λ g. refl) (f (omega (arith, b))))
unary_closed op.TypeOf s (node l ss cs) f b = made (tree.Unary op.TypeOf) (s ∷ []) (λ g. refl) (closed_one (f (omega (arith, b))))
unary_closed o s t f b = made (tree.Unary o) (s ∷ []) (λ g. refl) (closed_one (f (omega (arith, b))))

call_closed : (s : Span) (t : Tree) (args : Forest) {n : ℕ} → (nodes t ≤ n → Closed t) → (nodes_all args ≤ n → AllClosed args) → nodes (call_node s t args) ≤ suc n → Closed (call_node s t args)
unfolding call_node
call_closed s (node (tree.Dot k) ss cs) args f h b = made (tree.CallDot k) (s ∷ ss) (λ g. refl) (closed_then cs (unmade (tree.Dot k) ss (λ g. refl) (f (omega (arith, b, nodes_then cs args)))) (h (omega (arith, b, nodes_then cs args))))
call_closed s (node tree.Index ss cs) args f h b = made tree.CallIndex (s ∷ ss) (λ g. refl) (closed_then cs (unmade tree.Index ss (λ g. refl) (f (omega (arith, b, nodes_then cs args)))) (h (omega (arith, b, nodes_then cs args))))
call_closed s (node (tree.Read x) ss cs) args {n} f h b = by (is_eval x) b
  where
    by : (e : Bool) → nodes (if e then node (tree.CallEval x) (s ∷ ss) args else node tree.Call (s ∷ []) (node (tree.Read x) ss cs ⊳ args)) ≤ suc n → Closed (if e then node (tree.CallEval x) (s ∷ ss) args else node tree.Call (s ∷ []) (node (tree.Read x) ss cs ⊳ args))
    by true c = made (tree.CallEval x) (s ∷ ss) (λ g. refl) (h (omega (arith, c)))
    by false c = made tree.Call (s ∷ []) (λ g. refl) (closed_cons (f (omega (arith, c))) (h (omega (arith, c))))
call_closed s t args f h b = made tree.Call (s ∷ []) (λ g. refl) (closed_cons (f (omega (arith, b))) (h (omega (arith, b))))

-- expressions up to a size
record Below (n : ℕ) : Type 0 where
  pub exprs : (e : Expr) → nodes (expr_tree e) ≤ n → Closed (expr_tree e)

module _ {n : ℕ} (h : Below n) where
  member_closed : (s : Span) (o : Expr) (p : MemberProp Expr) → nodes (member_node expr_tree s o p) ≤ suc n → Closed (member_node expr_tree s o p)
  member_closed s o (prop.Ident i) b = made _ _ (λ g. refl) (closed_one (h.exprs o (omega (arith, b))))
  member_closed s o (prop.Computed c) b = made _ _ (λ g. refl) (closed_cons (h.exprs o (omega (arith, b))) (closed_one (h.exprs c.expr.value (omega (arith, b)))))

  update_closed : (o : UpdateOp) (q : Bool) (s : Span) (t : AssignTarget Expr) → nodes (update_node expr_tree o q s t) ≤ suc n → Closed (update_node expr_tree o q s t)
  update_closed o q s (target.Ident i) b = a_leaf _ _ (λ g. refl)
  update_closed o q s (target.Member m) b = by m.prop b
    where
      by : (p : MemberProp Expr) → nodes (member_update expr_tree o q s m.span m.obj.value p) ≤ suc n → Closed (member_update expr_tree o q s m.span m.obj.value p)
      by (prop.Ident i) c = made _ _ (λ g. refl) (closed_one (h.exprs m.obj.value (omega (arith, c))))
      by (prop.Computed k) c = made _ _ (λ g. refl) (closed_cons (h.exprs m.obj.value (omega (arith, c))) (closed_one (h.exprs k.expr.value (omega (arith, c)))))

  assign_closed : (o : AssignOp) (s : Span) (t : AssignTarget Expr) (v : Expr) → nodes (assign_node expr_tree o s t (expr_tree v)) ≤ suc n → Closed (assign_node expr_tree o s t (expr_tree v))
  assign_closed o s (target.Ident i) v b = made _ _ (λ g. refl) (closed_one (h.exprs v (omega (arith, b))))
  assign_closed o s (target.Member m) v b = by m.prop b
    where
      by : (p : MemberProp Expr) → nodes (member_assign expr_tree o s m.span m.obj.value p (expr_tree v)) ≤ suc n → Closed (member_assign expr_tree o s m.span m.obj.value p (expr_tree v))
      by (prop.Ident i) c = made _ _ (λ g. refl) (closed_cons (h.exprs m.obj.value (omega (arith, c))) (closed_one (h.exprs v (omega (arith, c)))))
      by (prop.Computed k) c = made _ _ (λ g. refl) (closed_cons (h.exprs m.obj.value (omega (arith, c))) (closed_cons (h.exprs k.expr.value (omega (arith, c))) (closed_one (h.exprs v (omega (arith, c))))))

  items_closed : (xs : List (Option (ExprOrSpread Expr))) → nodes_all (item_trees expr_tree xs) ≤ n → AllClosed (item_trees expr_tree xs)
  items_closed [] b = none
  items_closed (None ∷ xs) b = items_closed xs b
  items_closed (Some x ∷ xs) b = closed_cons (h.exprs x.expr.value (omega (arith, b))) (items_closed xs (omega (arith, b)))

  key_closed : (k : PropName Expr) → nodes (key_tree expr_tree k) ≤ n → Closed (key_tree expr_tree k)
  key_closed (key.Ident i) b = a_leaf _ _ (λ g. refl)
  key_closed (key.Str i) b = a_leaf _ _ (λ g. refl)
  key_closed (key.Num i) b = a_leaf _ _ (λ g. refl)
  key_closed (key.Computed c) b = made _ _ (λ g. refl) (closed_one (h.exprs c.expr.value (omega (arith, b))))

  -- properties

  method_closed : (m : MethodProp) → nodes (method_tree m) ≤ suc n → Closed (method_tree m)
  method_closed m = viewed (method_tree-is m) (λ b. let k = key_closed (out-MethodProp m).key (omega (arith, b)) in record { none_leaves = λ g. k.none_leaves g })

  prop_closed : (o : PropForm) → nodes (prop_tree (roll-Prop o)) ≤ suc n → Closed (prop_tree (roll-Prop o))
  prop_closed (Open.Shorthand i) = viewed (ap prop_tree (in_prop.rolls-Shorthand i) ∙ prop_tree-Shorthand i) (λ b. a_leaf _ _ (λ g. refl))
  prop_closed (Open.KeyValue k) = viewed (ap prop_tree (in_prop.rolls-KeyValue k) ∙ prop_tree-KeyValue k) (λ b. made _ _ (λ g. refl) (closed_cons (key_closed k.key (omega (arith, b))) (closed_one (h.exprs k.value.value (omega (arith, b))))))
  prop_closed (Open.Method m) = viewed (ap prop_tree (in_prop.rolls-Method m) ∙ prop_tree-Method m) (method_closed m)

  any_prop_closed : (p : Prop) → nodes (prop_tree p) ≤ suc n → Closed (prop_tree p)
  any_prop_closed p = subst (λ q. nodes (prop_tree q) ≤ suc n → Closed (prop_tree q)) (roll-out-Prop p) (prop_closed (out-Prop p))

  prop_or_spread_closed : (o : PropOrSpreadForm) → nodes (prop_or_spread_tree (roll-PropOrSpread o)) ≤ suc n → Closed (prop_or_spread_tree (roll-PropOrSpread o))
  prop_or_spread_closed (Open.Spread s) = viewed (ap prop_or_spread_tree (in_prop_or_spread.rolls-Spread s) ∙ prop_or_spread_tree-Spread s) (λ b. made _ _ (λ g. refl) (closed_one (h.exprs s.expr.value (omega (arith, b)))))
  prop_or_spread_closed (Open.Prop p) = viewed (ap prop_or_spread_tree (in_prop_or_spread.rolls-Prop p) ∙ prop_or_spread_tree-Prop p) (any_prop_closed p)

  entry_closed : (p : PropOrSpread) → nodes (prop_or_spread_tree p) ≤ suc n → Closed (prop_or_spread_tree p)
  entry_closed p = subst (λ q. nodes (prop_or_spread_tree q) ≤ suc n → Closed (prop_or_spread_tree q)) (roll-out-PropOrSpread p) (prop_or_spread_closed (out-PropOrSpread p))

  -- expressions

  form_closed : (o : ExprForm) → nodes (expr_tree (roll-Expr o)) ≤ suc n → Closed (expr_tree (roll-Expr o))
  form_closed (Open.This e) = viewed (ap expr_tree (in_expr.rolls-This e) ∙ expr_tree-This e) (λ b. a_leaf _ _ (λ g. refl))
  form_closed (Open.Array e) = viewed (ap expr_tree (in_expr.rolls-Array e) ∙ expr_tree-Array e) (λ b. made _ _ (λ g. refl) (items_closed e.elems.items (omega (arith, b))))
  form_closed (Open.Object e) = viewed (ap expr_tree (in_expr.rolls-Object e) ∙ expr_tree-Object e) (λ b. made _ _ (λ g. refl) (each_closed prop_or_spread_tree (suc n) entry_closed e.props.items (omega (arith, b))))
  form_closed (Open.Expr::Fn e) = viewed (ap expr_tree (in_expr.rolls-Fn e) ∙ expr_tree-Fn e) (λ b. record { none_leaves = λ g. refl })
  form_closed (Open.Unary e) = viewed (ap expr_tree (in_expr.rolls-Unary e) ∙ expr_tree-Unary e) (unary_closed e.op e.span (expr_tree e.arg.value) (h.exprs e.arg.value))
  form_closed (Open.Update e) = viewed (ap expr_tree (in_expr.rolls-Update e) ∙ expr_tree-Update e) (update_closed e.value.op e.value.prefix e.value.span e.value.arg)
  form_closed (Open.Bin e) = viewed (ap expr_tree (in_expr.rolls-Bin e) ∙ expr_tree-Bin e) (λ b. made _ _ (λ g. refl) (closed_cons (h.exprs e.left.value (omega (arith, b))) (closed_one (h.exprs e.right.value (omega (arith, b))))))
  form_closed (Open.Assign e) = viewed (ap expr_tree (in_expr.rolls-Assign e) ∙ expr_tree-Assign e) (assign_closed e.value.op e.value.span e.value.left e.value.right.value)
  form_closed (Open.Member e) = viewed (ap expr_tree (in_expr.rolls-Member e) ∙ expr_tree-Member e) (member_closed e.span e.obj.value e.prop)
  form_closed (Open.Cond e) = viewed (ap expr_tree (in_expr.rolls-Cond e) ∙ expr_tree-Cond e) (λ b. made _ _ (λ g. refl) (closed_cons (h.exprs e.test.value (omega (arith, b))) (closed_cons (h.exprs e.cons.value (omega (arith, b))) (closed_one (h.exprs e.alt.value (omega (arith, b)))))))
  form_closed (Open.Call e) = viewed (ap expr_tree (in_expr.rolls-Call e) ∙ expr_tree-Call e) (call_closed e.span (expr_tree e.callee.value) (list_trees expr_tree e.args.items) (h.exprs e.callee.value) (each_closed expr_tree n h.exprs e.args.items))
  form_closed (Open.New e) = viewed (ap expr_tree (in_expr.rolls-New e) ∙ expr_tree-New e) (λ b. made _ _ (λ g. refl) (closed_cons (h.exprs e.callee.value (omega (arith, b))) (each_closed expr_tree n h.exprs e.args.items (omega (arith, b)))))
  form_closed (Open.Seq e) = viewed (ap expr_tree (in_expr.rolls-Seq e) ∙ expr_tree-Seq e) (λ b. made _ _ (λ g. refl) (each_closed expr_tree n h.exprs e.exprs.items (omega (arith, b))))
  form_closed (Open.Ident e) = viewed (ap expr_tree (in_expr.rolls-Ident e) ∙ expr_tree-Ident e) (λ b. a_leaf _ _ (λ g. refl))
  form_closed (Open.Lit e) = viewed (ap expr_tree (in_expr.rolls-Lit e) ∙ expr_tree-Lit e) (λ b. literal_closed e)
  form_closed (Open.Tpl e) = viewed (ap expr_tree (in_expr.rolls-Tpl e) ∙ expr_tree-Tpl e) (λ b. made _ _ (λ g. refl) (each_closed expr_tree n h.exprs e.exprs.items (omega (arith, b))))
  form_closed (Open.Arrow e) = viewed (ap expr_tree (in_expr.rolls-Arrow e) ∙ expr_tree-Arrow e ∙ arrow_tree-is e.value) (λ b. record { none_leaves = λ g. refl })
  form_closed (Open.Invalid e) = viewed (ap expr_tree (in_expr.rolls-Invalid e) ∙ expr_tree-Invalid e) (λ b. a_leaf _ _ (λ g. refl))

-- all sizes

below : (n : ℕ) → Below n
below zero = record { exprs = λ e b. absurd (omega (arith, b, some_node (expr_tree e))) }
below (suc n) = record { exprs = λ e. subst (λ q. nodes (expr_tree q) ≤ suc n → Closed (expr_tree q)) (roll-out-Expr e) (form_closed (below n) (out-Expr e)) }

-- no jump leaves an expression
pub expr_closed : (g : Kinds) (e : Expr) → escapes g (expr_tree e) ≡ false
expr_closed g e = ((below (nodes (expr_tree e))).exprs e (omega arith)).none_leaves g

-- nor one that may be left out

pub optional_closed : (g : Kinds) (o : Option (Box Expr Global)) → some_escape g (optional_trees expr_tree o) ≡ false
optional_closed g None = refl
optional_closed g (Some e) = neither (escapes g (expr_tree e.value)) false (expr_closed g e.value) refl

pub absent_closed : (g : Kinds) (o : Option (Box Expr Global)) → escapes g (tree_or_absent expr_tree o) ≡ false
absent_closed g None = refl
absent_closed g (Some e) = expr_closed g e.value
