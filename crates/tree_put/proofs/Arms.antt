-- Each kind of expression, once its parts are walked.
use Rattle.std.proofs.Common.{◌≡◌, Bool, true, false, refl, sym, ap, ◌∙◌, subst, List, ◌∷◌, map}
use Rattle.std.proofs.lemmas.Bool.{false≢true}
use Rattle.std.specs.Prelude.{ℕ, ◌==◌, Option, Some, None}
use Rattle.std.specs.declared.alloc.Global.{Global}
use Rattle.std.specs.declared.boxed.Box.{Box}
use Rattle.std.specs.declared.vec.Vec.{Vec}
use Rattle.swc_ast.specs.Labels.{is_expression}
use Rattle.swc_ast.specs.Tree as tree
use Rattle.swc_ast.specs.Tree.{Tree, node, Forest, label_of}
use Rattle.swc_ast.specs.Parts.{lit_tree, option_ident_name, option_ident_spans}
use Rattle.swc_ast.specs.Expressions.{spread_kind, item_kind, item_spans, item_trees, array_tree, member_tree, member_node, member_update, member_assign, call_node, unary_node, unary_tree, update_tree, assign_tree}
use Rattle.swc_ast.specs.Views.{expr_tree, prop_or_spread_tree, function_trees, arrow_tree}
use Rattle.swc_ast.specs.declared.AssignOp.{AssignOp}
use Rattle.swc_ast.specs.declared.Span.{Span}
use Rattle.swc_ast.specs.declared.UnaryOp.{UnaryOp}
use Rattle.swc_ast.specs.declared.UnaryOp.TheVariants as op
use Rattle.swc_ast.specs.declared.UpdateOp.{UpdateOp}
use Rattle.swc_ast.specs.declared.declarations.Decl.TheOpen as Open
use Rattle.swc_ast.specs.declared.declarations.Decl.TheViews.{roll-Expr, out-Expr, roll-out-Expr}
use Rattle.swc_ast.specs.declared.declarations.Function.{Function}
use Rattle.swc_ast.specs.declared.expressions.Expr.{Expr}
use Rattle.swc_ast.specs.declared.expressions.Expr.TheVariants as in_expr
use Rattle.swc_ast.specs.declared.expressions.ArrayLit.{ArrayLit}
use Rattle.swc_ast.specs.declared.expressions.ArrowExpr.{ArrowExpr}
use Rattle.swc_ast.specs.declared.expressions.AssignExpr.{AssignExpr}
use Rattle.swc_ast.specs.declared.expressions.AssignTarget.{AssignTarget}
use Rattle.swc_ast.specs.declared.expressions.AssignTarget.TheVariants as target
use Rattle.swc_ast.specs.declared.expressions.BinExpr.{BinExpr}
use Rattle.swc_ast.specs.declared.expressions.CallExpr.{CallExpr}
use Rattle.swc_ast.specs.declared.expressions.CondExpr.{CondExpr}
use Rattle.swc_ast.specs.declared.expressions.ExprOrSpread.{ExprOrSpread}
use Rattle.swc_ast.specs.declared.expressions.FnExpr.{FnExpr}
use Rattle.swc_ast.specs.declared.expressions.MemberExpr.{MemberExpr}
use Rattle.swc_ast.specs.declared.expressions.MemberProp.{MemberProp}
use Rattle.swc_ast.specs.declared.expressions.MemberProp.TheVariants as prop
use Rattle.swc_ast.specs.declared.expressions.NewExpr.{NewExpr}
use Rattle.swc_ast.specs.declared.expressions.ObjectLit.{ObjectLit}
use Rattle.swc_ast.specs.declared.expressions.PropOrSpread.{PropOrSpread}
use Rattle.swc_ast.specs.declared.expressions.SeqExpr.{SeqExpr}
use Rattle.swc_ast.specs.declared.expressions.ThisExpr.{ThisExpr}
use Rattle.swc_ast.specs.declared.expressions.Invalid.{Invalid}
use Rattle.swc_ast.specs.declared.expressions.Tpl.{Tpl}
use Rattle.swc_ast.specs.declared.expressions.UnaryExpr.{UnaryExpr}
use Rattle.swc_ast.specs.declared.expressions.UpdateExpr.{UpdateExpr}
use Rattle.swc_ast.specs.declared.literals.Lit.{Lit}
use Rattle.swc_ast.specs.declared.literals.Lit.TheVariants as lit
use Rattle.swc_ast.specs.declared.names.Ident.{Ident}
use Rattle.swc_ast.proofs.ApartExpressions.{ExprForm, expr_form, expr_number, expr_at}
use Rattle.swc_ast.proofs.SameCalls.{Callee, dot, index, eval, plain, callee}
use Rattle.swc_ast.proofs.Equations.{expr_tree-This, expr_tree-Ident, expr_tree-Lit, expr_tree-Invalid, expr_tree-Array, expr_tree-Object, expr_tree-Fn, expr_tree-Unary, expr_tree-Update, expr_tree-Bin, expr_tree-Assign, expr_tree-Member, expr_tree-Cond, expr_tree-Call, expr_tree-New, expr_tree-Seq, expr_tree-Tpl, expr_tree-Arrow}
use Rattle.tree_put.specs.Put.{put, put_all, put_parts, steps, around, under}
use Rattle.tree_put.specs.Puts.{Puts}
use Rattle.tree_put.specs.Scopes.{function_forest}
use Rattle.tree_put.specs.Walks.{Makes, MakesParts, MakesAll, Each, none, more, EachGoes, ItemGoes, PropGoes, TargetGoes, FunctionGoes, spot_of}
use Rattle.tree_put.specs.declared.rules.Spot.{Spot}
use Rattle.tree_put.specs.declared.rules.Spot.TheVariants as spot
use Rattle.tree_put.proofs.Putting.{nothing, both, one, parts, parts_at, parts_then, all_from, in_scope, each_list}

-- the tree of an expression has the label_of of one
by_form : (l : tree.Label) (n : ℕ) → expr_form l ≡ n → (0 == n) ≡ false → is_expression l ≡ true
by_form l n is some = by l (ap (λ k. 0 == k) is ∙ some)
  where
    by : (l : tree.Label) → (0 == expr_form l) ≡ false → is_expression l ≡ true
    by (tree.expr e) h = refl
    by l h = absurd (false≢true (sym h))

form_some : (o : ExprForm) → (0 == expr_number o) ≡ false
form_some (Open.This n) = refl
form_some (Open.Array n) = refl
form_some (Open.Object n) = refl
form_some (Open.Expr::Fn n) = refl
form_some (Open.Unary n) = refl
form_some (Open.Update n) = refl
form_some (Open.Bin n) = refl
form_some (Open.Assign n) = refl
form_some (Open.Member n) = refl
form_some (Open.Cond n) = refl
form_some (Open.Call n) = refl
form_some (Open.New n) = refl
form_some (Open.Seq n) = refl
form_some (Open.Ident n) = refl
form_some (Open.Lit n) = refl
form_some (Open.Tpl n) = refl
form_some (Open.Arrow n) = refl
form_some (Open.Invalid n) = refl

pub is_asked : (e : Expr) → is_expression (label_of (expr_tree e)) ≡ true
is_asked e = subst (λ x. is_expression (label_of (expr_tree x)) ≡ true) (roll-out-Expr e) (by_form (label_of (expr_tree (roll-Expr (out-Expr e)))) (expr_number (out-Expr e)) (expr_at (out-Expr e)) (form_some (out-Expr e)) ∙ refl)

-- leaves
lit_parts : {S : Type 0} (X : Puts S) (n : Lit) (s : S) → MakesParts X (lit_tree n) s (lit_tree n) s
lit_parts X (lit.Str n) s = parts refl nothing
lit_parts X (lit.Bool n) s = parts refl nothing
lit_parts X (lit.Null n) s = parts refl nothing
lit_parts X (lit.Num n) s = parts refl nothing

pub this_arm : {S : Type 0} {X : Puts S} {e : Expr} {n : ThisExpr} {s : S} → e ≡ in_expr.This n → MakesParts X (expr_tree e) s (expr_tree e) s
this_arm {S} {X} {e} {n} {s} is = parts_at (ap expr_tree is ∙ expr_tree-This n) (ap expr_tree is ∙ expr_tree-This n) (parts refl nothing)

pub ident_arm : {S : Type 0} {X : Puts S} {e : Expr} {n : Ident} {s : S} → e ≡ in_expr.Ident n → MakesParts X (expr_tree e) s (expr_tree e) s
ident_arm {S} {X} {e} {n} {s} is = parts_at (ap expr_tree is ∙ expr_tree-Ident n) (ap expr_tree is ∙ expr_tree-Ident n) (parts refl nothing)

pub lit_arm : {S : Type 0} {X : Puts S} {e : Expr} {n : Lit} {s : S} → e ≡ in_expr.Lit n → MakesParts X (expr_tree e) s (expr_tree e) s
lit_arm {S} {X} {e} {n} {s} is = parts_at (ap expr_tree is ∙ expr_tree-Lit n) (ap expr_tree is ∙ expr_tree-Lit n) (lit_parts X n s)

pub invalid_arm : {S : Type 0} {X : Puts S} {e : Expr} {n : Invalid} {s : S} → e ≡ in_expr.Invalid n → MakesParts X (expr_tree e) s (expr_tree e) s
invalid_arm {S} {X} {e} {n} {s} is = parts_at (ap expr_tree is ∙ expr_tree-Invalid n) (ap expr_tree is ∙ expr_tree-Invalid n) (parts refl nothing)

-- nodes
pub bin_arm : {S : Type 0} {X : Puts S} {e f : Expr} {n m : BinExpr Expr} {s t u : S} (a b : Box Expr Global) → e ≡ in_expr.Bin n → m ≡ n → f ≡ in_expr.Bin (record n { left = a; right = b }) → Makes X (expr_tree m.left.value) s spot.Here (expr_tree a.value) t → Makes X (expr_tree m.right.value) t spot.Here (expr_tree b.value) u → MakesParts X (expr_tree e) s (expr_tree f) u
bin_arm {S} {X} {e} {f} {n} {m} {s} {t} {u} a b is same after h k =
    parts_at (ap expr_tree is ∙ expr_tree-Bin n) (ap expr_tree after ∙ expr_tree-Bin _) (parts refl (both (subst (λ z. Makes X (expr_tree z.left.value) s spot.Here (expr_tree a.value) t) same h) (one (subst (λ z. Makes X (expr_tree z.right.value) t spot.Here (expr_tree b.value) u) same k))))

pub cond_arm : {S : Type 0} {X : Puts S} {e f : Expr} {n m : CondExpr Expr} {s t u v : S} (a b z : Box Expr Global) → e ≡ in_expr.Cond n → m ≡ n → f ≡ in_expr.Cond (record n { test = a; cons = b; alt = z }) → Makes X (expr_tree m.test.value) s spot.Here (expr_tree a.value) t → Makes X (expr_tree m.cons.value) t spot.Here (expr_tree b.value) u → Makes X (expr_tree m.alt.value) u spot.Here (expr_tree z.value) v → MakesParts X (expr_tree e) s (expr_tree f) v
cond_arm {S} {X} {e} {f} {n} {m} {s} {t} {u} {v} a b z is same after h k l =
    parts_at (ap expr_tree is ∙ expr_tree-Cond n) (ap expr_tree after ∙ expr_tree-Cond _) (parts refl (both (subst (λ y. Makes X (expr_tree y.test.value) s spot.Here (expr_tree a.value) t) same h) (both (subst (λ y. Makes X (expr_tree y.cons.value) t spot.Here (expr_tree b.value) u) same k) (one (subst (λ y. Makes X (expr_tree y.alt.value) u spot.Here (expr_tree z.value) v) same l)))))

pub new_arm : {S : Type 0} {X : Puts S} {e f : Expr} {n m : NewExpr Expr} {s t u : S} (a : Box Expr Global) (b : Vec Expr Global) → e ≡ in_expr.New n → m ≡ n → f ≡ in_expr.New (record n { callee = a; args = b }) → Makes X (expr_tree m.callee.value) s spot.Here (expr_tree a.value) t → EachGoes X expr_tree t m.args.items b.items u → MakesParts X (expr_tree e) s (expr_tree f) u
new_arm {S} {X} {e} {f} {n} {m} {s} {t} {u} a b is same after h k =
    parts_at (ap expr_tree is ∙ expr_tree-New n) (ap expr_tree after ∙ expr_tree-New _) (parts refl (both (subst (λ z. Makes X (expr_tree z.callee.value) s spot.Here (expr_tree a.value) t) same h) (each_list (subst (λ z. EachGoes X expr_tree t z.args.items b.items u) same k))))

pub seq_arm : {S : Type 0} {X : Puts S} {e f : Expr} {n m : SeqExpr Expr} {s t : S} (b : Vec Expr Global) → e ≡ in_expr.Seq n → m ≡ n → f ≡ in_expr.Seq (record n { exprs = b }) → EachGoes X expr_tree s m.exprs.items b.items t → MakesParts X (expr_tree e) s (expr_tree f) t
seq_arm {S} {X} {e} {f} {n} {m} {s} {t} b is same after k =
    parts_at (ap expr_tree is ∙ expr_tree-Seq n) (ap expr_tree after ∙ expr_tree-Seq _) (parts refl (each_list (subst (λ z. EachGoes X expr_tree s z.exprs.items b.items t) same k)))

pub tpl_arm : {S : Type 0} {X : Puts S} {e f : Expr} {n m : Tpl Expr} {s t : S} (b : Vec Expr Global) → e ≡ in_expr.Tpl n → m ≡ n → f ≡ in_expr.Tpl (record n { exprs = b }) → EachGoes X expr_tree s m.exprs.items b.items t → MakesParts X (expr_tree e) s (expr_tree f) t
tpl_arm {S} {X} {e} {f} {n} {m} {s} {t} b is same after k =
    parts_at (ap expr_tree is ∙ expr_tree-Tpl n) (ap expr_tree after ∙ expr_tree-Tpl _) (parts refl (each_list (subst (λ z. EachGoes X expr_tree s z.exprs.items b.items t) same k)))

pub object_arm : {S : Type 0} {X : Puts S} {e f : Expr} {n m : ObjectLit PropOrSpread} {s t : S} (b : Vec PropOrSpread Global) → e ≡ in_expr.Object n → m ≡ n → f ≡ in_expr.Object (record n { props = b }) → EachGoes X prop_or_spread_tree s m.props.items b.items t → MakesParts X (expr_tree e) s (expr_tree f) t
object_arm {S} {X} {e} {f} {n} {m} {s} {t} b is same after k =
    parts_at (ap expr_tree is ∙ expr_tree-Object n) (ap expr_tree after ∙ expr_tree-Object _) (parts refl (each_list (subst (λ z. EachGoes X prop_or_spread_tree s z.props.items b.items t) same k)))

pub unary_arm : {S : Type 0} {X : Puts S} {e f : Expr} {n m : UnaryExpr Expr} {s t : S} (a : UnaryExpr Expr) → e ≡ in_expr.Unary n → m ≡ n → f ≡ in_expr.Unary a → MakesParts X (unary_tree expr_tree m) s (unary_tree expr_tree a) t → MakesParts X (expr_tree e) s (expr_tree f) t
unary_arm {S} {X} {e} {f} {n} {m} {s} {t} a is same after h =
    parts_at (ap expr_tree is ∙ expr_tree-Unary n ∙ ap (unary_tree expr_tree) (sym same)) (ap expr_tree after ∙ expr_tree-Unary _) h

pub member_arm : {S : Type 0} {X : Puts S} {e f : Expr} {n m : MemberExpr Expr} {s t : S} (a : MemberExpr Expr) → e ≡ in_expr.Member n → m ≡ n → f ≡ in_expr.Member a → MakesParts X (member_tree expr_tree m) s (member_tree expr_tree a) t → MakesParts X (expr_tree e) s (expr_tree f) t
member_arm {S} {X} {e} {f} {n} {m} {s} {t} a is same after h =
    parts_at (ap expr_tree is ∙ expr_tree-Member n ∙ ap (member_tree expr_tree) (sym same)) (ap expr_tree after ∙ expr_tree-Member _) h

pub arrow_arm : {S : Type 0} {X : Puts S} {e f : Expr} {n m : Box ArrowExpr Global} {s t : S} (a : Box ArrowExpr Global) → e ≡ in_expr.Arrow n → m ≡ n → f ≡ in_expr.Arrow a → MakesParts X (arrow_tree m.value) s (arrow_tree a.value) t → MakesParts X (expr_tree e) s (expr_tree f) t
arrow_arm {S} {X} {e} {f} {n} {m} {s} {t} a is same after h =
    parts_at (ap expr_tree is ∙ expr_tree-Arrow n ∙ ap (λ b. arrow_tree b.value) (sym same)) (ap expr_tree after ∙ expr_tree-Arrow _) h

pub update_arm : {S : Type 0} {X : Puts S} {e f : Expr} {n m : Box (UpdateExpr Expr) Global} {s t : S} (a : Box (UpdateExpr Expr) Global) → e ≡ in_expr.Update n → m ≡ n → f ≡ in_expr.Update a → MakesParts X (update_tree expr_tree m.value) s (update_tree expr_tree a.value) t → MakesParts X (expr_tree e) s (expr_tree f) t
update_arm {S} {X} {e} {f} {n} {m} {s} {t} a is same after h =
    parts_at (ap expr_tree is ∙ expr_tree-Update n ∙ ap (λ b. update_tree expr_tree b.value) (sym same)) (ap expr_tree after ∙ expr_tree-Update _) h

pub update_made : {S : Type 0} {X : Puts S} {s t : S} (n : UpdateExpr Expr) (a : AssignTarget Expr) → TargetGoes X s n.arg a t → MakesParts X (update_tree expr_tree n) s (update_tree expr_tree (record n { arg = a })) t
update_made n a w = w.updated n.op n.prefix n.span

pub assign_arm : {S : Type 0} {X : Puts S} {e f : Expr} {n m : Box (AssignExpr Expr) Global} {s t : S} (a : Box (AssignExpr Expr) Global) → e ≡ in_expr.Assign n → m ≡ n → f ≡ in_expr.Assign a → MakesParts X (assign_tree expr_tree m.value) s (assign_tree expr_tree a.value) t → MakesParts X (expr_tree e) s (expr_tree f) t
assign_arm {S} {X} {e} {f} {n} {m} {s} {t} a is same after h =
    parts_at (ap expr_tree is ∙ expr_tree-Assign n ∙ ap (λ b. assign_tree expr_tree b.value) (sym same)) (ap expr_tree after ∙ expr_tree-Assign _) h

pub assign_made : {S : Type 0} {X : Puts S} {s t u : S} (n : AssignExpr Expr) (a : AssignTarget Expr) (b : Box Expr Global) → TargetGoes X s n.left a t → Makes X (expr_tree n.right.value) t spot.Here (expr_tree b.value) u → MakesParts X (assign_tree expr_tree n) s (assign_tree expr_tree (record n { left = a; right = b })) u
assign_made {S} {X} {s} {t} {u} n a b w k = w.assigned n.op n.span _ _ u k

-- a callee, whose label_of may be part of the call's
call_by : {S : Type 0} {X : Puts S} (m : Span) (t v : Tree) (ts us : Forest) {s r u : S} → Callee t → Makes X t s spot.Callee v r → MakesAll X ts r us u → MakesParts X (call_node m t ts) s (call_node m v us) u
unfolding put steps around call_node
call_by {S} {X} m _ v ts us {s} {r} {u} (dot k ss o) h w = record { is = ap (λ c. let d = put_all X ts c.1 in (call_node m c.0 d.0, d.1)) h.is ∙ ap (λ d. (call_node m v d.0, d.1)) w.is }
call_by {S} {X} m _ v ts us {s} {r} {u} (index ss o k) h w = record { is = ap (λ c. let d = put_all X ts c.1 in (call_node m c.0 d.0, d.1)) h.is ∙ ap (λ d. (call_node m v d.0, d.1)) w.is }
call_by {S} {X} m _ v ts us {s} {r} {u} (eval x ss is calls) h w = record { is = ap (λ z. put_parts X z s) (calls m ts) ∙ ap (λ c. let d = put_all X ts c.1 in (call_node m c.0 d.0, d.1)) h.is ∙ ap (λ d. (call_node m v d.0, d.1)) w.is }
call_by {S} {X} m _ v ts us {s} {r} {u} (plain t form calls) h w = record { is = ap (λ z. put_parts X z s) (calls m ts) ∙ ap (λ c. let d = put_all X ts c.1 in (call_node m c.0 d.0, d.1)) h.is ∙ ap (λ d. (call_node m v d.0, d.1)) w.is }

pub call_arm : {S : Type 0} {X : Puts S} {e f : Expr} {n m : CallExpr Expr} {s t u : S} (a : Box Expr Global) (b : Vec Expr Global) → e ≡ in_expr.Call n → m ≡ n → f ≡ in_expr.Call (record n { callee = a; args = b }) → Makes X (expr_tree m.callee.value) s spot.Callee (expr_tree a.value) t → EachGoes X expr_tree t m.args.items b.items u → MakesParts X (expr_tree e) s (expr_tree f) u
call_arm {S} {X} {e} {f} {n} {m} {s} {t} {u} a b is same after h k =
    parts_at (ap expr_tree is ∙ expr_tree-Call n) (ap expr_tree after ∙ expr_tree-Call _) (call_by n.span (expr_tree n.callee.value) (expr_tree a.value) _ _ (callee n.callee.value) (subst (λ z. Makes X (expr_tree z.callee.value) s spot.Callee (expr_tree a.value) t) same h) (each_list (subst (λ z. EachGoes X expr_tree t z.args.items b.items u) same k)))

-- an operand
pub typeof_by : {S : Type 0} {X : Puts S} (m : Span) (t v : Tree) {s r : S} → Makes X t s spot.Operand v r → MakesParts X (unary_node op.TypeOf m t) s (unary_node op.TypeOf m v) r
unfolding put steps around unary_node
typeof_by m (node (tree.Read x) ss cs) v h = record { is = ap (λ c. (unary_node op.TypeOf m c.0, c.1)) h.is }
typeof_by m (node l ss cs) v h = record { is = ap (λ c. (unary_node op.TypeOf m c.0, c.1)) h.is }

pub delete_by : {S : Type 0} (X : Puts S) (m : Span) (t : Tree) (s : S) → MakesParts X (unary_node op.Delete m t) s (unary_node op.Delete m t) s
unfolding around unary_node
delete_by X m t s = record { is = refl }

some_is : {A : Type 0} {a b : A} → Some a ≡ Some b → a ≡ b
some_is e = cc

operand_by : {S : Type 0} {X : Puts S} (o : UnaryOp) (m : Span) (t v : Tree) {s r : S} {p : Spot} → spot_of o ≡ Some p → Makes X t s p v r → MakesParts X (unary_node o m t) s (unary_node o m v) r
unfolding unary_node
operand_by {S} {X} op.TypeOf m t v {s} {r} e h = typeof_by m t v (subst (λ z. Makes X t s z v r) (sym (some_is e)) h)
operand_by {S} {X} op.Minus m t v {s} {r} e h = parts refl (one (subst (λ z. Makes X t s z v r) (sym (some_is e)) h))
operand_by {S} {X} op.Plus m t v {s} {r} e h = parts refl (one (subst (λ z. Makes X t s z v r) (sym (some_is e)) h))
operand_by {S} {X} op.Bang m t v {s} {r} e h = parts refl (one (subst (λ z. Makes X t s z v r) (sym (some_is e)) h))
operand_by {S} {X} op.Tilde m t v {s} {r} e h = parts refl (one (subst (λ z. Makes X t s z v r) (sym (some_is e)) h))
operand_by {S} {X} op.Void m t v {s} {r} e h = parts refl (one (subst (λ z. Makes X t s z v r) (sym (some_is e)) h))
operand_by {S} {X} op.Delete m t v {s} {r} e h = cc

deleted_by : {S : Type 0} (X : Puts S) (o : UnaryOp) (m : Span) (t : Tree) (s : S) → spot_of o ≡ None → MakesParts X (unary_node o m t) s (unary_node o m t) s
deleted_by X op.Delete m t s e = delete_by X m t s
deleted_by X op.TypeOf m t s e = cc
deleted_by X op.Minus m t s e = cc
deleted_by X op.Plus m t s e = cc
deleted_by X op.Bang m t s e = cc
deleted_by X op.Tilde m t s e = cc
deleted_by X op.Void m t s e = cc

pub operand_made : {S : Type 0} {X : Puts S} (n : UnaryExpr Expr) (a : Box Expr Global) {s r : S} {p : Spot} → spot_of n.op ≡ Some p → Makes X (expr_tree n.arg.value) s p (expr_tree a.value) r → MakesParts X (unary_tree expr_tree n) s (unary_tree expr_tree (record n { arg = a })) r
operand_made n a e h = operand_by n.op n.span (expr_tree n.arg.value) (expr_tree a.value) e h

pub operand_deleted : {S : Type 0} (X : Puts S) (n : UnaryExpr Expr) (s : S) → spot_of n.op ≡ None → MakesParts X (unary_tree expr_tree n) s (unary_tree expr_tree n) s
operand_deleted X n s e = deleted_by X n.op n.span (expr_tree n.arg.value) s e

-- the items of an array: their kinds and the spans of their dots stay
each_kind : {S : Type 0} {X : Puts S} {s t : S} {xs ys : List (Option (ExprOrSpread Expr))} → Each (ItemGoes X) s xs ys t → map item_kind ys ≡ map item_kind xs
each_kind none = refl
each_kind (more {x = None} {y = None} w rest) = ap (λ k. tree.Hole ∷ k) (each_kind rest)
each_kind (more {x = Some x} {y = Some y} w rest) = cc (ap spread_kind w.0, each_kind rest)
each_kind (more {x = None} {y = Some y} w rest) = absurd w
each_kind (more {x = Some x} {y = None} w rest) = absurd w

each_span : {S : Type 0} {X : Puts S} {s t : S} {xs ys : List (Option (ExprOrSpread Expr))} → Each (ItemGoes X) s xs ys t → item_spans ys ≡ item_spans xs
each_span none = refl
each_span (more {x = None} {y = None} w rest) = each_span rest
each_span (more {x = Some x} {y = Some y} w rest) = cc (w.0, each_span rest)
each_span (more {x = None} {y = Some y} w rest) = absurd w
each_span (more {x = Some x} {y = None} w rest) = absurd w

each_item : {S : Type 0} {X : Puts S} {s t : S} {xs ys : List (Option (ExprOrSpread Expr))} → Each (ItemGoes X) s xs ys t → MakesAll X (item_trees expr_tree xs) s (item_trees expr_tree ys) t
each_item none = nothing
each_item (more {x = None} {y = None} w rest) = all_from w (each_item rest)
each_item (more {x = Some x} {y = Some y} w rest) = both w.1 (each_item rest)
each_item (more {x = None} {y = Some y} w rest) = absurd w
each_item (more {x = Some x} {y = None} w rest) = absurd w

pub array_arm : {S : Type 0} {X : Puts S} {e f : Expr} {n m : ArrayLit Expr} {s t : S} (b : Vec (Option (ExprOrSpread Expr)) Global) → e ≡ in_expr.Array n → m ≡ n → f ≡ in_expr.Array (record n { elems = b }) → Each (ItemGoes X) s m.elems.items b.items t → MakesParts X (expr_tree e) s (expr_tree f) t
array_arm {S} {X} {e} {f} {n} {m} {s} {t} b is same after k =
    let w : Each (ItemGoes X) s n.elems.items b.items t = subst (λ z. Each (ItemGoes X) s z.elems.items b.items t) same k in
    let kept : array_tree expr_tree (record n { elems = b }) ≡ node (tree.Array (map item_kind n.elems.items)) (n.span ∷ item_spans n.elems.items) (item_trees expr_tree b.items) = cc (each_kind w, each_span w) in
    parts_at (ap expr_tree is ∙ expr_tree-Array n) (ap expr_tree after ∙ expr_tree-Array _ ∙ kept) (parts refl (each_item w))

-- members
member_at : {S : Type 0} {X : Puts S} (m k : Span) (x y : Expr) (p q : MemberProp Expr) {s t u : S} → k ≡ m → Makes X (expr_tree x) s spot.Here (expr_tree y) t → PropGoes X t p q u → MakesParts X (member_node expr_tree m x p) s (member_node expr_tree k y q) u
member_at m k x y (prop.Ident p) (prop.Ident q) {s} {t} {u} e w v = parts_then (parts_at refl (cc (e, v.0)) (parts refl (one w))) v.1
member_at m k x y (prop.Computed p) (prop.Computed q) e w v = parts_at refl (cc (e, v.0)) (parts refl (both w (one v.1)))
member_at m k x y (prop.Ident p) (prop.Computed q) e w v = absurd v
member_at m k x y (prop.Computed p) (prop.Ident q) e w v = absurd v

pub member_parts : {S : Type 0} {X : Puts S} (m n : MemberExpr Expr) {s t u : S} → n.span ≡ m.span → Makes X (expr_tree m.obj.value) s spot.Here (expr_tree n.obj.value) t → PropGoes X t m.prop n.prop u → MakesParts X (member_tree expr_tree m) s (member_tree expr_tree n) u
member_parts m n e w v = member_at m.span n.span m.obj.value n.obj.value m.prop n.prop e w v

update_at : {S : Type 0} {X : Puts S} (o : UpdateOp) (b : Bool) (r m k : Span) (x y : Expr) (p q : MemberProp Expr) {s t u : S} → k ≡ m → Makes X (expr_tree x) s spot.Here (expr_tree y) t → PropGoes X t p q u → MakesParts X (member_update expr_tree o b r m x p) s (member_update expr_tree o b r k y q) u
update_at o b r m k x y (prop.Ident p) (prop.Ident q) e w v = parts_then (parts_at refl (cc (e, v.0)) (parts refl (one w))) v.1
update_at o b r m k x y (prop.Computed p) (prop.Computed q) e w v = parts_at refl (cc (e, v.0)) (parts refl (both w (one v.1)))
update_at o b r m k x y (prop.Ident p) (prop.Computed q) e w v = absurd v
update_at o b r m k x y (prop.Computed p) (prop.Ident q) e w v = absurd v

assign_at : {S : Type 0} {X : Puts S} (o : AssignOp) (r m k : Span) (x y : Expr) (p q : MemberProp Expr) (c d : Tree) {s t u v : S} → k ≡ m → Makes X (expr_tree x) s spot.Here (expr_tree y) t → PropGoes X t p q u → Makes X c u spot.Here d v → MakesParts X (member_assign expr_tree o r m x p c) s (member_assign expr_tree o r k y q d) v
assign_at {S} {X} o r m k x y (prop.Ident p) (prop.Ident q) c d e w v z = parts_at refl (cc (e, v.0)) (parts refl (both w (all_from v.1 (one z))))
assign_at o r m k x y (prop.Computed p) (prop.Computed q) c d e w v z = parts_at refl (cc (e, v.0)) (parts refl (both w (both v.1 (one z))))
assign_at o r m k x y (prop.Ident p) (prop.Computed q) c d e w v z = absurd v
assign_at o r m k x y (prop.Computed p) (prop.Ident q) c d e w v z = absurd v

pub member_target : {S : Type 0} {X : Puts S} (m n : MemberExpr Expr) {s t u : S} → n.span ≡ m.span → Makes X (expr_tree m.obj.value) s spot.Here (expr_tree n.obj.value) t → PropGoes X t m.prop n.prop u → TargetGoes X s (target.Member m) (target.Member n) u
member_target m n e w v = record {
  updated = λ o b r. update_at o b r m.span n.span m.obj.value n.obj.value m.prop n.prop e w v;
  assigned = λ o r c d i z. assign_at o r m.span n.span m.obj.value n.obj.value m.prop n.prop c d e w v z;
}

pub name_target : {S : Type 0} {X : Puts S} (n : Ident) (s : S) → TargetGoes X s (target.Ident n) (target.Ident n) s
name_target n s = record {
  updated = λ o b r. parts refl nothing;
  assigned = λ o r c d i z. parts refl (one z);
}

-- a function under a label_of
pub fn_arm : {S : Type 0} {X : Puts S} {e f : Expr} {n m : FnExpr Function} {s t u v : S} (b : Box Function Global) → e ≡ in_expr.Fn n → m ≡ n → f ≡ in_expr.Fn (record n { function = b }) → X.opens s (tree.Fn (option_ident_name m.ident)) (function_forest (function_trees m.function.value)) ≡ t → FunctionGoes X t (function_trees m.function.value) (function_trees b.value) u → X.closes u ≡ v → MakesParts X (expr_tree e) s (expr_tree f) v
unfolding around
fn_arm {S} {X} {e} {f} {n} {m} {s} {t} {u} {v} b is same after o w c =
    let g : FunctionGoes X t (function_trees n.function.value) (function_trees b.value) u = subst (λ z. FunctionGoes X t (function_trees z.function.value) (function_trees b.value) u) same w in
    let q : X.opens s (tree.Fn (option_ident_name n.ident)) (function_forest (function_trees n.function.value)) ≡ t = subst (λ z. X.opens s (tree.Fn (option_ident_name z.ident)) (function_forest (function_trees z.function.value)) ≡ t) same o in
    parts_at (ap expr_tree is ∙ expr_tree-Fn n) (ap expr_tree after ∙ expr_tree-Fn _) (record { is = ap (under (tree.Fn (option_ident_name n.ident)) ((function_trees n.function.value).own ∷ option_ident_spans n.ident)) (in_scope {l = tree.Fn (option_ident_name n.ident)} q g.parts c).is ∙ ap (λ k. (node (tree.Fn (option_ident_name n.ident)) (k ∷ option_ident_spans n.ident) (function_forest (function_trees b.value)), v)) (sym g.own) })

pub target_name : {S : Type 0} (X : Puts S) (s : S) (p : AssignTarget Expr) {n : Ident} → p ≡ target.Ident n → TargetGoes X s p p s
target_name X s p {n} is = subst (λ k. TargetGoes X s k k s) (sym is) (name_target n s)

pub target_at : {S : Type 0} {X : Puts S} {s t : S} {p q : AssignTarget Expr} {n m : MemberExpr Expr} (a : MemberExpr Expr) → p ≡ target.Member n → m ≡ n → q ≡ target.Member a → TargetGoes X s (target.Member m) (target.Member a) t → TargetGoes X s p q t
target_at {S} {X} {s} {t} {p} {q} {n} {m} a is same after w =
    subst (λ k. TargetGoes X s k q t) (sym (is ∙ ap target.Member (sym same))) (subst (λ k. TargetGoes X s (target.Member m) k t) (sym after) w)
