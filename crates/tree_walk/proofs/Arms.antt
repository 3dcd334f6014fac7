-- Each kind of expression, once its children are walked.
use Rattle.std.proofs.Common.{◌≡◌, Bool, false, ◌||◌, refl, sym, ap, ◌∙◌, subst, List, [], ◌∷◌, map}
use Rattle.std.specs.Prelude.{Option, Some, None}
use Rattle.std.specs.declared.alloc.Global.{Global}
use Rattle.std.specs.declared.boxed.Box.{Box}
use Rattle.std.specs.declared.vec.Vec.{Vec}
use Rattle.swc_ast.specs.Tree as tree
use Rattle.swc_ast.specs.Tree.{node}
use Rattle.swc_ast.specs.Expressions.{spread_kind, item_kind, item_spans, item_trees, array_tree, member_tree, member_node, update_tree, assign_tree}
use Rattle.swc_ast.specs.Views.{expr_tree}
use Rattle.swc_ast.specs.declared.Span.{Span}
use Rattle.swc_ast.specs.declared.expressions.Expr.{Expr}
use Rattle.swc_ast.specs.declared.expressions.Expr.TheVariants as in_expr
use Rattle.swc_ast.specs.declared.expressions.ArrayLit.{ArrayLit}
use Rattle.swc_ast.specs.declared.expressions.AssignExpr.{AssignExpr}
use Rattle.swc_ast.specs.declared.expressions.AssignTarget.{AssignTarget}
use Rattle.swc_ast.specs.declared.expressions.BinExpr.{BinExpr}
use Rattle.swc_ast.specs.declared.expressions.CallExpr.{CallExpr}
use Rattle.swc_ast.specs.declared.expressions.CondExpr.{CondExpr}
use Rattle.swc_ast.specs.declared.expressions.ExprOrSpread.{ExprOrSpread}
use Rattle.swc_ast.specs.declared.expressions.MemberExpr.{MemberExpr}
use Rattle.swc_ast.specs.declared.expressions.MemberProp.{MemberProp}
use Rattle.swc_ast.specs.declared.expressions.MemberProp.TheVariants as prop
use Rattle.swc_ast.specs.declared.expressions.NewExpr.{NewExpr}
use Rattle.swc_ast.specs.declared.expressions.SeqExpr.{SeqExpr}
use Rattle.swc_ast.specs.declared.expressions.Tpl.{Tpl}
use Rattle.swc_ast.specs.declared.expressions.UnaryExpr.{UnaryExpr}
use Rattle.swc_ast.specs.declared.expressions.UpdateExpr.{UpdateExpr}
use Rattle.swc_ast.proofs.Equations.{expr_tree-Array, expr_tree-Unary, expr_tree-Update, expr_tree-Bin, expr_tree-Assign, expr_tree-Member, expr_tree-Cond, expr_tree-Call, expr_tree-New, expr_tree-Seq, expr_tree-Tpl}
use Rattle.tree_walk.specs.Walks.{Walks, AllWalk, nothing, both, Inside, parts, Each, none, more}
use Rattle.tree_walk.specs.Parts.{ItemWalks, PropWalks, TargetWalks, CalleeWalks, OperandWalks}
use Rattle.tree_walk.proofs.Walked.{inside_at, one_child, each_list}
use Rattle.tree_walk.specs.Pass.{Pass}

pub bin_arm : {X : Pass} {e f : Expr} {n m : BinExpr Expr} {c d : Bool} (a b : Box Expr Global) → e ≡ in_expr.Bin n → m ≡ n → f ≡ in_expr.Bin (record n { left = a; right = b }) → Walks X c (expr_tree m.left.value) (expr_tree a.value) → Walks X d (expr_tree m.right.value) (expr_tree b.value) → Inside X (c || d) (expr_tree e) (expr_tree f)
bin_arm {X} {e} {f} {n} {m} {c} {d} a b is same after h k =
    inside_at (ap expr_tree is ∙ expr_tree-Bin n) (ap expr_tree after ∙ expr_tree-Bin _) (parts refl (both (subst (λ k. Walks X c (expr_tree k.left.value) (expr_tree a.value)) same h) (one_child (subst (λ k. Walks X d (expr_tree k.right.value) (expr_tree b.value)) same k))))

pub cond_arm : {X : Pass} {e f : Expr} {n m : CondExpr Expr} {c d q : Bool} (a b z : Box Expr Global) → e ≡ in_expr.Cond n → m ≡ n → f ≡ in_expr.Cond (record n { test = a; cons = b; alt = z }) → Walks X c (expr_tree m.test.value) (expr_tree a.value) → Walks X d (expr_tree m.cons.value) (expr_tree b.value) → Walks X q (expr_tree m.alt.value) (expr_tree z.value) → Inside X (c || (d || q)) (expr_tree e) (expr_tree f)
cond_arm {X} {e} {f} {n} {m} {c} {d} {q} a b z is same after h k l =
    inside_at (ap expr_tree is ∙ expr_tree-Cond n) (ap expr_tree after ∙ expr_tree-Cond _) (parts refl (both (subst (λ k. Walks X c (expr_tree k.test.value) (expr_tree a.value)) same h) (both (subst (λ k. Walks X d (expr_tree k.cons.value) (expr_tree b.value)) same k) (one_child (subst (λ k. Walks X q (expr_tree k.alt.value) (expr_tree z.value)) same l)))))

pub unary_arm : {X : Pass} {e f : Expr} {n m : UnaryExpr Expr} {c : Bool} (a : Box Expr Global) → e ≡ in_expr.Unary n → m ≡ n → f ≡ in_expr.Unary (record n { arg = a }) → OperandWalks X m.op (expr_tree m.arg.value) (expr_tree a.value) c → Inside X c (expr_tree e) (expr_tree f)
unary_arm {X} {e} {f} {n} {m} {c} a is same after h =
    inside_at (ap expr_tree is ∙ expr_tree-Unary n) (ap expr_tree after ∙ expr_tree-Unary _) (subst (λ k. OperandWalks X k.op (expr_tree k.arg.value) (expr_tree a.value) c) same h n.span)

pub update_arm : {X : Pass} {e f : Expr} {n m : Box (UpdateExpr Expr) Global} {c : Bool} (a : Box (UpdateExpr Expr) Global) → e ≡ in_expr.Update n → m ≡ n → f ≡ in_expr.Update a → Inside X c (update_tree expr_tree m.value) (update_tree expr_tree a.value) → Inside X c (expr_tree e) (expr_tree f)
update_arm {X} {e} {f} {n} {m} {c} a is same after h =
    inside_at (ap expr_tree is ∙ expr_tree-Update n ∙ ap (λ b. update_tree expr_tree b.value) (sym same)) (ap expr_tree after ∙ expr_tree-Update _) h

pub update_made : {X : Pass} {c : Bool} (n : UpdateExpr Expr) (a : AssignTarget Expr) → TargetWalks X n.arg a c → Inside X c (update_tree expr_tree n) (update_tree expr_tree (record n { arg = a }))
update_made n a w = w.updated n.op n.prefix n.span

pub assign_arm : {X : Pass} {e f : Expr} {n m : Box (AssignExpr Expr) Global} {c : Bool} (a : Box (AssignExpr Expr) Global) → e ≡ in_expr.Assign n → m ≡ n → f ≡ in_expr.Assign a → Inside X c (assign_tree expr_tree m.value) (assign_tree expr_tree a.value) → Inside X c (expr_tree e) (expr_tree f)
assign_arm {X} {e} {f} {n} {m} {c} a is same after h =
    inside_at (ap expr_tree is ∙ expr_tree-Assign n ∙ ap (λ b. assign_tree expr_tree b.value) (sym same)) (ap expr_tree after ∙ expr_tree-Assign _) h

pub assign_made : {X : Pass} {c d : Bool} (n : AssignExpr Expr) (a : AssignTarget Expr) (b : Box Expr Global) → TargetWalks X n.left a c → Walks X d (expr_tree n.right.value) (expr_tree b.value) → Inside X (c || d) (assign_tree expr_tree n) (assign_tree expr_tree (record n { left = a; right = b }))
assign_made {X} {c} {d} n a b w k = w.assigned n.op n.span _ _ d k

pub member_arm : {X : Pass} {e f : Expr} {n m : MemberExpr Expr} {c : Bool} (a : MemberExpr Expr) → e ≡ in_expr.Member n → m ≡ n → f ≡ in_expr.Member a → Inside X c (member_tree expr_tree m) (member_tree expr_tree a) → Inside X c (expr_tree e) (expr_tree f)
member_arm {X} {e} {f} {n} {m} {c} a is same after h =
    inside_at (ap expr_tree is ∙ expr_tree-Member n ∙ ap (member_tree expr_tree) (sym same)) (ap expr_tree after ∙ expr_tree-Member _) h

pub call_arm : {X : Pass} {e f : Expr} {n m : CallExpr Expr} {d : Bool} (c : Bool) (a : Box Expr Global) (b : Vec Expr Global) → e ≡ in_expr.Call n → m ≡ n → f ≡ in_expr.Call (record n { callee = a; args = b }) → CalleeWalks X (expr_tree m.callee.value) (expr_tree a.value) c → Each (λ x y d. Walks X d (expr_tree x) (expr_tree y)) m.args.items b.items d → Inside X (c || d) (expr_tree e) (expr_tree f)
call_arm {X} {e} {f} {n} {m} {d} c a b is same after h k =
    inside_at (ap expr_tree is ∙ expr_tree-Call n) (ap expr_tree after ∙ expr_tree-Call _) (subst (λ k. CalleeWalks X (expr_tree k.callee.value) (expr_tree a.value) c) same h n.span _ _ d (each_list (subst (λ k. Each (λ x y d. Walks X d (expr_tree x) (expr_tree y)) k.args.items b.items d) same k)))

pub new_arm : {X : Pass} {e f : Expr} {n m : NewExpr Expr} {c d : Bool} (a : Box Expr Global) (b : Vec Expr Global) → e ≡ in_expr.New n → m ≡ n → f ≡ in_expr.New (record n { callee = a; args = b }) → Walks X c (expr_tree m.callee.value) (expr_tree a.value) → Each (λ x y d. Walks X d (expr_tree x) (expr_tree y)) m.args.items b.items d → Inside X (c || d) (expr_tree e) (expr_tree f)
new_arm {X} {e} {f} {n} {m} {c} {d} a b is same after h k =
    inside_at (ap expr_tree is ∙ expr_tree-New n) (ap expr_tree after ∙ expr_tree-New _) (parts refl (both (subst (λ k. Walks X c (expr_tree k.callee.value) (expr_tree a.value)) same h) (each_list (subst (λ k. Each (λ x y d. Walks X d (expr_tree x) (expr_tree y)) k.args.items b.items d) same k))))

pub seq_arm : {X : Pass} {e f : Expr} {n m : SeqExpr Expr} {d : Bool} (b : Vec Expr Global) → e ≡ in_expr.Seq n → m ≡ n → f ≡ in_expr.Seq (record n { exprs = b }) → Each (λ x y d. Walks X d (expr_tree x) (expr_tree y)) m.exprs.items b.items d → Inside X d (expr_tree e) (expr_tree f)
seq_arm {X} {e} {f} {n} {m} {d} b is same after k =
    inside_at (ap expr_tree is ∙ expr_tree-Seq n) (ap expr_tree after ∙ expr_tree-Seq _) (parts refl (each_list (subst (λ k. Each (λ x y d. Walks X d (expr_tree x) (expr_tree y)) k.exprs.items b.items d) same k)))

pub tpl_arm : {X : Pass} {e f : Expr} {n m : Tpl Expr} {d : Bool} (b : Vec Expr Global) → e ≡ in_expr.Tpl n → m ≡ n → f ≡ in_expr.Tpl (record n { exprs = b }) → Each (λ x y d. Walks X d (expr_tree x) (expr_tree y)) m.exprs.items b.items d → Inside X d (expr_tree e) (expr_tree f)
tpl_arm {X} {e} {f} {n} {m} {d} b is same after k =
    inside_at (ap expr_tree is ∙ expr_tree-Tpl n) (ap expr_tree after ∙ expr_tree-Tpl _) (parts refl (each_list (subst (λ k. Each (λ x y d. Walks X d (expr_tree x) (expr_tree y)) k.exprs.items b.items d) same k)))

-- the items of an array: their kinds and the spans of their dots stay
each_kind : {X : Pass} {xs ys : List (Option (ExprOrSpread Expr))} {c : Bool} → Each (ItemWalks X) xs ys c → map item_kind ys ≡ map item_kind xs
each_kind none = refl
each_kind (more {x = None} {y = None} w rest) = ap (λ k. tree.Hole ∷ k) (each_kind rest)
each_kind (more {x = Some x} {y = Some y} w rest) = cc (ap spread_kind w.0, each_kind rest)
each_kind (more {x = None} {y = Some y} w rest) = absurd w
each_kind (more {x = Some x} {y = None} w rest) = absurd w

each_span : {X : Pass} {xs ys : List (Option (ExprOrSpread Expr))} {c : Bool} → Each (ItemWalks X) xs ys c → item_spans ys ≡ item_spans xs
each_span none = refl
each_span (more {x = None} {y = None} w rest) = each_span rest
each_span (more {x = Some x} {y = Some y} w rest) = cc (w.0, each_span rest)
each_span (more {x = None} {y = Some y} w rest) = absurd w
each_span (more {x = Some x} {y = None} w rest) = absurd w

each_item : {X : Pass} {xs ys : List (Option (ExprOrSpread Expr))} {c : Bool} → Each (ItemWalks X) xs ys c → AllWalk X c (item_trees expr_tree xs) (item_trees expr_tree ys)
each_item none = nothing
each_item {X} (more {x = None} {y = None} {xs = xs} {ys = ys} {c = c} {d = d} w rest) = subst (λ k. AllWalk X (k || d) (item_trees expr_tree xs) (item_trees expr_tree ys)) (sym w) (each_item rest)
each_item (more {x = Some x} {y = Some y} w rest) = both w.1 (each_item rest)
each_item (more {x = None} {y = Some y} w rest) = absurd w
each_item (more {x = Some x} {y = None} w rest) = absurd w

pub array_arm : {X : Pass} {e f : Expr} {n m : ArrayLit Expr} {d : Bool} (b : Vec (Option (ExprOrSpread Expr)) Global) → e ≡ in_expr.Array n → m ≡ n → f ≡ in_expr.Array (record n { elems = b }) → Each (ItemWalks X) m.elems.items b.items d → Inside X d (expr_tree e) (expr_tree f)
array_arm {X} {e} {f} {n} {m} {d} b is same after k =
    let w : Each (ItemWalks X) n.elems.items b.items d = subst (λ k. Each (ItemWalks X) k.elems.items b.items d) same k in
    let kept : array_tree expr_tree (record n { elems = b }) ≡ node (tree.Array (map item_kind n.elems.items)) (n.span ∷ item_spans n.elems.items) (item_trees expr_tree b.items) = cc (each_kind w, each_span w) in
    inside_at (ap expr_tree is ∙ expr_tree-Array n) (ap expr_tree after ∙ expr_tree-Array _ ∙ kept) (parts refl (each_item w))

-- a member
pub member_parts : {X : Pass} (m n : MemberExpr Expr) (c d : Bool) → n.span ≡ m.span → Walks X c (expr_tree m.obj.value) (expr_tree n.obj.value) → PropWalks X m.prop n.prop d → Inside X (c || d) (member_tree expr_tree m) (member_tree expr_tree n)
member_parts {X} m n c d same h k = at_props m.span n.span m.obj.value n.obj.value m.prop n.prop same h k
  where
    at_props : (s t : Span) (x y : Expr) (p q : MemberProp Expr) → t ≡ s → Walks X c (expr_tree x) (expr_tree y) → PropWalks X p q d → Inside X (c || d) (member_node expr_tree s x p) (member_node expr_tree t y q)
    at_props s t x y (prop.Ident p) (prop.Ident q) e w v = subst (λ k. Inside X (c || k) (member_node expr_tree s x (prop.Ident p)) (member_node expr_tree t y (prop.Ident q))) (sym v.1) (subst (λ k. Inside X (c || false) (member_node expr_tree s x (prop.Ident p)) (member_node expr_tree t y (prop.Ident k))) (sym v.0) (subst (λ k. Inside X (c || false) (member_node expr_tree s x (prop.Ident p)) (member_node expr_tree k y (prop.Ident p))) (sym e) (parts refl (both w nothing))))
    at_props s t x y (prop.Computed p) (prop.Computed q) e w v = inside_at refl (cc (e, v.0)) (parts {ss = s ∷ p.span ∷ []} refl (both w (one_child v.1)))
    at_props s t x y (prop.Ident p) (prop.Computed q) e w v = absurd v
    at_props s t x y (prop.Computed p) (prop.Ident q) e w v = absurd v
