-- Objects and functions, once their parts are walked.
use Rattle.std.proofs.Common.{◌≡◌, Bool, true, ◌||◌, refl, sym, ap, ◌∙◌, subst, List, [], ◌∷◌}
use Rattle.std.specs.declared.alloc.Global.{Global}
use Rattle.std.specs.declared.boxed.Box.{Box}
use Rattle.std.specs.declared.vec.Vec.{Vec}
use Rattle.swc_ast.specs.Tree as tree
use Rattle.swc_ast.specs.Tree.{Label, Tree, node, ε, ◌⊳◌}
use Rattle.swc_ast.specs.Expressions.{FunctionTrees, function_node, function_parts, key_tree, param_tree, method_node, arrow_node, body_tree}
use Rattle.swc_ast.specs.Views.{expr_tree, stmt_tree, prop_or_spread_tree, prop_tree, method_tree, function_trees, arrow_tree, arrow_body_tree}
use Rattle.swc_ast.specs.declared.Span.{Span}
use Rattle.swc_ast.specs.declared.declarations.AssignPat.{AssignPat}
use Rattle.swc_ast.specs.declared.declarations.Decl.TheViews.{out-MethodProp, roll-MethodProp, out-roll-MethodProp}
use Rattle.swc_ast.specs.declared.declarations.Function.{Function}
use Rattle.swc_ast.specs.declared.declarations.Pat.{Pat}
use Rattle.swc_ast.specs.declared.declarations.Pat.TheVariants as pat
use Rattle.swc_ast.specs.declared.expressions.ArrowExpr.{ArrowExpr}
use Rattle.swc_ast.specs.declared.expressions.BlockStmtOrExpr.{BlockStmtOrExpr}
use Rattle.swc_ast.specs.declared.expressions.BlockStmtOrExpr.TheVariants as in_arrow_body
use Rattle.swc_ast.specs.declared.expressions.ComputedPropName.{ComputedPropName}
use Rattle.swc_ast.specs.declared.expressions.Expr.{Expr}
use Rattle.swc_ast.specs.declared.expressions.Expr.TheVariants as in_expr
use Rattle.swc_ast.specs.declared.expressions.FnExpr.{FnExpr}
use Rattle.swc_ast.specs.declared.expressions.KeyValueProp.{KeyValueProp}
use Rattle.swc_ast.specs.declared.expressions.MethodProp.{MethodProp}
use Rattle.swc_ast.specs.declared.expressions.ObjectLit.{ObjectLit}
use Rattle.swc_ast.specs.declared.expressions.Prop.{Prop}
use Rattle.swc_ast.specs.declared.expressions.Prop.TheVariants as in_prop
use Rattle.swc_ast.specs.declared.expressions.PropName.{PropName}
use Rattle.swc_ast.specs.declared.expressions.PropName.TheVariants as key
use Rattle.swc_ast.specs.declared.expressions.PropOrSpread.{PropOrSpread}
use Rattle.swc_ast.specs.declared.expressions.PropOrSpread.TheVariants as in_prop_or_spread
use Rattle.swc_ast.specs.declared.expressions.SpreadElement.{SpreadElement}
use Rattle.swc_ast.specs.declared.statements.BlockStmt.{BlockStmt}
use Rattle.swc_ast.specs.declared.statements.Stmt.{Stmt}
use Rattle.swc_ast.proofs.Equations.{expr_tree-Object, expr_tree-Fn, expr_tree-Arrow, prop_or_spread_tree-Spread, prop_or_spread_tree-Prop, prop_tree-KeyValue, prop_tree-Method, arrow_body_tree-BlockStmt, arrow_body_tree-Expr, method_tree-is, method_tree-roll}
use Rattle.tree_walk.specs.Walks.{Walks, both, Inside, parts, Each}
use Rattle.tree_walk.specs.StatementParts.{FunctionWalks}
use Rattle.tree_walk.proofs.Walked.{is_passed, passed, walks_at, inside_at, one_child, two_children, each_list}
use Rattle.tree_walk.specs.Pass.{Pass, walks_each}

pub object_arm : {X : Pass} {e f : Expr} {n m : ObjectLit PropOrSpread} {d : Bool} (b : Vec PropOrSpread Global) → e ≡ in_expr.Object n → m ≡ n → f ≡ in_expr.Object (record n { props = b }) → Each (λ x y d. Walks X d (prop_or_spread_tree x) (prop_or_spread_tree y)) m.props.items b.items d → Inside X d (expr_tree e) (expr_tree f)
object_arm {X} {e} {f} {n} {m} {d} b is same after k =
    inside_at (ap expr_tree is ∙ expr_tree-Object n) (ap expr_tree after ∙ expr_tree-Object _) (parts refl (each_list (subst (λ k. Each (λ x y d. Walks X d (prop_or_spread_tree x) (prop_or_spread_tree y)) k.props.items b.items d) same k)))

-- a function under a label
pub function_inside : {X : Pass} (l : Label) (ss : List Span) (f g : FunctionTrees) (c : Bool) → walks_each l ≡ true → FunctionWalks X f g c → Inside X c (function_node l ss f) (function_node l ss g)
function_inside l ss f g c i w = inside_at refl (ap (λ k. node l (k ∷ ss) (g.parameters ⊳ g.body ⊳ ε)) w.own) (parts i w.parts)

pub fn_arm : {X : Pass} {e f : Expr} {n m : FnExpr Function} {c : Bool} (b : Box Function Global) → e ≡ in_expr.Fn n → m ≡ n → f ≡ in_expr.Fn (record n { function = b }) → FunctionWalks X (function_trees m.function.value) (function_trees b.value) c → Inside X c (expr_tree e) (expr_tree f)
fn_arm {X} {e} {f} {n} {m} {c} b is same after w =
    inside_at (ap expr_tree is ∙ expr_tree-Fn n) (ap expr_tree after ∙ expr_tree-Fn _) (function_inside _ _ _ _ c refl (subst (λ k. FunctionWalks X (function_trees k.function.value) (function_trees b.value) c) same w))

pub arrow_arm : {X : Pass} {e f : Expr} {n m : Box ArrowExpr Global} {c : Bool} (a : Box ArrowExpr Global) → e ≡ in_expr.Arrow n → m ≡ n → f ≡ in_expr.Arrow a → Inside X c (arrow_tree m.value) (arrow_tree a.value) → Inside X c (expr_tree e) (expr_tree f)
arrow_arm {X} {e} {f} {n} {m} {c} a is same after w =
    inside_at (ap expr_tree is ∙ expr_tree-Arrow n ∙ ap (λ b. arrow_tree b.value) (sym same)) (ap expr_tree after ∙ expr_tree-Arrow _) w

pub spread_arm : {X : Pass} {e f : PropOrSpread} {n m : SpreadElement Expr} {c : Bool} (a : Box Expr Global) → e ≡ in_prop_or_spread.Spread n → m ≡ n → f ≡ in_prop_or_spread.Spread (record n { expr = a }) → Walks X c (expr_tree m.expr.value) (expr_tree a.value) → Walks X c (prop_or_spread_tree e) (prop_or_spread_tree f)
spread_arm {X} {e} {f} {n} {m} {c} a is same after w =
    walks_at (ap prop_or_spread_tree is ∙ prop_or_spread_tree-Spread n) (ap prop_or_spread_tree after ∙ prop_or_spread_tree-Spread _) (passed refl refl (one_child (subst (λ k. Walks X c (expr_tree k.expr.value) (expr_tree a.value)) same w)))

pub prop_arm : {X : Pass} {e f : PropOrSpread} {n m : Prop} {c : Bool} (a : Prop) → e ≡ in_prop_or_spread.Prop n → m ≡ n → f ≡ in_prop_or_spread.Prop a → Walks X c (prop_tree m) (prop_tree a) → Walks X c (prop_or_spread_tree e) (prop_or_spread_tree f)
prop_arm {X} {e} {f} {n} {m} {c} a is same after w =
    walks_at (ap prop_or_spread_tree is ∙ prop_or_spread_tree-Prop n ∙ ap prop_tree (sym same)) (ap prop_or_spread_tree after ∙ prop_or_spread_tree-Prop _) w

pub key_value_arm : {X : Pass} {e f : Prop} {n m : KeyValueProp Expr} {c d : Bool} (a : PropName Expr) (b : Box Expr Global) → e ≡ in_prop.KeyValue n → m ≡ n → f ≡ in_prop.KeyValue (record n { key = a; value = b }) → Walks X c (key_tree expr_tree m.key) (key_tree expr_tree a) → Walks X d (expr_tree m.value.value) (expr_tree b.value) → Walks X (c || d) (prop_tree e) (prop_tree f)
key_value_arm {X} {e} {f} {n} {m} {c} {d} a b is same after h k =
    walks_at (ap prop_tree is ∙ prop_tree-KeyValue n) (ap prop_tree after ∙ prop_tree-KeyValue _) (passed refl refl (two_children (subst (λ k. Walks X c (key_tree expr_tree k.key) (key_tree expr_tree a)) same h) (subst (λ k. Walks X d (expr_tree k.value.value) (expr_tree b.value)) same k)))

pub method_arm : {X : Pass} {e f : Prop} {n m : MethodProp} {c : Bool} (a : MethodProp) → e ≡ in_prop.Method n → m ≡ n → f ≡ in_prop.Method a → Walks X c (method_tree m) (method_tree a) → Walks X c (prop_tree e) (prop_tree f)
method_arm {X} {e} {f} {n} {m} {c} a is same after w =
    walks_at (ap prop_tree is ∙ prop_tree-Method n ∙ ap method_tree (sym same)) (ap prop_tree after ∙ prop_tree-Method _) w

pub method_made : {X : Pass} {t u : Tree} {c d : Bool} (k l : PropName Expr) (f g : Box Function Global) → t ≡ method_node expr_tree function_trees k f → u ≡ method_node expr_tree function_trees l g → Walks X c (key_tree expr_tree k) (key_tree expr_tree l) → FunctionWalks X (function_trees f.value) (function_trees g.value) d → Walks X (c || d) t u
method_made {X} {t} {u} {c} {d} k l f g p q h w =
    let p2 : FunctionTrees = function_trees g.value in
    walks_at p (q ∙ ap (λ o. node tree.Method (o ∷ []) (key_tree expr_tree l ⊳ p2.parameters ⊳ p2.body ⊳ ε)) w.own) (passed refl refl (both h w.parts))

pub computed_key : {X : Pass} {c : Bool} (e f : PropName Expr) (n m : ComputedPropName Expr) (a : Box Expr Global) → e ≡ key.Computed n → m ≡ n → f ≡ key.Computed (record n { expr = a }) → Walks X c (expr_tree m.expr.value) (expr_tree a.value) → Walks X c (key_tree expr_tree e) (key_tree expr_tree f)
computed_key {X} {c} e f n m a is same after w =
    walks_at (ap (key_tree expr_tree) is) (ap (key_tree expr_tree) after) (passed refl refl (one_child (subst (λ k. Walks X c (expr_tree k.expr.value) (expr_tree a.value)) same w)))

pub assign_param : {X : Pass} {c : Bool} (e f : Pat Expr) (n m : AssignPat Expr) (a : Box Expr Global) → e ≡ pat.Assign n → m ≡ n → f ≡ pat.Assign (record n { right = a }) → Walks X c (expr_tree m.right.value) (expr_tree a.value) → Inside X c (param_tree expr_tree e) (param_tree expr_tree f)
assign_param {X} {c} e f n m a is same after w =
    inside_at (ap (param_tree expr_tree) is) (ap (param_tree expr_tree) after) (parts refl (one_child (subst (λ k. Walks X c (expr_tree k.right.value) (expr_tree a.value)) same w)))

pub param_unseen : (p : Pat Expr) → is_passed (param_tree expr_tree p) ≡ true
param_unseen (pat.Ident n) = refl
param_unseen (pat.Assign n) = refl

pub function_made : {X : Pass} {f g : FunctionTrees} {c d : Bool} (s : Span) (ps qs : Vec (Pat Expr) Global) (a b : BlockStmt Stmt) → f ≡ function_parts expr_tree stmt_tree s ps a → g ≡ function_parts expr_tree stmt_tree s qs b → Each (λ x y d. Walks X d (param_tree expr_tree x) (param_tree expr_tree y)) ps.items qs.items c → Walks X d (body_tree stmt_tree a) (body_tree stmt_tree b) → FunctionWalks X f g (c || d)
function_made {X} {f} {g} {c} {d} s ps qs a b p q h w =
    subst (λ k. FunctionWalks X k g (c || d)) (sym p) (subst (λ k. FunctionWalks X (function_parts expr_tree stmt_tree s ps a) k (c || d)) (sym q) (record { own = refl; parts = two_children (passed refl refl (each_list h)) w }))

pub arrow_made : {X : Pass} {t u : Tree} {c d : Bool} (s : Span) (ps qs : Vec (Pat Expr) Global) (a b : BlockStmtOrExpr) → t ≡ arrow_node expr_tree arrow_body_tree s ps a → u ≡ arrow_node expr_tree arrow_body_tree s qs b → Each (λ x y d. Walks X d (param_tree expr_tree x) (param_tree expr_tree y)) ps.items qs.items c → Walks X d (arrow_body_tree a) (arrow_body_tree b) → Inside X (c || d) t u
arrow_made s ps qs a b p q h w = inside_at p q (parts refl (two_children (passed refl refl (each_list h)) w))

pub arrow_block : {X : Pass} {e f : BlockStmtOrExpr} {n m : BlockStmt Stmt} {c : Bool} (a : BlockStmt Stmt) → e ≡ in_arrow_body.BlockStmt n → m ≡ n → f ≡ in_arrow_body.BlockStmt a → Walks X c (body_tree stmt_tree m) (body_tree stmt_tree a) → Walks X c (arrow_body_tree e) (arrow_body_tree f)
arrow_block {X} {e} {f} {n} {m} {c} a is same after w =
    walks_at (ap arrow_body_tree is ∙ arrow_body_tree-BlockStmt n ∙ ap (body_tree stmt_tree) (sym same)) (ap arrow_body_tree after ∙ arrow_body_tree-BlockStmt _) w

pub arrow_expr : {X : Pass} {e f : BlockStmtOrExpr} {n m : Box Expr Global} {c : Bool} (a : Box Expr Global) → e ≡ in_arrow_body.Expr n → m ≡ n → f ≡ in_arrow_body.Expr a → Walks X c (expr_tree m.value) (expr_tree a.value) → Walks X c (arrow_body_tree e) (arrow_body_tree f)
arrow_expr {X} {e} {f} {n} {m} {c} a is same after w =
    walks_at (ap arrow_body_tree is ∙ arrow_body_tree-Expr n ∙ ap (λ k. expr_tree k.value) (sym same)) (ap arrow_body_tree after ∙ arrow_body_tree-Expr _) w

-- a method as the walk leaves it: its key is written, and then its function
pub method_rolled : {X : Pass} {c d : Bool} (m : MethodProp) (k : PropName Expr) (g : Box Function Global) → Walks X c (key_tree expr_tree (out-MethodProp m).key) (key_tree expr_tree k) → FunctionWalks X (function_trees (out-MethodProp (roll-MethodProp (record { key = k; function = (out-MethodProp m).function }))).function.value) (function_trees g.value) d → Walks X (c || d) (method_tree m) (method_tree (roll-MethodProp (record { key = (out-MethodProp (roll-MethodProp (record { key = k; function = (out-MethodProp m).function }))).key; function = g })))
method_rolled {X} {c} {d} m k g h w =
    let rolled = out-roll-MethodProp (record { key = k; function = (out-MethodProp m).function }) in
    method_made (out-MethodProp m).key k (out-MethodProp m).function g (method_tree-is m) (method_tree-roll _ g ∙ ap (λ z. method_node expr_tree function_trees z.key g) rolled) h (subst (λ z. FunctionWalks X (function_trees z.function.value) (function_trees g.value) d) rolled w)
