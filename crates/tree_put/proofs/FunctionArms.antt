-- Objects and functions, once their parts are walked.
use Rattle.std.proofs.Common.{◌≡◌, refl, sym, ap, ◌∙◌, subst, List, [], ◌∷◌}
use Rattle.std.specs.Prelude.{Option, Some, None}
use Rattle.std.specs.declared.alloc.Global.{Global}
use Rattle.std.specs.declared.boxed.Box.{Box}
use Rattle.std.specs.declared.vec.Vec.{Vec}
use Rattle.swc_ast.specs.Tree as tree
use Rattle.swc_ast.specs.Tree.{Tree, node, ε, ◌⊳◌}
use Rattle.swc_ast.specs.Parts.{ident_tree, ident_name}
use Rattle.swc_ast.specs.Expressions.{FunctionTrees, function_parts, key_tree, key_value_tree, shorthand_tree, param_tree, params_tree, method_node, arrow_node, body_tree}
use Rattle.swc_ast.specs.Views.{expr_tree, stmt_tree, prop_or_spread_tree, prop_tree, method_tree, function_trees, arrow_body_tree}
use Rattle.swc_ast.specs.declared.Span.{Span}
use Rattle.swc_ast.specs.declared.declarations.AssignPat.{AssignPat}
use Rattle.swc_ast.specs.declared.declarations.Decl.TheViews.{out-MethodProp, roll-MethodProp, out-roll-MethodProp}
use Rattle.swc_ast.specs.declared.declarations.Function.{Function}
use Rattle.swc_ast.specs.declared.declarations.Pat.{Pat}
use Rattle.swc_ast.specs.declared.declarations.Pat.TheVariants as pat
use Rattle.swc_ast.specs.declared.expressions.BlockStmtOrExpr.{BlockStmtOrExpr}
use Rattle.swc_ast.specs.declared.expressions.BlockStmtOrExpr.TheVariants as in_arrow_body
use Rattle.swc_ast.specs.declared.expressions.ComputedPropName.{ComputedPropName}
use Rattle.swc_ast.specs.declared.expressions.Expr.{Expr}
use Rattle.swc_ast.specs.declared.expressions.KeyValueProp.{KeyValueProp}
use Rattle.swc_ast.specs.declared.expressions.MethodProp.{MethodProp}
use Rattle.swc_ast.specs.declared.expressions.Prop.{Prop}
use Rattle.swc_ast.specs.declared.expressions.Prop.TheVariants as in_prop
use Rattle.swc_ast.specs.declared.expressions.PropName.{PropName}
use Rattle.swc_ast.specs.declared.expressions.PropName.TheVariants as key
use Rattle.swc_ast.specs.declared.expressions.PropOrSpread.{PropOrSpread}
use Rattle.swc_ast.specs.declared.expressions.PropOrSpread.TheVariants as in_prop_or_spread
use Rattle.swc_ast.specs.declared.expressions.SpreadElement.{SpreadElement}
use Rattle.swc_ast.specs.declared.names.Ident.{Ident}
use Rattle.swc_ast.specs.declared.statements.BlockStmt.{BlockStmt}
use Rattle.swc_ast.specs.declared.statements.Stmt.{Stmt}
use Rattle.swc_ast.proofs.Equations.{prop_or_spread_tree-Spread, prop_or_spread_tree-Prop, prop_tree-Shorthand, prop_tree-KeyValue, prop_tree-Method, arrow_body_tree-BlockStmt, arrow_body_tree-Expr, method_tree-is, method_tree-roll}
use Rattle.tree_put.specs.Put.{steps, around, scoped, under, in_front, expanded, as_property}
use Rattle.tree_put.specs.Keys.{property_key}
use Rattle.tree_put.specs.Puts.{Puts, enter, stay, become}
use Rattle.tree_put.specs.Scopes.{function_forest}
use Rattle.tree_put.specs.Walks.{Makes, MakesParts, EachGoes, Goes, FunctionGoes, ShorthandGoes}
use Rattle.tree_put.specs.declared.rules.Spot.TheVariants as spot
use Rattle.tree_put.proofs.Putting.{nothing, both, one, parts, plain, passed, parts_at, put_at, in_scope, each_list}

pub spread_arm : {S : Type 0} {X : Puts S} {e f : PropOrSpread} {n m : SpreadElement Expr} {s t : S} (a : Box Expr Global) → e ≡ in_prop_or_spread.Spread n → m ≡ n → f ≡ in_prop_or_spread.Spread (record n { expr = a }) → Makes X (expr_tree m.expr.value) s spot.Here (expr_tree a.value) t → Makes X (prop_or_spread_tree e) s spot.Here (prop_or_spread_tree f) t
spread_arm {S} {X} {e} {f} {n} {m} {s} {t} a is same after w =
    put_at (ap prop_or_spread_tree is ∙ prop_or_spread_tree-Spread n) (ap prop_or_spread_tree after ∙ prop_or_spread_tree-Spread _) (plain refl refl (one (subst (λ k. Makes X (expr_tree k.expr.value) s spot.Here (expr_tree a.value) t) same w)))

pub prop_arm : {S : Type 0} {X : Puts S} {e f : PropOrSpread} {n m : Prop} {s t : S} (a : Prop) → e ≡ in_prop_or_spread.Prop n → m ≡ n → f ≡ in_prop_or_spread.Prop a → Makes X (prop_tree m) s spot.Here (prop_tree a) t → Makes X (prop_or_spread_tree e) s spot.Here (prop_or_spread_tree f) t
prop_arm a is same after w =
    put_at (ap prop_or_spread_tree is ∙ prop_or_spread_tree-Prop _ ∙ ap prop_tree (sym same)) (ap prop_or_spread_tree after ∙ prop_or_spread_tree-Prop _) w

pub key_value_arm : {S : Type 0} {X : Puts S} {e f : Prop} {n m : KeyValueProp Expr} {s t : S} (a : KeyValueProp Expr) → e ≡ in_prop.KeyValue n → m ≡ n → f ≡ in_prop.KeyValue a → Makes X (key_value_tree expr_tree m) s spot.Here (key_value_tree expr_tree a) t → Makes X (prop_tree e) s spot.Here (prop_tree f) t
key_value_arm a is same after w =
    put_at (ap prop_tree is ∙ prop_tree-KeyValue _ ∙ ap (key_value_tree expr_tree) (sym same)) (ap prop_tree after ∙ prop_tree-KeyValue _) w

pub key_value_made : {S : Type 0} {X : Puts S} {s t u : S} (n m : KeyValueProp Expr) → Makes X (key_tree expr_tree n.key) s spot.Here (key_tree expr_tree m.key) t → Makes X (expr_tree n.value.value) t spot.Here (expr_tree m.value.value) u → Makes X (key_value_tree expr_tree n) s spot.Here (key_value_tree expr_tree m) u
key_value_made n m h k = plain refl refl (both h (one k))

pub method_arm : {S : Type 0} {X : Puts S} {e f : Prop} {n m : MethodProp} {s t : S} (a : MethodProp) → e ≡ in_prop.Method n → m ≡ n → f ≡ in_prop.Method a → Makes X (method_tree m) s spot.Here (method_tree a) t → Makes X (prop_tree e) s spot.Here (prop_tree f) t
method_arm a is same after w =
    put_at (ap prop_tree is ∙ prop_tree-Method _ ∙ ap method_tree (sym same)) (ap prop_tree after ∙ prop_tree-Method _) w

pub method_made : {S : Type 0} {X : Puts S} {t u : Tree} {s q r v w : S} (k l : PropName Expr) (f g : Box Function Global) → t ≡ method_node expr_tree function_trees k f → u ≡ method_node expr_tree function_trees l g → Makes X (key_tree expr_tree k) s spot.Here (key_tree expr_tree l) q → X.opens q tree.Method (function_forest (function_trees f.value)) ≡ r → FunctionGoes X r (function_trees f.value) (function_trees g.value) v → X.closes v ≡ w → Makes X t s spot.Here u w
unfolding around steps
method_made {S} {X} {t} {u} {s} {q} {r} {v} {w} k l f g is after h o p c =
    let a : FunctionTrees = function_trees f.value in
    let b : FunctionTrees = function_trees g.value in
    put_at is after (record {
      is = passed X (node tree.Method (a.own ∷ []) (key_tree expr_tree k ⊳ function_forest a)) s spot.Here refl
          ∙ ap (λ z. under tree.Method (a.own ∷ []) (in_front z.0 (scoped X z.1 tree.Method (function_forest a) (steps X (function_forest a))))) h.is
          ∙ ap (λ z. under tree.Method (a.own ∷ []) (in_front (key_tree expr_tree l) z)) (in_scope {l = tree.Method} o p.parts c).is
          ∙ ap (λ z. (node tree.Method (z ∷ []) (key_tree expr_tree l ⊳ function_forest b), w)) (sym p.own);
    })

pub method_rolled : {S : Type 0} {X : Puts S} {s q r v w : S} (m : MethodProp) (k : PropName Expr) (g : Box Function Global) → Makes X (key_tree expr_tree (out-MethodProp m).key) s spot.Here (key_tree expr_tree k) q → X.opens q tree.Method (function_forest (function_trees (out-MethodProp (roll-MethodProp (record { key = k; function = (out-MethodProp m).function }))).function.value)) ≡ r → FunctionGoes X r (function_trees (out-MethodProp (roll-MethodProp (record { key = k; function = (out-MethodProp m).function }))).function.value) (function_trees g.value) v → X.closes v ≡ w → Makes X (method_tree m) s spot.Here (method_tree (roll-MethodProp (record { key = (out-MethodProp (roll-MethodProp (record { key = k; function = (out-MethodProp m).function }))).key; function = g }))) w
method_rolled {S} {X} {s} {q} {r} {v} {w} m k g h o p c =
    let rolled = out-roll-MethodProp (record { key = k; function = (out-MethodProp m).function }) in
    method_made (out-MethodProp m).key k (out-MethodProp m).function g (method_tree-is m) (method_tree-roll _ g ∙ ap (λ z. method_node expr_tree function_trees z.key g) rolled) h (subst (λ z. X.opens q tree.Method (function_forest (function_trees z.function.value)) ≡ r) rolled o) (subst (λ z. FunctionGoes X r (function_trees z.function.value) (function_trees g.value) v) rolled p) c

pub key_stays : {S : Type 0} (X : Puts S) (k : PropName Expr) {l : tree.Key} {m : Span} (s : S) → key_tree expr_tree k ≡ node (tree.PlainKey l) (m ∷ []) ε → Makes X (key_tree expr_tree k) s spot.Here (key_tree expr_tree k) s
key_stays X k s is = put_at is is (plain refl refl nothing)

pub computed_key : {S : Type 0} {X : Puts S} {s t : S} {e f : PropName Expr} {n m : ComputedPropName Expr} (a : Box Expr Global) → e ≡ key.Computed n → m ≡ n → f ≡ key.Computed (record n { expr = a }) → Makes X (expr_tree m.expr.value) s spot.Here (expr_tree a.value) t → Makes X (key_tree expr_tree e) s spot.Here (key_tree expr_tree f) t
computed_key {S} {X} {s} {t} {e} {f} {n} {m} a is same after w =
    put_at (ap (key_tree expr_tree) is) (ap (key_tree expr_tree) after) (plain refl refl (one (subst (λ k. Makes X (expr_tree k.expr.value) s spot.Here (expr_tree a.value) t) same w)))

pub name_param : {S : Type 0} (X : Puts S) {p : Pat Expr} {n : Ident} (s : S) → p ≡ pat.Ident n → Makes X (param_tree expr_tree p) s spot.Here (param_tree expr_tree p) s
name_param X {p} {n} s is = put_at (ap (param_tree expr_tree) is) (ap (param_tree expr_tree) is) (plain refl refl nothing)

pub assign_param : {S : Type 0} {X : Puts S} {s t : S} {e f : Pat Expr} {n m : AssignPat Expr} (a : Box Expr Global) → e ≡ pat.Assign n → m ≡ n → f ≡ pat.Assign (record n { right = a }) → Makes X (expr_tree m.right.value) s spot.Here (expr_tree a.value) t → Makes X (param_tree expr_tree e) s spot.Here (param_tree expr_tree f) t
assign_param {S} {X} {s} {t} {e} {f} {n} {m} a is same after w =
    put_at (ap (param_tree expr_tree) is) (ap (param_tree expr_tree) after) (plain refl refl (one (subst (λ k. Makes X (expr_tree k.right.value) s spot.Here (expr_tree a.value) t) same w)))

params_made : {S : Type 0} {X : Puts S} {s t : S} {ps qs : List (Pat Expr)} → EachGoes X (param_tree expr_tree) s ps qs t → Makes X (params_tree expr_tree ps) s spot.Here (params_tree expr_tree qs) t
params_made h = plain refl refl (each_list h)

pub function_made : {S : Type 0} {X : Puts S} {f g : FunctionTrees} {s t u : S} (m : Span) (ps qs : Vec (Pat Expr) Global) (a b : BlockStmt Stmt) → f ≡ function_parts expr_tree stmt_tree m ps a → g ≡ function_parts expr_tree stmt_tree m qs b → EachGoes X (param_tree expr_tree) s ps.items qs.items t → Goes X (body_tree stmt_tree) t a b u → FunctionGoes X s f g u
function_made {S} {X} {f} {g} {s} {t} {u} m ps qs a b p q h w =
    subst (λ k. FunctionGoes X s k g u) (sym p) (subst (λ k. FunctionGoes X s (function_parts expr_tree stmt_tree m ps a) k u) (sym q) (record { own = refl; parts = both (params_made h) (one w) }))

pub arrow_made : {S : Type 0} {X : Puts S} {t u : Tree} {s q r v w : S} (m : Span) (ps qs : Vec (Pat Expr) Global) (a b : BlockStmtOrExpr) → t ≡ arrow_node expr_tree arrow_body_tree m ps a → u ≡ arrow_node expr_tree arrow_body_tree m qs b → X.opens s tree.Arrow (params_tree expr_tree ps.items ⊳ arrow_body_tree a ⊳ ε) ≡ q → EachGoes X (param_tree expr_tree) q ps.items qs.items r → Goes X arrow_body_tree r a b v → X.closes v ≡ w → MakesParts X t s u w
unfolding around
arrow_made {S} {X} {t} {u} {s} {q} {r} {v} {w} m ps qs a b is after o h k c = parts_at is after (record { is = ap (under tree.Arrow (m ∷ [])) (in_scope {l = tree.Arrow} o (both (params_made h) (one k)) c).is })

pub arrow_block : {S : Type 0} {X : Puts S} {s t : S} {e f : BlockStmtOrExpr} {n m : BlockStmt Stmt} (a : BlockStmt Stmt) → e ≡ in_arrow_body.BlockStmt n → m ≡ n → f ≡ in_arrow_body.BlockStmt a → Makes X (body_tree stmt_tree m) s spot.Here (body_tree stmt_tree a) t → Makes X (arrow_body_tree e) s spot.Here (arrow_body_tree f) t
arrow_block a is same after w =
    put_at (ap arrow_body_tree is ∙ arrow_body_tree-BlockStmt _ ∙ ap (body_tree stmt_tree) (sym same)) (ap arrow_body_tree after ∙ arrow_body_tree-BlockStmt _) w

pub arrow_expr : {S : Type 0} {X : Puts S} {s t : S} {e f : BlockStmtOrExpr} {n m : Box Expr Global} (a : Box Expr Global) → e ≡ in_arrow_body.Expr n → m ≡ n → f ≡ in_arrow_body.Expr a → Makes X (expr_tree m.value) s spot.Here (expr_tree a.value) t → Makes X (arrow_body_tree e) s spot.Here (arrow_body_tree f) t
arrow_expr a is same after w =
    put_at (ap arrow_body_tree is ∙ arrow_body_tree-Expr _ ∙ ap (λ k. expr_tree k.value) (sym same)) (ap arrow_body_tree after ∙ arrow_body_tree-Expr _) w

-- a property that is only a name
pub shorthand_enters : {S : Type 0} {X : Puts S} {s t : S} (n : Ident) → X.expression s spot.Property (ident_tree n) ≡ (enter, t) → Makes X (shorthand_tree n) s spot.Here (shorthand_tree n) t
unfolding around
shorthand_enters {S} {X} {s} {t} n h = record { is = passed X (shorthand_tree n) s spot.Here refl ∙ ap (λ a. expanded a (ident_name n) (n.span ∷ []) (shorthand_tree n)) h }

pub shorthand_stays : {S : Type 0} {X : Puts S} {s t : S} (n : Ident) → X.expression s spot.Property (ident_tree n) ≡ (stay, t) → Makes X (shorthand_tree n) s spot.Here (shorthand_tree n) t
unfolding around
shorthand_stays {S} {X} {s} {t} n h = record { is = passed X (shorthand_tree n) s spot.Here refl ∙ ap (λ a. expanded a (ident_name n) (n.span ∷ []) (shorthand_tree n)) h }

pub shorthand_becomes : {S : Type 0} {X : Puts S} {s t : S} {v : Tree} (n : Ident) → X.expression s spot.Property (ident_tree n) ≡ (become v, t) → Makes X (shorthand_tree n) s spot.Here (as_property (ident_name n) (n.span ∷ []) v) t
unfolding around
shorthand_becomes {S} {X} {s} {t} {v} n h = record { is = passed X (shorthand_tree n) s spot.Here refl ∙ ap (λ a. expanded a (ident_name n) (n.span ∷ []) (shorthand_tree n)) h }

pub shorthand_becomes_at : {S : Type 0} {X : Puts S} {s t : S} {v : Expr} (n : Ident) (m : KeyValueProp Expr) → X.expression s spot.Property (ident_tree n) ≡ (become (expr_tree v), t) → key_tree expr_tree m.key ≡ property_key (ident_name n).text (n.span ∷ []) → m.value.value ≡ v → Makes X (shorthand_tree n) s spot.Here (prop_tree (in_prop.KeyValue m)) t
shorthand_becomes_at {S} {X} {s} {t} {v} n m h k e = put_at refl (prop_tree-KeyValue m ∙ ap (λ z. node tree.KeyValue [] (z ⊳ expr_tree m.value.value ⊳ ε)) k ∙ ap (λ z. as_property (ident_name n) (n.span ∷ []) (expr_tree z)) e) (shorthand_becomes n h)

-- a property that is only a name, and what it becomes
pub prop_becomes : {S : Type 0} {X : Puts S} {s t : S} {e : Prop} {n m : Ident} {o : Option Prop} (k : Ident) (q : Prop) → e ≡ in_prop.Shorthand n → m ≡ n → o ≡ Some q → ShorthandGoes X s m k o t → Makes X (prop_tree e) s spot.Here (prop_tree q) t
prop_becomes {S} {X} {s} {t} {e} {n} {m} {o} k q is same made w =
    let h : ShorthandGoes X s m k (Some q) t = subst (λ z. ShorthandGoes X s m k z t) made w in
    put_at (ap prop_tree is ∙ prop_tree-Shorthand n ∙ ap shorthand_tree (sym same)) refl h

is_none : (o : Option Prop) → ((q : Prop) → o ≡ Some q → ⊥) → o ≡ None
is_none (Some q) never = absurd (never q refl)
is_none None never = refl

pub prop_stays : {S : Type 0} {X : Puts S} {s t : S} {e f : Prop} {n m : Ident} (k : Ident) (o : Option Prop) → e ≡ in_prop.Shorthand n → m ≡ n → f ≡ in_prop.Shorthand k → ((q : Prop) → o ≡ Some q → ⊥) → ShorthandGoes X s m k o t → Makes X (prop_tree e) s spot.Here (prop_tree f) t
prop_stays {S} {X} {s} {t} {e} {f} {n} {m} k o is same after never w =
    let h : ShorthandGoes X s m k None t = subst (λ z. ShorthandGoes X s m k z t) (is_none o never) w in
    put_at (ap prop_tree is ∙ prop_tree-Shorthand n ∙ ap shorthand_tree (sym same)) (ap prop_tree after ∙ prop_tree-Shorthand k ∙ ap shorthand_tree h.0) h.1
