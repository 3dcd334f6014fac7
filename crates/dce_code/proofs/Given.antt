-- Objects of names, and calls that give them.
use Rattle.std.proofs.Common.{◌≡◌, ◌<◌, ℕ, Bool, true, ◌==◌, List, [], ◌∷◌, length, None, refl, sym, subst, ◌∙◌, arith}
use Rattle.std.specs.Cmp.{unsigned_Decides}
use Rattle.swc_ast.specs.declared.Span.{Span}
use Rattle.swc_ast.specs.declared.declarations.Function.{Function}
use Rattle.swc_ast.specs.declared.declarations.Pat.{Pat}
use Rattle.swc_ast.specs.declared.expressions.CallExpr.{CallExpr}
use Rattle.swc_ast.specs.declared.expressions.Expr.{Expr}
use Rattle.swc_ast.specs.declared.expressions.Expr.TheVariants as in_expr
use Rattle.swc_ast.specs.declared.expressions.ObjectLit.{ObjectLit}
use Rattle.swc_ast.specs.declared.expressions.PropOrSpread.{PropOrSpread}
use Rattle.swc_ast.specs.declared.names.Ident.{Ident}
use Rattle.swc_ast.specs.Expressions.{FunctionTrees, body_tree, call_node, call_tree, params_tree}
use Rattle.swc_ast.specs.Parts.{ident_name, list_trees}
use Rattle.swc_ast.specs.Tree.{Body, Call, Fn, Key, KeyValue, Object, Params, PlainKey, Return, Tree, node, Forest, ε, ◌⊳◌}
use Rattle.swc_ast.specs.Views.{expr_tree, function_trees, prop_or_spread_tree, stmt_tree}
use Rattle.swc_ast.proofs.Equations.{function_trees-is}
use Rattle.swc_ast.proofs.Places.{at_expr-Ident, at_expr-Object}
use Rattle.tree_walk.proofs.NodeKinds.{alone_fits}
use Rattle.tree_walk.specs.Parts.{stands_alone}
use Rattle.tree_walk.specs.Walks.{Fits}
use Rattle.tree_walk.specs.declared.rules.Place.{Place}
use Rattle.tree_walk.specs.declared.rules.Place.TheVariants as place
use Rattle.dce_rules.specs.Shakes.{NamesOnly, no_property, key_and_name, Shaker, Shakes, call_gives}
use Rattle.dce_code.specs.Objects.{Gives, gives, Returns, returned, ReturnsAlone}

-- properties

pub name_value : (e : Expr) (n : Ident) → e ≡ in_expr.Ident n → (k : Key) (rs : List Span) (ts : Forest) → NamesOnly ts → NamesOnly (node KeyValue [] (node (PlainKey k) rs ε ⊳ expr_tree e ⊳ ε) ⊳ ts)
name_value e n is k rs ts only = subst (λ t. NamesOnly (node KeyValue [] (node (PlainKey k) rs ε ⊳ t ⊳ ε) ⊳ ts)) (sym (at_expr-Ident e n is)) (key_and_name k (ident_name n) only)

pub none_named : (ps : List PropOrSpread) → length ps < 1 → NamesOnly (list_trees prop_or_spread_tree ps)
none_named [] h = no_property
none_named (p ∷ ps) h = absurd (omega (arith, h))

pub object_returned : (e : Expr) (n : ObjectLit PropOrSpread) (ps : List PropOrSpread) → e ≡ in_expr.Object n → ps ≡ n.props.items → NamesOnly (list_trees prop_or_spread_tree ps) → (rs : List Span) → Returns (node Return rs (expr_tree e ⊳ ε)) (expr_tree e)
object_returned e n ps is at only rs =
    subst (λ t. Returns (node Return rs (t ⊳ ε)) t) (sym (at_expr-Object e n is)) (returned (subst (λ xs. NamesOnly (list_trees prop_or_spread_tree xs)) at only))

-- a list that an empty test found empty
pub counted_none : {X : Type 0} (b : Bool) (n : ℕ) (xs : List X) → b ≡ true → b ≡ (n == 0) → n ≡ length xs → length xs ≡ 0
counted_none b n xs h is len = omega (arith, len, (unsigned_Decides n 0).0 (sym is ∙ h))

pub nothing_in : {X : Type 0} (xs : List X) → length xs ≡ 0 → xs ≡ []
nothing_in [] h = refl
nothing_in (x ∷ xs) h = absurd (omega (arith, h))

-- a function, by its parts
pub given_by : (f : Function) (o : Tree) → length f.params.items ≡ 0 → ReturnsAlone (list_trees stmt_tree f.body.stmts.items) o → (fs : List Span) → Gives (node (Fn None) fs ((function_trees f).parameters ⊳ (function_trees f).body ⊳ ε)) o
given_by f o none h fs =
    subst (λ (p : FunctionTrees). Gives (node (Fn None) fs (p.parameters ⊳ p.body ⊳ ε)) o) (sym (function_trees-is f))
    (subst (λ (ps : List (Pat Expr)). Gives (node (Fn None) fs (params_tree expr_tree ps ⊳ body_tree stmt_tree f.body ⊳ ε)) o) (sym (nothing_in f.params.items none)) (gives h))

pub function_stays : (f g : Function) → g.span ≡ f.span → g.params.items ≡ f.params.items → g.body.span ≡ f.body.span → list_trees stmt_tree g.body.stmts.items ≡ list_trees stmt_tree f.body.stmts.items → function_trees g ≡ function_trees f
function_stays f g s p b h = function_trees-is g ∙ by s p b h ∙ sym (function_trees-is f)
  where
    parts : Span → List (Pat Expr) → Span → Forest → FunctionTrees
    parts x ps y ts = record { own = x; parameters = params_tree expr_tree ps; body = node Body (y ∷ []) ts }

    by : {x y z w : Span} {ps qs : List (Pat Expr)} {ts us : Forest} → x ≡ y → ps ≡ qs → z ≡ w → ts ≡ us → parts x ps z ts ≡ parts y qs w us
    by p q r t = cc

-- a call

at_call : (S : Shaker) (s : Span) (fs ps bs : List Span) (ss : Forest) (o : Tree) → ReturnsAlone ss o → Shakes S (node Call (s ∷ []) (node (Fn None) fs (node Params ps ε ⊳ node Body bs ss ⊳ ε) ⊳ ε)) o
at_call S s fs ps bs ε o h = absurd h
at_call S s fs ps bs (t ⊳ ε) o (returned only) = call_gives only
at_call S s fs ps bs (t ⊳ u ⊳ ts) o h = absurd h

given_call : (S : Shaker) (s : Span) (t o : Tree) → Gives t o → Shakes S (call_node s t ε) o
unfolding call_node
given_call S s t o (gives {fs} {ps} {bs} {ss} h) = at_call S s fs ps bs ss o h

pub call_shakes : (S : Shaker) (n : CallExpr Expr) (o : Tree) → length n.args.items ≡ 0 → Gives (expr_tree n.callee.value) o → Shakes S (call_tree expr_tree n) o
call_shakes S n o none h = subst (λ xs. Shakes S (call_node n.span (expr_tree n.callee.value) (list_trees expr_tree xs)) o) (sym (nothing_in n.args.items none)) (given_call S n.span (expr_tree n.callee.value) o h)

-- the object stands alone wherever it stands

object_alone : (p : Place) (os : List Span) (props : Forest) → stands_alone p (node Object os props) ≡ true
object_alone place.Callee os props = refl
object_alone place.TypeOf os props = refl
object_alone place.Delete os props = refl
object_alone place.Value os props = refl
object_alone place.Statement os props = refl
object_alone place.Part os props = refl

alone_by : (p : Place) (ss : Forest) (o : Tree) → ReturnsAlone ss o → Fits p o
alone_by p ε o h = absurd h
alone_by p (t ⊳ ε) o (returned {rs} {os} {props} only) = alone_fits p (node Object os props) (object_alone p os props)
alone_by p (t ⊳ u ⊳ ts) o h = absurd h

pub given_fits : (p : Place) {t o : Tree} → Gives t o → Fits p o
given_fits p (gives {fs} {ps} {bs} {ss} {o} h) = alone_by p ss o h
