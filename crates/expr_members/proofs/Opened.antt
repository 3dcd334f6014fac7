-- The items of an array, with those of each array literal that is spread in it.
use Rattle.std.proofs.Common.{◌≡◌, ℕ, Bool, true, false, ◌||◌, List, [], ◌∷◌, ◌++◌, map, Option, Some, None, refl, sym, ap, subst, ◌∙◌}
use Rattle.std.proofs.lemmas.Bool.{false≢true}
use Rattle.swc_ast.specs.Tree as tree
use Rattle.swc_ast.specs.Tree.{ItemKind, Tree, node, Forest, ε, ◌⊳◌}
use Rattle.swc_ast.specs.Scope.{joined}
use Rattle.std.specs.declared.alloc.Global.{Global}
use Rattle.std.specs.declared.vec.Vec.{Vec}
use Rattle.swc_ast.specs.Expressions.{array_tree, item_kind, item_spans, item_trees, spread_kind}
use Rattle.swc_ast.specs.Views.{expr_tree}
use Rattle.swc_ast.specs.declared.Span.{Span}
use Rattle.swc_ast.specs.declared.expressions.Expr.{Expr}
use Rattle.swc_ast.specs.declared.expressions.Expr.TheVariants as in_expr
use Rattle.swc_ast.specs.declared.expressions.ArrayLit.{ArrayLit}
use Rattle.swc_ast.specs.declared.expressions.ExprOrSpread.{ExprOrSpread}
use Rattle.swc_ast.proofs.Equations.{expr_tree-Array}
use Rattle.swc_utils.proofs.Chains.{joined_none}
use Rattle.expr_rules.specs.ExprSteps.{ExprStep, spread_array}
use Rattle.pass_rules.specs.Leaves.{void_tree}
use Rattle.expr_rules.specs.Spreads.{filled_kinds, filled_items, spread_kinds, spread_trees, opened_kinds, opened_items, is_array, spreads_array}
use Rattle.expr_members.specs.Arrays.{HasItems}

-- an item of an array
abbrev pub Item : Type 0
Item = Option (ExprOrSpread Expr)

abbrev pub kinds_of : List Item → List ItemKind
kinds_of xs = map item_kind xs

abbrev pub trees_of : List Item → Forest
trees_of xs = item_trees expr_tree xs

none_behind : {A : Type 0} (xs : List A) → xs ++ [] ≡ xs
none_behind [] = refl
none_behind (x ∷ xs) = ap (λ ys. x ∷ ys) (none_behind xs)

-- a list with one more item

pub one_kind : (xs : List Item) (x : Item) → kinds_of (xs ++ (x ∷ [])) ≡ kinds_of xs ++ (item_kind x ∷ [])
one_kind [] x = refl
one_kind (y ∷ ys) x = ap (λ ks. item_kind y ∷ ks) (one_kind ys x)

pub one_tree : (xs : List Item) (x : Item) → trees_of (xs ++ (x ∷ [])) ≡ joined (trees_of xs) (trees_of (x ∷ []))
one_tree [] x = refl
one_tree (None ∷ ys) x = one_tree ys x
one_tree (Some n ∷ ys) x = ap (λ ts. expr_tree n.expr.value ⊳ ts) (one_tree ys x)

-- holes filled

pub filled_kinds_cons : (x : Item) (xs : List Item) → filled_kinds (kinds_of (x ∷ xs)) ≡ filled_kinds (kinds_of (x ∷ [])) ++ filled_kinds (kinds_of xs)
filled_kinds_cons None xs = refl
filled_kinds_cons (Some n) xs = by n.spread
  where
    by : (o : Option Span) → filled_kinds (spread_kind o ∷ kinds_of xs) ≡ filled_kinds (spread_kind o ∷ []) ++ filled_kinds (kinds_of xs)
    by None = refl
    by (Some s) = refl

pub filled_trees_cons : (w : Tree) (x : Item) (xs : List Item) → filled_items w (kinds_of (x ∷ xs)) (trees_of (x ∷ xs)) ≡ joined (filled_items w (kinds_of (x ∷ [])) (trees_of (x ∷ []))) (filled_items w (kinds_of xs) (trees_of xs))
filled_trees_cons w None xs = refl
filled_trees_cons w (Some n) xs = by n.spread
  where
    by : (o : Option Span) → filled_items w (spread_kind o ∷ kinds_of xs) (expr_tree n.expr.value ⊳ trees_of xs) ≡ joined (filled_items w (spread_kind o ∷ []) (expr_tree n.expr.value ⊳ ε)) (filled_items w (kinds_of xs) (trees_of xs))
    by None = refl
    by (Some s) = refl

-- spreads opened

pub opened_kinds_cons : (x : Item) (xs : List Item) → opened_kinds (kinds_of (x ∷ xs)) (trees_of (x ∷ xs)) ≡ opened_kinds (kinds_of (x ∷ [])) (trees_of (x ∷ [])) ++ opened_kinds (kinds_of xs) (trees_of xs)
opened_kinds_cons None xs = refl
opened_kinds_cons (Some n) xs = by n.spread (expr_tree n.expr.value)
  where
    by : (o : Option Span) (t : Tree) → opened_kinds (spread_kind o ∷ kinds_of xs) (t ⊳ trees_of xs) ≡ opened_kinds (spread_kind o ∷ []) (t ⊳ ε) ++ opened_kinds (kinds_of xs) (trees_of xs)
    by None t = refl
    by (Some s) t = ap (λ ks. ks ++ opened_kinds (kinds_of xs) (trees_of xs)) (sym (none_behind (spread_kinds t)))

pub opened_trees_cons : (w : Tree) (x : Item) (xs : List Item) → opened_items w (kinds_of (x ∷ xs)) (trees_of (x ∷ xs)) ≡ joined (opened_items w (kinds_of (x ∷ [])) (trees_of (x ∷ []))) (opened_items w (kinds_of xs) (trees_of xs))
opened_trees_cons w None xs = refl
opened_trees_cons w (Some n) xs = by n.spread (expr_tree n.expr.value)
  where
    by : (o : Option Span) (t : Tree) → opened_items w (spread_kind o ∷ kinds_of xs) (t ⊳ trees_of xs) ≡ joined (opened_items w (spread_kind o ∷ []) (t ⊳ ε)) (opened_items w (kinds_of xs) (trees_of xs))
    by None t = refl
    by (Some s) t = ap (λ ts. joined ts (opened_items w (kinds_of xs) (trees_of xs))) (sym (joined_none (spread_trees w t)))

left_false : (a b : Bool) → (a || b) ≡ false → a ≡ false
left_false true b h = h
left_false false b h = refl

no_spread_trees : (w t : Tree) → is_array t ≡ false → spread_trees w t ≡ t ⊳ ε
no_spread_trees w (node (tree.Array ks) ss us) h = absurd (false≢true (sym h))
no_spread_trees w (node l ss us) h = refl

pub closed_tree : (w : Tree) (x : Item) → spreads_array (kinds_of (x ∷ [])) (trees_of (x ∷ [])) ≡ false → opened_items w (kinds_of (x ∷ [])) (trees_of (x ∷ [])) ≡ trees_of (x ∷ [])
closed_tree w None h = refl
closed_tree w (Some n) h = by n.spread (expr_tree n.expr.value) h
  where
    by : (o : Option Span) (t : Tree) → spreads_array (spread_kind o ∷ []) (t ⊳ ε) ≡ false → opened_items w (spread_kind o ∷ []) (t ⊳ ε) ≡ t ⊳ ε
    by None t h = refl
    by (Some s) t h = joined_none (spread_trees w t) ∙ no_spread_trees w t (left_false (is_array t) false h)

left_true : (a : Bool) → (a || false) ≡ true → a ≡ true
left_true true h = refl
left_true false h = h

-- an item that spreads an array literal of some items

pub spread_open_trees : (w : Tree) (n : ExprOrSpread Expr) (xs : List Item) → spreads_array (kinds_of (Some n ∷ [])) (trees_of (Some n ∷ [])) ≡ true → (is_array (expr_tree n.expr.value) ≡ true → HasItems (expr_tree n.expr.value) xs) → opened_items w (kinds_of (Some n ∷ [])) (trees_of (Some n ∷ [])) ≡ filled_items w (kinds_of xs) (trees_of xs)
spread_open_trees w n xs h items = by n.spread (expr_tree n.expr.value) h items
  where
    by : (o : Option Span) (t : Tree) → spreads_array (spread_kind o ∷ []) (t ⊳ ε) ≡ true → (is_array t ≡ true → HasItems t xs) → opened_items w (spread_kind o ∷ []) (t ⊳ ε) ≡ filled_items w (kinds_of xs) (trees_of xs)
    by None t h items = absurd (false≢true h)
    by (Some s) t h items = joined_none (spread_trees w t) ∙ ap (spread_trees w) (items (left_true (is_array t) h)).1

pub spread_at : (w : Tree) (x : Item) (n : ExprOrSpread Expr) (e : Expr) (xs : List Item) → x ≡ Some n → e ≡ n.expr.value → spreads_array (kinds_of (x ∷ [])) (trees_of (x ∷ [])) ≡ true → (is_array (expr_tree e) ≡ true → HasItems (expr_tree e) xs) → opened_items w (kinds_of (x ∷ [])) (trees_of (x ∷ [])) ≡ filled_items w (kinds_of xs) (trees_of xs)
spread_at w x n e xs is inner h items =
    ap (λ y. opened_items w (kinds_of (y ∷ [])) (trees_of (y ∷ []))) is
    ∙ spread_open_trees w n xs (sym (ap (λ y. spreads_array (kinds_of (y ∷ [])) (trees_of (y ∷ []))) is) ∙ h) (subst (λ f. is_array (expr_tree f) ≡ true → HasItems (expr_tree f) xs) inner items)

-- the array with its spreads opened
pub spread_step : (mark : ℕ) (n : ArrayLit Expr) (s : Span) (items elems : Vec Item Global) → spreads_array (kinds_of n.elems.items) (trees_of n.elems.items) ≡ true → items ≡ n.elems → kinds_of elems.items ≡ opened_kinds (kinds_of items.items) (trees_of items.items) → trees_of elems.items ≡ opened_items (void_tree (s ∷ []) (s ∷ [])) (kinds_of items.items) (trees_of items.items) → ExprStep mark (array_tree expr_tree n) (expr_tree (in_expr.Array (record { span = s; elems = elems })))
spread_step mark n s items elems fires same kinds trees =
    let hole = void_tree (s ∷ []) (s ∷ []) in
    let rs = s ∷ item_spans elems.items in
    let at_kinds : kinds_of elems.items ≡ opened_kinds (kinds_of n.elems.items) (trees_of n.elems.items) = kinds ∙ ap (λ v. opened_kinds (kinds_of v.items) (trees_of v.items)) same in
    let at_trees : trees_of elems.items ≡ opened_items hole (kinds_of n.elems.items) (trees_of n.elems.items) = trees ∙ ap (λ v. opened_items hole (kinds_of v.items) (trees_of v.items)) same in
    subst (ExprStep mark (array_tree expr_tree n)) (sym (expr_tree-Array _ ∙ ap (λ ks. node (tree.Array ks) rs (trees_of elems.items)) at_kinds ∙ ap (node (tree.Array (opened_kinds (kinds_of n.elems.items) (trees_of n.elems.items))) rs) at_trees))
    (spread_array (n.span ∷ item_spans n.elems.items) rs (s ∷ []) (s ∷ []) (kinds_of n.elems.items) (trees_of n.elems.items) fires)
