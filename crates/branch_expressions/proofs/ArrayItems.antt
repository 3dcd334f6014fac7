-- What is left of an array's items, item by item.
use Rattle.std.proofs.Common.{◌≡◌, ℕ, ◌+◌, ◌<◌, ◌≤◌, Bool, true, false, ◌||◌, List, [], ◌∷◌, ◌++◌, length, take, get_or, map, append_assoc, Option, Some, None, refl, sym, ap, subst, ◌∙◌}
use Rattle.std.proofs.lemmas.List.{take_all, take_more}
use Rattle.swc_ast.specs.declared.Span.{Span}
use Rattle.swc_ast.specs.declared.expressions.ArrayLit.{ArrayLit}
use Rattle.swc_ast.specs.declared.expressions.Expr.{Expr}
use Rattle.swc_ast.specs.declared.expressions.ExprOrSpread.{ExprOrSpread}
use Rattle.swc_ast.specs.Expressions.{array_tree, item_kind, item_spans, item_trees, with_span}
use Rattle.swc_ast.specs.Scope.{joined}
use Rattle.swc_ast.specs.Tree as tree
use Rattle.swc_ast.specs.Tree.{ItemKind, Tree, node, Forest, ε, ◌⊳◌}
use Rattle.swc_ast.specs.Views.{expr_tree}
use Rattle.swc_utils.proofs.Chains.{joined_assoc, joined_none}
use Rattle.branch_rules.specs.Ignored.{Ignores, ItemsLeft, no_items, item_goes, item_left, spread_stays, hole_goes, items_left}
use Rattle.branch_expressions.specs.Left.{AddsItems, AddsPlain}
use Rattle.branch_expressions.proofs.Adding.{or_assoc, or_none, same_left}

abbrev Item : Type 0
Item = Option (ExprOrSpread Expr)

-- items of two lists

pub kinds_joined : (xs ys : List Item) → map item_kind (xs ++ ys) ≡ map item_kind xs ++ map item_kind ys
kinds_joined [] ys = refl
kinds_joined (x ∷ xs) ys = ap (λ ks. item_kind x ∷ ks) (kinds_joined xs ys)

pub trees_joined : (xs ys : List Item) → item_trees expr_tree (xs ++ ys) ≡ joined (item_trees expr_tree xs) (item_trees expr_tree ys)
trees_joined [] ys = refl
trees_joined (None ∷ xs) ys = trees_joined xs ys
trees_joined (Some n ∷ xs) ys = ap (λ ts. expr_tree n.expr.value ⊳ ts) (trees_joined xs ys)

with_joined : (o : Option Span) (ss rs : List Span) → with_span o (ss ++ rs) ≡ with_span o ss ++ rs
with_joined None ss rs = refl
with_joined (Some s) ss rs = refl

pub spans_joined : (xs ys : List Item) → item_spans (xs ++ ys) ≡ item_spans xs ++ item_spans ys
spans_joined [] ys = refl
spans_joined (None ∷ xs) ys = spans_joined xs ys
spans_joined (Some n ∷ xs) ys = ap (with_span n.spread) (spans_joined xs ys) ∙ with_joined n.spread (item_spans xs) (item_spans ys)

-- what is left of two rows of items

both_items : (mark : ℕ) (c d : Bool) (ks ls ms ns : List ItemKind) (ts us xs ys : Forest) → ItemsLeft mark c ks ts ls us → ItemsLeft mark d ms xs ns ys → ItemsLeft mark (c || d) (ks ++ ms) (joined ts xs) (ls ++ ns) (joined us ys)
both_items mark c d ks ls ms ns ts us xs ys no_items k = k
both_items mark c d ks ls ms ns ts us xs ys (item_goes {c = e} t {ks = js} {ls = ps} {cs = rs} {vs = vs} h g) k = item_goes t h (both_items mark e d js ps ms ns rs vs xs ys g k)
both_items mark c d ks ls ms ns ts us xs ys (item_left {c = a} {d = e} t v {ks = js} {ls = ps} {cs = rs} {vs = vs} h g) k = subst (λ b. ItemsLeft mark b (tree.Plain ∷ js ++ ms) (t ⊳ joined rs xs) (tree.Plain ∷ ps ++ ns) (v ⊳ joined vs ys)) (or_assoc a e d) (item_left t v h (both_items mark e d js ps ms ns rs vs xs ys g k))
both_items mark c d ks ls ms ns ts us xs ys (spread_stays {c = e} t {ks = js} {ls = ps} {cs = rs} {vs = vs} g) k = spread_stays t (both_items mark e d js ps ms ns rs vs xs ys g k)
both_items mark c d ks ls ms ns ts us xs ys (hole_goes {c = e} {ks = js} {ls = ps} {cs = rs} {vs = vs} g) k = hole_goes (both_items mark e d js ps ms ns rs vs xs ys g k)

no_change : (c d : Bool) → (c || d) ≡ false → (c ≡ false) × (d ≡ false)
no_change true d h = cc
no_change false d h = (refl, h)

pub items_both : (mark : ℕ) (xs ys a b e : List Item) (c d : Bool) → AddsItems mark xs a b c → AddsItems mark ys b e d → AddsItems mark (xs ++ ys) a e (c || d)
items_both mark xs ys a b e c d h k = record {
  kinds = h.kinds ++ k.kinds;
  added = joined h.added k.added;
  left = subst (λ ks. ItemsLeft mark (c || d) ks (item_trees expr_tree (xs ++ ys)) (h.kinds ++ k.kinds) (joined h.added k.added)) (sym (kinds_joined xs ys)) (subst (λ ts. ItemsLeft mark (c || d) (map item_kind xs ++ map item_kind ys) ts (h.kinds ++ k.kinds) (joined h.added k.added)) (sym (trees_joined xs ys)) (both_items mark c d (map item_kind xs) h.kinds (map item_kind ys) k.kinds (item_trees expr_tree xs) h.added (item_trees expr_tree ys) k.added h.left k.left));
  kinds_are = k.kinds_are ∙ ap (λ ks. ks ++ k.kinds) h.kinds_are ∙ append_assoc (map item_kind a) h.kinds k.kinds;
  trees_are = k.trees_are ∙ ap (λ ts. joined ts k.added) h.trees_are ∙ joined_assoc (item_trees expr_tree a) h.added k.added;
  same_spans = λ q. let p = no_change c d q in k.same_spans p.1 ∙ ap (λ ss. ss ++ item_spans ys) (h.same_spans p.0) ∙ append_assoc (item_spans a) (item_spans xs) (item_spans ys) ∙ sym (ap (λ ss. item_spans a ++ ss) (spans_joined xs ys));
}

append_none : {X : Type 0} (xs : List X) → xs ++ [] ≡ xs
append_none [] = refl
append_none (x ∷ xs) = ap (λ ys. x ∷ ys) (append_none xs)

pub items_none : (mark : ℕ) (a : List Item) → AddsItems mark [] a a false
items_none mark a = record {
  kinds = [];
  added = ε;
  left = no_items;
  kinds_are = sym (append_none (map item_kind a));
  trees_are = sym (joined_none (item_trees expr_tree a));
  same_spans = λ q. sym (append_none (item_spans a));
}

pub items_more : (mark : ℕ) (xs : List Item) (i : ℕ) (x : Item) (a b e : List Item) (c d : Bool) → i < length xs → x ≡ get_or xs i x → AddsItems mark (take i xs) a b c → AddsItems mark (x ∷ []) b e d → AddsItems mark (take (i + 1) xs) a e (c || d)
items_more mark xs i x a b e c d within at h k = subst (λ ys. AddsItems mark ys a e (c || d)) (sym (take_more xs i x within ∙ ap (λ y. take i xs ++ y ∷ []) (sym at))) (items_both mark (take i xs) (x ∷ []) a b e c d h k)

pub items_all : (mark : ℕ) (xs : List Item) (i : ℕ) (a b : List Item) (c : Bool) → length xs ≤ i → AddsItems mark (take i xs) a b c → AddsItems mark xs a b c
items_all mark xs i a b c within h = subst (λ ys. AddsItems mark ys a b c) (take_all i xs within) h

-- one item

pub hole_item : (mark : ℕ) (x : Item) (a : List Item) → x ≡ None → AddsItems mark (x ∷ []) a a true
hole_item mark x a is = subst (λ y. AddsItems mark (y ∷ []) a a true) (sym is) (record {
  kinds = [];
  added = ε;
  left = hole_goes no_items;
  kinds_are = sym (append_none (map item_kind a));
  trees_are = sym (joined_none (item_trees expr_tree a));
  same_spans = λ q. cc;
})

pub plain_item : (mark : ℕ) (x : Item) (n : ExprOrSpread Expr) (t : Tree) (a b : List Item) (c : Bool) → x ≡ Some n → n.spread ≡ None → expr_tree n.expr.value ≡ t → AddsPlain mark t a b c → AddsItems mark (x ∷ []) a b c
plain_item mark x n t a b c is plain at h = record {
  kinds = h.kinds;
  added = h.added;
  left = subst (λ ks. ItemsLeft mark c ks (item_trees expr_tree (x ∷ [])) h.kinds h.added) (sym (ap (λ y. item_kind y ∷ []) is ∙ ap (λ o. item_kind (Some (record n { spread = o })) ∷ []) plain)) (subst (λ ts. ItemsLeft mark c (tree.Plain ∷ []) ts h.kinds h.added) (sym (ap (λ y. item_trees expr_tree (y ∷ [])) is ∙ ap (λ u. u ⊳ ε) at)) h.left);
  kinds_are = h.kinds_are;
  trees_are = h.trees_are;
  same_spans = λ q. h.same_spans q ∙ sym (append_none (item_spans a)) ∙ sym (ap (λ ss. item_spans a ++ ss) (ap (λ y. item_spans (y ∷ [])) is ∙ ap (λ o. with_span o []) plain));
}

pub spread_item : (mark : ℕ) (x : Item) (n : ExprOrSpread Expr) (s : Span) (t : Tree) (a b : List Item) → x ≡ Some n → n.spread ≡ Some s → expr_tree n.expr.value ≡ t → map item_kind b ≡ map item_kind a ++ tree.Spread ∷ [] → item_trees expr_tree b ≡ joined (item_trees expr_tree a) (t ⊳ ε) → item_spans b ≡ item_spans a ++ s ∷ [] → AddsItems mark (x ∷ []) a b false
spread_item mark x n s t a b is spread at ks ts ss = record {
  kinds = tree.Spread ∷ [];
  added = t ⊳ ε;
  left = subst (λ ls. ItemsLeft mark false ls (item_trees expr_tree (x ∷ [])) (tree.Spread ∷ []) (t ⊳ ε)) (sym (ap (λ y. item_kind y ∷ []) is ∙ ap (λ o. item_kind (Some (record n { spread = o })) ∷ []) spread)) (subst (λ us. ItemsLeft mark false (tree.Spread ∷ []) us (tree.Spread ∷ []) (t ⊳ ε)) (sym (ap (λ y. item_trees expr_tree (y ∷ [])) is ∙ ap (λ u. u ⊳ ε) at)) (spread_stays t no_items));
  kinds_are = ks;
  trees_are = ts;
  same_spans = λ q. ss ∙ sym (ap (λ rs. item_spans a ++ rs) (ap (λ y. item_spans (y ∷ [])) is ∙ ap (λ o. with_span o []) spread));
}

-- an expression that is an item

pub plain_stays : (mark : ℕ) (t : Tree) (c : Bool) (e : Expr) (a b : List Item) → Ignores mark c t (Some (expr_tree e)) → map item_kind b ≡ map item_kind a ++ tree.Plain ∷ [] → item_trees expr_tree b ≡ joined (item_trees expr_tree a) (expr_tree e ⊳ ε) → item_spans b ≡ item_spans a ++ [] → AddsPlain mark t a b c
plain_stays mark t c e a b h ks ts ss = record {
  kinds = tree.Plain ∷ [];
  added = expr_tree e ⊳ ε;
  left = subst (λ d. ItemsLeft mark d (tree.Plain ∷ []) (t ⊳ ε) (tree.Plain ∷ []) (expr_tree e ⊳ ε)) (or_none c) (item_left t (expr_tree e) h no_items);
  kinds_are = ks;
  trees_are = ts;
  same_spans = λ q. ss ∙ append_none (item_spans a);
}

pub plain_goes : (mark : ℕ) (t : Tree) (a : List Item) → Ignores mark true t None → AddsPlain mark t a a true
plain_goes mark t a h = record {
  kinds = [];
  added = ε;
  left = item_goes t h no_items;
  kinds_are = sym (append_none (map item_kind a));
  trees_are = sym (joined_none (item_trees expr_tree a));
  same_spans = λ q. refl;
}

-- an array with a spread

pub array_left : (mark : ℕ) (n : ArrayLit Expr) (s : Span) (a b : List Item) (c : Bool) → a ≡ [] → c ≡ true → AddsItems mark n.elems.items a b c → Ignores mark true (array_tree expr_tree n) (Some (node (tree.Array (map item_kind b)) (s ∷ item_spans b) (item_trees expr_tree b)))
array_left mark n s a b c none changed h =
    let ks = h.kinds_are ∙ ap (λ xs. map item_kind xs ++ h.kinds) none in
    let ts = h.trees_are ∙ ap (λ xs. joined (item_trees expr_tree xs) h.added) none in
    subst (λ ls. Ignores mark true (array_tree expr_tree n) (Some (node (tree.Array ls) (s ∷ item_spans b) (item_trees expr_tree b)))) (sym ks)
    (subst (λ us. Ignores mark true (array_tree expr_tree n) (Some (node (tree.Array h.kinds) (s ∷ item_spans b) us))) (sym ts)
    (items_left (map item_kind n.elems.items) h.kinds (n.span ∷ item_spans n.elems.items) (s ∷ item_spans b) (item_trees expr_tree n.elems.items) h.added (subst (λ d. ItemsLeft mark d (map item_kind n.elems.items) (item_trees expr_tree n.elems.items) h.kinds h.added) changed h.left)))

same_item : (mark : ℕ) (a b : Bool) (t v : Tree) (js ps : List ItemKind) (rs vs : Forest) → (a || b) ≡ false → Ignores mark a t (Some v) → (b ≡ false → (ps ≡ js) × (vs ≡ rs)) → (tree.Plain ∷ ps ≡ tree.Plain ∷ js) × (v ⊳ vs ≡ t ⊳ rs)
same_item mark true b t v js ps rs vs h g k = cc
same_item mark false b t v js ps rs vs h g k = (ap (λ xs. tree.Plain ∷ xs) (k h).0, ap (λ x. x ⊳ vs) (same_left mark t v g) ∙ ap (λ xs. t ⊳ xs) (k h).1)

same_items : (mark : ℕ) (c : Bool) (ks ls : List ItemKind) (ts us : Forest) → c ≡ false → ItemsLeft mark c ks ts ls us → (ls ≡ ks) × (us ≡ ts)
same_items mark c ks ls ts us h no_items = (refl, refl)
same_items mark c ks ls ts us h (item_goes t g k) = cc
same_items mark c ks ls ts us h (item_left {c = a} {d = b} t v {ks = js} {ls = ps} {cs = rs} {vs = vs} g k) = same_item mark a b t v js ps rs vs h g (λ e. same_items mark b js ps rs vs e k)
same_items mark c ks ls ts us h (spread_stays t {ks = js} {ls = ps} {cs = rs} {vs = vs} g) = let p = same_items mark c js ps rs vs h g in (ap (λ xs. tree.Spread ∷ xs) p.0, ap (λ xs. t ⊳ xs) p.1)
same_items mark c ks ls ts us h (hole_goes g) = cc

pub array_same : (mark : ℕ) (n : ArrayLit Expr) (a b : List Item) (c : Bool) → a ≡ [] → c ≡ false → AddsItems mark n.elems.items a b c → node (tree.Array (map item_kind b)) (n.span ∷ item_spans b) (item_trees expr_tree b) ≡ array_tree expr_tree n
array_same mark n a b c none h k =
    let p = same_items mark c (map item_kind n.elems.items) k.kinds (item_trees expr_tree n.elems.items) k.added h k.left in
    let ks = k.kinds_are ∙ ap (λ xs. map item_kind xs ++ k.kinds) none ∙ p.0 in
    let ts = k.trees_are ∙ ap (λ xs. joined (item_trees expr_tree xs) k.added) none ∙ p.1 in
    let ss = k.same_spans h ∙ ap (λ xs. item_spans xs ++ item_spans n.elems.items) none in
    ap (λ ls. node (tree.Array ls) (n.span ∷ item_spans b) (item_trees expr_tree b)) ks ∙ ap (λ us. node (tree.Array (map item_kind n.elems.items)) (n.span ∷ item_spans b) us) ts ∙ ap (λ rs. node (tree.Array (map item_kind n.elems.items)) (n.span ∷ rs) (item_trees expr_tree n.elems.items)) ss
