-- How expressions are made of what functions told.
use Rattle.std.proofs.lemmas.Grind.{common_steps}
use Rattle.std.proofs.Common.{◌+◌, ◌-◌, take, ◌≡◌, ℕ, zero, suc, ◌≤◌, List, true, false, refl, sym, ap, ap₂, ◌∙◌, subst, codes, arith, length, get_or, drop, add-one, drop-cons, ◌<◌, [], ◌∷◌}
use Rattle.std.specs.Prelude.{Option, Some, None, IfSome, pos, ℤ, map, string_bytes, bytes_eq, ◌||◌, not, Bool}
use Rattle.std.specs.declared.alloc.Global.{Global}
use Rattle.std.specs.declared.boxed.Box.{Box}
use Rattle.swc_ast.specs.Tree as tree
use Rattle.swc_ast.specs.Tree.{Tree, Forest, ε, ◌⊳◌, NameKey, TextKey, NumberKey}
use Rattle.swc_ast.specs.Parts.{leaf, lit_tree, list_trees, ident_tree}
use Rattle.swc_ast.specs.Expressions.{bin_tree, unary_tree, cond_tree, member_tree, member_node, seq_tree, call_tree, array_tree, item_kind, item_trees, spread_kind, object_tree, spread_tree, shorthand_tree, key_value_tree, key_tree, update_tree, update_node, assign_tree, assign_node, target_tree, new_tree, tpl_tree, quasi_text}
use Rattle.swc_ast.specs.Views.{expr_tree, prop_tree, prop_or_spread_tree}
use Rattle.swc_ast.proofs.Places.{at_expr-Member}
use Rattle.swc_ast.specs.declared.literals.Lit.{Lit}
use Rattle.swc_ast.specs.declared.literals.Lit.TheVariants as lit
use Rattle.swc_ast.specs.declared.literals.Bool.{Bool as BoolNode}
use Rattle.swc_ast.specs.declared.literals.Null.{Null as NullNode}
use Rattle.swc_ast.specs.declared.literals.Number.{Number as NumberNode}
use Rattle.swc_ast.specs.declared.literals.Str.{Str as StrNode}
use Rattle.swc_ast.specs.declared.names.Ident.{Ident}
use Rattle.swc_ast.specs.declared.names.IdentName.{IdentName}
use Rattle.swc_ast.specs.declared.Span.{Span}
use Rattle.swc_ast.specs.declared.UnaryOp.TheVariants as uop
use Rattle.swc_ast.specs.declared.BinaryOp.TheVariants as bop
use Rattle.swc_ast.specs.declared.expressions.Expr.TheVariants as in_expr
use Rattle.swc_ast.specs.declared.expressions.ArrayLit.{ArrayLit}
use Rattle.swc_ast.specs.declared.expressions.ExprOrSpread.{ExprOrSpread}
use Rattle.swc_ast.specs.declared.expressions.ObjectLit.{ObjectLit}
use Rattle.swc_ast.specs.declared.expressions.PropOrSpread.{PropOrSpread}
use Rattle.swc_ast.specs.declared.expressions.SpreadElement.{SpreadElement}
use Rattle.swc_ast.specs.declared.expressions.KeyValueProp.{KeyValueProp}
use Rattle.swc_ast.specs.declared.expressions.PropName.TheVariants as key
use Rattle.swc_ast.specs.declared.expressions.AssignTarget.{AssignTarget}
use Rattle.swc_ast.specs.declared.expressions.AssignTarget.TheVariants as in_target
use Rattle.swc_ast.specs.declared.expressions.UpdateExpr.{UpdateExpr}
use Rattle.swc_ast.specs.declared.expressions.AssignExpr.{AssignExpr}
use Rattle.swc_ast.specs.declared.expressions.NewExpr.{NewExpr}
use Rattle.swc_ast.specs.declared.expressions.Tpl.{Tpl}
use Rattle.swc_ast.specs.declared.expressions.TplElement.{TplElement}
use Rattle.swc_ast.specs.declared.expressions.MemberProp.{MemberProp}
use Rattle.swc_ast.specs.declared.expressions.Expr.{Expr}
use Rattle.swc_ast.specs.declared.expressions.BinExpr.{BinExpr}
use Rattle.swc_ast.specs.declared.expressions.CondExpr.{CondExpr}
use Rattle.swc_ast.specs.declared.expressions.UnaryExpr.{UnaryExpr}
use Rattle.swc_ast.specs.declared.expressions.SeqExpr.{SeqExpr}
use Rattle.swc_ast.specs.declared.expressions.CallExpr.{CallExpr}
use Rattle.swc_ast.specs.declared.expressions.MemberExpr.{MemberExpr}
use Rattle.swc_ast.specs.declared.expressions.ComputedPropName.{ComputedPropName}
use Rattle.swc_ast.specs.declared.expressions.MemberProp.TheVariants as prop
use Rattle.text_tokens.specs.Lines.{Blanks, Ahead}
use Rattle.text_tokens.specs.Tokens as token
use Rattle.text_tokens.specs.Tokens.{Word, Identifier, Sign, Number}
use Rattle.text_tokens.specs.Texts.{Quoted, TemplateText}
use Rattle.text_match.specs.Grammar.{Operator, unary_is_word, unary_text, binary_is_word, binary_text, strength, left_least, right_least, Written, bare, wrapped, Bare, number, null, yes, no, dot, index, unary, binary, cond, seq, call, Row, row, Others, no_others, other, Arguments, no_arguments, arguments, with_comma, string, template, array, object, has_operand, is_writable, update_text, assign_text, coalesce, update_before, update_behind, assign, new_with, new_alone, Target, target, Parts, last_part, part, Item, plain_item, spread_item, Items, no_items, hole, item, last_item, Property, shorthand, spread, key_value, computed, Value, value, KeyText, name_key, text_key, number_key, Properties, no_properties, property, last_property, IsExpressionText}
use Rattle.text_match.specs.Lists.{Listed, ListedProperty}
use Rattle.text_match.specs.Parentheses.{Opens, Closes}

pub where_some : {A : Type 0} (P Q : A → Type 0) (r : Option A) → ((x : A) → P x → Q x) → IfSome r P → IfSome r Q
where_some P Q (Some x) f h = f x h
where_some P Q None f h = tt

-- a tree that is another
pub same_tree : (n : ℕ) {t u : Tree} (b e : List ℕ) → t ≡ u → Bare n u b e → Bare n t b e
same_tree n b e p h = subst (λ v. Bare n v b e) (sym p) h

pub yes_at : (l : Lit) (n : BoolNode) → l ≡ lit.Bool n → n.value ≡ true → (b e : List ℕ) → Word (codes "true") b e → Bare 19 (lit_tree l) b e
yes_at l n is v b e h = same_tree 19 b e (ap lit_tree is ∙ ap (λ x. leaf (tree.BoolLit x) n.span) v) (yes h)

pub no_at : (l : Lit) (n : BoolNode) → l ≡ lit.Bool n → n.value ≡ false → (b e : List ℕ) → Word (codes "false") b e → Bare 19 (lit_tree l) b e
no_at l n is v b e h = same_tree 19 b e (ap lit_tree is ∙ ap (λ x. leaf (tree.BoolLit x) n.span) v) (no h)

pub null_at : (l : Lit) (n : NullNode) → l ≡ lit.Null n → (b e : List ℕ) → Word (codes "null") b e → Bare 19 (lit_tree l) b e
null_at l n is b e h = same_tree 19 b e (ap lit_tree is) (null h)

pub number_at : (l : Lit) (n : NumberNode) → l ≡ lit.Num n → (k : ℕ) → n.value ≡ pos k → (b e : List ℕ) → Number k b e → Bare 19 (lit_tree l) b e
number_at l n is k v b e h = same_tree 19 b e (ap lit_tree is ∙ ap (λ x. leaf (tree.NumLit x) n.span) v) (number h)

pub string_at : (l : Lit) (n : StrNode) → l ≡ lit.Str n → (v : List ℕ) → v ≡ string_bytes n.value → (b e : List ℕ) → Quoted v b e → Bare 19 (lit_tree l) b e
string_at l n is v q b e h = same_tree 19 b e (ap lit_tree is) (string (subst (λ w. Quoted w b e) q h))

of_member : (s : Span) (o : Expr) (p : MemberProp Expr) → has_operand uop.Delete (member_node expr_tree s o p) ≡ true
of_member s o (prop.Ident n) = refl
of_member s o (prop.Computed n) = refl

pub operand_at : (x : Expr) (n : MemberExpr Expr) → x ≡ in_expr.Member n → has_operand uop.Delete (expr_tree x) ≡ true
operand_at x n is = ap (has_operand uop.Delete) (at_expr-Member x n is) ∙ of_member n.span n.obj.value n.prop

pub unary_at : (n : UnaryExpr Expr) (x y : Expr) (b c e : List ℕ) → x ≡ n.arg.value → y ≡ n.arg.value → has_operand n.op (expr_tree x) ≡ true → Operator (unary_is_word n.op) (unary_text n.op) b c → Written 15 (expr_tree y) c e → Bare 15 (unary_tree expr_tree n) b e
unary_at n x y b c e p q may o h = unary n.op n.span (expr_tree n.arg.value) o (subst (λ z. Written 15 (expr_tree z) c e) q h) (subst (λ z. has_operand n.op (expr_tree z) ≡ true) p may)

pub binary_at : (n : BinExpr Expr) (x y : Expr) (i j : ℕ) (b c d e : List ℕ) → x ≡ n.left.value → y ≡ n.right.value → i ≡ left_least n.op → j ≡ right_least n.op → Written i (expr_tree x) b c → Operator (binary_is_word n.op) (binary_text n.op) c d → Written j (expr_tree y) d e → Bare (strength n.op) (bin_tree expr_tree n) b e
binary_at n x y i j b c d e p q r s h o k =
    binary {op = n.op} (subst (λ m. Written m (expr_tree n.left.value) b c) r (subst (λ z. Written i (expr_tree z) b c) p h)) o
    (subst (λ m. Written m (expr_tree n.right.value) d e) s (subst (λ z. Written j (expr_tree z) d e) q k))

pub cond_at : (n : CondExpr Expr) (x y z : Expr) (b c d f g e : List ℕ) → x ≡ n.test.value → y ≡ n.cons.value → z ≡ n.alt.value → Written 3 (expr_tree x) b c → Sign (codes "?") c d → Written 1 (expr_tree y) d f → Sign (codes ":") f g → Written 1 (expr_tree z) g e → Bare 2 (cond_tree expr_tree n) b e
cond_at n x y z b c d f g e p q r h i j k l =
    cond (subst (λ v. Written 3 (expr_tree v) b c) p h) i (subst (λ v. Written 1 (expr_tree v) d f) q j) k (subst (λ v. Written 1 (expr_tree v) g e) r l)

pub dot_at : (n : MemberExpr Expr) (m : IdentName) (x : Expr) (l : ℕ) (b c d e : List ℕ) → 17 ≤ l → l ≤ 18 → n.prop ≡ prop.Ident m → x ≡ n.obj.value → Written l (expr_tree x) b c → Sign (codes ".") c d → token.Name m.sym d e → Bare l (member_tree expr_tree n) b e
dot_at n m x l b c d e lo hi is p h i j = same_tree l b e (ap (member_node expr_tree n.span n.obj.value) is) (dot lo hi (subst (λ v. Written l (expr_tree v) b c) p h) i j)

pub index_at : (n : MemberExpr Expr) (m : ComputedPropName Expr) (x y : Expr) (l : ℕ) (b c d f e : List ℕ) → 17 ≤ l → l ≤ 18 → n.prop ≡ prop.Computed m → x ≡ n.obj.value → y ≡ m.expr.value → Written l (expr_tree x) b c → Sign (codes "[") c d → Written 0 (expr_tree y) d f → Sign (codes "]") f e → Bare l (member_tree expr_tree n) b e
index_at n m x y l b c d f e lo hi is p q h i j k = same_tree l b e (ap (member_node expr_tree n.span n.obj.value) is) (index lo hi (subst (λ v. Written l (expr_tree v) b c) p h) i (subst (λ v. Written 0 (expr_tree v) d f) q j) k)

pub coalesce_at : (n : BinExpr Expr) (x y : Expr) (k : ℕ) (b c d e : List ℕ) → n.op ≡ bop.NullishCoalescing → x ≡ n.left.value → y ≡ n.right.value → k ≡ 3 → Bare k (expr_tree x) b c → Sign (codes "??") c d → Written 6 (expr_tree y) d e → Bare 3 (bin_tree expr_tree n) b e
coalesce_at n x y k b c d e is p q three h i j =
    same_tree 3 b e (ap (λ o. tree.node (tree.Binary o) (n.span ∷ []) (expr_tree n.left.value ⊳ expr_tree n.right.value ⊳ ε)) is)
    (coalesce (subst (λ m. Bare m (expr_tree n.left.value) b c) three (subst (λ v. Bare k (expr_tree v) b c) p h)) i (subst (λ v. Written 6 (expr_tree v) d e) q j))

no_items_left : {A : Type 0} (xs : List A) → length xs ≡ 0 → xs ≡ []
no_items_left [] h = refl
no_items_left (x ∷ xs) h = absurd (omega arith)

pub new_with_at : (n : NewExpr Expr) (x : Expr) (b c d e : List ℕ) → x ≡ n.callee.value → Word (codes "new") b c → Written 18 (expr_tree x) c d → Arguments (list_trees expr_tree n.args.items) d e → Bare 18 (new_tree expr_tree n) b e
new_with_at n x b c d e p w h a = new_with w (subst (λ v. Written 18 (expr_tree v) c d) p h) a

pub new_alone_at : (n : NewExpr Expr) (x : Expr) (b c e : List ℕ) → x ≡ n.callee.value → length n.args.items ≡ 0 → Word (codes "new") b c → Written 18 (expr_tree x) c e → Bare 16 (new_tree expr_tree n) b e
new_alone_at n x b c e p none w h =
    same_tree 16 b e (ap (λ xs. tree.node tree.New (n.span ∷ []) (expr_tree n.callee.value ⊳ list_trees expr_tree xs)) (no_items_left n.args.items none))
    (new_alone w (subst (λ v. Written 18 (expr_tree v) c e) p h))

pub writable_at : (g : AssignTarget Expr) (x : Ident) (w : List ℕ) (r : Bool) → g ≡ in_target.Ident x → w ≡ x.sym → r ≡ (bytes_eq w (codes "eval") || bytes_eq w (codes "arguments")) → not r ≡ is_writable g
writable_at g x w r is same made = ap not (made ∙ ap (λ v. bytes_eq v (codes "eval") || bytes_eq v (codes "arguments")) same) ∙ sym (ap is_writable is)

pub name_target_at : (g : AssignTarget Expr) (x : Ident) (b e : List ℕ) → g ≡ in_target.Ident x → is_writable g ≡ true → Bare 19 (ident_tree x) b e → Target g b e
name_target_at g x b e is w h = target g (subst (λ t. Written 17 t b e) (sym (ap (target_tree expr_tree) is)) (bare h (omega arith))) w

pub member_target_at : (g : AssignTarget Expr) (m : MemberExpr Expr) (b e : List ℕ) → g ≡ in_target.Member m → is_writable g ≡ true → Bare 17 (member_tree expr_tree m) b e → Target g b e
member_target_at g m b e is w h = target g (subst (λ t. Written 17 t b e) (sym (ap (target_tree expr_tree) is)) (bare h (omega arith))) w

pub update_before_at : (n : UpdateExpr Expr) (s b c e : List ℕ) → n.prefix ≡ true → s ≡ update_text n.op → Sign s b c → Target n.arg c e → Bare 16 (update_tree expr_tree n) b e
update_before_at n s b c e front is h g = same_tree 16 b e (ap (λ p. update_node expr_tree n.op p n.span n.arg) front) (update_before n.op n.span n.arg (subst (λ x. Sign x b c) is h) g)

pub update_behind_at : (n : UpdateExpr Expr) (s : List ℕ) (l : Bool) (b c d e : List ℕ) → n.prefix ≡ false → s ≡ update_text n.op → Target n.arg b c → Ahead l c d → l ≡ false → Sign s d e → Bare 16 (update_tree expr_tree n) b e
update_behind_at n s l b c d e behind is g a none h =
    same_tree 16 b e (ap (λ p. update_node expr_tree n.op p n.span n.arg) behind) (update_behind n.op n.span n.arg g (subst (λ m. Ahead m c d) none a) (subst (λ x. Sign x d e) is h))

pub assign_at : (n : AssignExpr Expr) (y : Expr) (s b c d e : List ℕ) → y ≡ n.right.value → s ≡ assign_text n.op → Target n.left b c → Sign s c d → Written 1 (expr_tree y) d e → Bare 1 (assign_tree expr_tree n) b e
assign_at n y s b c d e p is g h w = assign n.op n.span n.left (expr_tree n.right.value) g (subst (λ x. Sign x c d) is h) (subst (λ v. Written 1 (expr_tree v) d e) p w)

-- templates

pub template_at : (n : Tpl Expr) (qs : List TplElement) (xs : List Expr) (b c e : List ℕ) → qs ≡ n.quasis.value.items → xs ≡ n.exprs.items → Sign (codes "`") b c → Parts (map quasi_text qs) (list_trees expr_tree xs) c e → Bare 19 (tpl_tree expr_tree n) b e
template_at n qs xs b c e p q h i = template h (subst (λ ys. Parts (map quasi_text n.quasis.value.items) (list_trees expr_tree ys) c e) q (subst (λ rs. Parts (map quasi_text rs) (list_trees expr_tree xs) c e) p i))

pub parts_more : (qs : List TplElement) (q : TplElement) (os : List TplElement) (xs : List Expr) (i : ℕ) (x : Expr) (b c d f e : List ℕ) → i < length xs → x ≡ get_or xs i x → qs ≡ q ∷ os → q.tail ≡ false → TemplateText false (string_bytes q.cooked) b c → Written 0 (expr_tree x) c d → Sign (codes "}") d f → Parts (map quasi_text os) (list_trees expr_tree (drop (i + 1) xs)) f e → Parts (map quasi_text qs) (list_trees expr_tree (drop i xs)) b e
parts_more qs q os xs i x b c d f e within is p tail t w s h =
    let one : drop i xs ≡ (x ∷ drop (suc i) xs) = drop-cons xs i x within ∙ ap (λ y. y ∷ drop (suc i) xs) (sym is) in
    let rest : Parts (map quasi_text os) (list_trees expr_tree (drop (suc i) xs)) f e = rw add-one at h in
    let made : Parts ((string_bytes q.cooked, false) ∷ map quasi_text os) (list_trees expr_tree (x ∷ drop (suc i) xs)) b e = part t w s rest in
    subst (λ ys. Parts (map quasi_text qs) (list_trees expr_tree ys) b e) (sym one)
    (subst (λ rs. Parts (map quasi_text rs) (list_trees expr_tree (x ∷ drop (suc i) xs)) b e) (sym p)
    (subst (λ l. Parts ((string_bytes q.cooked, l) ∷ map quasi_text os) (list_trees expr_tree (x ∷ drop (suc i) xs)) b e) (sym tail) made))

all_dropped : {A : Type 0} (xs : List A) (i : ℕ) → length xs ≤ i → drop i xs ≡ []
all_dropped [] zero h = refl
all_dropped [] (suc i) h = refl
all_dropped (x ∷ xs) zero h = absurd (omega arith)
all_dropped (x ∷ xs) (suc i) h = all_dropped xs i (omega arith)

pub parts_last : (qs : List TplElement) (q : TplElement) (os : List TplElement) (xs : List Expr) (i : ℕ) (b e : List ℕ) → length xs ≤ i → qs ≡ q ∷ os → length os ≡ 0 → q.tail ≡ true → TemplateText true (string_bytes q.cooked) b e → Parts (map quasi_text qs) (list_trees expr_tree (drop i xs)) b e
parts_last qs q os xs i b e short p none tail t =
    let made : Parts ((string_bytes q.cooked, true) ∷ []) (list_trees expr_tree []) b e = last_part t in
    subst (λ ys. Parts (map quasi_text qs) (list_trees expr_tree ys) b e) (sym (all_dropped xs i short))
    (subst (λ rs. Parts (map quasi_text rs) (list_trees expr_tree []) b e) (sym (p ∙ ap (λ rs. q ∷ rs) (no_items_left os none)))
    (subst (λ l. Parts ((string_bytes q.cooked, l) ∷ []) (list_trees expr_tree []) b e) (sym tail) made))

-- arrays

pub array_at : (n : ArrayLit Expr) (xs : List (Option (ExprOrSpread Expr))) (b c e : List ℕ) → xs ≡ n.elems.items → Sign (codes "[") b c → Items (map item_kind xs) (item_trees expr_tree xs) c e → Bare 19 (array_tree expr_tree n) b e
array_at n xs b c e p h i = array h (subst (λ ys. Items (map item_kind ys) (item_trees expr_tree ys) c e) p i)

pub spread_item_at : (n : ExprOrSpread Expr) (s : Span) (x : Expr) (b c e : List ℕ) → n.spread ≡ Some s → x ≡ n.expr.value → Sign (codes "...") b c → Written 1 (expr_tree x) c e → Item (spread_kind n.spread) (expr_tree n.expr.value) b e
spread_item_at n s x b c e is p h w = subst (λ o. Item (spread_kind o) (expr_tree n.expr.value) b e) (sym is) (spread_item h (subst (λ v. Written 1 (expr_tree v) c e) p w))

pub plain_item_at : (n : ExprOrSpread Expr) (x : Expr) (b e : List ℕ) → n.spread ≡ None → x ≡ n.expr.value → Written 1 (expr_tree x) b e → Item (spread_kind n.spread) (expr_tree n.expr.value) b e
plain_item_at n x b e is p w = subst (λ o. Item (spread_kind o) (expr_tree n.expr.value) b e) (sym is) (plain_item (subst (λ v. Written 1 (expr_tree v) b e) p w))

pub listed_item_at : (z : Bool) (o : Option (ExprOrSpread Expr)) (n : ExprOrSpread Expr) (b c : List ℕ) → o ≡ Some n → Listed z (spread_kind n.spread) (expr_tree n.expr.value ⊳ ε) b c → Listed z (item_kind o) (item_trees expr_tree (o ∷ [])) b c
listed_item_at z o n b c is h = subst (λ p. Listed z (item_kind p) (item_trees expr_tree (p ∷ [])) b c) (sym is) h

pub listed_hole_at : (o : Option (ExprOrSpread Expr)) (b c : List ℕ) → o ≡ None → Sign (codes ",") b c → Listed false (item_kind o) (item_trees expr_tree (o ∷ [])) b c
listed_hole_at o b c is s = subst (λ p. Listed false (item_kind p) (item_trees expr_tree (p ∷ [])) b c) (sym is) (λ ks ts e h. hole s h)

among_items : (o : Option (ExprOrSpread Expr)) (ys : List (Option (ExprOrSpread Expr))) (b c e : List ℕ) → Listed false (item_kind o) (item_trees expr_tree (o ∷ [])) b c → Items (map item_kind ys) (item_trees expr_tree ys) c e → Items (map item_kind (o ∷ ys)) (item_trees expr_tree (o ∷ ys)) b e
among_items None ys b c e l h = l (map item_kind ys) (item_trees expr_tree ys) e h
among_items (Some n) ys b c e l h = l (map item_kind ys) (item_trees expr_tree ys) e h

pub items_more : (xs : List (Option (ExprOrSpread Expr))) (i : ℕ) (o : Option (ExprOrSpread Expr)) (z : Bool) (b c e : List ℕ) → i < length xs → o ≡ get_or xs i o → z ≡ false → Listed z (item_kind o) (item_trees expr_tree (o ∷ [])) b c → Items (map item_kind (drop (i + 1) xs)) (item_trees expr_tree (drop (i + 1) xs)) c e → Items (map item_kind (drop i xs)) (item_trees expr_tree (drop i xs)) b e
items_more xs i o z b c e within is going l h =
    let one : drop i xs ≡ (o ∷ drop (suc i) xs) = drop-cons xs i o within ∙ ap (λ y. y ∷ drop (suc i) xs) (sym is) in
    let rest : Items (map item_kind (drop (suc i) xs)) (item_trees expr_tree (drop (suc i) xs)) c e = rw add-one at h in
    subst (λ ys. Items (map item_kind ys) (item_trees expr_tree ys) b e) (sym one) (among_items o (drop (suc i) xs) b c e (subst (λ y. Listed y (item_kind o) (item_trees expr_tree (o ∷ [])) b c) going l) rest)

pub items_last : (xs : List (Option (ExprOrSpread Expr))) (i : ℕ) (o : Option (ExprOrSpread Expr)) (z : Bool) (b c : List ℕ) → i < length xs → length xs ≤ i + 1 → o ≡ get_or xs i o → z ≡ true → Listed z (item_kind o) (item_trees expr_tree (o ∷ [])) b c → Items (map item_kind (drop i xs)) (item_trees expr_tree (drop i xs)) b c
items_last xs i o z b c within last is closed l =
    let one : drop i xs ≡ (o ∷ []) = drop-cons xs i o within ∙ ap₂ (λ y ys. y ∷ ys) (sym is) (all_dropped xs (suc i) (omega arith)) in
    subst (λ ys. Items (map item_kind ys) (item_trees expr_tree ys) b c) (sym one) (subst (λ y. Listed y (item_kind o) (item_trees expr_tree (o ∷ [])) b c) closed l)

pub items_end : (xs : List (Option (ExprOrSpread Expr))) (i : ℕ) (b e : List ℕ) → length xs ≤ i → Sign (codes "]") b e → Items (map item_kind (drop i xs)) (item_trees expr_tree (drop i xs)) b e
items_end xs i b e short s = subst (λ ys. Items (map item_kind ys) (item_trees expr_tree ys) b e) (sym (all_dropped xs i short)) (no_items s)

-- objects

pub object_at : (n : ObjectLit PropOrSpread) (xs : List PropOrSpread) (b c e : List ℕ) → xs ≡ n.props.items → Sign (codes "{") b c → Properties (list_trees prop_or_spread_tree xs) c e → Bare 19 (object_tree prop_or_spread_tree n) b e
object_at n xs b c e p h i = object h (subst (λ ys. Properties (list_trees prop_or_spread_tree ys) c e) p i)

pub properties_more : (xs : List PropOrSpread) (i : ℕ) (x : PropOrSpread) (z : Bool) (b c e : List ℕ) → i < length xs → x ≡ get_or xs i x → z ≡ false → ListedProperty z (prop_or_spread_tree x) b c → Properties (list_trees prop_or_spread_tree (drop (i + 1) xs)) c e → Properties (list_trees prop_or_spread_tree (drop i xs)) b e
properties_more xs i x z b c e within is going l h =
    let one : drop i xs ≡ (x ∷ drop (suc i) xs) = drop-cons xs i x within ∙ ap (λ y. y ∷ drop (suc i) xs) (sym is) in
    let rest : Properties (list_trees prop_or_spread_tree (drop (suc i) xs)) c e = rw add-one at h in
    let found : ListedProperty false (prop_or_spread_tree x) b c = subst (λ y. ListedProperty y (prop_or_spread_tree x) b c) going l in
    subst (λ ys. Properties (list_trees prop_or_spread_tree ys) b e) (sym one) (found (list_trees prop_or_spread_tree (drop (suc i) xs)) e rest)

pub properties_last : (xs : List PropOrSpread) (i : ℕ) (x : PropOrSpread) (z : Bool) (b c : List ℕ) → i < length xs → length xs ≤ i + 1 → x ≡ get_or xs i x → z ≡ true → ListedProperty z (prop_or_spread_tree x) b c → Properties (list_trees prop_or_spread_tree (drop i xs)) b c
properties_last xs i x z b c within last is closed l =
    let one : drop i xs ≡ (x ∷ []) = drop-cons xs i x within ∙ ap₂ (λ y ys. y ∷ ys) (sym is) (all_dropped xs (suc i) (omega arith)) in
    subst (λ ys. Properties (list_trees prop_or_spread_tree ys) b c) (sym one) (subst (λ y. ListedProperty y (prop_or_spread_tree x) b c) closed l)

pub properties_end : (xs : List PropOrSpread) (i : ℕ) (b e : List ℕ) → length xs ≤ i → Sign (codes "}") b e → Properties (list_trees prop_or_spread_tree (drop i xs)) b e
properties_end xs i b e short s = subst (λ ys. Properties (list_trees prop_or_spread_tree ys) b e) (sym (all_dropped xs i short)) (no_properties s)

pub spread_at : (n : SpreadElement Expr) (x : Expr) (b c e : List ℕ) → x ≡ n.expr.value → Sign (codes "...") b c → Written 1 (expr_tree x) c e → Property (spread_tree expr_tree n) b e
spread_at n x b c e p h w = spread h (subst (λ v. Written 1 (expr_tree v) c e) p w)

pub same_property : {t u : Tree} (b e : List ℕ) → t ≡ u → Property u b e → Property t b e
same_property b e p h = subst (λ v. Property v b e) (sym p) h

abbrev key_value_of : (n : KeyValueProp Expr) → Expr → Tree → Tree
key_value_of n x k = tree.node tree.KeyValue [] (k ⊳ expr_tree x ⊳ ε)

pub name_value_at : (n : KeyValueProp Expr) (k : IdentName) (x : Expr) (b c e : List ℕ) → n.key ≡ key.Ident k → x ≡ n.value.value → KeyText (NameKey k.sym) b c → Value (expr_tree x) c e → Property (key_value_tree expr_tree n) b e
name_value_at n k x b c e is p h v = same_property b e (ap (λ l. key_value_of n n.value.value (key_tree expr_tree l)) is) (key_value h (subst (λ w. Value (expr_tree w) c e) p v))

pub text_value_at : (n : KeyValueProp Expr) (k : StrNode) (x : Expr) (b c e : List ℕ) → n.key ≡ key.Str k → x ≡ n.value.value → KeyText (TextKey (string_bytes k.value)) b c → Value (expr_tree x) c e → Property (key_value_tree expr_tree n) b e
text_value_at n k x b c e is p h v = same_property b e (ap (λ l. key_value_of n n.value.value (key_tree expr_tree l)) is) (key_value h (subst (λ w. Value (expr_tree w) c e) p v))

pub number_value_at : (n : KeyValueProp Expr) (k : NumberNode) (x : Expr) (b c e : List ℕ) → n.key ≡ key.Num k → x ≡ n.value.value → KeyText (NumberKey k.value) b c → Value (expr_tree x) c e → Property (key_value_tree expr_tree n) b e
number_value_at n k x b c e is p h v = same_property b e (ap (λ l. key_value_of n n.value.value (key_tree expr_tree l)) is) (key_value h (subst (λ w. Value (expr_tree w) c e) p v))

pub computed_value_at : (n : KeyValueProp Expr) (k : ComputedPropName Expr) (y x : Expr) (b c d f e : List ℕ) → n.key ≡ key.Computed k → y ≡ k.expr.value → x ≡ n.value.value → Sign (codes "[") b c → Written 1 (expr_tree y) c d → Sign (codes "]") d f → Value (expr_tree x) f e → Property (key_value_tree expr_tree n) b e
computed_value_at n k y x b c d f e is q p h w i v =
    same_property b e (ap (λ l. key_value_of n n.value.value (key_tree expr_tree l)) is) (computed h (subst (λ u. Written 1 (expr_tree u) c d) q w) i (subst (λ u. Value (expr_tree u) f e) p v))

pub value_at : (y : Expr) (b c e : List ℕ) → Sign (codes ":") b c → Written 1 (expr_tree y) c e → Value (expr_tree y) b e
value_at y b c e h w = value h w

pub number_key_at : (v : ℤ) (n : ℕ) (b e : List ℕ) → v ≡ pos n → Number n b e → KeyText (NumberKey v) b e
number_key_at v n b e is h = subst (λ z. KeyText (NumberKey z) b e) (sym is) (number_key h)

-- the closing parenthesis that comes first, and the others
record First (n : ℕ) (b e : List ℕ) : Type 0 where
  place : List ℕ
  first : Sign (codes ")") b place
  others : Closes n place e

first_of : (n : ℕ) (b e : List ℕ) → Closes (suc n) b e → First n b e
first_of zero b e h = record { place = e; first = subst (λ x. Sign (codes ")") x e) (sym h.before) h.last; others = refl }
first_of (suc n) b e h =
    let f = first_of n b h.place h.before in
    record { place = f.place; first = f.first; others = record { place = h.place; before = f.others; last = h.last } }

all_round : (n : ℕ) (t : Tree) (b c d e : List ℕ) → Opens n b c → ((m : ℕ) → Written m t c d) → Closes n d e → (m : ℕ) → Written m t b e
all_round zero t b c d e o w l m = subst (λ x. Written m t x e) (sym o) (subst (Written m t c) l (w m))
all_round (suc n) t b c d e o w l m =
    let f = first_of n d e l in
    all_round n t b o.place f.place e o.before (λ k. wrapped o.last (w 0) f.first) f.others m

pub all_wrapped : (n least k : ℕ) (t : Tree) (b c d e : List ℕ) → Opens n b c → Bare k t c d → (n ≡ 0 → least ≤ k) → Closes n d e → Written least t b e
all_wrapped zero least k t b c d e o x h l = subst (λ y. Written least t y e) (sym o) (subst (Written least t c) l (bare x (h refl)))
all_wrapped (suc n) least k t b c d e o x h l =
    let f = first_of n d e l in
    all_round n t b o.place f.place e o.before (λ m. wrapped o.last (bare x (omega arith)) f.first) f.others least

pub others_more : (xs : List Expr) (i : ℕ) (x : Expr) (b c d e : List ℕ) → i < length xs → x ≡ get_or xs i x → Sign (codes ",") b c → Written 1 (expr_tree x) c d → Others (list_trees expr_tree (drop (i + 1) xs)) d e → Others (list_trees expr_tree (drop i xs)) b e
others_more xs i x b c d e within is s w h =
    let one : drop i xs ≡ (x ∷ drop (suc i) xs) = drop-cons xs i x within ∙ ap (λ y. y ∷ drop (suc i) xs) (sym is) in
    let rest : Others (list_trees expr_tree (drop (suc i) xs)) d e = rw add-one at h in
    subst (λ ys. Others (list_trees expr_tree ys) b e) (sym one) (other s w rest)

pub others_end : (xs : List Expr) (i : ℕ) (b : List ℕ) → length xs ≤ i → Others (list_trees expr_tree (drop i xs)) b b
others_end [] zero b h = no_others
others_end [] (suc i) b h = no_others
others_end (x ∷ xs) zero b h = absurd (omega arith)
others_end (x ∷ xs) (suc i) b h = others_end xs i b (omega arith)

-- a list behind its first item
behind_first : (ys : List Expr) (n : ℕ) → n ≡ length ys → take n ys ≡ ys
behind_first ys n is = grind (arith, common_steps, is)

pub row_at : (xs : List Expr) (x : Expr) (b c e : List ℕ) → 0 < length xs → x ≡ get_or xs 0 x → Written 1 (expr_tree x) b c → Others (list_trees expr_tree (take (length xs - 1) (drop 1 xs))) c e → Row (list_trees expr_tree xs) b e
row_at [] x b c e within is w h = absurd (omega arith)
row_at (y ∷ ys) x b c e within is w h =
    row (subst (λ z. Written 1 (expr_tree z) b c) is w) (subst (λ zs. Others (list_trees expr_tree zs) c e) (behind_first ys (length (y ∷ ys) - 1) (omega arith)) h)

pub seq_at : (n : SeqExpr Expr) (xs : List Expr) (b e : List ℕ) → xs ≡ n.exprs.items → Row (list_trees expr_tree xs) b e → Bare 0 (seq_tree expr_tree n) b e
seq_at n xs b e is h = seq (subst (λ ys. Row (list_trees expr_tree ys) b e) is h)

pub call_at : (n : CallExpr Expr) (x : Expr) (b c e : List ℕ) → x ≡ n.callee.value → Written 17 (expr_tree x) b c → Arguments (list_trees expr_tree n.args.items) c e → Bare 17 (call_tree expr_tree n) b e
call_at n x b c e is w a = call n.span (expr_tree n.callee.value) (list_trees expr_tree n.args.items) (subst (λ y. Written 17 (expr_tree y) b c) is w) a

pub no_arguments_at : (xs : List Expr) (b c e : List ℕ) → length xs ≡ 0 → Sign (codes "(") b c → Sign (codes ")") c e → Arguments (list_trees expr_tree xs) b e
no_arguments_at [] b c e h o l = no_arguments o l
no_arguments_at (x ∷ xs) b c e h o l = absurd (omega arith)

pub arguments_at : (xs ys : List Expr) (b c d e : List ℕ) → ys ≡ xs → Sign (codes "(") b c → Row (list_trees expr_tree ys) c d → Sign (codes ")") d e → Arguments (list_trees expr_tree xs) b e
arguments_at xs ys b c d e is o h l = arguments o (subst (λ zs. Row (list_trees expr_tree zs) c d) is h) l

pub comma_at : (xs ys : List Expr) (b c d f e : List ℕ) → ys ≡ xs → Sign (codes "(") b c → Row (list_trees expr_tree ys) c d → Sign (codes ",") d f → Sign (codes ")") f e → Arguments (list_trees expr_tree xs) b e
comma_at xs ys b c d f e is o h k l = with_comma o (subst (λ zs. Row (list_trees expr_tree zs) c d) is h) k l

no_bytes : (b : List ℕ) → length b ≡ 0 → b ≡ []
no_bytes [] h = refl
no_bytes (c ∷ cs) h = absurd (omega arith)

pub text_at : (t : Tree) (text e f : List ℕ) → Written 0 t text e → Blanks e f → length f ≡ 0 → IsExpressionText t text
text_at t text e f w b h = record { behind = e; written = w; blank = subst (Blanks e) (no_bytes f h) b }
