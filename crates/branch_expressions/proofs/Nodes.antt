-- What is left of a node, from what is left of its parts.
use Rattle.std.proofs.Common.{◌≡◌, ◌<◌, ℕ, zero, suc, length, get_or, arith, Bool, true, false, ◌||◌, if◌then◌else◌, List, [], ◌∷◌, ◌++◌, Option, Some, None, refl, sym, ap, subst, ◌∙◌}
use Rattle.swc_ast.specs.Tree as tree
use Rattle.swc_ast.specs.Tree.{ItemKind, Text, Tree, node, Forest, ε, ◌⊳◌}
use Rattle.swc_ast.specs.declared.Span.{Span}
use Rattle.swc_ast.specs.declared.BinaryOp.{BinaryOp}
use Rattle.swc_ast.specs.declared.expressions.Expr.{Expr}
use Rattle.swc_ast.specs.declared.expressions.PropOrSpread.{PropOrSpread}
use Rattle.swc_ast.specs.Expressions.{call_node}
use Rattle.swc_ast.specs.Parts.{list_trees}
use Rattle.swc_ast.specs.Scope.{joined}
use Rattle.swc_ast.specs.Views.{expr_tree, prop_or_spread_tree}
use Rattle.swc_utils.specs.Effects.{has_record_spread, is_record_spread}
use Rattle.swc_utils.specs.Pure.{has_spread, is_pure_callee}
use Rattle.swc_utils.proofs.Chains.{joined_assoc, joined_none}
use Rattle.branch_rules.specs.Ignored.{Ignores, opened, none_left, one_goes, one_left, sides, items, properties, texts, arguments, new_arguments, is_function_expression, as_one, may_skip, property_parts, properties_parts}
use Rattle.branch_expressions.specs.Choices.{only_tree}
use Rattle.branch_expressions.specs.Properties.{own_parts}
use Rattle.branch_expressions.specs.Left.{Adds, Leaves, is_change, tree_of}
use Rattle.branch_expressions.specs.declared.rest.Rest.{Rest}
use Rattle.branch_expressions.proofs.Adding.{adds_both, opened_left, row_joined}

pub leaves : (mark : ℕ) (t : Tree) (k : Rest) (o : Option Expr) → Ignores mark (is_change k) t (tree_of o) → Leaves mark t o
leaves mark t k o h = record { changed = is_change k; ignores = h }

call_is : (s : Span) (t : Tree) (ts : Forest) → is_pure_callee t ≡ true → call_node s t ts ≡ node tree.Call (s ∷ []) (t ⊳ ts)
unfolding call_node
call_is s (node (tree.Dot k) ss cs) ts h = cc
call_is s (node tree.Index ss cs) ts h = cc
call_is s (node (tree.Read x) ss cs) ts h = cc
call_is s (node l ss cs) ts h = refl

pub call_left : (mark : ℕ) (s : Span) (t : Tree) (ts : Forest) (a b : List Expr) (c : Bool) (r : Option Expr) (rs : List Span) → is_pure_callee t ≡ true → a ≡ [] → Adds mark ts a b c → tree_of r ≡ as_one rs (list_trees expr_tree b) → Ignores mark true (call_node s t ts) (tree_of r)
call_left mark s t ts a b c r rs p none h is = subst (λ x. Ignores mark true x (tree_of r)) (sym (call_is s t ts p)) (opened_left mark _ ts a b c r rs none (arguments (s ∷ []) t ts p) h is)

pub new_left : (mark : ℕ) (ss : List Span) (t : Tree) (ts : Forest) (a b : List Expr) (c : Bool) (r : Option Expr) (rs : List Span) → is_function_expression t ≡ true → is_pure_callee t ≡ true → a ≡ [] → Adds mark ts a b c → tree_of r ≡ as_one rs (list_trees expr_tree b) → Ignores mark true (node tree.New ss (t ⊳ ts)) (tree_of r)
new_left mark ss t ts a b c r rs f p none h is = opened_left mark _ ts a b c r rs none (new_arguments ss t ts f p) h is

pub template_left : (mark : ℕ) (qs : List (Text × Bool)) (ss : List Span) (ts : Forest) (a b : List Expr) (c : Bool) (r : Option Expr) (rs : List Span) → a ≡ [] → Adds mark ts a b c → tree_of r ≡ as_one rs (list_trees expr_tree b) → Ignores mark true (node (tree.Template qs) ss ts) (tree_of r)
template_left mark qs ss ts a b c r rs none h is = opened_left mark _ ts a b c r rs none (texts qs ss ts) h is

pub plain_array_left : (mark : ℕ) (ks : List ItemKind) (ss : List Span) (ts : Forest) (a b : List Expr) (c : Bool) (r : Option Expr) (rs : List Span) → has_spread ks ≡ false → a ≡ [] → Adds mark ts a b c → tree_of r ≡ as_one rs (list_trees expr_tree b) → Ignores mark true (node (tree.Array ks) ss ts) (tree_of r)
plain_array_left mark ks ss ts a b c r rs p none h is = opened_left mark _ ts a b c r rs none (items ks ss ts p) h is

pub object_left : (mark : ℕ) (ss : List Span) (ts : Forest) (a b : List Expr) (c : Bool) (r : Option Expr) (rs : List Span) → has_record_spread ts ≡ false → a ≡ [] → Adds mark (properties_parts mark ts) a b c → tree_of r ≡ as_one rs (list_trees expr_tree b) → Ignores mark true (node tree.Object ss ts) (tree_of r)
object_left mark ss ts a b c r rs p none h is = opened_left mark _ (properties_parts mark ts) a b c r rs none (properties ss ts p) h is

pub sides_left : (mark : ℕ) (o : BinaryOp) (ss : List Span) (x y : Tree) (a m b : List Expr) (c d : Bool) (r : Option Expr) (rs : List Span) → may_skip o ≡ false → a ≡ [] → Adds mark (x ⊳ ε) a m c → Adds mark (y ⊳ ε) m b d → tree_of r ≡ as_one rs (list_trees expr_tree b) → Ignores mark true (node (tree.Binary o) ss (x ⊳ y ⊳ ε)) (tree_of r)
sides_left mark o ss x y a m b c d r rs p none h k is = opened_left mark _ (x ⊳ y ⊳ ε) a b (c || d) r rs none (sides o ss x y p) (adds_both mark (x ⊳ ε) (y ⊳ ε) a m b c d h k) is

-- of two sides that have no effect what is left of one, where nothing is left of the other
pub only_left : (mark : ℕ) (o : BinaryOp) (ss : List Span) (a b : Tree) (p q : Option Tree) → may_skip o ≡ false → Ignores mark true a None → Ignores mark true b None → {c d : Bool} → Ignores mark c a p → Ignores mark d b q → Ignores mark true (node (tree.Binary o) ss (a ⊳ b ⊳ ε)) (only_tree p q)
only_left mark o ss a b None None m ga gb h k = opened ss (sides o ss a b m) (one_goes a ga (one_goes b gb none_left))
only_left mark o ss a b (Some v) None m ga gb h k = opened ss (sides o ss a b m) (one_left a v h (one_goes b gb none_left))
only_left mark o ss a b None (Some w) m ga gb h k = opened ss (sides o ss a b m) (one_goes a ga (one_left b w k none_left))
only_left mark o ss a b (Some v) (Some w) m ga gb h k = opened ss (sides o ss a b m) (one_goes a ga (one_goes b gb none_left))

-- properties

pub properties_joined : (mark : ℕ) (ts us : Forest) → properties_parts mark (joined ts us) ≡ joined (properties_parts mark ts) (properties_parts mark us)
properties_joined mark ε us = refl
properties_joined mark (t ⊳ ts) us = ap (joined (property_parts mark t)) (properties_joined mark ts us) ∙ sym (joined_assoc (property_parts mark t) (properties_parts mark ts) (properties_parts mark us))

pub properties_row : (mark : ℕ) (xs ys : List PropOrSpread) → properties_parts mark (list_trees prop_or_spread_tree (xs ++ ys)) ≡ joined (properties_parts mark (list_trees prop_or_spread_tree xs)) (properties_parts mark (list_trees prop_or_spread_tree ys))
properties_row mark xs ys = ap (properties_parts mark) (row_joined prop_or_spread_tree xs ys) ∙ properties_joined mark (list_trees prop_or_spread_tree xs) (list_trees prop_or_spread_tree ys)

-- one property, which is the row of it
pub property_alone : (mark : ℕ) (t : Tree) (a b : List Expr) (c : Bool) → Adds mark (property_parts mark t) a b c → Adds mark (properties_parts mark (t ⊳ ε)) a b c
property_alone mark t a b c h = subst (λ ts. Adds mark ts a b c) (sym (joined_none (property_parts mark t))) h

second_false : (a b : Bool) → (a || b) ≡ false → b ≡ false
second_false true b h = cc
second_false false b h = h

first_false : (a b : Bool) → (a || b) ≡ false → a ≡ false
first_false true b h = cc
first_false false b h = refl

none_at : (xs : List PropOrSpread) (i : ℕ) (d : PropOrSpread) → i < length xs → has_record_spread (list_trees prop_or_spread_tree xs) ≡ false → is_record_spread (prop_or_spread_tree (get_or xs i d)) ≡ false
none_at [] i d h n = absurd (omega (arith, h))
none_at (x ∷ xs) zero d h n = first_false _ _ n
none_at (x ∷ xs) (suc i) d h n = none_at xs i d (omega (arith, h)) (second_false _ _ n)

-- no property of an object without a spread is one
pub none_spread : (xs : List PropOrSpread) (i : ℕ) (x : PropOrSpread) → i < length xs → x ≡ get_or xs i x → has_record_spread (list_trees prop_or_spread_tree xs) ≡ false → is_record_spread (prop_or_spread_tree x) ≡ false
none_spread xs i x h at n = ap (λ y. is_record_spread (prop_or_spread_tree y)) at ∙ none_at xs i x h n

pub own_alone : (mark : ℕ) (t : Tree) (a b : List Expr) (c : Bool) → is_record_spread t ≡ false → Adds mark (own_parts mark t) a b c → Adds mark (properties_parts mark (t ⊳ ε)) a b c
own_alone mark t a b c h k = property_alone mark t a b c (subst (λ d. Adds mark (if d then ε else property_parts mark t) a b c) h k)
