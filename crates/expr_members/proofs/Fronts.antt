-- The items of a sequence in front of its last one.
use Rattle.std.proofs.Common.{◌≡◌, ℕ, suc, ◌-◌, ◌≤◌, Bool, true, false, not, ◌&&◌, ◌||◌, if◌then◌else◌, List, [], ◌∷◌, ◌++◌, length, take, map, Option, refl, sym, ap, ◌∙◌, subst, arith, length-append}
use Rattle.swc_ast.specs.Tree as tree
use Rattle.swc_ast.specs.Tree.{Tree, node, Forest, ε, ◌⊳◌}
use Rattle.swc_ast.specs.Parts.{list_trees}
use Rattle.swc_ast.specs.Scope.{joined}
use Rattle.swc_ast.specs.Views.{expr_tree}
use Rattle.swc_ast.specs.Expressions.{item_kind, item_trees, seq_tree}
use Rattle.swc_ast.specs.declared.Span.{Span}
use Rattle.swc_ast.specs.declared.expressions.SeqExpr.{SeqExpr}
use Rattle.expr_rules.specs.ExprSteps.{ExprStep, front}
use Rattle.pass_rules.specs.Leaves.{as_sequence}
use Rattle.swc_ast.specs.declared.expressions.Expr.{Expr}
use Rattle.swc_ast.specs.declared.expressions.ExprOrSpread.{ExprOrSpread}
use Rattle.swc_utils.specs.Literals.{is_literal}
use Rattle.swc_utils.specs.Pure.{has_spread}
use Rattle.swc_utils.proofs.Chains.{joined_assoc}
use Rattle.expr_rules.specs.Sequences.{is_bound_name, array_opened, front_item, front_folded, folds, some_folds}
use Rattle.expr_rules.specs.Spreads.{is_array}
use Rattle.expr_members.specs.Arrays.{is_plain_array, HasItems}
use Rattle.expr_members.specs.Fronts.{any_folds, all_folded}

or_false : (b : Bool) → b ≡ (b || false)
or_false true = refl
or_false false = refl

literal_or : (a c b : Bool) → (a || b) ≡ ((a || (c && false)) || b)
literal_or true c b = refl
literal_or false true b = refl
literal_or false false b = refl

-- an item that folds goes or is an array
pub folds_is : (mark : ℕ) (callee : Bool) (t : Tree) → folds mark callee t ≡ ((is_literal t || (callee && is_bound_name mark t)) || is_plain_array t)
folds_is mark callee (node (tree.Array ks) ss ts) = literal_or (is_literal (node (tree.Array ks) ss ts)) callee (not (has_spread ks))
folds_is mark callee (node l ss ts) = or_false (is_literal (node l ss ts) || (callee && is_bound_name mark (node l ss ts)))

chosen : (b c : Bool) (us vs : Forest) → b ≡ c → (if b then us else vs) ≡ (if c then us else vs)
chosen b c us vs h = ap (λ x. if x then us else vs) h

pub front_goes : (mark : ℕ) (callee : Bool) (t : Tree) → (is_literal t || (callee && is_bound_name mark t)) ≡ true → front_item mark callee t ≡ ε
front_goes mark callee t h = chosen _ true ε (array_opened t) h

front_stays : (mark : ℕ) (callee : Bool) (t : Tree) → (is_literal t || (callee && is_bound_name mark t)) ≡ false → front_item mark callee t ≡ array_opened t
front_stays mark callee t h = chosen _ false ε (array_opened t) h

left_closed : (t : Tree) → is_plain_array t ≡ false → array_opened t ≡ t ⊳ ε
left_closed (node (tree.Array ks) ss ts) h = by (has_spread ks) h
  where
    by : (b : Bool) → not b ≡ false → (if b then node (tree.Array ks) ss ts ⊳ ε else ts) ≡ node (tree.Array ks) ss ts ⊳ ε
    by true h = refl
    by false h = absurd (cc)
left_closed (node l ss ts) h = refl

pub front_kept : (mark : ℕ) (callee : Bool) (t : Tree) → (is_literal t || (callee && is_bound_name mark t)) ≡ false → is_plain_array t ≡ false → front_item mark callee t ≡ t ⊳ ε
front_kept mark callee t stays plain = front_stays mark callee t stays ∙ left_closed t plain

left_open : (t : Tree) (xs : List (Option (ExprOrSpread Expr))) → is_plain_array t ≡ true → HasItems t xs → array_opened t ≡ item_trees expr_tree xs
left_open t xs plain (ss, is) = ap array_opened is ∙ by (has_spread (map item_kind xs)) (sym (ap is_plain_array is) ∙ plain)
  where
    by : (b : Bool) → not b ≡ true → (if b then node (tree.Array (map item_kind xs)) ss (item_trees expr_tree xs) ⊳ ε else item_trees expr_tree xs) ≡ item_trees expr_tree xs
    by true h = absurd (cc)
    by false h = refl

plain_is_array : (t : Tree) → is_plain_array t ≡ true → is_array t ≡ true
plain_is_array (node (tree.Array ks) ss ts) h = refl
plain_is_array (node l ss ts) h = absurd (cc)

pub front_opened : (mark : ℕ) (callee : Bool) (t : Tree) (xs : List (Option (ExprOrSpread Expr))) → (is_literal t || (callee && is_bound_name mark t)) ≡ false → is_plain_array t ≡ true → (is_array t ≡ true → HasItems t xs) → front_item mark callee t ≡ item_trees expr_tree xs
front_opened mark callee t xs stays plain items = front_stays mark callee t stays ∙ left_open t xs plain (items (plain_is_array t plain))

-- the front of a sequence, and its last item

some_of : (mark : ℕ) (callee : Bool) (x : Expr) (xs : List Expr) → some_folds mark callee (list_trees expr_tree (x ∷ xs)) ≡ any_folds mark callee (list_trees expr_tree (take (length xs) (x ∷ xs)))
some_of mark callee x [] = refl
some_of mark callee x (y ∷ ys) = ap (λ b. folds mark callee (expr_tree x) || b) (some_of mark callee y ys)

one_less : (n : ℕ) → suc n - 1 ≡ n
one_less n = omega arith

pub some_in_front : (mark : ℕ) (callee : Bool) (xs : List Expr) → 1 ≤ length xs → some_folds mark callee (list_trees expr_tree xs) ≡ any_folds mark callee (list_trees expr_tree (take (length xs - 1) xs))
some_in_front mark callee [] h = absurd (omega (arith, h))
some_in_front mark callee (x ∷ xs) h = some_of mark callee x xs ∙ ap (λ n. any_folds mark callee (list_trees expr_tree (take n (x ∷ xs)))) (sym (one_less (length xs)))

pub folded_front : (mark : ℕ) (callee : Bool) (ys : List Expr) (x : Expr) → front_folded mark callee (list_trees expr_tree (ys ++ (x ∷ []))) ≡ joined (all_folded mark callee (list_trees expr_tree ys)) (expr_tree x ⊳ ε)
folded_front mark callee [] x = refl
folded_front mark callee (y ∷ []) x = sym (joined_assoc (front_item mark callee (expr_tree y)) ε (expr_tree x ⊳ ε))
folded_front mark callee (y ∷ z ∷ zs) x = ap (joined (front_item mark callee (expr_tree y))) (folded_front mark callee (z ∷ zs) x) ∙ sym (joined_assoc (front_item mark callee (expr_tree y)) (all_folded mark callee (list_trees expr_tree (z ∷ zs))) (expr_tree x ⊳ ε))

-- what is left, as one expression

pub only_one : (rs : List Span) (xs ys : List Expr) (x : Expr) → xs ≡ ys ++ (x ∷ []) → length xs ≡ 1 → expr_tree x ≡ as_sequence rs (list_trees expr_tree xs)
only_one rs xs [] x is one = sym (ap (λ zs. as_sequence rs (list_trees expr_tree zs)) is)
only_one rs xs (y ∷ ys) x is one = absurd (omega (arith, ap length is, one, length-append ys (x ∷ [])))

pub not_one : (rs : List Span) (xs : List Expr) → (length xs ≡ 1 → ⊥) → node tree.Seq rs (list_trees expr_tree xs) ≡ as_sequence rs (list_trees expr_tree xs)
not_one rs [] h = refl
not_one rs (x ∷ []) h = absurd (h refl)
not_one rs (x ∷ y ∷ ys) h = refl

pub front_step : (mark : ℕ) (callee : Bool) (n : SeqExpr Expr) (e : Expr) → some_folds mark callee (list_trees expr_tree n.exprs.items) ≡ true → expr_tree e ≡ as_sequence (n.span ∷ []) (front_folded mark callee (list_trees expr_tree n.exprs.items)) → ExprStep mark (seq_tree expr_tree n) (expr_tree e)
front_step mark callee n e fires is = subst (ExprStep mark (seq_tree expr_tree n)) (sym is) (front callee (n.span ∷ []) (n.span ∷ []) (list_trees expr_tree n.exprs.items) fires)
