-- The texts of lists, by their first item and the others.
use Rattle.std.proofs.Common.{◌≡◌, ℕ, suc, max, ◌-◌, ◌<◌, ◌≤◌, Bool, true, false, ◌&&◌, nat_le, List, [], ◌∷◌, ◌++◌, map, if◌then◌else◌, Option, Some, None, option_map, option_and_then, inl, inr, refl, sym, ap, ap₂, ◌∙◌, append_assoc, arith}
use Rattle.std.proofs.lemmas.Bool.Decides.{leb_tells}
use Rattle.json.specs.Print.{quoted}
use Rattle.serde_json.specs.Data.{Data, array, object, Items, item, Members, member, depth, items_depth, members_depth}
use Rattle.serde_json.specs.Written.{compact_text, items_text, members_text, comma_if}
use Rattle.swc_ast.specs.Expressions.{item_kind, spread_kind, item_trees, array_tree, object_tree}
use Rattle.swc_ast.specs.Meaning.{key_name}
use Rattle.swc_ast.specs.Parts.{list_trees}
use Rattle.swc_ast.specs.Tree.{Text, KeyValue, PlainKey, Tree, node, Forest, ε, ◌⊳◌}
use Rattle.swc_ast.specs.Views.{expr_tree, prop_or_spread_tree}
use Rattle.swc_ast.specs.declared.expressions.ArrayLit.{ArrayLit}
use Rattle.swc_ast.specs.declared.expressions.Expr.{Expr}
use Rattle.swc_ast.specs.declared.expressions.ExprOrSpread.{ExprOrSpread}
use Rattle.swc_ast.specs.declared.expressions.ObjectLit.{ObjectLit}
use Rattle.swc_ast.specs.declared.expressions.PropOrSpread.{PropOrSpread}
use Rattle.tree_keys.specs.Keys.{are_keys, keys_of}
use Rattle.swc_json_parse.specs.JsonText.{data_of, items_of, members_of, all_plain}
use Rattle.swc_json_parse.specs.Written.{text_within, items_within, elements_within, members_within, member_within}

-- two comparisons that say the same
same_test : (a b c d : ℕ) → (a ≤ b → c ≤ d) → (c ≤ d → a ≤ b) → nat_le a b ≡ nat_le c d
same_test a b c d f g = elim (leb_tells a b) [
  | inl p ↦ elim (leb_tells c d) [ inl q ↦ p.0 ∙ sym q.0 | inr q ↦ absurd (let r = f p.1 in omega (arith, r, q.1)) ]
  | inr p ↦ elim (leb_tells c d) [ inl q ↦ absurd (let r = g q.1 in omega (arith, r, p.1)) | inr q ↦ p.0 ∙ sym q.0 ]
]

both_below : (a b n : ℕ) → nat_le (max a b) n ≡ (nat_le a n && nat_le b n)
both_below a b n = elim (leb_tells a n) [
  | inl p ↦ elim (leb_tells b n) [
    | inl q ↦ elim (leb_tells (max a b) n) [ inl r ↦ r.0 ∙ ap₂ (λ x y. x && y) (sym p.0) (sym q.0) | inr r ↦ absurd (omega (arith, p.1, q.1, r.1)) ]
    | inr q ↦ elim (leb_tells (max a b) n) [ inl r ↦ absurd (omega (arith, q.1, r.1)) | inr r ↦ r.0 ∙ ap₂ (λ x y. x && y) (sym p.0) (sym q.0) ]
  ]
  | inr p ↦ elim (leb_tells (max a b) n) [ inl r ↦ absurd (omega (arith, p.1, r.1)) | inr r ↦ r.0 ∙ ap (λ x. x && nat_le b n) (sym p.0) ]
]

-- a text in front of others, behind what stands between
abbrev pub joined : Text → Option Text → Option Text → Option Text
joined c o p = option_and_then (λ x. option_map (λ z. c ++ z) (option_map (λ y. x ++ y) p)) o

joined_none : (c : Text) (o : Option Text) → None ≡ joined c o None
joined_none c None = refl
joined_none c (Some x) = refl

item_first : (n : ℕ) (later : Bool) (o : Option Data) (p : Option Items) → option_and_then (λ ds. if nat_le (items_depth ds) n then Some (items_text later ds) else None) (option_and_then (λ d. option_map (item d) p) o)
    ≡ joined (comma_if later) (option_and_then (λ d. if nat_le (depth d) n then Some (compact_text d) else None) o) (option_and_then (λ ds. if nat_le (items_depth ds) n then Some (items_text true ds) else None) p)
item_first n later None p = refl
item_first n later (Some d) None = joined_none (comma_if later) (if nat_le (depth d) n then Some (compact_text d) else None)
item_first n later (Some d) (Some ds) = ap (λ b. if b then Some (comma_if later ++ (compact_text d ++ items_text true ds)) else None) (both_below (depth d) (items_depth ds) n) ∙ by_tests (nat_le (depth d) n) (nat_le (items_depth ds) n)
  where
    by_tests : (a b : Bool) → (if a && b then Some (comma_if later ++ (compact_text d ++ items_text true ds)) else None) ≡ joined (comma_if later) (if a then Some (compact_text d) else None) (if b then Some (items_text true ds) else None)
    by_tests true true = refl
    by_tests true false = refl
    by_tests false true = refl
    by_tests false false = refl

pub items_first : (n : ℕ) (later : Bool) (t : Tree) (ts : Forest) → items_within n later (t ⊳ ts) ≡ joined (comma_if later) (text_within n t) (items_within n true ts)
items_first n later t ts = item_first n later (data_of t) (items_of ts)

if_plain : (b : Bool) (c : Text) (o p : Option Text) → (if b then joined c o p else None) ≡ joined c o (if b then p else None)
if_plain true c o p = refl
if_plain false c o p = joined_none c o

-- an element that is not spread, and those behind it
pub elements_first : (n : ℕ) (later : Bool) (x : ExprOrSpread Expr) (xs : List (Option (ExprOrSpread Expr))) → x.spread ≡ None → elements_within n later (Some x ∷ xs) ≡ joined (comma_if later) (text_within n (expr_tree x.expr.value)) (elements_within n true xs)
elements_first n later x xs h =
    let rest : Option Text = items_within n later (expr_tree x.expr.value ⊳ item_trees expr_tree xs) in
    ap (λ s. if all_plain (spread_kind s ∷ map item_kind xs) then rest else None) h
    ∙ ap (λ r. if all_plain (map item_kind xs) then r else None) (items_first n later (expr_tree x.expr.value) (item_trees expr_tree xs))
    ∙ if_plain (all_plain (map item_kind xs)) (comma_if later) (text_within n (expr_tree x.expr.value)) (items_within n true (item_trees expr_tree xs))

member_first : (n : ℕ) (later : Bool) (k : Text) (o : Option Data) (p : Option Members) → option_and_then (λ ms. if nat_le (members_depth ms) n then Some (members_text later ms) else None) (option_and_then (λ d. option_map (member k d) p) o)
    ≡ joined (comma_if later) (option_map (λ x. quoted k ++ 58 ∷ x) (option_and_then (λ d. if nat_le (depth d) n then Some (compact_text d) else None) o)) (option_and_then (λ ms. if nat_le (members_depth ms) n then Some (members_text true ms) else None) p)
member_first n later k None p = refl
member_first n later k (Some d) None = by_test (nat_le (depth d) n)
  where
    by_test : (a : Bool) → None ≡ joined (comma_if later) (option_map (λ x. quoted k ++ 58 ∷ x) (if a then Some (compact_text d) else None)) None
    by_test true = refl
    by_test false = refl
member_first n later k (Some d) (Some ms) = ap (λ b. if b then Some (comma_if later ++ (quoted k ++ 58 ∷ (compact_text d ++ members_text true ms))) else None) (both_below (depth d) (members_depth ms) n) ∙ by_tests (nat_le (depth d) n) (nat_le (members_depth ms) n)
  where
    by_tests : (a b : Bool) → (if a && b then Some (comma_if later ++ (quoted k ++ 58 ∷ (compact_text d ++ members_text true ms))) else None) ≡ joined (comma_if later) (option_map (λ x. quoted k ++ 58 ∷ x) (if a then Some (compact_text d) else None)) (if b then Some (members_text true ms) else None)
    by_tests true true = ap (λ z. Some (comma_if later ++ z)) (sym (append_assoc (quoted k) (58 ∷ compact_text d) (members_text true ms)))
    by_tests true false = refl
    by_tests false true = refl
    by_tests false false = refl

-- a member, and those behind it
pub members_first : (n : ℕ) (later : Bool) (t : Tree) (ts : Forest) → members_within n later (t ⊳ ts) ≡ joined (comma_if later) (member_within n t) (members_within n true ts)
members_first n later (node KeyValue ss (node (PlainKey k) rs ε ⊳ v ⊳ ε)) ts = member_first n later (key_name k) (data_of v) (members_of ts)
members_first n later t ts = refl

one_less : (a n : ℕ) → 0 < n → nat_le (suc a) n ≡ nat_le a (n - 1)
one_less a n h = same_test (suc a) n a (n - 1) (λ p. omega (arith, p)) (λ p. omega (arith, p, h))

never_below : (a : ℕ) → nat_le (suc a) 0 ≡ false
never_below a = elim (leb_tells (suc a) 0) [ inl p ↦ absurd (omega (arith, p.1)) | inr p ↦ p.0 ]

array_of : (b : Bool) (n : ℕ) (o : Option Items) → 0 < n → option_and_then (λ d. if nat_le (depth d) n then Some (compact_text d) else None) (if b then option_map array o else None)
    ≡ option_map (λ x. 91 ∷ x) (if b then option_and_then (λ ds. if nat_le (items_depth ds) (n - 1) then Some (items_text false ds) else None) o else None)
array_of false n o h = refl
array_of true n None h = refl
array_of true n (Some ds) h = ap (λ b. if b then Some (91 ∷ items_text false ds) else None) (one_less (items_depth ds) n h) ∙ by_test (nat_le (items_depth ds) (n - 1))
  where
    by_test : (a : Bool) → (if a then Some (91 ∷ items_text false ds) else None) ≡ option_map (λ x. 91 ∷ x) (if a then Some (items_text false ds) else None)
    by_test true = refl
    by_test false = refl

-- an array's text, by its elements one level less deep
pub array_within : (n : ℕ) (a : ArrayLit Expr) → 0 < n → text_within n (array_tree expr_tree a) ≡ option_map (λ x. 91 ∷ x) (elements_within (n - 1) false a.elems.items)
array_within n a h = array_of (all_plain (map item_kind a.elems.items)) n (items_of (item_trees expr_tree a.elems.items)) h

array_at_none : (b : Bool) (o : Option Items) → option_and_then (λ d. if nat_le (depth d) 0 then Some (compact_text d) else None) (if b then option_map array o else None) ≡ None
array_at_none false o = refl
array_at_none true None = refl
array_at_none true (Some ds) = ap (λ b. if b then Some (91 ∷ items_text false ds) else None) (never_below (items_depth ds))

-- at no level there is no array, nor an object
pub no_array : (n : ℕ) (a : ArrayLit Expr) → n ≡ 0 → text_within n (array_tree expr_tree a) ≡ None
no_array n a h = ap (λ m. text_within m (array_tree expr_tree a)) h ∙ array_at_none (all_plain (map item_kind a.elems.items)) (items_of (item_trees expr_tree a.elems.items))

object_at_none : (b : Bool) (o : Option Members) → option_and_then (λ d. if nat_le (depth d) 0 then Some (compact_text d) else None) (if b then option_map object o else None) ≡ None
object_at_none false o = refl
object_at_none true None = refl
object_at_none true (Some ms) = ap (λ b. if b then Some (123 ∷ members_text false ms) else None) (never_below (members_depth ms))

pub no_object : (n : ℕ) (a : ObjectLit PropOrSpread) → n ≡ 0 → text_within n (object_tree prop_or_spread_tree a) ≡ None
no_object n a h = ap (λ m. text_within m (object_tree prop_or_spread_tree a)) h ∙ object_at_none (are_keys (keys_of (list_trees prop_or_spread_tree a.props.items))) (members_of (list_trees prop_or_spread_tree a.props.items))

object_of : (n : ℕ) (o : Option Members) → 0 < n → option_and_then (λ d. if nat_le (depth d) n then Some (compact_text d) else None) (option_map object o)
    ≡ option_map (λ x. 123 ∷ x) (option_and_then (λ ms. if nat_le (members_depth ms) (n - 1) then Some (members_text false ms) else None) o)
object_of n None h = refl
object_of n (Some ms) h = ap (λ b. if b then Some (123 ∷ members_text false ms) else None) (one_less (members_depth ms) n h) ∙ by_test (nat_le (members_depth ms) (n - 1))
  where
    by_test : (a : Bool) → (if a then Some (123 ∷ members_text false ms) else None) ≡ option_map (λ x. 123 ∷ x) (if a then Some (members_text false ms) else None)
    by_test true = refl
    by_test false = refl

-- an object's text, by its members one level less deep
pub object_within : (n : ℕ) (a : ObjectLit PropOrSpread) → 0 < n → are_keys (keys_of (list_trees prop_or_spread_tree a.props.items)) ≡ true → text_within n (object_tree prop_or_spread_tree a) ≡ option_map (λ x. 123 ∷ x) (members_within (n - 1) false (list_trees prop_or_spread_tree a.props.items))
object_within n a h good = ap (λ b. option_and_then (λ d. if nat_le (depth d) n then Some (compact_text d) else None) (if b then option_map object (members_of (list_trees prop_or_spread_tree a.props.items)) else None)) good ∙ object_of n (members_of (list_trees prop_or_spread_tree a.props.items)) h
