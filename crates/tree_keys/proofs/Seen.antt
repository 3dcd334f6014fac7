-- Keys, as a loop over properties comes to each.
use Rattle.std.proofs.Common.{◌≡◌, ℕ, ◌+◌, ◌<◌, Bool, true, false, not, ◌&&◌, ◌||◌, List, [], ◌∷◌, ◌++◌, drop, length, Some, None, option_to_list, bytes_eq, string_bytes, sym, ap, ap₂, ◌∙◌, get_or, IsTrue}
use Rattle.std.proofs.lemmas.Bool.{false≢true}
use Rattle.std.proofs.lemmas.List.{at_drop_more}
use Rattle.std.proofs.lemmas.List.Sorted.{list_any-IsPermutation}
use Rattle.std.specs.Bool.{MatchBool}
use Rattle.std.specs.List.Sorted.{IsPermutation}
use Rattle.std.specs.List.{list_any}
use Rattle.std.specs.declared.alloc.Global.{Global}
use Rattle.std.specs.Prelude.{String}
use Rattle.swc_ast.specs.Operators.{is_among}
use Rattle.swc_ast.specs.Parts.{list_trees}
use Rattle.swc_ast.specs.Tree.{Text}
use Rattle.swc_ast.specs.Views.{prop_or_spread_tree}
use Rattle.swc_ast.specs.declared.expressions.PropOrSpread.{PropOrSpread}
use Rattle.tree_keys.specs.Keys.{all_new, key_of, keys_of}
use Rattle.tree_keys.specs.Sets.{has_key}
use Rattle.tree_keys.specs.declared.keys.KeySet.{KeySet}

-- a set that has one key more
pub one_more : (b : Bool) (k : String Global) (ks ns : List (String Global)) (P : Type 0) → MatchBool b (IsPermutation (k ∷ ks) ns) P → IsTrue b → (t : Text) → list_any (λ j. bytes_eq t (string_bytes j)) ns ≡ (bytes_eq t (string_bytes k) || list_any (λ j. bytes_eq t (string_bytes j)) ks)
one_more true k ks ns P put h t = sym (list_any-IsPermutation (λ j. bytes_eq t (string_bytes j)) (k ∷ ks) ns put)
one_more false k ks ns P put h t = absurd (false≢true h)

-- the keys of properties
abbrev pub keys : List PropOrSpread → List Text
keys xs = keys_of (list_trees prop_or_spread_tree xs)

-- whether those behind some that were seen are new
abbrev pub new_behind : List Text → List PropOrSpread → Bool
new_behind seen xs = all_new seen (keys xs)

-- a set has the keys that were seen
abbrev pub Has : KeySet → List Text → Type 0
Has s seen = (t : Text) → has_key s t ≡ is_among t seen

-- what is known of the properties that are left
pub record Left (s : KeySet) (xs : List PropOrSpread) (g : Bool) : Type 0 where
  pub seen : List Text
  pub has : Has s seen
  pub rest : new_behind seen xs ≡ g

here : (xs : List PropOrSpread) (i : ℕ) (x : PropOrSpread) (seen : List Text) → i < length xs → x ≡ get_or xs i x → new_behind seen (drop i xs) ≡ new_behind seen (x ∷ drop (i + 1) xs)
here xs i x seen within at = at_drop_more (new_behind seen) xs i x within ∙ ap (λ y. new_behind seen (y ∷ drop (i + 1) xs)) (sym at)

-- the key that no property may have comes first
pub first_key : (b : Bool) (k proto : Text) (old new : KeySet) → ((t : Text) → has_key old t ≡ false) → k ≡ proto → b ≡ not (has_key old k) → (IsTrue b → (t : Text) → has_key new t ≡ (bytes_eq t k || has_key old t)) → Has new (proto ∷ [])
first_key b k proto old new none is added more t = more (added ∙ ap not (none k)) t ∙ ap₂ (λ x y. bytes_eq t x || y) is (none t)

-- a property without a key
pub without_key : (xs : List PropOrSpread) (i : ℕ) (x : PropOrSpread) (s v : KeySet) (g : Bool) → i < length xs → x ≡ get_or xs i x → key_of (prop_or_spread_tree x) ≡ None → Left s (drop i xs) g → v ≡ s → Left v (drop (i + 1) xs) g
without_key xs i x s v g within at none l is = record {
  seen = l.seen;
  has = λ t. ap (λ z. has_key z t) is ∙ l.has t;
  rest = sym (here xs i x l.seen within at ∙ ap (λ o. all_new l.seen (option_to_list o ++ keys (drop (i + 1) xs))) none) ∙ l.rest;
}

-- a key stands in front of the others
in_front : (xs : List PropOrSpread) (i : ℕ) (x : PropOrSpread) (s : KeySet) (k : Text) (b : Bool) (seen : List Text) → i < length xs → x ≡ get_or xs i x → key_of (prop_or_spread_tree x) ≡ Some k → b ≡ not (has_key s k) → Has s seen → new_behind seen (drop i xs) ≡ (b && new_behind (k ∷ seen) (drop (i + 1) xs))
in_front xs i x s k b seen within at is new has = here xs i x seen within at ∙ ap (λ o. all_new seen (option_to_list o ++ keys (drop (i + 1) xs))) is ∙ ap (λ c. c && new_behind (k ∷ seen) (drop (i + 1) xs)) (ap not (sym (has k)) ∙ sym new)

-- a property whose key is new
pub new_key : (xs : List PropOrSpread) (i : ℕ) (x : PropOrSpread) (s u v : KeySet) (k : Text) (g : Bool) → i < length xs → x ≡ get_or xs i x → key_of (prop_or_spread_tree x) ≡ Some k → true ≡ not (has_key s k) → ((t : Text) → has_key u t ≡ (bytes_eq t k || has_key s t)) → Left s (drop i xs) g → v ≡ u → Left v (drop (i + 1) xs) g
new_key xs i x s u v k g within at is new more l made = record {
  seen = k ∷ l.seen;
  has = λ t. ap (λ z. has_key z t) made ∙ more t ∙ ap (λ b. bytes_eq t k || b) (l.has t);
  rest = sym (in_front xs i x s k true l.seen within at is new l.has) ∙ l.rest;
}
