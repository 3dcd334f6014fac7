-- Members of literals.
use Rattle.std.specs.Prelude.{Bool, List, None, Option, Some, [], bytes_eq, chars, encode_utf8, false, if◌then◌else◌, nat_le, nat_lt, not, slice_get, suc, true, zero, ℕ, ◌&&◌, ◌∷◌}
use Rattle.swc_ast.specs.Meaning.{key_name}
use Rattle.swc_ast.specs.Operators.{if_some, index_of}
use Rattle.swc_ast.specs.Tree.{Forest, Hole, ItemKind, KeyValue, PlainKey, Tree, node, ε, ◌⊳◌}
use Rattle.swc_ast.specs.declared.Span.{Span}
use Rattle.swc_utils.specs.Effects.{effects_all, preserve}
use Rattle.swc_utils.specs.Pure.{has_spread, pure, pure_all}

-- characters that are one UTF-16 unit each
abbrev pub all_basic : List ℕ → Bool
all_basic [] = true
all_basic (c ∷ cs) = nat_lt c 65536 && all_basic cs

-- half of a character
abbrev pub is_surrogate : ℕ → Bool
is_surrogate c = nat_le 55296 c && nat_lt c 57344

-- the text of one character
abbrev pub character : ℕ → Option (List ℕ)
character c = if is_surrogate c then None else Some (encode_utf8 c)

-- the character of a text at an index, where no character of the text lies past the basic plane
abbrev pub text_at : List ℕ → List ℕ → Option (List ℕ)
text_at t k = if all_basic (chars t) then if_some (index_of k) (λ i. if_some (slice_get (chars t) i) character) else None

-- the items of an array in front of item i
abbrev pub items_before : List ItemKind → Forest → ℕ → Forest
items_before ks us zero = ε
items_before [] us (suc i) = ε
items_before (Hole ∷ ks) us (suc i) = items_before ks us i
items_before (k ∷ ks) ε (suc i) = ε
items_before (k ∷ ks) (u ⊳ us) (suc i) = u ⊳ items_before ks us i

-- item i of an array; a hole is what w says
abbrev pub item_at : Tree → List ItemKind → Forest → ℕ → Option Tree
item_at w [] us i = None
item_at w (Hole ∷ ks) us zero = Some w
item_at w (Hole ∷ ks) us (suc i) = item_at w ks us i
item_at w (k ∷ ks) ε i = None
item_at w (k ∷ ks) (u ⊳ us) zero = Some u
item_at w (k ∷ ks) (u ⊳ us) (suc i) = item_at w ks us i

-- the items of an array behind item i
abbrev pub items_behind : List ItemKind → Forest → ℕ → Forest
items_behind [] us i = ε
items_behind (Hole ∷ ks) us zero = us
items_behind (Hole ∷ ks) us (suc i) = items_behind ks us i
items_behind (k ∷ ks) ε i = ε
items_behind (k ∷ ks) (u ⊳ us) zero = us
items_behind (k ∷ ks) (u ⊳ us) (suc i) = items_behind ks us i

-- the effects of the items in front, and the item; the items behind are pure, and none is a spread
abbrev pub array_at : ℕ → List Span → Tree → List ItemKind → Forest → ℕ → Option Tree
array_at mark rs w ks us i = if not (has_spread ks) && pure_all mark (items_behind ks us i) then if_some (item_at w ks us i) (λ t. Some (preserve rs (effects_all mark (items_before ks us i)) t)) else None

-- no property of these has key k, and all their values are pure
abbrev pub none_named : ℕ → List ℕ → Forest → Bool
none_named mark k ε = true
none_named mark k (node KeyValue ss (node (PlainKey l) rs ε ⊳ t ⊳ ε) ⊳ ts) = not (bytes_eq (key_name l) k) && (pure mark t && none_named mark k ts)
none_named mark k _ = false

-- the value of key k, where all properties are `key: value`, no other has this key, and all other values are pure
abbrev pub value_named : ℕ → List ℕ → Forest → Option Tree
value_named mark k (node KeyValue ss (node (PlainKey l) rs ε ⊳ t ⊳ ε) ⊳ ts) =
    if bytes_eq (key_name l) k then (if none_named mark k ts then Some t else None)
    else (if pure mark t then value_named mark k ts else None)
value_named mark k _ = None
