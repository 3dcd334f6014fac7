-- The text of a JSON literal, and the value that it is.
use Rattle.std.specs.Prelude.{ℤ, pos, negsuc, ◌^◌, ◌≡◌, nat_le, nat_lt, Bool, true, false, if◌then◌else◌, List, [], ◌∷◌, Option, Some, None, option_map, option_and_then}
use Rattle.swc_ast.specs.Meaning.{key_name}
use Rattle.swc_ast.specs.Tree.{Text, NumLit, StrLit, BoolLit, NullLit, Template, ItemKind, Plain, Array, Object, KeyValue, PlainKey, Tree, node, Forest, ε, ◌⊳◌}
use Rattle.tree_keys.specs.Keys.{are_keys, keys_of}
use Rattle.serde_json.specs.Data.{Num, unsigned, negative, Data, null, boolean, number, string, array, object, Items, no_items, item, Members, no_members, member, put, depth}
use Rattle.serde_json.specs.Read.{read, max_depth}
use Rattle.serde_json.specs.Written.{compact_text}

-- a whole number, where 64 bits hold it with its sign, as they hold each number that a literal in memory has
abbrev pub whole : ℤ → Option Num
whole (pos n) = if nat_lt n (2 ^ 63) then Some (unsigned n) else None
whole (negsuc n) = if nat_lt n (2 ^ 63) then Some (negative (negsuc n)) else None

abbrev pub all_plain : List ItemKind → Bool
all_plain [] = true
all_plain (Plain ∷ ks) = all_plain ks
all_plain (k ∷ ks) = false

-- The data of a JSON literal, its members in the literal's order. There is none where it has a hole, a spread, a computed or
-- repeated key, `__proto__`, a method or a name alone, or anything that is no JSON literal.
abbrev mutual
  pub data_of : Tree → Option Data
  data_of (node (StrLit t) ss ε) = Some (string t)
  data_of (node (Template ((t, last) ∷ [])) ss ε) = Some (string t)
  data_of (node (NumLit z) ss ε) = option_map number (whole z)
  data_of (node (BoolLit b) ss ε) = Some (boolean b)
  data_of (node NullLit ss ε) = Some null
  data_of (node (Array ks) ss ts) = if all_plain ks then option_map array (items_of ts) else None
  data_of (node Object ss ts) = if are_keys (keys_of ts) then option_map object (members_of ts) else None
  data_of t = None

  pub items_of : Forest → Option Items
  items_of ε = Some no_items
  items_of (t ⊳ ts) = option_and_then (λ d. option_map (item d) (items_of ts)) (data_of t)

  pub members_of : Forest → Option Members
  members_of ε = Some no_members
  members_of (node KeyValue ss (node (PlainKey k) rs ε ⊳ v ⊳ ε) ⊳ ts) = option_and_then (λ d. option_map (member (key_name k) d) (members_of ts)) (data_of v)
  members_of (t ⊳ ts) = None

-- the data, where arrays and objects nest no deeper than `serde_json` reads
abbrev pub shallow : Data → Option Data
shallow d = if nat_le (depth d) max_depth then Some d else None

-- the text of a JSON literal: what `serde_json` writes for its data, each object's members in the literal's order
abbrev pub json_text : Tree → Option Text
json_text t = option_map compact_text (option_and_then shallow (data_of t))

-- the value that data are: each object's members in the order in which the reader keeps them
abbrev mutual
  pub in_order : Data → Data
  in_order (array ds) = array (items_in_order ds)
  in_order (object ms) = object (members_in_order ms no_members)
  in_order d = d

  pub items_in_order : Items → Items
  items_in_order no_items = no_items
  items_in_order (item d ds) = item (in_order d) (items_in_order ds)

  pub members_in_order : Members → Members → Members
  members_in_order no_members found = found
  members_in_order (member k d ms) found = members_in_order ms (put k (in_order d) found)

-- what `serde_json` reads from the text of a JSON literal is its value
abbrev pub TextsReadBack : Type 0
TextsReadBack = (t : Tree) (d : Data) (x : Text) → data_of t ≡ Some d → json_text t ≡ Some x → read x ≡ Some (in_order d)
