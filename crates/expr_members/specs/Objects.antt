-- Object literals and their properties.
use Rattle.std.specs.Prelude.{◌≡◌, ◌<◌, ℕ, Bool, true, false, List, Option, Some, None, bytes_eq, length, slice_index_or}
use Rattle.swc_ast.specs.Meaning.{key_name}
use Rattle.swc_ast.specs.Parts.{list_trees}
use Rattle.swc_ast.specs.Tree.{KeyValue, Object, PlainKey, Tree, node, ε, ◌⊳◌}
use Rattle.swc_ast.specs.Views.{prop_or_spread_tree}
use Rattle.swc_ast.specs.declared.Span.{Span}
use Rattle.swc_ast.specs.declared.expressions.PropOrSpread.{PropOrSpread}
use Rattle.expr_rules.specs.Spreads.{has_proto_key, is_proto, opens}

-- the key `__proto__`
abbrev pub is_proto_key : Tree → Bool
is_proto_key (node (PlainKey k) ss ε) = is_proto (key_name k)
is_proto_key _ = false

-- a property with this key
abbrev pub names_proto : Tree → Bool
names_proto (node l ss cs) = has_proto_key l cs

-- an object literal
abbrev pub is_object : Tree → Bool
is_object (node Object ss ts) = true
is_object _ = false

-- an object literal with neither a spread nor the key `__proto__`
abbrev pub is_opened_object : Tree → Bool
is_opened_object (node Object ss ts) = opens ts
is_opened_object _ = false

-- an object literal of these properties
abbrev pub HasProperties : Tree → List PropOrSpread → Type 0
HasProperties t ps = (ss : List Span) × (t ≡ node Object ss (list_trees prop_or_spread_tree ps))

-- a key that is not computed, of text k
abbrev pub has_text : List ℕ → Tree → Bool
has_text k (node (PlainKey l) ss ε) = bytes_eq (key_name l) k
has_text k _ = false

-- a property `key: value` of key k
abbrev pub has_key : List ℕ → Tree → Bool
has_key k (node KeyValue ss (t ⊳ u ⊳ ε)) = has_text k t
has_key k _ = false

-- the value of a property `key: value`
abbrev pub value_of : Tree → Option Tree
value_of (node KeyValue ss (t ⊳ u ⊳ ε)) = Some u
value_of _ = None

-- a property of key k stands at index i
abbrev pub IsPlace : List ℕ → List PropOrSpread → ℕ → Type 0
IsPlace k ps i = (i < length ps) × ((p : PropOrSpread) → p ≡ slice_index_or ps i p → has_key k (prop_or_spread_tree p) ≡ true)
