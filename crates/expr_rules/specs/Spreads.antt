-- Spreads of array and object literals, opened.
use Rattle.std.specs.Prelude.{Bool, List, [], bytes_eq, codes, false, if◌then◌else◌, not, true, ◌++◌, ◌||◌, ◌∷◌}
use Rattle.swc_ast.specs.Meaning.{key_name}
use Rattle.swc_ast.specs.Scope.{joined}
use Rattle.swc_ast.specs.Tree.{Array, Forest, Hole, ItemKind, KeyValue, Label, Method, Object, Plain, PlainKey, Shorthand, Spread, SpreadRecord, Text, Tree, node, ε, ◌⊳◌}
use Rattle.swc_utils.specs.Effects.{has_record_spread}

-- an array's kinds of items with an item in place of each hole
abbrev pub filled_kinds : List ItemKind → List ItemKind
filled_kinds [] = []
filled_kinds (Hole ∷ ks) = Plain ∷ filled_kinds ks
filled_kinds (k ∷ ks) = k ∷ filled_kinds ks

-- an array's items with w in place of each hole
abbrev pub filled_items : Tree → List ItemKind → Forest → Forest
filled_items w [] us = ε
filled_items w (Hole ∷ ks) us = w ⊳ filled_items w ks us
filled_items w (k ∷ ks) ε = ε
filled_items w (k ∷ ks) (u ⊳ us) = u ⊳ filled_items w ks us

-- the kinds of items that a spread gives
abbrev pub spread_kinds : Tree → List ItemKind
spread_kinds (node (Array is) ss us) = filled_kinds is
spread_kinds t = Spread ∷ []

-- the items that a spread gives
abbrev pub spread_trees : Tree → Tree → Forest
spread_trees w (node (Array is) ss us) = filled_items w is us
spread_trees w t = t ⊳ ε

-- an array's kinds of items with those of each array literal that is spread in it
abbrev pub opened_kinds : List ItemKind → Forest → List ItemKind
opened_kinds [] ts = []
opened_kinds (Hole ∷ ks) ts = Hole ∷ opened_kinds ks ts
opened_kinds (k ∷ ks) ε = k ∷ ks
opened_kinds (Plain ∷ ks) (t ⊳ ts) = Plain ∷ opened_kinds ks ts
opened_kinds (Spread ∷ ks) (t ⊳ ts) = spread_kinds t ++ opened_kinds ks ts

-- an array's items with those of each array literal that is spread in it
abbrev pub opened_items : Tree → List ItemKind → Forest → Forest
opened_items w [] ts = ts
opened_items w (Hole ∷ ks) ts = opened_items w ks ts
opened_items w (k ∷ ks) ε = ε
opened_items w (Plain ∷ ks) (t ⊳ ts) = t ⊳ opened_items w ks ts
opened_items w (Spread ∷ ks) (t ⊳ ts) = joined (spread_trees w t) (opened_items w ks ts)

-- an array literal
abbrev pub is_array : Tree → Bool
is_array (node (Array is) ss us) = true
is_array t = false

-- whether an array spreads an array literal
abbrev pub spreads_array : List ItemKind → Forest → Bool
spreads_array [] ts = false
spreads_array (Hole ∷ ks) ts = spreads_array ks ts
spreads_array (k ∷ ks) ε = false
spreads_array (Plain ∷ ks) (t ⊳ ts) = spreads_array ks ts
spreads_array (Spread ∷ ks) (t ⊳ ts) = is_array t || spreads_array ks ts

-- the key `__proto__`
abbrev pub is_proto : Text → Bool
is_proto k = bytes_eq k (codes "__proto__")

-- whether a property has the key `__proto__`
abbrev pub has_proto_key : Label → Forest → Bool
has_proto_key (Shorthand x) cs = is_proto x.text
has_proto_key KeyValue (node (PlainKey k) ss ε ⊳ cs) = is_proto (key_name k)
has_proto_key Method (node (PlainKey k) ss ε ⊳ cs) = is_proto (key_name k)
has_proto_key _ cs = false

-- whether one of some properties has it
abbrev pub has_proto : Forest → Bool
has_proto ε = false
has_proto (node l ss cs ⊳ ts) = has_proto_key l cs || has_proto ts

-- whether an object literal is opened: it has neither a spread nor the key `__proto__`
abbrev pub opens : Forest → Bool
opens us = not (has_record_spread us || has_proto us)

-- a property, or those of the object literal that it spreads
abbrev pub opened_property : Tree → Forest
opened_property (node SpreadRecord ss (node Object rs us ⊳ ε)) = if opens us then us else node SpreadRecord ss (node Object rs us ⊳ ε) ⊳ ε
opened_property t = t ⊳ ε

-- an object's properties with those of each object literal that is spread in it
abbrev pub opened_properties : Forest → Forest
opened_properties ε = ε
opened_properties (t ⊳ ts) = joined (opened_property t) (opened_properties ts)

-- whether a property spreads an object literal that is opened
abbrev pub opens_property : Tree → Bool
opens_property (node SpreadRecord ss (node Object rs us ⊳ ε)) = opens us
opens_property t = false

-- whether one of some properties does
abbrev pub spreads_object : Forest → Bool
spreads_object ε = false
spreads_object (t ⊳ ts) = opens_property t || spreads_object ts
