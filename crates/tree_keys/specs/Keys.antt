-- The keys of an object literal.
use Rattle.std.specs.Prelude.{Bool, true, not, ◌&&◌, List, [], ◌∷◌, ◌++◌, Option, Some, None, option_to_list, codes, string_bytes}
use Rattle.std.specs.Fmt.{signed_decimal}
use Rattle.swc_ast.specs.Meaning.{key_name}
use Rattle.swc_ast.specs.Operators.{is_among}
use Rattle.swc_ast.specs.Parts.{word_text}
use Rattle.swc_ast.specs.Tree.{Text, KeyValue, PlainKey, Tree, node, Forest, ε, ◌⊳◌}
use Rattle.swc_ast.specs.declared.expressions.Expr.{Expr}
use Rattle.swc_ast.specs.declared.expressions.PropName.{PropName}
use Rattle.swc_ast.specs.declared.expressions.PropName.TheVariants as key

-- the text of a key that is not computed
abbrev pub plain_key : PropName Expr → Option Text
plain_key (key.Ident n) = Some (word_text n)
plain_key (key.Str n) = Some (string_bytes n.value)
plain_key (key.Num n) = Some (signed_decimal n.value)
plain_key (key.Computed n) = None

-- the text of the key of a property that is `key: value`, unless the key is computed
abbrev pub key_of : Tree → Option Text
key_of (node KeyValue ss (node (PlainKey k) rs ε ⊳ v ⊳ ε)) = Some (key_name k)
key_of t = None

abbrev pub keys_of : Forest → List Text
keys_of ε = []
keys_of (t ⊳ ts) = option_to_list (key_of t) ++ keys_of ts

-- whether each key is new, behind some that were seen
abbrev pub all_new : List Text → List Text → Bool
all_new seen [] = true
all_new seen (k ∷ ks) = not (is_among k seen) && all_new (k ∷ seen) ks

-- each key is there once, and none of them is `__proto__`
abbrev pub are_keys : List Text → Bool
are_keys = all_new (codes "__proto__" ∷ [])
