-- The key that a property which was only a name becomes.
use Rattle.std.specs.Prelude.{Bool, List, bytes_eq, codes, if◌then◌else◌}
use Rattle.swc_ast.specs.declared.Span.{Span}
use Rattle.swc_ast.specs.Tree.{Text, NameKey, StrLit, PlainKey, ComputedKey, Tree, node, ε, ◌⊳◌}

-- the text that is no property of its own behind a plain key: it sets the prototype
abbrev pub is_proto : Text → Bool
is_proto k = bytes_eq k (codes "__proto__")

-- the plain key, and `['__proto__']` for the text `__proto__`
abbrev pub property_key : Text → List Span → Tree
property_key k ss = if is_proto k then node ComputedKey ss (node (StrLit k) ss ε ⊳ ε) else node (PlainKey (NameKey k)) ss ε

-- a plain key, or a text literal in brackets
pub data IsKey (k : Text) : Tree → Type 0 where
  plain_key : {ss : List Span} → IsKey k (node (PlainKey (NameKey k)) ss ε)
  text_key : {ss rs : List Span} → IsKey k (node ComputedKey ss (node (StrLit k) rs ε ⊳ ε))
