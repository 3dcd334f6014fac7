-- The keys that were seen, for private clauses.
use Rattle.std.specs.Prelude.{Bool, bytes_eq, string_bytes}
use Rattle.std.specs.List.{list_any}
use Rattle.swc_ast.specs.Tree.{Text}
use Rattle.tree_keys.specs.declared.keys.KeySet.{KeySet}

-- whether a key is in a set
abbrev pub has_key : KeySet → Text → Bool
has_key s t = list_any (λ k. bytes_eq t (string_bytes k)) s.keys.keys
