-- Names, and the names that are taken.
use Rattle.std.specs.Prelude.{ℕ, Bool, not, ◌&&◌, ◌||◌, List, map, bytes_eq}
use Rattle.std.specs.List.{list_any}
use Rattle.swc_ast.specs.Marks.{mark_number}
use Rattle.swc_ast.specs.Tree as tree
use Rattle.swc_ast.specs.Tree.{Text}
use Rattle.swc_ast.specs.Scope.{has_name}
use Rattle.swc_ast.specs.Meaning.{is_unresolved}
use Rattle.swc_ast.specs.Resolved.{is_default}
use Rattle.swc_resolved.specs.declared.names.Name.{Name}
use Rattle.swc_resolved.specs.declared.names.NameSet.{NameSet}
use Rattle.swc_resolved.specs.declared.names.TextSet.{TextSet}
use Rattle.swc_resolved.specs.declared.names.Taken.{Taken}

-- the name that borrowed parts make
abbrev pub name : Name → tree.Name
name n = record { text = n.text.now; context = n.context.0 }

-- the same of each
abbrev pub names : List Name → List tree.Name
names = map name

-- the names in a set
abbrev pub members : NameSet → List tree.Name
members s = names s.names.keys

-- whether a text is in a set
abbrev pub has_text : TextSet → Text → Bool
has_text s t = list_any (λ k. bytes_eq t k.now) s.texts.keys

-- an unresolved name, that of a default export aside: no scope may bind it
abbrev pub is_free : ℕ → tree.Name → Bool
is_free mark x = is_unresolved mark x && not (is_default x)

-- a name that no scope may bind any more
abbrev pub is_taken : Taken → tree.Name → Bool
is_taken s x = is_free (mark_number s.unresolved_mark) x || has_name x (members s.names)
