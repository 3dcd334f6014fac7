-- The names that identifiers stand for.
use Rattle.std.specs.Prelude.{List, [], ◌∷◌, map, Option, Some, None}
use Rattle.std.specs.Borrow.{Bor}
use Rattle.swc_ast.specs.Tree.{Name, Text}
use Rattle.swc_ast.specs.Parts.{ident_name}
use Rattle.swc_ast.specs.declared.names.Ident.{Ident}
use Rattle.swc_ast.specs.declared.names.SyntaxContext.{SyntaxContext}
use Rattle.swc_names.specs.declared.keys.Key.{Key}

-- a name by itself, as values have it
abbrev pub Id : Type 0
Id = Text × SyntaxContext

-- the name that it is
abbrev pub id_name : Id → Name
id_name i = record { text = i.0; context = i.1.0 }

-- the same of each
abbrev pub ids : List Id → List Name
ids = map id_name

-- the names of identifiers
abbrev pub idents : List (Bor Ident) → List Name
idents = map (λ n. ident_name n.now)

-- the name of an identifier, if any
abbrev pub optional : Option (Bor Ident) → List Name
optional None = []
optional (Some n) = ident_name n.now ∷ []

-- a name whose text is lent
abbrev pub key_name : Key → Name
key_name k = record { text = k.text.now; context = k.context.0 }
