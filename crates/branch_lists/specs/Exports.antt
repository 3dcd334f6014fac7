-- The names that a module exports.
use Rattle.std.specs.Prelude.{Bool, List, map}
use Rattle.swc_ast.specs.Parts.{ident_name}
use Rattle.swc_ast.specs.Run.{item_exports, specifier_exports, exported}
use Rattle.swc_ast.specs.Scope.{has_name}
use Rattle.swc_ast.specs.Tree.{Text, Name, Label, Tree, node, Forest}
use Rattle.swc_ast.specs.declared.declarations.VarDeclarator.{VarDeclarator}
use Rattle.swc_ast.specs.declared.expressions.Expr.{Expr}
use Rattle.swc_ast.specs.declared.names.SyntaxContext.{SyntaxContext}

-- a name by itself, as values have it
abbrev pub Id : Type 0
Id = Text × SyntaxContext

-- the name that it is
abbrev pub id_name : Id → Name
id_name i = record { text = i.0; context = i.1.0 }

-- the same of each
abbrev pub ids : List Id → List Name
ids = map id_name

-- whether a name is among some
abbrev pub among : List Id → Name → Bool
among ks x = has_name x (ids ks)

-- the names that stand for exported texts
abbrev pub names_for : List (Text × Name) → List Name
names_for = map (λ p. p.1)

-- those of an item by its parts
abbrev pub names_by_label : Label → Forest → List Name
names_by_label l cs = names_for (item_exports l cs)

-- those of an item
abbrev pub names_by : Tree → List Name
names_by (node l ss cs) = names_by_label l cs

-- those of specifiers
abbrev pub specified : Forest → List Name
specified ts = names_for (specifier_exports ts)

-- those of a module
abbrev pub exported_names : Forest → List Name
exported_names ts = names_for (exported ts)

-- the names of declarators
abbrev pub names_of_declarators : List (VarDeclarator Expr) → List Name
names_of_declarators = map (λ d. ident_name d.name)
