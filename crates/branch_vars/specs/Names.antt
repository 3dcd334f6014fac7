-- Names that are gathered, and how they are declared.
use Rattle.std.specs.Prelude.{List, [], ◌∷◌, ◌++◌, map, if◌then◌else◌, Option, Some, None}
use Rattle.std.specs.Borrow.{Bor}
use Rattle.swc_ast.specs.Parts.{ident_name}
use Rattle.swc_ast.specs.Scope.{own_vars, vars_all, holds_statements}
use Rattle.swc_ast.specs.Tree.{Name, Label, Declarator, Tree, node, Forest, ε, ◌⊳◌}
use Rattle.swc_ast.specs.Views.{stmt_tree}
use Rattle.swc_ast.specs.declared.Span.{Span}
use Rattle.swc_ast.specs.declared.VarDeclKind.TheVariants.{Var}
use Rattle.swc_ast.specs.declared.names.Ident.{Ident}
use Rattle.swc_ast.specs.declared.statements.Stmt.{Stmt}

-- the names of identifiers
abbrev pub names_of : List (Bor Ident) → List Name
names_of = map (λ n. ident_name n.now)

-- the name of an identifier, if any
abbrev pub optional_name : Option (Bor Ident) → List Name
optional_name None = []
optional_name (Some n) = ident_name n.now ∷ []

-- the `var` names of a node by its parts
abbrev pub opened_vars : Label → Forest → List Name
opened_vars l cs = own_vars l ++ (if holds_statements l then vars_all cs else [])

-- a statement, if any
abbrev pub statements : Option Stmt → Forest
statements None = ε
statements (Some s) = stmt_tree s ⊳ ε

-- the span of what stands nowhere
abbrev pub nowhere : Span
nowhere = record { lo = 0; hi = 0 }

-- a declarator without first value
abbrev pub unset_one : Name → Tree
unset_one x = node (Declarator Var x) (nowhere ∷ nowhere ∷ []) ε

-- the same of several names
abbrev pub unset : List Name → Forest
unset [] = ε
unset (x ∷ xs) = unset_one x ⊳ unset xs
