-- The names in trees, in the order of the text.
use Rattle.std.specs.Prelude.{Bool, true, false, if◌then◌else◌, List, [], ◌∷◌, ◌++◌, fold}
use Rattle.swc_ast.specs.Tree as tree
use Rattle.swc_ast.specs.Tree.{Name, Label, Tree, node, Forest, ε, ◌⊳◌}
use Rattle.swc_ast.specs.Scope.{has_name, option_name, holds_statements}
use Rattle.swc_ast.specs.Resolved.{catch_name}
use Rattle.swc_ast.specs.declared.VarDeclKind.TheVariants.{Var}
use Rattle.swc_names.specs.declared.gather.Choice.{Choice}
use Rattle.swc_names.specs.declared.gather.Choice.TheVariants as choice

-- the name that stands in a node, in front of its children
abbrev pub own_name : Label → List Name
own_name (tree.Read x) = x ∷ []
own_name (tree.Shorthand x) = x ∷ []
own_name (tree.Fn o) = option_name o
own_name (tree.Param x) = x ∷ []
own_name (tree.TypeOfName x) = x ∷ []
own_name (tree.CallEval x) = x ∷ []
own_name (tree.Assign op x) = x ∷ []
own_name (tree.Update op prefix x) = x ∷ []
own_name (tree.Declarator kind x) = x ∷ []
own_name (tree.FnDecl x) = x ∷ []
own_name (tree.ImportNamed x i) = x ∷ []
own_name (tree.ImportDefault x) = x ∷ []
own_name (tree.ImportStar x) = x ∷ []
own_name (tree.ExportSpecifier x o) = x ∷ []
own_name (tree.ExportDefaultFn o) = option_name o
own_name _ = []

-- the parameter of a handler: it stands behind the block of its `try`, which is the first child
abbrev pub handler_name : Label → List Name
handler_name (tree.Try o) = catch_name o
handler_name _ = []

-- a node that binds its own name (BoundNames, 8.2.1; a function expression binds its name inside, 15.2.5)
abbrev pub binds : Label → Bool
binds (tree.Fn o) = true
binds (tree.Param x) = true
binds (tree.Declarator kind x) = true
binds (tree.FnDecl x) = true
binds (tree.ImportNamed x i) = true
binds (tree.ImportDefault x) = true
binds (tree.ImportStar x) = true
binds (tree.ExportDefaultFn o) = true
binds _ = false

-- a declarator of `var`
abbrev pub is_var : Label → Bool
is_var (tree.Declarator Var x) = true
is_var _ = false

-- a node whose own name is asked for
abbrev pub asks : Choice → Label → Bool
asks choice.Every l = true
asks choice.Bound l = binds l
asks choice.Vars l = is_var l

-- a node among whose children names are asked for
abbrev pub enters : Choice → Label → Bool
enters choice.Every l = true
enters choice.Bound l = true
enters choice.Vars l = holds_statements l

-- what is asked for in front of a node's children
abbrev pub front_names : Choice → Label → List Name
front_names c l = if asks c l then own_name l else []

-- what is asked for behind its first child; a handler's parameter is bound, and not by `var`
abbrev pub behind_names : Choice → Label → List Name
behind_names choice.Every l = handler_name l
behind_names choice.Bound l = handler_name l
behind_names choice.Vars l = []

abbrev mutual
  -- the names in a tree that are asked for
  pub names_in : Choice → Tree → List Name
  names_in c (node l ss cs) = front_names c l ++ (if enters c l then names_among c (behind_names c l) cs else [])

  -- the same of trees in a row, where some names stand behind the first of them
  pub names_among : Choice → List Name → Forest → List Name
  names_among c xs ε = xs
  names_among c xs (t ⊳ ts) = names_in c t ++ (xs ++ names_among c [] ts)

-- the same of a node by its parts
abbrev pub opened_names : Choice → Label → Forest → List Name
opened_names c l cs = front_names c l ++ (if enters c l then names_among c (behind_names c l) cs else [])

-- each name in trees, as often as it stands there
abbrev pub mentioned : Forest → List Name
mentioned = names_among choice.Every []

-- the same of one tree
abbrev pub mentioned_in : Tree → List Name
mentioned_in = names_in choice.Every

-- the same of trees in a row, where some names stand behind the first of them
abbrev pub mentioned_behind : List Name → Forest → List Name
mentioned_behind = names_among choice.Every

-- the names that trees bind, by declarations, parameters, functions, imports and handlers
abbrev pub bound : Forest → List Name
bound = names_among choice.Bound []

-- names with one more behind them, unless it is among them
abbrev pub with_name : List Name → Name → List Name
with_name xs x = if has_name x xs then xs else xs ++ x ∷ []

-- the names of a list, each once, where it stands first
abbrev pub distinct : List Name → List Name
distinct = fold with_name []
