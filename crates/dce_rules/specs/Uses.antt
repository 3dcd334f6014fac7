-- Which names of a module are used, and which are free to go.
use Rattle.std.specs.Prelude.{Bool, true, false, not, ◌&&◌, ◌||◌, if◌then◌else◌, List, [], ◌∷◌, Some, bytes_eq, codes}
use Rattle.swc_ast.specs.declared.AssignOp.{AssignOp}
use Rattle.swc_ast.specs.declared.AssignOp.TheVariants.{Assign as Plain}
use Rattle.swc_ast.specs.Tree.{Text, Name, Label, Read, CallEval, Shorthand, TypeOfName, Assign, Update, ExportSpecifier, Fn, Arrow, FnDecl, Param, Declarator, Try, ExportDefaultFn, Module, Tree, node, Forest, ε, ◌⊳◌}
use Rattle.swc_ast.specs.Scope.{is_function, has_name, option_name, param_names, imported_name}
use Rattle.swc_ast.specs.Run.{exported, has_text}
use Rattle.swc_ast.specs.Resolved.{params_of}
use Rattle.swc_ast.specs.Reach.{named_by, declares, named_outside, is_exported}

-- reads: all but plain assignments

-- the target of an assignment, where it is read
abbrev pub target_read : AssignOp → Name → List Name
target_read Plain x = []
target_read op x = x ∷ []

-- the name that a node itself reads or exports; an update and a compound assignment read their target
abbrev pub read_by : Label → List Name
read_by (Read x) = x ∷ []
read_by (CallEval x) = x ∷ []
read_by (Shorthand x) = x ∷ []
read_by (TypeOfName x) = x ∷ []
read_by (Assign op x) = target_read op x
read_by (Update op prefix x) = x ∷ []
read_by (ExportSpecifier x t) = x ∷ []
read_by _ = []

abbrev mutual
  -- whether a name is read outside the declarations of functions of that name
  pub read_outside : Name → Tree → Bool
  read_outside x (node l ss cs) = if declares x l then false else (has_name x (read_by l) || outside_among x cs)

  pub outside_among : Name → Forest → Bool
  outside_among x ε = false
  outside_among x (t ⊳ ts) = read_outside x t || outside_among x ts

-- `arguments`

-- a function that has its own `arguments`
abbrev pub has_arguments : Label → Bool
has_arguments Arrow = false
has_arguments l = is_function l

-- whether `arguments` is among some names
abbrev pub is_arguments : List Name → Bool
is_arguments [] = false
is_arguments (x ∷ xs) = bytes_eq x.text (codes "arguments") || is_arguments xs

abbrev mutual
  -- whether `arguments` is named, outside functions that have their own
  pub names_arguments : Tree → Bool
  names_arguments (node l ss cs) = if has_arguments l then false else (is_arguments (named_by l) || any_arguments cs)

  pub any_arguments : Forest → Bool
  any_arguments ε = false
  any_arguments (t ⊳ ts) = names_arguments t || any_arguments ts

abbrev mutual
  -- whether a name is a parameter of a function that names `arguments`
  pub is_argument : Name → Tree → Bool
  is_argument x (node l ss cs) = (has_arguments l && (any_arguments cs && has_name x (param_names (params_of cs)))) || argument_among x cs

  pub argument_among : Name → Forest → Bool
  argument_among x ε = false
  argument_among x (t ⊳ ts) = is_argument x t || argument_among x ts

-- direct calls of `eval`

-- a direct call of `eval`
abbrev pub is_eval : Label → Bool
is_eval (CallEval x) = true
is_eval _ = false

abbrev mutual
  -- whether `eval` is called directly in a tree
  pub calls_eval : Tree → Bool
  calls_eval (node l ss cs) = is_eval l || any_eval cs

  pub any_eval : Forest → Bool
  any_eval ε = false
  any_eval (t ⊳ ts) = calls_eval t || any_eval ts

-- the names that a node itself declares
abbrev pub declared_by_node : Label → List Name
declared_by_node (Declarator kind x) = x ∷ []
declared_by_node (Param x) = x ∷ []
declared_by_node (FnDecl x) = x ∷ []
declared_by_node (Fn o) = option_name o
declared_by_node (Try (Some o)) = option_name o
declared_by_node (ExportDefaultFn o) = option_name o
declared_by_node l = imported_name l

abbrev mutual
  -- whether a name is declared anywhere in a tree
  pub declared_in : Name → Tree → Bool
  declared_in x (node l ss cs) = has_name x (declared_by_node l) || declared_among x cs

  pub declared_among : Name → Forest → Bool
  declared_among x ε = false
  declared_among x (t ⊳ ts) = declared_in x t || declared_among x ts

abbrev mutual
  -- whether a name is declared in a function or an arrow that calls `eval` directly, in itself or further in
  pub seen_by_eval : Name → Tree → Bool
  seen_by_eval x (node l ss cs) = (is_function l && (any_eval cs && declared_among x cs)) || eval_among x cs

  pub eval_among : Name → Forest → Bool
  eval_among x ε = false
  eval_among x (t ⊳ ts) = seen_by_eval x t || eval_among x ts

-- whole modules and scripts

abbrev pub is_export_of : Name → Tree → Bool
is_export_of x (node Module ss items) = is_exported x (exported items)
is_export_of x _ = false

-- used without being named
abbrev pub is_used_unnamed : Name → Tree → Bool
is_used_unnamed x t = is_export_of x t || (is_argument x t || seen_by_eval x t)

-- A name is free to go if its text isn't retained and it is neither used nor written; a function's own name doesn't
-- count inside its declaration.
abbrev pub free_to_go : List Text → Tree → Name → Bool
free_to_go retained t x = not (has_text x.text retained || (named_outside x t || is_used_unnamed x t))

-- a name that is declared, but neither retained nor read, but by functions of that name, which then never run: its plain
-- assignments may go
abbrev pub is_unread : List Text → Tree → Name → Bool
is_unread retained t x = declared_in x t && not (has_text x.text retained || (read_outside x t || is_used_unnamed x t))
