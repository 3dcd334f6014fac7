-- How often the nodes of a tree declare a name, what of that a tree shows to the node around it, and what its scopes hold.
use Rattle.std.specs.Prelude.{ℕ, ◌+◌, Bool, if◌then◌else◌, List, [], ◌∷◌}
use Rattle.swc_ast.specs.declared.VarDeclKind.TheVariants.{Var, Let, Const}
use Rattle.swc_ast.specs.Tree.{Name, Label, Fn, Arrow, Method, FnDecl, ExportDefaultFn, ExportDefaultExpr, Import, ImportNamed, ImportDefault, ImportStar, Params, Body, Param, Block, For, Switch, CaseBody, Declarator, Module, Script, Tree, node, Forest, ε, ◌⊳◌}
use Rattle.swc_ast.specs.Scope.{name_or_default, default_name, vars, vars_all, param_names, specifier_names, import_names, case_statements}
use Rattle.swc_ast.specs.Meaning.{first_tree}
use Rattle.swc_ast.specs.Resolved.{params_of, body_of}
use Rattle.swc_ast.specs.Core.{times_in, list_names}
use Rattle.static_proofs.specs.Names.{names_of}

-- What a node itself declares: a name that its scope may declare only once, by `let`, `const`, a function or an import, or one of
-- a `var` or a parameter.
abbrev pub declares_by : Label → Bool → List Name
declares_by (Declarator Var x) b = if b then [] else x ∷ []
declares_by (Param x) b = if b then [] else x ∷ []
declares_by (Declarator Let x) b = if b then x ∷ [] else []
declares_by (Declarator Const x) b = if b then x ∷ [] else []
declares_by (FnDecl x) b = if b then x ∷ [] else []
declares_by (ExportDefaultFn o) b = if b then name_or_default o ∷ [] else []
declares_by ExportDefaultExpr b = if b then default_name ∷ [] else []
declares_by (ImportNamed x i) b = if b then x ∷ [] else []
declares_by (ImportDefault x) b = if b then x ∷ [] else []
declares_by (ImportStar x) b = if b then x ∷ [] else []
declares_by _ b = []

abbrev mutual
  -- how many nodes declare a name
  pub times : Bool → Name → Tree → ℕ
  times b x (node l ss cs) = times_in x (declares_by l b) + times_all b x cs

  pub times_all : Bool → Name → Forest → ℕ
  times_all b x ε = 0
  times_all b x (t ⊳ ts) = times b x t + times_all b x ts

-- what a part shows of `var`s and parameters to the node around it
abbrev pub shared_part : Label → Forest → List Name
shared_part Params cs = param_names cs
shared_part (Param x) cs = x ∷ []
shared_part Body cs = vars_all cs
shared_part _ cs = []

-- the same of other names
abbrev pub single_part : Label → Forest → List Name
single_part (Declarator Let x) cs = x ∷ []
single_part (Declarator Const x) cs = x ∷ []
single_part Body cs = list_names cs
single_part CaseBody cs = list_names cs
single_part (Import src) cs = specifier_names cs
single_part (ImportNamed x i) cs = x ∷ []
single_part (ImportDefault x) cs = x ∷ []
single_part (ImportStar x) cs = x ∷ []
single_part _ cs = []

-- how often a node shows a name

abbrev pub shared_shown : Name → Tree → ℕ
shared_shown x (node l ss cs) = times_in x (vars (node l ss cs)) + times_in x (shared_part l cs)

abbrev pub shared_shown_all : Name → Forest → ℕ
shared_shown_all x ε = 0
shared_shown_all x (t ⊳ ts) = shared_shown x t + shared_shown_all x ts

abbrev pub single_shown : Name → Tree → ℕ
single_shown x (node l ss cs) = times_in x (names_of (node l ss cs)) + times_in x (single_part l cs)

abbrev pub single_shown_all : Name → Forest → ℕ
single_shown_all x ε = 0
single_shown_all x (t ⊳ ts) = single_shown x t + single_shown_all x ts

-- how often the scope of a node declares a name

abbrev pub shared_function : Name → Forest → ℕ
shared_function x cs = times_in x (param_names (params_of cs)) + times_in x (vars_all (body_of cs))

abbrev pub shared_here : Name → Label → Forest → ℕ
shared_here x (Fn o) cs = shared_function x cs
shared_here x Arrow cs = shared_function x cs
shared_here x Method cs = shared_function x cs
shared_here x (FnDecl f) cs = shared_function x cs
shared_here x (ExportDefaultFn o) cs = shared_function x cs
shared_here x Module cs = times_in x (vars_all cs)
shared_here x Script cs = times_in x (vars_all cs)
shared_here x _ cs = 0

abbrev pub single_here : Name → Label → Forest → ℕ
single_here x (Fn o) cs = times_in x (list_names (body_of cs))
single_here x Arrow cs = times_in x (list_names (body_of cs))
single_here x Method cs = times_in x (list_names (body_of cs))
single_here x (FnDecl f) cs = times_in x (list_names (body_of cs))
single_here x (ExportDefaultFn o) cs = times_in x (list_names (body_of cs))
single_here x Block cs = times_in x (list_names cs)
single_here x For cs = times_in x (list_names (first_tree cs ⊳ ε))
single_here x (Switch ds) cs = times_in x (list_names (case_statements cs))
single_here x Module cs = times_in x (import_names cs) + times_in x (list_names cs)
single_here x Script cs = times_in x (list_names cs)
single_here x _ cs = 0

abbrev mutual
  -- how often the scopes of a tree do
  pub shared_held : Name → Tree → ℕ
  shared_held x (node l ss cs) = shared_here x l cs + shared_held_all x cs

  pub shared_held_all : Name → Forest → ℕ
  shared_held_all x ε = 0
  shared_held_all x (t ⊳ ts) = shared_held x t + shared_held_all x ts

abbrev mutual
  pub single_held : Name → Tree → ℕ
  single_held x (node l ss cs) = single_here x l cs + single_held_all x cs

  pub single_held_all : Name → Forest → ℕ
  single_held_all x ε = 0
  single_held_all x (t ⊳ ts) = single_held x t + single_held_all x ts
