-- What stays of statements that go: their `var` names, each once and in order, in one declaration without first values. In a
-- module the names of `let` and `const` that an export names stay with them.
use Rattle.std.specs.Prelude.{Bool, if◌then◌else◌, List, [], ◌∷◌, ◌++◌}
use Rattle.swc_ast.specs.declared.Span.{Span}
use Rattle.swc_ast.specs.declared.VarDeclKind.TheVariants.{Var}
use Rattle.swc_ast.specs.Tree.{Name, VarDecl, Declarator, Tree, node, Forest, ε, ◌⊳◌}
use Rattle.swc_ast.specs.Scope.{has_name, declarator_names, vars, vars_all}
use Rattle.static_proofs.specs.Shaped.{is_lexical}

-- names, each where it stands first, without those that were seen
abbrev pub each_once : List Name → List Name → List Name
each_once seen [] = []
each_once seen (x ∷ xs) = if has_name x seen then each_once seen xs else x ∷ each_once (x ∷ seen) xs

-- the names among some
abbrev pub those : (Name → Bool) → List Name → List Name
those kept [] = []
those kept (x ∷ xs) = if kept x then x ∷ those kept xs else those kept xs

-- the names of a statement that stay where it goes
abbrev pub names_left : (Name → Bool) → Tree → List Name
names_left kept (node (VarDecl k) ss ds) = if is_lexical k then those kept (declarator_names ds) else vars (node (VarDecl k) ss ds)
names_left kept t = vars t

-- the same of several
abbrev pub all_names_left : (Name → Bool) → Forest → List Name
all_names_left kept ε = []
all_names_left kept (t ⊳ ts) = names_left kept t ++ all_names_left kept ts

-- declarators without first values
pub data Unset : List Name → Forest → Type 0 where
  no_more : Unset [] ε
  one_more : (x : Name) (ss : List Span) {xs : List Name} {ds : Forest} → Unset xs ds → Unset (x ∷ xs) (node (Declarator Var x) ss ε ⊳ ds)

-- a declaration of some names, if there are any
pub data Declares : List Name → Forest → Type 0 where
  none_declared : Declares [] ε
  some_declared : (ss : List Span) {x : Name} {xs : List Name} {ds : Forest} → Unset (x ∷ xs) ds → Declares (x ∷ xs) (node (VarDecl Var) ss ds ⊳ ε)

-- what is left of statements that go, with the names that have to be kept
abbrev pub NamesOf : (Name → Bool) → Forest → Forest → Type 0
NamesOf kept ts vs = Declares (each_once [] (all_names_left kept ts)) vs

-- what is left of statements that go in a place where nothing else is kept
abbrev pub VarsOf : Forest → Forest → Type 0
VarsOf ts vs = Declares (each_once [] (vars_all ts)) vs
