-- What is asked of a tree inside scopes: that it fits, and that no `var` in it has a name that these scopes declare.
use Rattle.std.specs.Prelude.{Bool, true, false, not, ◌≡◌, ◌&&◌, ◌||◌, if◌then◌else◌, List, [], ◌∷◌}
use Rattle.swc_ast.specs.Tree as tree
use Rattle.swc_ast.specs.Tree.{Name, Label, Tree, node, Forest, ε, ◌⊳◌}
use Rattle.swc_ast.specs.Core.{none_in, fits, fits_all}
use Rattle.swc_ast.specs.Scope.{has_name, vars, vars_all, case_statements}
use Rattle.swc_resolved.specs.Names.{names}
use Rattle.swc_resolved.specs.Scopes.{own_names}
use Rattle.core_trees.specs.declared.declared.Declared.{Declared}

-- the names in a set
abbrev pub members : Declared → List Name
members s = names s.names.keys

-- a name is declared
abbrev pub declares : Declared → Name → Bool
declares s = λ x. has_name x (members s)

-- the same with some names more, or without some
abbrev pub with_names : List Name → (Name → Bool) → Name → Bool
with_names ns f = λ x. f x || has_name x ns

abbrev pub without : List Name → (Name → Bool) → Name → Bool
without ns f = λ x. f x && not (has_name x ns)

-- no name of a list is declared
abbrev pub undeclared : (Name → Bool) → List Name → Bool
undeclared f [] = true
undeclared f (x ∷ xs) = not (f x) && undeclared f xs

-- a tree inside scopes, by the names that they declare
abbrev pub fits_inside : (Name → Bool) → Tree → Bool
fits_inside f t = fits t && undeclared f (vars t)

abbrev pub all_inside : (Name → Bool) → Forest → Bool
all_inside f ts = fits_all ts && undeclared f (vars_all ts)

-- a node that opens a scope inside a body
abbrev pub opens_inner : Label → Bool
opens_inner tree.Block = true
opens_inner tree.For = true
opens_inner (tree.Switch ds) = true
opens_inner (tree.Try o) = true
opens_inner _ = false

abbrev pub is_switch : Label → Bool
is_switch (tree.Switch ds) = true
is_switch _ = false

-- no `var` inside a scope of a body has a name that the scope declares; a `switch` declares names for the bodies of its cases alone
abbrev pub vars_apart : Label → Forest → Bool
vars_apart l cs = none_in (own_names l cs) (if is_switch l then vars_all (case_statements cs) else vars_all cs)

-- the body of a case, or else none
abbrev pub is_asked : Bool → Label → Bool
is_asked bodies tree.CaseBody = bodies
is_asked bodies _ = not bodies

-- a tree inside scopes, of the bodies of cases alone, or of all but those
abbrev pub some_fit : Bool → (Name → Bool) → Tree → Bool
some_fit bodies f (node l ss cs) = if is_asked bodies l then fits_inside f (node l ss cs) else true

abbrev pub some_inside : Bool → (Name → Bool) → Forest → Bool
some_inside bodies f ε = true
some_inside bodies f (t ⊳ ts) = some_fit bodies f t && some_inside bodies f ts

-- Whether all is as it has to be; and if so, the same names are declared as before.
abbrev pub Tells : Bool → Bool → (Name → Bool) → (Name → Bool) → Type 0
Tells b all old new = (b ≡ all) × (b ≡ true → new ≡ old)
