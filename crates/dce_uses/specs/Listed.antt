-- The names of lists.
use Rattle.std.specs.Prelude.{List, [], ◌∷◌, ◌++◌}
use Rattle.swc_ast.specs.Tree.{Name, Label, ExportSpecifier, node, Forest, ε, ◌⊳◌}
use Rattle.swc_ast.specs.Scope.{param_name, declarator_name}
use Rattle.dce_uses.specs.declared.listed.Part.{Part}
use Rattle.dce_uses.specs.declared.listed.Part.TheVariants as part

-- the local name of a specifier of an export
abbrev pub specifier_name : Label → List Name
specifier_name (ExportSpecifier x o) = x ∷ []
specifier_name _ = []

-- the name of a node of a list
abbrev pub listed_name : Part → Label → List Name
listed_name part.Params l = param_name l
listed_name part.Declarators l = declarator_name l
listed_name part.Specifiers l = specifier_name l

-- the names of a list
abbrev pub listed : Part → Forest → List Name
listed p ε = []
listed p (node l ss cs ⊳ ts) = listed_name p l ++ listed p ts
