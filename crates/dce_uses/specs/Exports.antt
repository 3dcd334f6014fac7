-- The names that a module exports.
use Rattle.std.specs.Prelude.{Bool, true, false, ◌||◌, List, [], ◌∷◌, ◌++◌, None}
use Rattle.swc_ast.specs.Tree.{Name, Label, VarDecl, FnDecl, ExportDecl, ExportNamed, ExportDefaultFn, ExportDefaultExpr, node, Forest, ε, ◌⊳◌}
use Rattle.swc_ast.specs.Scope.{option_name}
use Rattle.dce_uses.specs.declared.listed.Part.TheVariants as part
use Rattle.dce_uses.specs.Listed.{listed}

-- the names that a declaration exports
abbrev pub declaration_names : Label → Forest → List Name
declaration_names (VarDecl kind) ds = listed part.Declarators ds
declaration_names (FnDecl x) cs = x ∷ []
declaration_names _ cs = []

-- those of the first of some trees
abbrev pub first_names : Forest → List Name
first_names ε = []
first_names (node l ss cs ⊳ ts) = declaration_names l cs

-- the names that an item exports
abbrev pub item_names : Label → Forest → List Name
item_names ExportDecl cs = first_names cs
item_names ExportNamed cs = listed part.Specifiers cs
item_names (ExportDefaultFn o) cs = option_name o
item_names _ cs = []

-- the names that items export
abbrev pub exported_names : Forest → List Name
exported_names ε = []
exported_names (node l ss cs ⊳ ts) = item_names l cs ++ exported_names ts

-- a default export without a name
abbrev pub is_nameless_export : Label → Bool
is_nameless_export (ExportDefaultFn None) = true
is_nameless_export ExportDefaultExpr = true
is_nameless_export _ = false

-- whether items have one
abbrev pub any_nameless : Forest → Bool
any_nameless ε = false
any_nameless (node l ss cs ⊳ ts) = is_nameless_export l || any_nameless ts
