-- A module whose exported declarations are declarations with an export behind each, so that their names may become others.
use Rattle.std.specs.Prelude.{List, [], ◌∷◌, None}
use Rattle.swc_ast.specs.declared.Span.{Span}
use Rattle.swc_ast.specs.Tree.{Name, Label, VarDecl, FnDecl, ExportDecl, ExportNamed, ExportSpecifier, Module, Tree, node, Forest, ε, ◌⊳◌}
use Rattle.swc_ast.specs.Scope.{declarator_names}

-- specifiers that export names by their own texts
abbrev pub specifiers_for : List Span → List Name → Forest
specifiers_for ss [] = ε
specifiers_for ss (x ∷ xs) = node (ExportSpecifier x None) ss ε ⊳ specifiers_for ss xs

-- an item, in front of others
abbrev pub opened_item : Label → List Span → Forest → Forest → Forest
opened_item ExportDecl ss (node (VarDecl k) rs ds ⊳ ε) rest = node (VarDecl k) rs ds ⊳ node ExportNamed ss (specifiers_for ss (declarator_names ds)) ⊳ rest
opened_item ExportDecl ss (node (FnDecl x) rs cs ⊳ ε) rest = node (FnDecl x) rs cs ⊳ node ExportNamed ss (specifiers_for ss (x ∷ [])) ⊳ rest
opened_item l ss cs rest = node l ss cs ⊳ rest

abbrev pub opened_items : Forest → Forest
opened_items ε = ε
opened_items (node l ss cs ⊳ ts) = opened_item l ss cs (opened_items ts)

abbrev pub opened : Tree → Tree
opened (node Module ss items) = node Module ss (opened_items items)
opened t = t
