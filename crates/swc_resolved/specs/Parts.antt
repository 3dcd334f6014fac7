-- The names that some part of a tree gives to a scope.
use Rattle.std.specs.Prelude.{Bool, true, false, List, [], ◌∷◌, Option, Some, None}
use Rattle.swc_ast.specs.Tree as tree
use Rattle.swc_ast.specs.Tree.{Tree, node, Forest, ◌⊳◌}
use Rattle.swc_ast.specs.Scope.{vars, vars_all, declared, declared_by, declared_by_label, declarator_name, declarator_names, param_name, param_names, imported_name, specifier_names, import_names_of, import_names, body_statements, case_statements}
use Rattle.swc_ast.specs.Resolved.{first_names}
use Rattle.swc_ast.specs.declared.VarDeclKind.TheVariants.{Let, Const}
use Rattle.swc_resolved.specs.declared.names.Name.{Name}
use Rattle.swc_resolved.specs.declared.declared.Part.{Part}
use Rattle.swc_resolved.specs.declared.declared.Part.TheVariants as part
use Rattle.swc_resolved.specs.Names.{name}

-- a name, if any
abbrev pub optional : Option Name → List tree.Name
optional None = []
optional (Some x) = name x ∷ []

-- the names that a tree gives
abbrev pub tree_names : Part → Tree → List tree.Name
tree_names part.Vars t = vars t
tree_names part.Declarations t = first_names (declared_by t)
tree_names part.Declarators (node l ss cs) = declarator_name l
tree_names part.Params (node l ss cs) = param_name l
tree_names part.Imports (node l ss cs) = import_names_of l cs
tree_names part.Specifiers (node l ss cs) = imported_name l
tree_names part.Cases (node l ss cs) = first_names (declared (body_statements l cs))
tree_names part.CaseVars (node l ss cs) = vars_all (body_statements l cs)

-- the names that a list of trees gives
abbrev pub forest_names : Part → Forest → List tree.Name
forest_names part.Vars ts = vars_all ts
forest_names part.Declarations ts = first_names (declared ts)
forest_names part.Declarators ts = declarator_names ts
forest_names part.Params ts = param_names ts
forest_names part.Imports ts = import_names ts
forest_names part.Specifiers ts = specifier_names ts
forest_names part.Cases ts = first_names (declared (case_statements ts))
forest_names part.CaseVars ts = vars_all (case_statements ts)

-- the names that a declaration declares
abbrev pub label_names : tree.Label → Forest → List tree.Name
label_names l cs = first_names (declared_by_label l [] cs)

-- a declaration of `let` or `const`
abbrev pub is_lexical : tree.Label → Bool
is_lexical (tree.VarDecl Let) = true
is_lexical (tree.VarDecl Const) = true
is_lexical _ = false

abbrev pub is_import : tree.Label → Bool
is_import (tree.Import src) = true
is_import _ = false

abbrev pub is_case_body : tree.Label → Bool
is_case_body tree.CaseBody = true
is_case_body _ = false

abbrev pub is_export : tree.Label → Bool
is_export tree.ExportDecl = true
is_export _ = false

-- the declaration that an item of a list is, under `export` too
abbrev pub declaring : Tree → Tree
declaring (node tree.ExportDecl ss (t ⊳ ts)) = t
declaring t = t
