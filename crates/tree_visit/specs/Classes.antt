-- The class of a label.
use Rattle.swc_ast.specs.Tree as tree
use Rattle.swc_ast.specs.declared.VarDeclKind.TheVariants.{Let, Const}
use Rattle.tree_visit.specs.declared.class.Class.{Class}
use Rattle.tree_visit.specs.declared.class.Class.TheVariants as class

abbrev pub label_class : tree.Label → Class
label_class tree.Block = class.List
label_class tree.Body = class.List
label_class tree.CaseBody = class.List
label_class tree.Module = class.List
label_class tree.Script = class.List
label_class tree.Throw = class.Stopper
label_class tree.Return = class.Stopper
label_class (tree.Break l) = class.Stopper
label_class (tree.Continue l) = class.Stopper
label_class (tree.FnDecl x) = class.FnDecl
label_class (tree.Import src) = class.ModuleItem
label_class tree.ExportDecl = class.ModuleItem
label_class tree.ExportNamed = class.ModuleItem
label_class (tree.ExportDefaultFn o) = class.ModuleItem
label_class tree.ExportDefaultExpr = class.ModuleItem
label_class (tree.VarDecl Let) = class.Lexical
label_class (tree.VarDecl Const) = class.Lexical
label_class (tree.BoolLit b) = class.Truth
label_class tree.Absent = class.Absent
label_class tree.While = class.While
label_class tree.For = class.For
label_class _ = class.Other
