-- Trees whose nodes stand where the views of the syntax tree put them: a part of a function, a declaration, an import or a
-- `switch` stands below the node whose part it is, and what declares a name or holds a `var` stands among statements.
use Rattle.std.specs.Prelude.{◌≡◌, Bool, true, false, ◌&&◌, ◌||◌, List, [], ◌∷◌}
use Rattle.swc_ast.specs.Labels.{is_declaration, is_params, is_body, is_param}
use Rattle.swc_ast.specs.declared.VarDeclKind.{VarDeclKind}
use Rattle.swc_ast.specs.declared.VarDeclKind.TheVariants.{Var, Let, Const}
use Rattle.swc_ast.specs.Tree.{Label, Method, Fn, Arrow, Params, Body, Block, If, While, DoWhile, For, Labeled, Switch, CaseBody, Try, VarDecl, Declarator, FnDecl, Module, Script, Import, ImportNamed, ImportDefault, ImportStar, ExportDecl, ExportDefaultFn, ExportDefaultExpr, Tree, node, Forest, ε, ◌⊳◌, expr, prop, simple, holder, Absent, ExportNamed, ExportSpecifier}

-- a node that shows no name to the node around it: an expression, or a statement that holds none and declares nothing
abbrev pub is_inner : Label → Bool
is_inner (expr e) = true
is_inner (prop p) = true
is_inner (simple s) = true
is_inner Absent = true
is_inner ExportNamed = true
is_inner (ExportSpecifier x i) = true
is_inner _ = false

-- a statement that holds statements, and declares nothing by itself
abbrev pub is_holder : Label → Bool
is_holder (holder h) = true
is_holder _ = false

-- what may stand where a statement may
abbrev pub is_statement : Label → Bool
is_statement l = is_inner l || (is_holder l || is_declaration l)

-- what may stand as an item of a module
abbrev pub is_whole_item : Label → Bool
is_whole_item (Import src) = true
is_whole_item ExportDecl = true
is_whole_item (ExportDefaultFn o) = true
is_whole_item ExportDefaultExpr = true
is_whole_item l = is_statement l

abbrev pub is_block_or_inner : Label → Bool
is_block_or_inner Block = true
is_block_or_inner l = is_inner l

abbrev pub is_case_or_inner : Label → Bool
is_case_or_inner CaseBody = true
is_case_or_inner l = is_inner l

-- the first part of a `for`
abbrev pub is_head : Label → Bool
is_head (VarDecl kind) = true
is_head l = is_inner l

-- a declarator of a declaration of this kind
abbrev pub is_declarator_of : VarDeclKind → Label → Bool
is_declarator_of Var (Declarator Var x) = true
is_declarator_of Let (Declarator Let x) = true
is_declarator_of Const (Declarator Const x) = true
is_declarator_of _ _ = false

-- a declaration of `let` or `const`
abbrev pub is_lexical : VarDeclKind → Bool
is_lexical Var = false
is_lexical Let = true
is_lexical Const = true

abbrev pub is_specifier : Label → Bool
is_specifier (ImportNamed x i) = true
is_specifier (ImportDefault x) = true
is_specifier (ImportStar x) = true
is_specifier _ = false

abbrev pub is_body_or_inner : Label → Bool
is_body_or_inner Body = true
is_body_or_inner l = is_inner l

-- the labels of trees
abbrev pub labels_of : Forest → List Label
labels_of ε = []
labels_of (node l ss cs ⊳ ts) = l ∷ labels_of ts

-- whether all labels are some
abbrev pub all_labels : (Label → Bool) → List Label → Bool
all_labels p [] = true
all_labels p (l ∷ ls) = p l && all_labels p ls

-- parameters and a body
abbrev pub are_parts : (Label → Bool) → List Label → Bool
are_parts body (p ∷ b ∷ []) = is_params p && body b
are_parts body _ = false

-- a key in front of parameters and a body
abbrev pub are_method_parts : List Label → Bool
are_method_parts (k ∷ ls) = is_inner k && are_parts is_body ls
are_method_parts [] = false

-- what an `export` stands in front of
abbrev pub is_one_declaration : List Label → Bool
is_one_declaration (l ∷ []) = is_declaration l
is_one_declaration _ = false

-- the first part of a `for`, its test and its update, and its body
abbrev pub are_loop_parts : List Label → Bool
are_loop_parts (i ∷ t ∷ u ∷ b ∷ []) = is_head i && (is_inner t && (is_inner u && is_statement b))
are_loop_parts _ = false

-- the labels of a node's children are such as may stand there
abbrev pub holds : Label → List Label → Bool
holds Block ls = all_labels is_statement ls
holds Body ls = all_labels is_statement ls
holds CaseBody ls = all_labels is_statement ls
holds Script ls = all_labels is_statement ls
holds Module ls = all_labels is_whole_item ls
holds If ls = all_labels is_statement ls
holds While ls = all_labels is_statement ls
holds DoWhile ls = all_labels is_statement ls
holds (Labeled l) ls = all_labels is_statement ls
holds For ls = are_loop_parts ls
holds (Switch ds) ls = all_labels is_case_or_inner ls
holds (Try o) ls = all_labels is_block_or_inner ls
holds (VarDecl kind) ls = all_labels (is_declarator_of kind) ls
holds (Fn o) ls = are_parts is_body ls
holds (FnDecl x) ls = are_parts is_body ls
holds (ExportDefaultFn o) ls = are_parts is_body ls
holds Arrow ls = are_parts is_body_or_inner ls
holds Method ls = are_method_parts ls
holds Params ls = all_labels is_param ls
holds (Import src) ls = all_labels is_specifier ls
holds ExportDecl ls = is_one_declaration ls
holds _ ls = all_labels is_inner ls

abbrev mutual
  pub is_shaped : Tree → Bool
  is_shaped (node l ss cs) = holds l (labels_of cs) && are_shaped cs

  pub are_shaped : Forest → Bool
  are_shaped ε = true
  are_shaped (t ⊳ ts) = is_shaped t && are_shaped ts

-- a tree whose nodes all stand where they may
pub record IsShaped (t : Tree) : Type 0 where
  pub shaped : is_shaped t ≡ true
