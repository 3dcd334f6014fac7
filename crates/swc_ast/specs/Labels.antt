-- Classes of labels.
use Rattle.std.specs.Prelude.{Bool, true, false}
use Rattle.swc_ast.specs.Tree.{Label, Read, Dot, Index, Params, Param, Body, Block, CaseBody, VarDecl, ExportDecl, Module, Script, expr, decl}

-- an expression
abbrev pub is_expression : Label → Bool
is_expression (expr e) = true
is_expression _ = false

-- a name that is read
abbrev pub is_name : Label → Bool
is_name (Read x) = true
is_name _ = false

-- a member or a name: where it is called, assigned, updated or deleted, it is part of the label of the node round it
abbrev pub is_member_or_name : Label → Bool
is_member_or_name (Read x) = true
is_member_or_name (Dot k) = true
is_member_or_name Index = true
is_member_or_name _ = false

-- the parameters of a function, one of them, and its body
abbrev pub is_params : Label → Bool
is_params Params = true
is_params _ = false

abbrev pub is_param : Label → Bool
is_param (Param x) = true
is_param _ = false

abbrev pub is_body : Label → Bool
is_body Body = true
is_body _ = false

-- a list of statements inside a module or a script
abbrev pub is_block : Label → Bool
is_block Block = true
is_block Body = true
is_block CaseBody = true
is_block _ = false

-- a module or a script
abbrev pub is_whole : Label → Bool
is_whole Module = true
is_whole Script = true
is_whole _ = false

-- a declaration of variables or of a function
abbrev pub is_declaration : Label → Bool
is_declaration (decl d) = true
is_declaration _ = false

-- a declaration of variables
abbrev pub is_var_declaration : Label → Bool
is_var_declaration (VarDecl kind) = true
is_var_declaration _ = false

-- a declaration that is exported
abbrev pub is_export_declaration : Label → Bool
is_export_declaration ExportDecl = true
is_export_declaration _ = false
