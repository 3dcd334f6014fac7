-- What an item of a module holds.
use Rattle.std.specs.Prelude.{Option, Some, None}
use Rattle.swc_ast.specs.declared.modules.ModuleDecl.{ModuleDecl}
use Rattle.swc_ast.specs.declared.modules.ModuleItem.{ModuleItem}
use Rattle.swc_ast.specs.declared.modules.ModuleItem.TheVariants as items
use Rattle.swc_ast.specs.declared.statements.Stmt.{Stmt}

-- the statement that an item is, if it is one
abbrev pub statement_of : ModuleItem → Option Stmt
statement_of (items.Stmt s) = Some s
statement_of (items.ModuleDecl d) = None

-- the module declaration that an item is, if it is one
abbrev pub declaration_of : ModuleItem → Option ModuleDecl
declaration_of (items.Stmt s) = None
declaration_of (items.ModuleDecl d) = Some d
