use Rattle.tree_put.proofs.ModuleArms.{decl_item, stmt_item}
use Rattle.tree_put.proofs.walk.modules.put_item.Goals as goal

pub returns-in_ok-put_module_decl-in-ModuleDecl : goal.returns-in_ok-put_module_decl-in-ModuleDecl
returns-in_ok-put_module_decl-in-ModuleDecl g c = decl_item c.put_module_decl.new.d c.in-ModuleDecl.is c.in_ok-put_module_decl-in-ModuleDecl.ensures

pub returns-in_ok-put_stmt-in-Stmt : goal.returns-in_ok-put_stmt-in-Stmt
returns-in_ok-put_stmt-in-Stmt g c = stmt_item c.put_stmt.new.s c.in-Stmt.is c.in_ok-put_stmt-in-Stmt.ensures
