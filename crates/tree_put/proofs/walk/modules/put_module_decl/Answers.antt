use Rattle.tree_put.proofs.ModuleArms.{import_arm, export_arm, named_arm, default_expr_arm, default_fn_arm}
use Rattle.tree_put.proofs.walk.modules.put_module_decl.Goals as goal

pub returns-in-Import : goal.returns-in-Import
returns-in-Import g c = import_arm _ _ c.in-Import.is

pub returns-in_ok-put_decl-in-ExportDecl : goal.returns-in_ok-put_decl-in-ExportDecl
returns-in_ok-put_decl-in-ExportDecl g c = export_arm c.put_decl.new.d c.in-ExportDecl.is c.in_ok-put_decl-in-ExportDecl.ensures

pub returns-in_ok-put_specifiers-in-ExportNamed : goal.returns-in_ok-put_specifiers-in-ExportNamed
returns-in_ok-put_specifiers-in-ExportNamed g c = named_arm c.put_specifiers.new.xs c.in-ExportNamed.is c.in_ok-put_specifiers-in-ExportNamed.ensures

pub returns-in_ok-close-in-ExportDefaultDecl : goal.returns-in_ok-close-in-ExportDefaultDecl
returns-in_ok-close-in-ExportDefaultDecl g c = default_fn_arm c.put_boxed_function.new.n c.in-ExportDefaultDecl.is c.in_ok-open-in-ExportDefaultDecl.ensures c.in_ok-put_boxed_function-in-ExportDefaultDecl.ensures c.in_ok-close-in-ExportDefaultDecl.ensures

pub returns-in_ok-put_boxed-in-ExportDefaultExpr : goal.returns-in_ok-put_boxed-in-ExportDefaultExpr
returns-in_ok-put_boxed-in-ExportDefaultExpr g c = default_expr_arm c.put_boxed.new.e c.in-ExportDefaultExpr.is c.in_ok-put_boxed-in-ExportDefaultExpr.ensures
