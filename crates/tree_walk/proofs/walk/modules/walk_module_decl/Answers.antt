use Rattle.std.proofs.Common.{refl}
use Rattle.tree_walk.proofs.ModuleArms.{import_arm, export_names_arm, export_arm, default_fn_arm, default_expr_arm}
use Rattle.tree_walk.proofs.walk.modules.walk_module_decl.Goals as goal

pub returns-in-Import : goal.returns-in-Import
returns-in-Import g c = import_arm _ c.in-Import.is

pub returns-in-ExportNamed : goal.returns-in-ExportNamed
returns-in-ExportNamed g c = export_names_arm _ c.in-ExportNamed.is

pub returns-in_ok-made-in-ExportDecl : goal.returns-in_ok-made-in-ExportDecl
returns-in_ok-made-in-ExportDecl g c = export_arm c.walk_decl.new.d c.in-ExportDecl.is c.in_ok-made-in-ExportDecl.ensures

pub returns-in_ok-made-in-ExportDefaultDecl : goal.returns-in_ok-made-in-ExportDefaultDecl
returns-in_ok-made-in-ExportDefaultDecl g c = default_fn_arm (record c.in-ExportDefaultDecl.n.decl { function = c.walk_boxed_function.new.n }) c.in-ExportDefaultDecl.is refl refl c.in_ok-made-in-ExportDefaultDecl.ensures

pub returns-in_ok-made-in-ExportDefaultExpr : goal.returns-in_ok-made-in-ExportDefaultExpr
returns-in_ok-made-in-ExportDefaultExpr g c = default_expr_arm c.walk_boxed.new.e c.in-ExportDefaultExpr.is c.in_ok-made-in-ExportDefaultExpr.ensures.0
