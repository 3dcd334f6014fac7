use Rattle.std.proofs.Common.{refl}
use Rattle.tree_walk.specs.Walks.{closed}
use Rattle.tree_walk.proofs.Walked.{made_then}
use Rattle.tree_walk.proofs.ModuleArms.{decl_item, stmt_item}
use Rattle.tree_walk.proofs.walk.modules.walk_module_item.Goals as goal

pub returns-then-not-enters_item : goal.returns-then-not-enters_item
returns-then-not-enters_item g c = closed (c.if-not-enters_item.ensures refl)

pub returns-in_ok-left-in-ModuleDecl : goal.returns-in_ok-left-in-ModuleDecl
returns-in_ok-left-in-ModuleDecl g c = made_then _ _ (decl_item c.walk_module_decl.new.d c.in-ModuleDecl.is c.in_ok-inside-in-ModuleDecl.ensures) c.in_ok-left-in-ModuleDecl.ensures

pub returns-in_ok-made-in-Stmt : goal.returns-in_ok-made-in-Stmt
returns-in_ok-made-in-Stmt g c = stmt_item c.walk_stmt.new.s c.in-Stmt.is c.in_ok-made-in-Stmt.ensures
