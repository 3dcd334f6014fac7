use Rattle.carry_pass.specs.Exports.{binds, values}
use Rattle.carry_pass.proofs.Exporting.{decl_arm, stmt_arm}
use Rattle.carry_pass.proofs.exports.Exports.rename_item.Goals as goal

pub returns-in_ok-rename_in-in-ModuleDecl : goal.returns-in_ok-rename_in-in-ModuleDecl
returns-in_ok-rename_in-in-ModuleDecl c = decl_arm (binds c.args.self.now) (values c.args.self.now) c.rename_in.new.n c.in-ModuleDecl.is c.in_ok-rename_in-in-ModuleDecl.ensures

pub returns-in-Stmt : goal.returns-in-Stmt
returns-in-Stmt c = stmt_arm (binds c.args.self.now) (values c.args.self.now) c.in-Stmt.is
