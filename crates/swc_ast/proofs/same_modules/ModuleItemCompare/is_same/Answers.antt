use Rattle.std.proofs.Common.{◌∙◌}
use Rattle.swc_ast.specs.Same.{same, same_label}
use Rattle.swc_ast.specs.Modules.{item_tree}
use Rattle.swc_ast.proofs.SameModules.{decl-stmt, stmt-decl}
use Rattle.swc_ast.proofs.SameParts.{two-at}
use Rattle.swc_ast.proofs.same_modules.ModuleItemCompare.is_same.Goals as goal

pub returns-in-ModuleDecl-ModuleDecl : goal.returns-in-ModuleDecl-ModuleDecl
unfolding same same_label
returns-in-ModuleDecl-ModuleDecl c = c.is_same.ensures ∙ two-at (λ o p. same c.args.spans (item_tree o) (item_tree p)) c.in-ModuleDecl-ModuleDecl.is-0 c.in-ModuleDecl-ModuleDecl.is-1

pub returns-in-Stmt-Stmt : goal.returns-in-Stmt-Stmt
unfolding same same_label
returns-in-Stmt-Stmt c = c.is_same-in-Stmt-Stmt.ensures ∙ two-at (λ o p. same c.args.spans (item_tree o) (item_tree p)) c.in-Stmt-Stmt.is-0 c.in-Stmt-Stmt.is-1

pub returns-in_default : goal.returns-in_default
unfolding same same_label
returns-in_default c = decl-stmt _ _ _ ∙ two-at (λ o p. same c.args.spans (item_tree o) (item_tree p)) c.in_default.is-0 c.in_default.is-1

pub returns-in_default-2 : goal.returns-in_default-2
unfolding same same_label
returns-in_default-2 c = stmt-decl _ _ _ ∙ two-at (λ o p. same c.args.spans (item_tree o) (item_tree p)) c.in_default.is-0 c.in_default.is-1
