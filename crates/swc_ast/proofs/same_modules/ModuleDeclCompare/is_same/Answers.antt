use Rattle.std.proofs.Common.{◌∙◌}
use Rattle.swc_ast.specs.Same.{same, same_label}
use Rattle.swc_ast.specs.Modules.{module_decl_tree}
use Rattle.swc_ast.proofs.SameModules.{other_decl-Import, other_decl-ExportDecl, other_decl-ExportNamed, other_decl-ExportDefaultDecl, other_decl-ExportDefaultExpr}
use Rattle.swc_ast.proofs.SameParts.{two-at}
use Rattle.swc_ast.proofs.same_modules.ModuleDeclCompare.is_same.Goals as goal

pub returns-in-Import-Import : goal.returns-in-Import-Import
unfolding same same_label
returns-in-Import-Import c = c.is_same.ensures ∙ two-at (λ o p. same c.args.spans (module_decl_tree o) (module_decl_tree p)) c.in-Import-Import.is-0 c.in-Import-Import.is-1

pub returns-in-ExportDecl-ExportDecl : goal.returns-in-ExportDecl-ExportDecl
unfolding same same_label
returns-in-ExportDecl-ExportDecl c = c.is_same-in-ExportDecl-ExportDecl.ensures ∙ two-at (λ o p. same c.args.spans (module_decl_tree o) (module_decl_tree p)) c.in-ExportDecl-ExportDecl.is-0 c.in-ExportDecl-ExportDecl.is-1

pub returns-in-ExportNamed-ExportNamed : goal.returns-in-ExportNamed-ExportNamed
unfolding same same_label
returns-in-ExportNamed-ExportNamed c = c.is_same-in-ExportNamed-ExportNamed.ensures ∙ two-at (λ o p. same c.args.spans (module_decl_tree o) (module_decl_tree p)) c.in-ExportNamed-ExportNamed.is-0 c.in-ExportNamed-ExportNamed.is-1

pub returns-in-ExportDefaultDecl-ExportDefaultDecl : goal.returns-in-ExportDefaultDecl-ExportDefaultDecl
unfolding same same_label
returns-in-ExportDefaultDecl-ExportDefaultDecl c = c.is_same-in-ExportDefaultDecl-ExportDefaultDecl.ensures ∙ two-at (λ o p. same c.args.spans (module_decl_tree o) (module_decl_tree p)) c.in-ExportDefaultDecl-ExportDefaultDecl.is-0 c.in-ExportDefaultDecl-ExportDefaultDecl.is-1

pub returns-in-ExportDefaultExpr-ExportDefaultExpr : goal.returns-in-ExportDefaultExpr-ExportDefaultExpr
unfolding same same_label
returns-in-ExportDefaultExpr-ExportDefaultExpr c = c.is_same-in-ExportDefaultExpr-ExportDefaultExpr.ensures ∙ two-at (λ o p. same c.args.spans (module_decl_tree o) (module_decl_tree p)) c.in-ExportDefaultExpr-ExportDefaultExpr.is-0 c.in-ExportDefaultExpr-ExportDefaultExpr.is-1

pub returns-in_default : goal.returns-in_default
unfolding same same_label
returns-in_default c = other_decl-Import _ _ _ _ c.in_default.is-0 c.in_default.not-Import-1

pub returns-in_default-2 : goal.returns-in_default-2
unfolding same same_label
returns-in_default-2 c = other_decl-ExportDecl _ _ _ _ c.in_default.is-0 c.in_default.not-ExportDecl-1

pub returns-in_default-3 : goal.returns-in_default-3
unfolding same same_label
returns-in_default-3 c = other_decl-ExportNamed _ _ _ _ c.in_default.is-0 c.in_default.not-ExportNamed-1

pub returns-in_default-4 : goal.returns-in_default-4
unfolding same same_label
returns-in_default-4 c = other_decl-ExportDefaultDecl _ _ _ _ c.in_default.is-0 c.in_default.not-ExportDefaultDecl-1

pub returns-in_default-5 : goal.returns-in_default-5
unfolding same same_label
returns-in_default-5 c = other_decl-ExportDefaultExpr _ _ _ _ c.in_default.is-0 c.in_default.not-ExportDefaultExpr-1
