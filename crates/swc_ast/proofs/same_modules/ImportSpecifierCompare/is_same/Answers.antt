use Rattle.std.proofs.Common.{◌∙◌}
use Rattle.swc_ast.specs.Same.{same, same_label}
use Rattle.swc_ast.specs.Modules.{import_specifier_tree}
use Rattle.swc_ast.proofs.SameModules.{other_specifier-Named, other_specifier-Default, other_specifier-Namespace}
use Rattle.swc_ast.proofs.SameParts.{two-at}
use Rattle.swc_ast.proofs.same_modules.ImportSpecifierCompare.is_same.Goals as goal

pub returns-in-Named-Named : goal.returns-in-Named-Named
unfolding same same_label
returns-in-Named-Named c = c.is_same.ensures ∙ two-at (λ o p. same c.args.spans (import_specifier_tree o) (import_specifier_tree p)) c.in-Named-Named.is-0 c.in-Named-Named.is-1

pub returns-in-Default-Default : goal.returns-in-Default-Default
unfolding same same_label
returns-in-Default-Default c = c.is_same-in-Default-Default.ensures ∙ two-at (λ o p. same c.args.spans (import_specifier_tree o) (import_specifier_tree p)) c.in-Default-Default.is-0 c.in-Default-Default.is-1

pub returns-in-Namespace-Namespace : goal.returns-in-Namespace-Namespace
unfolding same same_label
returns-in-Namespace-Namespace c = c.is_same-in-Namespace-Namespace.ensures ∙ two-at (λ o p. same c.args.spans (import_specifier_tree o) (import_specifier_tree p)) c.in-Namespace-Namespace.is-0 c.in-Namespace-Namespace.is-1

pub returns-in_default : goal.returns-in_default
unfolding same same_label
returns-in_default c = other_specifier-Named _ _ _ _ c.in_default.is-0 c.in_default.not-Named-1

pub returns-in_default-2 : goal.returns-in_default-2
unfolding same same_label
returns-in_default-2 c = other_specifier-Default _ _ _ _ c.in_default.is-0 c.in_default.not-Default-1

pub returns-in_default-3 : goal.returns-in_default-3
unfolding same same_label
returns-in_default-3 c = other_specifier-Namespace _ _ _ _ c.in_default.is-0 c.in_default.not-Namespace-1
