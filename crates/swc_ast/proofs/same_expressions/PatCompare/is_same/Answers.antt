use Rattle.std.proofs.Common.{◌∙◌}
use Rattle.swc_ast.specs.Same.{same, same_label}
use Rattle.swc_ast.specs.Expressions.{param_tree}
use Rattle.swc_ast.proofs.Truths.{never-here}
use Rattle.swc_ast.proofs.SameParts.{two-at}
use Rattle.swc_ast.proofs.same_expressions.PatCompare.is_same.Goals as goal

pub returns-in-Ident-Ident : goal.returns-in-Ident-Ident
unfolding same same_label
returns-in-Ident-Ident g c = c.is_same.ensures ∙ two-at (λ o p. same c.args.spans (param_tree g.E.Compare.tree o) (param_tree g.E.Compare.tree p)) c.in-Ident-Ident.is-0 c.in-Ident-Ident.is-1

pub returns-in-Assign-Assign : goal.returns-in-Assign-Assign
unfolding same same_label
returns-in-Assign-Assign g c = c.is_same-in-Assign-Assign.ensures ∙ two-at (λ o p. same c.args.spans (param_tree g.E.Compare.tree o) (param_tree g.E.Compare.tree p)) c.in-Assign-Assign.is-0 c.in-Assign-Assign.is-1

pub returns-in_default : goal.returns-in_default
unfolding same same_label
returns-in_default g c = never-here _ _ ∙ two-at (λ o p. same c.args.spans (param_tree g.E.Compare.tree o) (param_tree g.E.Compare.tree p)) c.in_default.is-0 c.in_default.is-1

pub returns-in_default-2 : goal.returns-in_default-2
unfolding same same_label
returns-in_default-2 g c = never-here _ _ ∙ two-at (λ o p. same c.args.spans (param_tree g.E.Compare.tree o) (param_tree g.E.Compare.tree p)) c.in_default.is-0 c.in_default.is-1
