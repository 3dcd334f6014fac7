use Rattle.std.proofs.Common.{◌∙◌}
use Rattle.swc_ast.specs.Same.{same, same_label}
use Rattle.swc_ast.specs.Expressions.{target_tree}
use Rattle.swc_ast.proofs.SameParts.{name-member, member-name, two-at}
use Rattle.swc_ast.proofs.same_expressions.AssignTargetCompare.is_same.Goals as goal

pub returns-in-Ident-Ident : goal.returns-in-Ident-Ident
unfolding same same_label
returns-in-Ident-Ident g c = c.is_same.ensures ∙ two-at (λ o p. same c.args.spans (target_tree g.E.Compare.tree o) (target_tree g.E.Compare.tree p)) c.in-Ident-Ident.is-0 c.in-Ident-Ident.is-1

pub returns-in-Member-Member : goal.returns-in-Member-Member
unfolding same same_label
returns-in-Member-Member g c = c.is_same-in-Member-Member.ensures ∙ two-at (λ o p. same c.args.spans (target_tree g.E.Compare.tree o) (target_tree g.E.Compare.tree p)) c.in-Member-Member.is-0 c.in-Member-Member.is-1

pub returns-in_default : goal.returns-in_default
unfolding same same_label
returns-in_default g c = name-member g.E.Compare.tree _ c.in_default.field-0-0 _ _ _ ∙ two-at (λ o p. same c.args.spans (target_tree g.E.Compare.tree o) (target_tree g.E.Compare.tree p)) c.in_default.is-0 c.in_default.is-1

pub returns-in_default-2 : goal.returns-in_default-2
unfolding same same_label
returns-in_default-2 g c = member-name g.E.Compare.tree _ c.in_default.field-0-1 _ _ _ ∙ two-at (λ o p. same c.args.spans (target_tree g.E.Compare.tree o) (target_tree g.E.Compare.tree p)) c.in_default.is-0 c.in_default.is-1
