use Rattle.std.proofs.Common.{◌∙◌}
use Rattle.swc_ast.specs.Same.{same, same_label}
use Rattle.swc_ast.specs.Nodes.{key_of_member}
use Rattle.swc_ast.proofs.SameParts.{two-at}
use Rattle.swc_ast.proofs.same_expressions.MemberPropCompare.is_same.Goals as goal

pub returns-in-Ident-Ident : goal.returns-in-Ident-Ident
unfolding same same_label
returns-in-Ident-Ident g c = c.is_same.ensures ∙ two-at (λ o p. same c.args.spans (key_of_member g.E.Compare.tree o) (key_of_member g.E.Compare.tree p)) c.in-Ident-Ident.is-0 c.in-Ident-Ident.is-1

pub returns-in-Computed-Computed : goal.returns-in-Computed-Computed
unfolding same same_label
returns-in-Computed-Computed g c = c.is_same-in-Computed-Computed.ensures ∙ two-at (λ o p. same c.args.spans (key_of_member g.E.Compare.tree o) (key_of_member g.E.Compare.tree p)) c.in-Computed-Computed.is-0 c.in-Computed-Computed.is-1

pub returns-in_default : goal.returns-in_default
unfolding same same_label
returns-in_default g c = two-at (λ o p. same c.args.spans (key_of_member g.E.Compare.tree o) (key_of_member g.E.Compare.tree p)) c.in_default.is-0 c.in_default.is-1

pub returns-in_default-2 : goal.returns-in_default-2
unfolding same same_label
returns-in_default-2 g c = two-at (λ o p. same c.args.spans (key_of_member g.E.Compare.tree o) (key_of_member g.E.Compare.tree p)) c.in_default.is-0 c.in_default.is-1
