use Rattle.std.proofs.Common.{◌∙◌}
use Rattle.swc_ast.specs.Same.{same, same_label}
use Rattle.swc_ast.specs.Expressions.{key_tree}
use Rattle.swc_ast.proofs.SameParts.{other_key-Ident, other_key-Str, other_key-Num, other_key-Computed, two-at}
use Rattle.swc_ast.proofs.same_expressions.PropNameCompare.is_same.Goals as goal

pub returns-in-Ident-Ident : goal.returns-in-Ident-Ident
unfolding same same_label
returns-in-Ident-Ident g c = c.is_same.ensures ∙ two-at (λ o p. same c.args.spans (key_tree g.E.Compare.tree o) (key_tree g.E.Compare.tree p)) c.in-Ident-Ident.is-0 c.in-Ident-Ident.is-1

pub returns-in-Str-Str : goal.returns-in-Str-Str
unfolding same same_label
returns-in-Str-Str g c = c.is_same-in-Str-Str.ensures ∙ two-at (λ o p. same c.args.spans (key_tree g.E.Compare.tree o) (key_tree g.E.Compare.tree p)) c.in-Str-Str.is-0 c.in-Str-Str.is-1

pub returns-in-Num-Num : goal.returns-in-Num-Num
unfolding same same_label
returns-in-Num-Num g c = c.is_same-in-Num-Num.ensures ∙ two-at (λ o p. same c.args.spans (key_tree g.E.Compare.tree o) (key_tree g.E.Compare.tree p)) c.in-Num-Num.is-0 c.in-Num-Num.is-1

pub returns-in-Computed-Computed : goal.returns-in-Computed-Computed
unfolding same same_label
returns-in-Computed-Computed g c = c.is_same-in-Computed-Computed.ensures ∙ two-at (λ o p. same c.args.spans (key_tree g.E.Compare.tree o) (key_tree g.E.Compare.tree p)) c.in-Computed-Computed.is-0 c.in-Computed-Computed.is-1

pub returns-in_default : goal.returns-in_default
unfolding same same_label
returns-in_default g c = other_key-Ident _ _ _ _ _ c.in_default.is-0 c.in_default.not-Ident-1

pub returns-in_default-2 : goal.returns-in_default-2
unfolding same same_label
returns-in_default-2 g c = other_key-Str _ _ _ _ _ c.in_default.is-0 c.in_default.not-Str-1

pub returns-in_default-3 : goal.returns-in_default-3
unfolding same same_label
returns-in_default-3 g c = other_key-Num _ _ _ _ _ c.in_default.is-0 c.in_default.not-Num-1

pub returns-in_default-4 : goal.returns-in_default-4
unfolding same same_label
returns-in_default-4 g c = other_key-Computed _ _ _ _ _ c.in_default.is-0 c.in_default.not-Computed-1
