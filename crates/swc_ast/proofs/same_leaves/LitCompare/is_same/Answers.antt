use Rattle.std.proofs.Common.{◌∙◌}
use Rattle.swc_ast.specs.Same.{same, same_label}
use Rattle.swc_ast.specs.Parts.{lit_tree}
use Rattle.swc_ast.proofs.SameParts.{two-at, other_lit-Str, other_lit-Bool, other_lit-Null, other_lit-Num}
use Rattle.swc_ast.proofs.same_leaves.LitCompare.is_same.Goals as goal

pub returns-in-Str-Str : goal.returns-in-Str-Str
unfolding same same_label
returns-in-Str-Str c = c.is_same.ensures ∙ two-at (λ o p. same c.args.spans (lit_tree o) (lit_tree p)) c.in-Str-Str.is-0 c.in-Str-Str.is-1

pub returns-in-Bool-Bool : goal.returns-in-Bool-Bool
unfolding same same_label
returns-in-Bool-Bool c = c.is_same-in-Bool-Bool.ensures ∙ two-at (λ o p. same c.args.spans (lit_tree o) (lit_tree p)) c.in-Bool-Bool.is-0 c.in-Bool-Bool.is-1

pub returns-in-Null-Null : goal.returns-in-Null-Null
unfolding same same_label
returns-in-Null-Null c = c.is_same-in-Null-Null.ensures ∙ two-at (λ o p. same c.args.spans (lit_tree o) (lit_tree p)) c.in-Null-Null.is-0 c.in-Null-Null.is-1

pub returns-in-Num-Num : goal.returns-in-Num-Num
unfolding same same_label
returns-in-Num-Num c = c.is_same-in-Num-Num.ensures ∙ two-at (λ o p. same c.args.spans (lit_tree o) (lit_tree p)) c.in-Num-Num.is-0 c.in-Num-Num.is-1

pub returns-in_default : goal.returns-in_default
unfolding same same_label
returns-in_default c = other_lit-Str _ _ _ _ c.in_default.is-0 c.in_default.not-Str-1

pub returns-in_default-2 : goal.returns-in_default-2
unfolding same same_label
returns-in_default-2 c = other_lit-Bool _ _ _ _ c.in_default.is-0 c.in_default.not-Bool-1

pub returns-in_default-3 : goal.returns-in_default-3
unfolding same same_label
returns-in_default-3 c = other_lit-Null _ _ _ _ c.in_default.is-0 c.in_default.not-Null-1

pub returns-in_default-4 : goal.returns-in_default-4
unfolding same same_label
returns-in_default-4 c = other_lit-Num _ _ _ _ c.in_default.is-0 c.in_default.not-Num-1
