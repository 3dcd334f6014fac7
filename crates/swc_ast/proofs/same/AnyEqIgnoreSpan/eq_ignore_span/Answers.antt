use Rattle.std.proofs.Common.{sym, ◌∙◌}
use Rattle.swc_ast.specs.Same.{same, same_label}
use Rattle.swc_ast.specs.SameLaws.{same-bare, bare-same}
use Rattle.swc_ast.proofs.same.AnyEqIgnoreSpan.eq_ignore_span.Goals as goal

pub returns : goal.returns
unfolding same same_label
returns g c = record { up_to_spans = (λ h. same-bare _ _ (sym c.is_same.ensures ∙ h), λ e. c.is_same.ensures ∙ bare-same _ _ e) }
