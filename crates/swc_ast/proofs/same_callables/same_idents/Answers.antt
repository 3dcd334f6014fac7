use Rattle.std.proofs.Common.{◌∙◌, ◌&&◌}
use Rattle.swc_ast.specs.Parts.{option_ident_name, option_ident_spans}
use Rattle.swc_ast.specs.Same.{same, same_label, same_option, same_spans}
use Rattle.swc_ast.specs.Tree.{same_name}
use Rattle.swc_ast.proofs.SameParts.{both, two-at}
use Rattle.swc_ast.proofs.same_callables.same_idents.Goals as goal

pub returns-in-Some-Some : goal.returns-in-Some-Some
unfolding same same_label
returns-in-Some-Some c = both (both c.eq.ensures c.eq-in-Some-Some.ensures) c.spans_agree.ensures ∙ two-at (λ o p. same_option same_name (option_ident_name o) (option_ident_name p) && same_spans c.args.spans (option_ident_spans o) (option_ident_spans p)) c.in-Some-Some.is-0 c.in-Some-Some.is-1

pub returns-in-None-None : goal.returns-in-None-None
unfolding same same_label
returns-in-None-None c = two-at (λ o p. same_option same_name (option_ident_name o) (option_ident_name p) && same_spans c.args.spans (option_ident_spans o) (option_ident_spans p)) c.in-None-None.is-0 c.in-None-None.is-1

pub returns-in_default : goal.returns-in_default
unfolding same same_label
returns-in_default c = two-at (λ o p. same_option same_name (option_ident_name o) (option_ident_name p) && same_spans c.args.spans (option_ident_spans o) (option_ident_spans p)) c.in_default.is-0 c.in_default.is-1

pub returns-in_default-2 : goal.returns-in_default-2
unfolding same same_label
returns-in_default-2 c = two-at (λ o p. same_option same_name (option_ident_name o) (option_ident_name p) && same_spans c.args.spans (option_ident_spans o) (option_ident_spans p)) c.in_default.is-0 c.in_default.is-1
