use Rattle.std.proofs.Common.{◌∙◌, ◌∷◌}
use Rattle.swc_ast.specs.Same.{same, same_label}
use Rattle.swc_ast.specs.Tree as tree
use Rattle.swc_ast.specs.Tree.{node, ε}
use Rattle.swc_ast.specs.Parts.{option_word_text, option_word_spans}
use Rattle.swc_ast.proofs.Joined.{joined-1, joined-2}
use Rattle.swc_ast.proofs.SameParts.{two-at}
use Rattle.swc_ast.proofs.same_leaves.BreakStmtCompare.is_same.Goals as goal

pub returns-in-Some-Some : goal.returns-in-Some-Some
unfolding same same_label
returns-in-Some-Some c = joined-2 c.eq.ensures c.spans_agree.ensures ∙ two-at (λ o p. same c.args.spans (node (tree.Break (option_word_text o)) (c.args.self.now.span ∷ option_word_spans o) ε) (node (tree.Break (option_word_text p)) (c.args.other.now.span ∷ option_word_spans p) ε)) c.in-Some-Some.is-0 c.in-Some-Some.is-1

pub returns-in-None-None : goal.returns-in-None-None
unfolding same same_label
returns-in-None-None c = joined-1 c.spans_agree-in-None-None.ensures ∙ two-at (λ o p. same c.args.spans (node (tree.Break (option_word_text o)) (c.args.self.now.span ∷ option_word_spans o) ε) (node (tree.Break (option_word_text p)) (c.args.other.now.span ∷ option_word_spans p) ε)) c.in-None-None.is-0 c.in-None-None.is-1

pub returns-in_default : goal.returns-in_default
unfolding same same_label
returns-in_default c = two-at (λ o p. same c.args.spans (node (tree.Break (option_word_text o)) (c.args.self.now.span ∷ option_word_spans o) ε) (node (tree.Break (option_word_text p)) (c.args.other.now.span ∷ option_word_spans p) ε)) c.in_default.is-0 c.in_default.is-1

pub returns-in_default-2 : goal.returns-in_default-2
unfolding same same_label
returns-in_default-2 c = two-at (λ o p. same c.args.spans (node (tree.Break (option_word_text o)) (c.args.self.now.span ∷ option_word_spans o) ε) (node (tree.Break (option_word_text p)) (c.args.other.now.span ∷ option_word_spans p) ε)) c.in_default.is-0 c.in_default.is-1
