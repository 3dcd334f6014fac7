use Rattle.std.proofs.Common.{◌∙◌, ◌∷◌}
use Rattle.std.specs.Prelude.{Some}
use Rattle.swc_ast.specs.Same.{same, same_label}
use Rattle.swc_ast.specs.Tree as tree
use Rattle.swc_ast.specs.Tree.{node, ε, ◌⊳◌}
use Rattle.swc_ast.specs.Parts.{option_ident_name, option_ident_spans}
use Rattle.swc_ast.specs.Statements.{block_tree}
use Rattle.swc_ast.proofs.Joined.{joined-2, joined-3}
use Rattle.swc_ast.proofs.SameParts.{two-at, both}
use Rattle.swc_ast.proofs.same_statements.CatchClauseCompare.is_same.Goals as goal

pub returns-in-Some-Some : goal.returns-in-Some-Some
unfolding same same_label
returns-in-Some-Some g c = joined-3 (both c.eq.ensures c.eq-in-Some-Some.ensures) c.spans_agree.ensures c.is_same.ensures ∙ two-at (λ o p. same c.args.spans (node (tree.Try (Some (option_ident_name o))) (c.args.self.now.span ∷ option_ident_spans o) (block_tree g.S.Compare.tree c.args.self.now.body ⊳ ε)) (node (tree.Try (Some (option_ident_name p))) (c.args.other.now.span ∷ option_ident_spans p) (block_tree g.S.Compare.tree c.args.other.now.body ⊳ ε))) c.in-Some-Some.is-0 c.in-Some-Some.is-1

pub returns-in-None-None : goal.returns-in-None-None
unfolding same same_label
returns-in-None-None g c = joined-2 c.spans_agree-in-None-None.ensures c.is_same-in-None-None.ensures ∙ two-at (λ o p. same c.args.spans (node (tree.Try (Some (option_ident_name o))) (c.args.self.now.span ∷ option_ident_spans o) (block_tree g.S.Compare.tree c.args.self.now.body ⊳ ε)) (node (tree.Try (Some (option_ident_name p))) (c.args.other.now.span ∷ option_ident_spans p) (block_tree g.S.Compare.tree c.args.other.now.body ⊳ ε))) c.in-None-None.is-0 c.in-None-None.is-1

pub returns-in_default : goal.returns-in_default
unfolding same same_label
returns-in_default g c = two-at (λ o p. same c.args.spans (node (tree.Try (Some (option_ident_name o))) (c.args.self.now.span ∷ option_ident_spans o) (block_tree g.S.Compare.tree c.args.self.now.body ⊳ ε)) (node (tree.Try (Some (option_ident_name p))) (c.args.other.now.span ∷ option_ident_spans p) (block_tree g.S.Compare.tree c.args.other.now.body ⊳ ε))) c.in_default.is-0 c.in_default.is-1

pub returns-in_default-2 : goal.returns-in_default-2
unfolding same same_label
returns-in_default-2 g c = two-at (λ o p. same c.args.spans (node (tree.Try (Some (option_ident_name o))) (c.args.self.now.span ∷ option_ident_spans o) (block_tree g.S.Compare.tree c.args.self.now.body ⊳ ε)) (node (tree.Try (Some (option_ident_name p))) (c.args.other.now.span ∷ option_ident_spans p) (block_tree g.S.Compare.tree c.args.other.now.body ⊳ ε))) c.in_default.is-0 c.in_default.is-1
