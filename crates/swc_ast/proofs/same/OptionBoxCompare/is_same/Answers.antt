use Rattle.std.proofs.Common.{◌∙◌, []}
use Rattle.swc_ast.specs.Same.{same, same_label}
use Rattle.swc_ast.specs.Tree as tree
use Rattle.swc_ast.specs.Tree.{node}
use Rattle.swc_ast.specs.Parts.{optional_trees}
use Rattle.swc_ast.proofs.Joined.{joined-1}
use Rattle.swc_ast.proofs.SameParts.{two-at}
use Rattle.swc_ast.proofs.same.OptionBoxCompare.is_same.Goals as goal

pub returns-in-Some-Some : goal.returns-in-Some-Some
unfolding same same_label
returns-in-Some-Some g c = joined-1 c.is_same.ensures ∙ two-at (λ o p. same c.args.spans (node tree.Block [] (optional_trees g.T.Compare.tree o)) (node tree.Block [] (optional_trees g.T.Compare.tree p))) c.in-Some-Some.is-0 c.in-Some-Some.is-1

pub returns-in-None-None : goal.returns-in-None-None
unfolding same same_label
returns-in-None-None g c = two-at (λ o p. same c.args.spans (node tree.Block [] (optional_trees g.T.Compare.tree o)) (node tree.Block [] (optional_trees g.T.Compare.tree p))) c.in-None-None.is-0 c.in-None-None.is-1

pub returns-in_default : goal.returns-in_default
unfolding same same_label
returns-in_default g c = two-at (λ o p. same c.args.spans (node tree.Block [] (optional_trees g.T.Compare.tree o)) (node tree.Block [] (optional_trees g.T.Compare.tree p))) c.in_default.is-0 c.in_default.is-1

pub returns-in_default-2 : goal.returns-in_default-2
unfolding same same_label
returns-in_default-2 g c = two-at (λ o p. same c.args.spans (node tree.Block [] (optional_trees g.T.Compare.tree o)) (node tree.Block [] (optional_trees g.T.Compare.tree p))) c.in_default.is-0 c.in_default.is-1
