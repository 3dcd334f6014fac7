use Rattle.std.proofs.Common.{◌∙◌}
use Rattle.swc_ast.specs.Same.{same, same_label}
use Rattle.swc_ast.proofs.SameParts.{assign-same, both}
use Rattle.swc_ast.proofs.same_expressions.AssignExprCompare.is_same.Goals as goal

pub returns : goal.returns
unfolding same same_label
returns g c = both (both (both c.eq.ensures c.spans_agree.ensures) c.is_same.ensures) c.is_same-2.ensures ∙ assign-same g.E.Compare.tree c.args.spans c.args.self.now.op c.args.other.now.op c.args.self.now.span c.args.other.now.span c.args.self.now.left c.args.other.now.left (g.E.Compare.tree c.args.self.now.right.value) (g.E.Compare.tree c.args.other.now.right.value)
