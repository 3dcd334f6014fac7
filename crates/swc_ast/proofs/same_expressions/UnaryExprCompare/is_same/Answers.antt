use Rattle.std.proofs.Common.{◌∙◌}
use Rattle.swc_ast.specs.Same.{same, same_label}
use Rattle.swc_ast.proofs.SameParts.{unary-same, both}
use Rattle.swc_ast.proofs.same_expressions.UnaryExprCompare.is_same.Goals as goal

pub returns : goal.returns
unfolding same same_label
returns g c = both (both c.eq.ensures c.spans_agree.ensures) c.is_same.ensures ∙ unary-same c.args.spans c.args.self.now.op c.args.other.now.op c.args.self.now.span c.args.other.now.span (g.E.Compare.tree c.args.self.now.arg.value) (g.E.Compare.tree c.args.other.now.arg.value)
