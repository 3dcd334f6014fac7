use Rattle.std.proofs.Common.{refl, ◌∙◌}
use Rattle.swc_ast.specs.Same.{same, same_label}
use Rattle.swc_ast.proofs.SameParts.{update-same, both}
use Rattle.swc_ast.proofs.same_expressions.UpdateExprCompare.is_same.Goals as goal

pub returns : goal.returns
unfolding same same_label
returns g c = both (both (both c.eq.ensures refl) c.spans_agree.ensures) c.is_same.ensures ∙ update-same g.E.Compare.tree c.args.spans c.args.self.now.op c.args.other.now.op c.args.self.now.prefix c.args.other.now.prefix c.args.self.now.span c.args.other.now.span c.args.self.now.arg c.args.other.now.arg
