use Rattle.std.proofs.Common.{◌∙◌}
use Rattle.swc_ast.specs.Same.{same, same_label}
use Rattle.swc_ast.proofs.SameParts.{member-same, both}
use Rattle.swc_ast.proofs.same_expressions.MemberExprCompare.is_same.Goals as goal

pub returns : goal.returns
unfolding same same_label
returns g c = both (both c.spans_agree.ensures c.is_same.ensures) c.is_same-2.ensures ∙ member-same g.E.Compare.tree c.args.spans c.args.self.now.span c.args.other.now.span c.args.self.now.obj.value c.args.other.now.obj.value c.args.self.now.prop c.args.other.now.prop
