use Rattle.std.proofs.Common.{◌∙◌}
use Rattle.swc_ast.specs.Same.{same, same_label}
use Rattle.swc_ast.proofs.SameParts.{array-same, both}
use Rattle.swc_ast.proofs.same_expressions.ArrayLitCompare.is_same.Goals as goal

pub returns : goal.returns
unfolding same same_label
returns g c = both c.spans_agree.ensures c.is_same.ensures ∙ array-same g.E.Compare.tree c.args.spans c.args.self.now.span c.args.other.now.span c.args.self.now.elems.items c.args.other.now.elems.items
