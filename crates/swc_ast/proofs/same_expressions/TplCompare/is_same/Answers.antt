use Rattle.std.proofs.Common.{◌∙◌}
use Rattle.swc_ast.specs.Same.{same, same_label}
use Rattle.swc_ast.specs.Parts.{list_trees}
use Rattle.swc_ast.proofs.SameParts.{tpl-same, both}
use Rattle.swc_ast.proofs.same_expressions.TplCompare.is_same.Goals as goal

pub returns : goal.returns
unfolding same same_label
returns g c = both (both c.spans_agree.ensures c.is_same.ensures) c.is_same-2.ensures ∙ tpl-same c.args.spans c.args.self.now.span c.args.other.now.span c.args.self.now.quasis.value.items c.args.other.now.quasis.value.items (list_trees g.E.Compare.tree c.args.self.now.exprs.items) (list_trees g.E.Compare.tree c.args.other.now.exprs.items)
