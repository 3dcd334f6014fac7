use Rattle.std.proofs.Common.{◌∙◌}
use Rattle.swc_ast.specs.Same.{same, same_label}
use Rattle.swc_ast.proofs.SameParts.{var-same, both}
use Rattle.swc_ast.proofs.same_statements.VarDeclCompare.is_same.Goals as goal

pub returns : goal.returns
unfolding same same_label
returns g c = both (both c.eq.ensures c.spans_agree.ensures) c.is_same.ensures ∙ var-same g.E.Compare.tree c.args.spans c.args.self.now.kind c.args.other.now.kind c.args.self.now.span c.args.other.now.span c.args.self.now.decls.items c.args.other.now.decls.items
