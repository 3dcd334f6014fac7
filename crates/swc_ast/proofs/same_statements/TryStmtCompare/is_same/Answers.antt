use Rattle.std.proofs.Common.{◌∙◌}
use Rattle.swc_ast.specs.Same.{same, same_label}
use Rattle.swc_ast.proofs.SameParts.{try-same, both}
use Rattle.swc_ast.proofs.same_statements.TryStmtCompare.is_same.Goals as goal

pub returns : goal.returns
unfolding same same_label
returns g c = both (both (both c.spans_agree.ensures c.is_same.ensures) c.is_same-2.ensures) c.is_same-3.ensures ∙ try-same g.S.Compare.tree c.args.spans c.args.self.now.span c.args.other.now.span c.args.self.now.block c.args.other.now.block c.args.self.now.handler c.args.other.now.handler c.args.self.now.finalizer c.args.other.now.finalizer
