use Rattle.std.proofs.Common.{[], ◌∷◌, ◌∙◌}
use Rattle.swc_ast.proofs.Equations.{expr_tree-Seq}
use Rattle.expr_members.proofs.Fronts.{not_one}
use Rattle.expr_members.proofs.sequences.sequence.Goals as goal

pub returns-then-len-ne1 : goal.returns-then-len-ne1
returns-then-len-ne1 c = expr_tree-Seq _ ∙ not_one (c.args.span ∷ []) c.args.exprs.items (λ h. c.if-len-ne1.true (c.len.ensures ∙ c.args.exprs.ok.0 ∙ h))
