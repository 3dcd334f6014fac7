use Rattle.std.proofs.Common.{Some, [], ◌∷◌, ap, ◌∙◌, arith}
use Rattle.swc_ast.proofs.Equations.{expr_tree-Seq}
use Rattle.branch_expressions.proofs.Made.{several_one}
use Rattle.branch_expressions.proofs.rest.as_one.Goals as goal

pub returns-then-len-gt1 : goal.returns-then-len-gt1
returns-then-len-gt1 c = ap Some (expr_tree-Seq _) ∙ several_one (c.args.span ∷ []) c.args.exprs.items (omega (arith, c.if-len-gt1.true, c.len.ensures, c.args.exprs.ok.0))
