use Rattle.std.proofs.Common.{[], ◌∷◌, ◌∙◌, arith}
use Rattle.swc_ast.proofs.Equations.{stmt_tree-Block}
use Rattle.branch_parts.proofs.Left.{several_statement}
use Rattle.branch_parts.proofs.places.as_one.Goals as goal

pub returns-then-len-gt1 : goal.returns-then-len-gt1
returns-then-len-gt1 c = stmt_tree-Block _ ∙ several_statement (c.args.span ∷ []) c.args.stmts.items (omega (arith, c.if-len-gt1.true, c.len.ensures, c.args.stmts.ok.0))
