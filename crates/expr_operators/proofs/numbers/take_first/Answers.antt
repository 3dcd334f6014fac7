use Rattle.std.proofs.Common.{ap, ◌∙◌}
use Rattle.swc_ast.specs.Views.{expr_tree}
use Rattle.swc_ast.specs.declared.expressions.BinExpr.{BinExpr}
use Rattle.swc_ast.specs.declared.expressions.Expr.{Expr}
use Rattle.expr_operators.proofs.Regrouped.{first_taken}
use Rattle.expr_operators.proofs.numbers.take_first.Goals as goal

pub returns-in-Bin : goal.returns-in-Bin
returns-in-Bin c = λ m h. ap expr_tree c.take.ensures ∙ ap expr_tree c.deref_mut.ensures.value ∙ ap (λ (k : BinExpr Expr). expr_tree k.left.value) c.in-Bin.n-is ∙ first_taken c.args.e.now c.in-Bin.n m c.in-Bin.is h

pub returns-in_default : goal.returns-in_default
returns-in_default c = λ m h. absurd (c.in_default.not-Bin m h)
