use Rattle.std.proofs.Common.{rules, refl}
use Rattle.swc_ast.specs.Expressions.{assign_tree, cond_tree, seq_tree}
use Rattle.swc_ast.specs.Views.{expr_tree}
use Rattle.swc_ast.specs.declared.expressions.Expr.TheVariants as in_expr
use Rattle.swc_ast.proofs.Equations.{expr_tree-Seq, expr_tree-Assign, expr_tree-Cond}
use Rattle.swc_branch.proofs.Replacing.{becomes_in, all_become_in}
use Rattle.swc_branch.proofs.expressions.fold_expr.Goals as goal

pub returns-in-Seq : goal.returns-in-Seq
returns-in-Seq c = all_become_in in_expr.Seq (seq_tree expr_tree) expr_tree-Seq _ _ _ _ c.in-Seq.n _ c.fold_front.new.n c.in-Seq.is c.in-Seq.n-is (search rules) c.fold_front.ensures

pub returns-in-Assign : goal.returns-in-Assign
returns-in-Assign c = becomes_in in_expr.Assign (λ b. assign_tree expr_tree b.value) expr_tree-Assign _ _ _ c.in-Assign.n _ c.fold_boxed_itself.new.n _ c.in-Assign.is c.in-Assign.n-is (search rules) c.fold_boxed_itself.ensures

pub returns-in-Cond : goal.returns-in-Cond
returns-in-Cond c = becomes_in in_expr.Cond (cond_tree expr_tree) expr_tree-Cond _ _ _ c.in-Cond.n _ c.fold_arms.new.n _ c.in-Cond.is c.in-Cond.n-is (search rules) c.fold_arms.ensures

pub returns-in-This : goal.returns-in-This
returns-in-This c = refl
