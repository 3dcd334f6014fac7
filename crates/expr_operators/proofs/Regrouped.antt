-- Regrouped operators.
use Rattle.std.proofs.Common.{◌≡◌, ℕ, ℤ, true, List, [], ◌∷◌, Option, Some, sym, ap, ◌∙◌, subst}
use Rattle.swc_ast.specs.Tree.{Binary, Tree, node, ε, ◌⊳◌}
use Rattle.swc_ast.specs.Operators.{Numeric}
use Rattle.swc_ast.specs.Views.{expr_tree}
use Rattle.swc_ast.proofs.Places.{at_expr-Bin}
use Rattle.swc_ast.specs.declared.Span.{Span}
use Rattle.swc_ast.specs.declared.BinaryOp.{BinaryOp}
use Rattle.swc_ast.specs.declared.expressions.BinExpr.{BinExpr}
use Rattle.swc_ast.specs.declared.expressions.Expr.{Expr}
use Rattle.swc_ast.specs.declared.expressions.Expr.TheVariants.{Bin}
use Rattle.swc_utils.specs.Sound.{IfKnown, numeric}
use Rattle.swc_utils.specs.declared.answers.Value.{Value as Answer}
use Rattle.swc_utils.specs.declared.answers.Value.TheVariants.{Known, Unknown}
use Rattle.expr_rules.specs.Arithmetic.{admits, fold_numbers, regroups}
use Rattle.expr_rules.specs.ExprSteps.{ExprStep}
use Rattle.pass_rules.specs.Leaves.{number_tree}
use Rattle.expr_operators.specs.Steps.{Regroups}
use Rattle.expr_operators.proofs.BinarySteps.{regroup_step}
use Rattle.expr_operators.proofs.UnarySteps.{step_to}

pub regroups_by : (mark : ℕ) (o : BinaryOp) (left : Expr) (n : BinExpr Expr) (c : Tree) (r : Answer (Option ℤ)) → left ≡ Bin n → (regroups o ≡ true) × (n.op ≡ o)
    → IfKnown r (λ k. fold_numbers mark o (expr_tree n.right.value) c ≡ Some (numeric k)) → IfKnown r (λ k. admits o (expr_tree n.right.value) c (numeric k) ≡ true)
    → IfKnown r (λ k. Regroups mark o left c (numeric k))
regroups_by mark o left n c Unknown is g h m = tt
regroups_by mark o left n c (Known k) is g h m = record {
  inner = n;
  is = is;
  step = λ ss rs ns. subst (λ t. ExprStep mark (node (Binary o) ss (t ⊳ c ⊳ ε)) (node (Binary o) rs (expr_tree n.left.value ⊳ number_tree mark ns (numeric k) ⊳ ε))) (sym (at_expr-Bin left n is)) (regroup_step mark o n.op ss (n.span ∷ []) rs ns (expr_tree n.left.value) (expr_tree n.right.value) c (numeric k) g.0 g.1 h m);
}

same_first : (o i : BinaryOp) (ss is : List Span) (a b x y : Tree) → node (Binary o) ss (a ⊳ b ⊳ ε) ≡ node (Binary i) is (x ⊳ y ⊳ ε) → a ≡ x
same_first o i ss is a b x y e = cc

pub first_taken : (e : Expr) (n m : BinExpr Expr) → e ≡ Bin n → e ≡ Bin m → expr_tree n.left.value ≡ expr_tree m.left.value
first_taken e n m h k = same_first _ _ _ _ _ _ _ _ (sym (at_expr-Bin e n h) ∙ at_expr-Bin e m k)

pub regrouped_step : (mark : ℕ) (o : BinaryOp) (s : Span) (left : Expr) (c : Tree) (e f r : Expr) (k : Numeric) (g : Regroups mark o left c k) → expr_tree f ≡ expr_tree g.inner.left.value → expr_tree r ≡ number_tree mark (s ∷ []) k → expr_tree e ≡ node (Binary o) (s ∷ []) (expr_tree f ⊳ expr_tree r ⊳ ε) → ExprStep mark (node (Binary o) (s ∷ []) (expr_tree left ⊳ c ⊳ ε)) (expr_tree e)
regrouped_step mark o s left c e f r k g h i is =
    step_to mark _ _ e (is ∙ ap (λ t. node (Binary o) (s ∷ []) (t ⊳ expr_tree r ⊳ ε)) h ∙ ap (λ t. node (Binary o) (s ∷ []) (expr_tree g.inner.left.value ⊳ t ⊳ ε)) i) (g.step (s ∷ []) (s ∷ []) (s ∷ []))
