-- What a fold that answers none leaves.
use Rattle.std.specs.Prelude.{IfOk, IsNone}
use Rattle.std.proofs.Common.{◌≡◌, false, Option, Result, Ok, Err, refl, ap, ◌∙◌}
use Rattle.swc_ast.specs.Tree as tree
use Rattle.swc_ast.specs.Tree.{Tree, node}
use Rattle.swc_ast.specs.Expressions.{unary_node}
use Rattle.swc_ast.specs.Redex.{unary_redex}
use Rattle.swc_ast.specs.Views.{expr_tree}
use Rattle.swc_ast.specs.declared.Span.{Span}
use Rattle.swc_ast.specs.declared.UnaryOp.{UnaryOp}
use Rattle.swc_ast.specs.declared.UnaryOp.TheVariants as op
use Rattle.swc_ast.specs.declared.errors.PassError.{PassError}
use Rattle.swc_ast.specs.declared.expressions.Expr.{Expr}
use Rattle.swc_ast.specs.declared.expressions.UnaryExpr.{UnaryExpr}
use Rattle.static_proofs.specs.Free.{kind_at}
use Rattle.expr_rules.specs.Replaced.{expr_redex}
use Rattle.expr_operators.specs.Nodes.{unary_of}

-- what holds of an answer that is none

pub always : {R : Type 0} (r : Result (Option Expr) PassError) → R → IfOk r (λ o. IsNone o → R)
always (Ok o) h = λ i. h
always (Err e) h = tt

pub so : {Q R : Type 0} (r : Result (Option Expr) PassError) → IfOk r (λ o. IsNone o → Q) → (Q → R) → IfOk r (λ o. IsNone o → R)
so (Ok o) q f = λ i. f (q i)
so (Err e) q f = tt

module _ {P Q R : Type 0} where
  pub both : (r : Result (Option Expr) PassError) → IfOk r (λ o. IsNone o → P) → IfOk r (λ o. IsNone o → Q) → (P → Q → R) → IfOk r (λ o. IsNone o → R)
  both (Ok o) p q f = λ i. f (p i) (q i)
  both (Err e) p q f = tt

-- a node whose operand tells nothing
redex_node : (o : UnaryOp) (s : Span) (t : Tree) → unary_redex o t ≡ false → kind_at expr_redex (unary_node o s t) ≡ false
unfolding unary_node
redex_node op.TypeOf s (node (tree.Read x) ss cs) h = refl
redex_node op.TypeOf s (node l ss cs) h = h
redex_node o s t h = h

pub kept_rests : (m n : UnaryExpr Expr) (o : UnaryOp) → m ≡ n → n.op ≡ o → unary_redex o (expr_tree n.arg.value) ≡ false → kind_at expr_redex (unary_of m) ≡ false
kept_rests m n o e is h = ap (λ k. kind_at expr_redex (unary_of k)) e ∙ ap (λ x. kind_at expr_redex (unary_node x n.span (expr_tree n.arg.value))) is ∙ redex_node o n.span (expr_tree n.arg.value) h
