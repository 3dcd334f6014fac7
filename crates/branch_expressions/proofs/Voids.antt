-- Expressions that are undefined whatever is run.
use Rattle.std.proofs.Common.{◌≡◌, ℕ, Bool, true, false, not, [], ◌∷◌, refl, ap, ◌∙◌}
use Rattle.swc_ast.specs.Tree as tree
use Rattle.swc_ast.specs.Tree.{Tree, node, ε, ◌⊳◌}
use Rattle.swc_ast.specs.declared.Span.{Span}
use Rattle.swc_ast.specs.declared.UnaryOp.{UnaryOp}
use Rattle.swc_ast.specs.declared.UnaryOp.TheVariants as op
use Rattle.swc_ast.specs.declared.expressions.Expr.{Expr}
use Rattle.swc_ast.specs.declared.expressions.Expr.TheVariants as in_expr
use Rattle.swc_ast.specs.declared.expressions.UnaryExpr.{UnaryExpr}
use Rattle.swc_ast.specs.Expressions.{unary_node}
use Rattle.swc_ast.specs.declared.literals.Lit.{Lit}
use Rattle.swc_ast.specs.declared.literals.Lit.TheVariants as in_lit
use Rattle.swc_ast.specs.Parts.{lit_tree}
use Rattle.swc_ast.specs.Views.{expr_tree}
use Rattle.swc_ast.proofs.Equations.{expr_tree-Lit}
use Rattle.swc_ast.proofs.Places.{at_expr-Unary}
use Rattle.swc_utils.specs.Pure.{pure}
use Rattle.pass_rules.specs.Defaults.{is_void}
use Rattle.branch_rules.specs.Expressions.{always_void, is_literal_leaf}

-- `void` of an operand
void_node : (o : UnaryOp) (s : Span) (t : Tree) → o ≡ op.Void → unary_node o s t ≡ node (tree.Unary op.Void) (s ∷ []) (t ⊳ ε)
unfolding unary_node
void_node op.Void s t h = refl
void_node o s t h = ap (λ p. unary_node p s t) h

void_is : (e : Expr) (n : UnaryExpr Expr) → e ≡ in_expr.Unary n → n.op ≡ op.Void → expr_tree e ≡ node (tree.Unary op.Void) (n.span ∷ []) (expr_tree n.arg.value ⊳ ε)
void_is e n is h = at_expr-Unary e n is ∙ void_node n.op n.span (expr_tree n.arg.value) h

pub always_void_at : (mark : ℕ) (e : Expr) (n : UnaryExpr Expr) → e ≡ in_expr.Unary n → n.op ≡ op.Void → is_literal_leaf (expr_tree n.arg.value) ≡ true → always_void mark (expr_tree e) ≡ true
always_void_at mark e n is h k = ap (always_void mark) (void_is e n is h) ∙ k

-- literals

lit_simple : (n : Lit) → is_literal_leaf (lit_tree n) ≡ true
lit_simple (in_lit.Str n) = refl
lit_simple (in_lit.Num n) = refl
lit_simple (in_lit.Bool n) = refl
lit_simple (in_lit.Null n) = refl

pub literal_at : (e : Expr) (n : Lit) → e ≡ in_expr.Lit n → is_literal_leaf (expr_tree e) ≡ true
literal_at e n is = ap is_literal_leaf (ap expr_tree is ∙ expr_tree-Lit n) ∙ lit_simple n

not_not : (b p : Bool) → b ≡ not p → not b ≡ true → p ≡ true
not_not b true h k = refl
not_not b false h k = cc

pub void_at : (mark : ℕ) (e : Expr) (n : UnaryExpr Expr) (b : Bool) → e ≡ in_expr.Unary n → n.op ≡ op.Void → b ≡ not (pure mark (expr_tree n.arg.value)) → not b ≡ true → is_void mark (expr_tree e) ≡ true
void_at mark e n b is h p k = ap (is_void mark) (void_is e n is h) ∙ not_not b (pure mark (expr_tree n.arg.value)) p k
