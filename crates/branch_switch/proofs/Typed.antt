-- The value of an expression of a known type.
use Rattle.std.proofs.Common.{◌≡◌, ℕ, true, Some, refl, ap, ◌∙◌}
use Rattle.swc_ast.specs.declared.expressions.Expr.{Expr}
use Rattle.swc_ast.specs.declared.expressions.Expr.TheVariants as in_expr
use Rattle.swc_ast.specs.declared.literals.Lit.{Lit}
use Rattle.swc_ast.specs.declared.literals.Lit.TheVariants as in_lit
use Rattle.swc_ast.specs.Parts.{lit_tree}
use Rattle.swc_ast.specs.Views.{expr_tree}
use Rattle.swc_ast.proofs.Equations.{expr_tree-Lit}
use Rattle.branch_rules.specs.Switches.{is_fixed}
use Rattle.swc_ast.specs.Tree.{Tree}
use Rattle.swc_utils.specs.Known.{number, text, truth}
use Rattle.swc_utils.specs.Types.{type_of}
use Rattle.swc_utils.specs.declared.answers.ValueType.{ValueType}
use Rattle.pass_rules.specs.Values.{value_by_type, value_of}

pub value_at : (mark : ℕ) (t : Tree) (τ : ValueType) → type_of mark t ≡ Some τ → value_of mark t ≡ value_by_type (Some τ) (truth mark t) (number mark t) (text mark t)
value_at mark t τ h = ap (λ k. value_by_type k (truth mark t) (number mark t) (text mark t)) h

lit_fixed : (n : Lit) → is_fixed (lit_tree n) ≡ true
lit_fixed (in_lit.Str n) = refl
lit_fixed (in_lit.Num n) = refl
lit_fixed (in_lit.Bool n) = refl
lit_fixed (in_lit.Null n) = refl

-- a literal
pub fixed_literal : (e : Expr) (n : Lit) → e ≡ in_expr.Lit n → is_fixed (expr_tree e) ≡ true
fixed_literal e n is = ap is_fixed (ap expr_tree is ∙ expr_tree-Lit n) ∙ lit_fixed n
