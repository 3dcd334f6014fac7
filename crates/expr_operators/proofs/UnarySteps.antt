-- Folds of operators in front of operands are steps.
use Rattle.std.proofs.Common.{◌≡◌, ◌≤◌, ◌-◌, ◌^◌, ℕ, ℤ, Bool, true, false, not, if◌then◌else◌, List, [], ◌∷◌, Some, None, codes, bytes_eq, sym, ap, ◌∙◌, subst}
use Rattle.std.proofs.lemmas.Bool.{and_parts}
use Rattle.swc_ast.specs.Tree as tree
use Rattle.swc_ast.specs.Tree.{Tree, node, ε, ◌⊳◌}
use Rattle.swc_ast.specs.Expressions.{unary_node}
use Rattle.swc_ast.specs.Meaning.{is_unresolved}
use Rattle.swc_ast.specs.Operators.{Numeric, Whole, as_i32, to_u32}
use Rattle.swc_ast.specs.Value.{NaN, Undefined}
use Rattle.swc_ast.specs.Views.{expr_tree}
use Rattle.swc_ast.specs.Weight.{weight}
use Rattle.swc_ast.specs.declared.Span.{Span}
use Rattle.swc_ast.specs.declared.UnaryOp.TheVariants as op
use Rattle.swc_ast.specs.declared.expressions.Expr.{Expr}
use Rattle.swc_utils.specs.Effects.{effects_all, is_read, preserve}
use Rattle.swc_utils.specs.Globals.{constant, is_undefined, name_value}
use Rattle.swc_utils.specs.Known.{minus, number, truth}
use Rattle.swc_utils.specs.Pure.{pure}
use Rattle.expr_rules.specs.ExprSteps.{ExprStep, not_known, plus_known, minus_known, tilde_known, void_pure, typeof_expression, typeof_constant}
use Rattle.pass_rules.specs.Leaves.{number_tree, text_tree, truth_tree, void_tree}
use Rattle.expr_rules.specs.TypeNames.{typeof_known}

-- a step to the tree of an expression
pub step_to : (mark : ℕ) (t u : Tree) (e : Expr) → expr_tree e ≡ u → ExprStep mark t u → ExprStep mark t (expr_tree e)
step_to mark t u e is h = subst (ExprStep mark t) (sym is) h

pub not_step : (mark : ℕ) (s : Span) (t : Tree) (e v : Expr) (b : Bool) → truth mark t ≡ Some b → expr_tree v ≡ truth_tree (s ∷ []) (not b) → expr_tree e ≡ preserve (s ∷ []) (effects_all mark (t ⊳ ε)) (expr_tree v) → ExprStep mark (unary_node op.Bang s t) (expr_tree e)
unfolding unary_node
not_step mark s t e v b k w h = step_to mark _ _ e (h ∙ ap (preserve (s ∷ []) (effects_all mark (t ⊳ ε))) w) (not_known (s ∷ []) (s ∷ []) (s ∷ []) t b k)

pub plus_step : (mark : ℕ) (s : Span) (t : Tree) (e : Expr) (k : Numeric) → number mark t ≡ Some k → expr_tree e ≡ number_tree mark (s ∷ []) k → ExprStep mark (unary_node op.Plus s t) (expr_tree e)
unfolding unary_node
plus_step mark s t e k h is = step_to mark _ _ e is (plus_known (s ∷ []) (s ∷ []) t k h)

pub minus_step : (mark : ℕ) (s : Span) (t : Tree) (e : Expr) (k : Numeric) → minus (number mark t) ≡ Some k → expr_tree e ≡ number_tree mark (s ∷ []) k → ExprStep mark (unary_node op.Minus s t) (expr_tree e)
unfolding unary_node
minus_step mark s t e k h is = step_to mark _ _ e is (minus_known (s ∷ []) (s ∷ []) t k h)

pub tilde_step : (mark : ℕ) (s : Span) (t : Tree) (e : Expr) (k : Numeric) (z : ℤ) → number mark t ≡ Some k → z ≡ as_i32 (2 ^ 32 - 1 - to_u32 k) → expr_tree e ≡ number_tree mark (s ∷ []) (Whole z) → ExprStep mark (unary_node op.Tilde s t) (expr_tree e)
unfolding unary_node
tilde_step mark s t e k z h i is = step_to mark _ _ e (is ∙ ap (λ x. number_tree mark (s ∷ []) (Whole x)) i) (tilde_known (s ∷ []) (s ∷ []) t k h)

pub void_step : (mark : ℕ) (s : Span) (t : Tree) (e : Expr) → pure mark t ≡ true → 2 ≤ weight t → expr_tree e ≡ void_tree (s ∷ []) (s ∷ []) → ExprStep mark (unary_node op.Void s t) (expr_tree e)
unfolding unary_node
void_step mark s t e p w is = step_to mark _ _ e is (void_pure (s ∷ []) (s ∷ []) (s ∷ []) t p w)

pub undefined_step : (mark : ℕ) (s : Span) (t : Tree) (e : Expr) → is_undefined mark t ≡ true → expr_tree e ≡ text_tree (s ∷ []) (codes "undefined") → ExprStep mark (unary_node op.TypeOf s t) (expr_tree e)
unfolding unary_node
undefined_step mark s (node (tree.Read x) ss cs) e h is = step_to mark _ _ e is (typeof_constant (s ∷ ss) (s ∷ []) cs x Undefined (by_name (and_parts (is_unresolved mark x) (bytes_eq x.text (codes "undefined")) h)))
  where
    by_name : (is_unresolved mark x ≡ true) × (bytes_eq x.text (codes "undefined") ≡ true) → name_value mark x ≡ Some Undefined
    by_name p = ap (λ b. if b then constant x.text else None) p.0 ∙ ap (λ b. if b then Some Undefined else (if bytes_eq x.text (codes "NaN") then Some NaN else None)) p.1
undefined_step mark s (node l ss cs) e h is = cc

pub typeof_step : (mark : ℕ) (s : Span) (t : Tree) (e v : Expr) (w : List ℕ) → is_read t ≡ false → typeof_known mark t ≡ Some w → expr_tree v ≡ text_tree (s ∷ []) w → expr_tree e ≡ preserve (s ∷ []) (effects_all mark (t ⊳ ε)) (expr_tree v) → ExprStep mark (unary_node op.TypeOf s t) (expr_tree e)
unfolding unary_node
typeof_step mark s (node (tree.Read x) ss cs) e v w r k is h = cc
typeof_step mark s (node l ss cs) e v w r k is h = step_to mark _ _ e (h ∙ ap (preserve (s ∷ []) (effects_all mark (node l ss cs ⊳ ε))) is) (typeof_expression (s ∷ []) (s ∷ []) (s ∷ []) (node l ss cs) w k)
