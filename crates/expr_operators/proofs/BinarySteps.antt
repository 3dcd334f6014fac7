-- Folds of operators between operands and of conditions are steps.
use Rattle.std.proofs.Common.{◌≡◌, ℕ, zero, suc, pos, negsuc, Bool, true, false, if◌then◌else◌, List, [], ◌∷◌, Some, refl, sym, ap, ◌∙◌, subst}
use Rattle.swc_ast.specs.Tree.{Binary, Cond, Seq, Tree, node, ε, ◌⊳◌}
use Rattle.swc_ast.specs.Operators.{Numeric, NotANumber, Whole}
use Rattle.swc_ast.specs.Views.{expr_tree}
use Rattle.swc_ast.specs.declared.Span.{Span}
use Rattle.swc_ast.specs.declared.BinaryOp.{BinaryOp}
use Rattle.swc_ast.specs.declared.BinaryOp.TheVariants as op
use Rattle.swc_ast.specs.declared.expressions.Expr.{Expr}
use Rattle.swc_utils.specs.Effects.{effects, effects_all, preserve}
use Rattle.swc_utils.specs.Known.{number, truth}
use Rattle.swc_utils.specs.Pure.{pure}
use Rattle.expr_rules.specs.Arithmetic.{admits, fold_numbers, fold_sum, fold_texts, is_zero, regroups}
use Rattle.expr_rules.specs.Choices.{chosen_arm, chosen_side, decided, is_logical}
use Rattle.expr_rules.specs.Equality.{equal_known, is_equality, tells}
use Rattle.expr_rules.specs.ExprSteps.{ExprStep, join_texts, add_numbers, compute_numbers, equality, logical, choice, power_zero, regroup, instance}
use Rattle.pass_rules.specs.Leaves.{number_tree, text_tree, truth_tree}
use Rattle.expr_operators.specs.Steps.{TruthStep}
use Rattle.expr_operators.proofs.UnarySteps.{step_to}

pub truth_step : (mark : ℕ) (o : BinaryOp) (s : Span) (a b : Tree) (e : Expr) (r : Bool) → TruthStep mark o a b r → expr_tree e ≡ truth_tree (s ∷ []) r → ExprStep mark (node (Binary o) (s ∷ []) (a ⊳ b ⊳ ε)) (expr_tree e)
truth_step mark o s a b e r h is = step_to mark _ _ e is (h (s ∷ []) (s ∷ []))

pub texts_step : (mark : ℕ) (s : Span) (a b : Tree) (e : Expr) (r : List ℕ) → fold_texts mark a b ≡ Some r → expr_tree e ≡ text_tree (s ∷ []) r → ExprStep mark (node (Binary op.Add) (s ∷ []) (a ⊳ b ⊳ ε)) (expr_tree e)
texts_step mark s a b e r h is = step_to mark _ _ e is (join_texts (s ∷ []) (s ∷ []) a b r h)

pub sum_step : (mark : ℕ) (s : Span) (a b : Tree) (e : Expr) (r : Numeric) → fold_sum mark a b ≡ Some r → admits op.Add a b r ≡ true → expr_tree e ≡ number_tree mark (s ∷ []) r → ExprStep mark (node (Binary op.Add) (s ∷ []) (a ⊳ b ⊳ ε)) (expr_tree e)
sum_step mark s a b e r h m is = step_to mark _ _ e is (add_numbers (s ∷ []) (s ∷ []) a b r h m)

pub numbers_step : (mark : ℕ) (o : BinaryOp) (s : Span) (a b : Tree) (e : Expr) (r : Numeric) → fold_numbers mark o a b ≡ Some r → admits o a b r ≡ true → expr_tree e ≡ number_tree mark (s ∷ []) r → ExprStep mark (node (Binary o) (s ∷ []) (a ⊳ b ⊳ ε)) (expr_tree e)
numbers_step mark o s a b e r h m is = step_to mark _ _ e is (compute_numbers o (s ∷ []) (s ∷ []) a b r h m)

strict_effects : (mark : ℕ) (o : BinaryOp) (ss : List Span) (a b : Tree) → is_equality o ≡ true → effects_all mark (a ⊳ b ⊳ ε) ≡ effects mark (node (Binary o) ss (a ⊳ b ⊳ ε))
strict_effects mark op.EqEq ss a b h = refl
strict_effects mark op.NotEq ss a b h = refl
strict_effects mark op.EqEqEq ss a b h = refl
strict_effects mark op.NotEqEq ss a b h = refl
strict_effects mark o ss a b h = cc

pub equality_step : (mark : ℕ) (o : BinaryOp) (s : Span) (a b : Tree) (e v : Expr) (r : Bool) → is_equality o ≡ true → equal_known mark o a b ≡ Some r → expr_tree v ≡ truth_tree (s ∷ []) (tells o r) → expr_tree e ≡ preserve (s ∷ []) (effects_all mark (a ⊳ b ⊳ ε)) (expr_tree v) → ExprStep mark (node (Binary o) (s ∷ []) (a ⊳ b ⊳ ε)) (expr_tree e)
equality_step mark o s a b e v r q k is h =
    step_to mark _ _ e (h ∙ ap (preserve (s ∷ []) (effects_all mark (a ⊳ b ⊳ ε))) is ∙ ap (λ fs. preserve (s ∷ []) fs (truth_tree (s ∷ []) (tells o r))) (strict_effects mark o (s ∷ []) a b q)) (equality o (s ∷ []) (s ∷ []) (s ∷ []) a b r q k)

-- `&&` and `||`

chosen : (mark : ℕ) (rs : List Span) (o : BinaryOp) (a b : Tree) (k d p : Bool) → decided o k ≡ d → pure mark a ≡ p → (if d then a else (if p then b else node Seq rs (a ⊳ b ⊳ ε))) ≡ chosen_side mark rs o a b k
chosen mark rs o a b k d p h i = ap (λ c. if c then a else (if p then b else node Seq rs (a ⊳ b ⊳ ε))) (sym h) ∙ ap (λ c. if decided o k then a else (if c then b else node Seq rs (a ⊳ b ⊳ ε))) (sym i)

module _ (mark : ℕ) (o : BinaryOp) (s : Span) (a b : Tree) (e : Expr) (k : Bool) where
  pub left_step : is_logical o ≡ true → truth mark a ≡ Some k → decided o k ≡ true → expr_tree e ≡ a → ExprStep mark (node (Binary o) (s ∷ []) (a ⊳ b ⊳ ε)) (expr_tree e)
  left_step l h d is = step_to mark _ _ e (is ∙ chosen mark (s ∷ []) o a b k true (pure mark a) d refl) (logical o (s ∷ []) (s ∷ []) a b k l h)

  pub right_step : is_logical o ≡ true → truth mark a ≡ Some k → decided o k ≡ false → pure mark a ≡ true → expr_tree e ≡ b → ExprStep mark (node (Binary o) (s ∷ []) (a ⊳ b ⊳ ε)) (expr_tree e)
  right_step l h d p is = step_to mark _ _ e (is ∙ chosen mark (s ∷ []) o a b k false true d p) (logical o (s ∷ []) (s ∷ []) a b k l h)

  pub both_step : is_logical o ≡ true → truth mark a ≡ Some k → decided o k ≡ false → pure mark a ≡ false → expr_tree e ≡ node Seq (s ∷ []) (a ⊳ b ⊳ ε) → ExprStep mark (node (Binary o) (s ∷ []) (a ⊳ b ⊳ ε)) (expr_tree e)
  both_step l h d p is = step_to mark _ _ e (is ∙ chosen mark (s ∷ []) o a b k false false d p) (logical o (s ∷ []) (s ∷ []) a b k l h)

-- conditions

pub arm_step : (mark : ℕ) (s : Span) (t a b : Tree) (e : Expr) (k : Bool) → truth mark t ≡ Some k → pure mark t ≡ true → expr_tree e ≡ (if k then a else b) → ExprStep mark (node Cond (s ∷ []) (t ⊳ a ⊳ b ⊳ ε)) (expr_tree e)
arm_step mark s t a b e k h p is = step_to mark _ _ e (is ∙ ap (chosen_arm (s ∷ []) t (if k then a else b)) (sym p)) (choice (s ∷ []) (s ∷ []) t a b k h)

pub test_step : (mark : ℕ) (s : Span) (t a b : Tree) (e : Expr) (k : Bool) → truth mark t ≡ Some k → pure mark t ≡ false → expr_tree e ≡ node Seq (s ∷ []) (t ⊳ (if k then a else b) ⊳ ε) → ExprStep mark (node Cond (s ∷ []) (t ⊳ a ⊳ b ⊳ ε)) (expr_tree e)
test_step mark s t a b e k h p is = step_to mark _ _ e (is ∙ ap (chosen_arm (s ∷ []) t (if k then a else b)) (sym p)) (choice (s ∷ []) (s ∷ []) t a b k h)

-- powers, regrouping and `instanceof`

zero_number : (k : Numeric) → is_zero k ≡ true → k ≡ Whole (pos 0)
zero_number (Whole (pos zero)) h = refl
zero_number (Whole (pos (suc n))) h = cc
zero_number (Whole (negsuc n)) h = cc
zero_number NotANumber h = cc

power_at : (mark : ℕ) (s : Span) (a b : Tree) (e v : Expr) (k : Numeric) → number mark b ≡ Some k → is_zero k ≡ true → expr_tree v ≡ number_tree mark (s ∷ []) (Whole (pos 1)) → expr_tree e ≡ preserve (s ∷ []) (effects_all mark (a ⊳ b ⊳ ε)) (expr_tree v) → ExprStep mark (node (Binary op.Exp) (s ∷ []) (a ⊳ b ⊳ ε)) (expr_tree e)
power_at mark s a b e v k h z is p = step_to mark _ _ e (p ∙ ap (preserve (s ∷ []) (effects_all mark (a ⊳ b ⊳ ε))) is) (power_zero (s ∷ []) (s ∷ []) (s ∷ []) a b (h ∙ ap Some (zero_number k z)))

pub power_step : (mark : ℕ) (o : BinaryOp) (s : Span) (a b : Tree) (e v : Expr) (k : Numeric) → o ≡ op.Exp → number mark b ≡ Some k → is_zero k ≡ true → expr_tree v ≡ number_tree mark (s ∷ []) (Whole (pos 1)) → expr_tree e ≡ preserve (s ∷ []) (effects_all mark (a ⊳ b ⊳ ε)) (expr_tree v) → ExprStep mark (node (Binary o) (s ∷ []) (a ⊳ b ⊳ ε)) (expr_tree e)
power_step mark o s a b e v k i h z is p = subst (λ x. ExprStep mark (node (Binary x) (s ∷ []) (a ⊳ b ⊳ ε)) (expr_tree e)) (sym i) (power_at mark s a b e v k h z is p)

module _ (mark : ℕ) (o i : BinaryOp) (ss is rs ns : List Span) (a b c : Tree) (k : Numeric) where
  same_op : regroups o ≡ true → fold_numbers mark o b c ≡ Some k → admits o b c k ≡ true → ExprStep mark (node (Binary o) ss (node (Binary o) is (a ⊳ b ⊳ ε) ⊳ c ⊳ ε)) (node (Binary o) rs (a ⊳ number_tree mark ns k ⊳ ε))
  same_op g h m = regroup o ss is rs ns a b c k g h m

  pub regroup_step : regroups o ≡ true → i ≡ o → fold_numbers mark o b c ≡ Some k → admits o b c k ≡ true → ExprStep mark (node (Binary o) ss (node (Binary i) is (a ⊳ b ⊳ ε) ⊳ c ⊳ ε)) (node (Binary o) rs (a ⊳ number_tree mark ns k ⊳ ε))
  regroup_step g q h m = subst (λ x. ExprStep mark (node (Binary o) ss (node (Binary x) is (a ⊳ b ⊳ ε) ⊳ c ⊳ ε)) (node (Binary o) rs (a ⊳ number_tree mark ns k ⊳ ε))) (sym q) (same_op g h m)

pub instance_step : (mark : ℕ) (s : Span) (a b : Tree) (e v : Expr) (r : Bool) → expr_tree v ≡ truth_tree (s ∷ []) r → expr_tree e ≡ preserve (s ∷ []) (effects_all mark (a ⊳ b ⊳ ε)) (expr_tree v) → ExprStep mark (node (Binary op.InstanceOf) (s ∷ []) (a ⊳ b ⊳ ε)) (expr_tree e)
instance_step mark s a b e v r is p = step_to mark _ _ e (p ∙ ap (preserve (s ∷ []) (effects_all mark (a ⊳ b ⊳ ε))) is) (instance (s ∷ []) (s ∷ []) (s ∷ []) a b r)
