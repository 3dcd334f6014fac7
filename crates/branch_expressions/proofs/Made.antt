-- What is left of an expression, from the part that it was left of.
use Rattle.std.proofs.Common.{◌≡◌, ◌<◌, ℕ, Bool, true, false, not, if◌then◌else◌, List, [], ◌∷◌, length, Option, Some, None, refl, sym, ap, subst, ◌∙◌, arith}
use Rattle.std.specs.Prelude.{IfSome}
use Rattle.swc_ast.specs.declared.Span.{Span}
use Rattle.swc_ast.specs.declared.UnaryOp.{UnaryOp}
use Rattle.swc_ast.specs.declared.UnaryOp.TheVariants as unary
use Rattle.swc_ast.specs.declared.BinaryOp.{BinaryOp}
use Rattle.swc_ast.specs.declared.BinaryOp.TheVariants as op
use Rattle.swc_ast.specs.declared.AssignOp.TheVariants as assign
use Rattle.swc_ast.specs.declared.expressions.Expr.{Expr}
use Rattle.swc_ast.specs.Expressions.{unary_node}
use Rattle.swc_ast.specs.Parts.{list_trees}
use Rattle.swc_ast.specs.Tree as tree
use Rattle.swc_ast.specs.Tree.{Tree, node, ε, ◌⊳◌}
use Rattle.swc_ast.specs.Views.{expr_tree}
use Rattle.swc_utils.specs.declared.answers.ValueType.{ValueType}
use Rattle.swc_utils.specs.Effects.{is_typeof}
use Rattle.swc_utils.specs.Known.{truth, pure_truth}
use Rattle.swc_utils.specs.Pure.{pure}
use Rattle.swc_utils.specs.Types.{type_of}
use Rattle.pass_rules.specs.Values.{is_nullish_type}
use Rattle.pass_proofs.proofs.ExprTrees.{is_an_expression}
use Rattle.branch_rules.specs.Ignored.{Ignores, stays, goes, itself, opened, operand, none_left, one_goes, one_left, as_one, skips, right_runs, right_skipped, never_nullish, always_nullish}
use Rattle.branch_rules.specs.Expressions as rules
use Rattle.branch_expressions.specs.Left.{Leaves, Rested, is_change, other, tree_of}
use Rattle.branch_expressions.specs.Choices.{Decides, Itself}
use Rattle.branch_expressions.specs.declared.rest.Rest.{Rest}
use Rattle.branch_expressions.specs.declared.rest.Rest.TheVariants as rest

-- what is left, by an equation of its answer
pub at_tree : (mark : ℕ) (c : Bool) (t : Tree) {o p : Option Tree} → p ≡ o → Ignores mark c t o → Ignores mark c t p
at_tree mark c t is h = subst (Ignores mark c t) (sym is) h

pub moved_same : (mark : ℕ) (t : Tree) (e r : Expr) (k : Rest) → k ≡ rest.Same → r ≡ e → Rested mark t (expr_tree e) k → Ignores mark (is_change k) t (tree_of (Some r))
moved_same mark t e r k is at h =
    subst (λ x. Ignores mark (is_change x) t (tree_of (Some r))) (sym is)
    (by (subst (Rested mark t (expr_tree e)) is h))
  where
    by : expr_tree e ≡ t → Ignores mark false t (Some (expr_tree r))
    by same = at_tree mark false t (ap Some (ap expr_tree at ∙ same)) (stays t)

pub itself_goes : (mark : ℕ) (t r : Tree) → Itself mark t r → Ignores mark true t None
itself_goes mark t r p = subst (λ x. Ignores mark true x None) (sym p.is) (itself p.name p.spans p.value_spans p.bound)

pub itself_read : (mark : ℕ) (t r : Tree) → Itself mark t r → rules.ExpressionStep mark t r
itself_read mark t r p = subst (λ x. rules.ExpressionStep mark x r) (sym p.is) (subst (λ x. rules.ExpressionStep mark (node (tree.Assign assign.Assign p.name) p.spans (node (tree.Read p.name) p.value_spans ε ⊳ ε)) x) (sym p.value) (rules.itself p.spans p.value_spans p.value_spans p.name p.bound))

-- sequences

pub several_one : (rs : List Span) (xs : List Expr) → 1 < length xs → Some (node tree.Seq rs (list_trees expr_tree xs)) ≡ as_one rs (list_trees expr_tree xs)
several_one rs [] h = absurd (omega (arith, h))
several_one rs (x ∷ []) h = absurd (omega (arith, h))
several_one rs (x ∷ y ∷ ys) h = refl

-- operators in front of an operand

unary_is : (o : UnaryOp) (s : Span) (t : Tree) → is_typeof o ≡ false → unary_node o s t ≡ node (tree.Unary o) (s ∷ []) (t ⊳ ε)
unfolding unary_node
unary_is unary.TypeOf s t h = cc
unary_is o s t h = refl

operand_left : (mark : ℕ) (o : UnaryOp) (s : Span) (t : Tree) (c : Bool) (r : Option Tree) → Ignores mark c t r → Ignores mark true (node (tree.Unary o) (s ∷ []) (t ⊳ ε)) r
operand_left mark o s t true None h = opened (s ∷ []) (operand o (s ∷ []) t) (one_goes t h none_left)
operand_left mark o s t false None h = absurd (unchanged_some h)
  where
    unchanged_some : Ignores mark false t None → ⊥
    unchanged_some h = elim h [ ]
operand_left mark o s t c (Some v) h = opened (s ∷ []) (operand o (s ∷ []) t) (one_left t v h none_left)

pub unary_left : (mark : ℕ) (o : UnaryOp) (s : Span) (t : Tree) (r : Option Expr) → is_typeof o ≡ false → Leaves mark t r → Ignores mark true (unary_node o s t) (tree_of r)
unary_left mark o s t r h l = subst (λ x. Ignores mark true x (tree_of r)) (sym (unary_is o s t h)) (operand_left mark o s t l.changed (tree_of r) l.ignores)

-- what the left side tells

pub decided_by_type : (mark : ℕ) (a : Tree) (τ : ValueType) → type_of mark a ≡ Some τ → is_nullish_type τ ≡ false → Decides mark op.NullishCoalescing a true
decided_by_type mark a τ is h = λ c o ss b i. never_nullish ss a b τ is h i

pub run_by_type : (mark : ℕ) (a : Tree) (τ : ValueType) → type_of mark a ≡ Some τ → is_nullish_type τ ≡ true → pure mark a ≡ true → Decides mark op.NullishCoalescing a false
run_by_type mark a τ is h p = λ c o ss b i. always_nullish ss a b τ p is h i

pub pure_known : (p : Bool) (o : Option Bool) (k : Bool) → (if p then o else None) ≡ Some k → (p ≡ true) × (o ≡ Some k)
pure_known true o k h = (refl, h)
pure_known false o k h = cc

pub decided_by_truth : (mark : ℕ) (o : BinaryOp) (a : Tree) (k : Bool) (r : Option Bool) → pure_truth mark a ≡ Some k → r ≡ skips o k → IfSome r (λ b. Decides mark o a b)
decided_by_truth mark o a k None h s = tt
decided_by_truth mark o a k (Some true) h s = let p = pure_known (pure mark a) (truth mark a) k h in λ c v ss b i. right_skipped o ss a b k p.1 (sym s) i
decided_by_truth mark o a k (Some false) h s = let p = pure_known (pure mark a) (truth mark a) k h in λ c v ss b i. right_runs o ss a b k p.0 p.1 (sym s) i

-- a pure expression
pub goes_pure : (mark : ℕ) (e : Expr) (b : Bool) → b ≡ not (pure mark (expr_tree e)) → b ≡ false → Ignores mark true (expr_tree e) None
goes_pure mark e b h k = by (pure mark (expr_tree e)) refl (sym k ∙ h)
  where
    by : (p : Bool) → pure mark (expr_tree e) ≡ p → false ≡ not p → Ignores mark true (expr_tree e) None
    by true i g = goes (expr_tree e) (is_an_expression e) i
    by false i g = cc

pub idle_goes : (mark : ℕ) (e : Expr) (b : Bool) → b ≡ not (pure mark (expr_tree e)) → not b ≡ true → Ignores mark true (expr_tree e) None
idle_goes mark e true h k = cc
idle_goes mark e false h k = goes_pure mark e false h refl

-- what is left, moved
pub some_left : (mark : ℕ) (t : Tree) (b c : Bool) (o : Option Expr) (e : Expr) → b ≡ c → o ≡ Some e → Ignores mark c t (tree_of o) → Ignores mark b t (Some (expr_tree e))
some_left mark t b c o e is at h = subst (λ d. Ignores mark d t (Some (expr_tree e))) (sym is) (subst (λ x. Ignores mark c t (tree_of x)) at h)

none_changed : (mark : ℕ) (t : Tree) (c : Bool) → Ignores mark c t None → Ignores mark true t None
none_changed mark t true h = h
none_changed mark t false h = elim h [ ]

pub nothing_left : (mark : ℕ) (t : Tree) (c : Bool) (o : Option Expr) → o ≡ None → Ignores mark c t (tree_of o) → Ignores mark true t None
nothing_left mark t c o at h = none_changed mark t c (subst (λ x. Ignores mark c t (tree_of x)) at h)

-- what is left that is something else
pub rested : (mark : ℕ) (t u : Tree) (r : Option Expr) (k : Rest) → k ≡ other r → Ignores mark true t (tree_of r) → Rested mark t u k
rested mark t u None k is h = subst (Rested mark t u) (sym is) h
rested mark t u (Some e) k is h = subst (Rested mark t u) (sym is) h
