-- What is left of choices, from what is left of their sides and arms.
use Rattle.std.proofs.Common.{◌≡◌, ℕ, Bool, true, false, ◌||◌, List, [], ◌∷◌, Option, Some, None, refl, ap, subst, ◌∙◌}
use Rattle.swc_ast.specs.declared.Span.{Span}
use Rattle.swc_ast.specs.declared.BinaryOp.{BinaryOp}
use Rattle.swc_ast.specs.declared.expressions.Expr.{Expr}
use Rattle.swc_ast.specs.Tree as tree
use Rattle.swc_ast.specs.Tree.{Tree, node, ε, ◌⊳◌}
use Rattle.swc_ast.specs.Views.{expr_tree}
use Rattle.swc_utils.specs.Known.{truth, pure_truth}
use Rattle.swc_utils.specs.Pure.{pure}
use Rattle.branch_rules.specs.Ignored.{Ignores, may_skip, right_goes, right_left, arm_runs, arms_go, second_goes, first_goes, arms_left}
use Rattle.branch_expressions.specs.Choices.{Decides, are_none, choice_tree}
use Rattle.branch_expressions.specs.Left.{Leaves, Rested, is_change, other, tree_of}
use Rattle.branch_expressions.specs.declared.rest.Rest.{Rest}
use Rattle.branch_expressions.specs.declared.rest.Rest.TheVariants as rest
use Rattle.branch_expressions.proofs.Made.{at_tree, pure_known, rested}

pub sides_known : (mark : ℕ) (o : BinaryOp) (s : Span) (a b : Tree) (r : Option Expr) → Decides mark o a true → Leaves mark a r → Ignores mark true (node (tree.Binary o) (s ∷ []) (a ⊳ b ⊳ ε)) (tree_of r)
sides_known mark o s a b r d l = d l.changed (tree_of r) (s ∷ []) b l.ignores

pub sides_run : (mark : ℕ) (o : BinaryOp) (s : Span) (a b : Tree) (r : Option Expr) → Decides mark o a false → Leaves mark b r → Ignores mark true (node (tree.Binary o) (s ∷ []) (a ⊳ b ⊳ ε)) (tree_of r)
sides_run mark o s a b r d l = d l.changed (tree_of r) (s ∷ []) b l.ignores

pub side_goes : (mark : ℕ) (o : BinaryOp) (s : Span) (a b : Tree) (r : Option Expr) → may_skip o ≡ true → Ignores mark true b None → Leaves mark a r → Ignores mark true (node (tree.Binary o) (s ∷ []) (a ⊳ b ⊳ ε)) (tree_of r)
side_goes mark o s a b r m h l = right_goes o (s ∷ []) a b m h l.ignores

pub side_left : (mark : ℕ) (o : BinaryOp) (s : Span) (a b v : Tree) (e : Expr) → may_skip o ≡ true → Ignores mark true b (Some v) → expr_tree e ≡ node (tree.Binary o) (s ∷ []) (a ⊳ v ⊳ ε) → Ignores mark true (node (tree.Binary o) (s ∷ []) (a ⊳ b ⊳ ε)) (Some (expr_tree e))
side_left mark o s a b v e m h is = at_tree mark true _ (ap Some is) (right_left o (s ∷ []) (s ∷ []) a b v m h)

module _ (mark : ℕ) (s : Span) (t a b : Tree) where
  pub cons_runs : (r : Option Expr) → pure_truth mark t ≡ Some true → Leaves mark a r → Ignores mark true (node tree.Cond (s ∷ []) (t ⊳ a ⊳ b ⊳ ε)) (tree_of r)
  cons_runs r h l = let p = pure_known (pure mark t) (truth mark t) true h in arm_runs (s ∷ []) t a b true p.0 p.1 l.ignores

  pub alt_runs : (r : Option Expr) → pure_truth mark t ≡ Some false → Leaves mark b r → Ignores mark true (node tree.Cond (s ∷ []) (t ⊳ a ⊳ b ⊳ ε)) (tree_of r)
  alt_runs r h l = let p = pure_known (pure mark t) (truth mark t) false h in arm_runs (s ∷ []) t a b false p.0 p.1 l.ignores

  -- where nothing is left, that is a change
  gone : (c : Bool) (u : Tree) → Ignores mark c u None → Ignores mark true u None
  gone true u h = h
  gone false u h = elim h [ ]

  by_arms : (c d : Bool) (o p : Option Tree) → (c || d) ≡ true → are_none o p ≡ false → Ignores mark c a o → Ignores mark d b p → Ignores mark true (node tree.Cond (s ∷ []) (t ⊳ a ⊳ b ⊳ ε)) (choice_tree (s ∷ []) t o p)
  by_arms c d None None e n h k = cc
  by_arms c d (Some v) None e n h k = second_goes (s ∷ []) (s ∷ []) t a b v h (gone d b k)
  by_arms c d None (Some w) e n h k = first_goes (s ∷ []) (s ∷ []) t a b w (gone c a h) k
  by_arms c d (Some v) (Some w) e n h k = arms_left (s ∷ []) (s ∷ []) t a b v w h k e

  both_gone : (c d : Bool) (o p : Option Tree) (r : Option Expr) → are_none o p ≡ true → Ignores mark c a o → Ignores mark d b p → Leaves mark t r → Ignores mark true (node tree.Cond (s ∷ []) (t ⊳ a ⊳ b ⊳ ε)) (tree_of r)
  both_gone c d None None r n h k l = arms_go (s ∷ []) t a b (gone c a h) (gone d b k) l.ignores
  both_gone c d (Some v) o r n h k l = cc
  both_gone c d None (Some v) r n h k l = cc

  -- an arm by the tree that it stands for, and what is left of it, which was moved out
  module _ (x v y w : Tree) (q p : Rest) (f g : Option Expr) (ax : x ≡ a) (ay : y ≡ b) (h : Ignores mark (is_change q) x (tree_of f)) (k : Ignores mark (is_change p) y (tree_of g)) where
    pub arms_gone_at : (z u : Tree) (r : Option Expr) (m : Rest) → are_none (tree_of f) (tree_of g) ≡ true → Leaves mark z r → z ≡ t → m ≡ other r → Rested mark (node tree.Cond (s ∷ []) (t ⊳ a ⊳ b ⊳ ε)) u m
    arms_gone_at z u r m n l az is = rested mark _ u r m is (both_gone (is_change q) (is_change p) (tree_of f) (tree_of g) r n (subst (λ e. Ignores mark (is_change q) e (tree_of f)) ax h) (subst (λ e. Ignores mark (is_change p) e (tree_of g)) ay k) (subst (λ e. Leaves mark e r) az l))

    pub arms_choice : (z u : Tree) (r : Option Expr) (m : Rest) → (is_change q || is_change p) ≡ true → are_none (tree_of f) (tree_of g) ≡ false → tree_of r ≡ choice_tree (s ∷ []) z (tree_of f) (tree_of g) → z ≡ t → m ≡ other r → Rested mark (node tree.Cond (s ∷ []) (t ⊳ a ⊳ b ⊳ ε)) u m
    arms_choice z u r m e n c az is = rested mark _ u r m is (at_tree mark true _ (c ∙ ap (λ i. choice_tree (s ∷ []) i (tree_of f) (tree_of g)) az) (by_arms (is_change q) (is_change p) (tree_of f) (tree_of g) e n (subst (λ i. Ignores mark (is_change q) i (tree_of f)) ax h) (subst (λ i. Ignores mark (is_change p) i (tree_of g)) ay k)))

unchanged : (mark : ℕ) (x v : Tree) (q : Rest) → is_change q ≡ false → Rested mark x v q → v ≡ x
unchanged mark x v rest.Same h r = r
unchanged mark x v rest.Nothing h r = cc
unchanged mark x v (rest.Other e) h r = cc

no_change : (c d : Bool) → (c || d) ≡ false → (c ≡ false) × (d ≡ false)
no_change true d h = cc
no_change false d h = (refl, h)

pub arms_same : (mark : ℕ) (ss : List Span) (t a b c d x v y w : Tree) (q p : Rest) → Rested mark x v q → x ≡ a → c ≡ v → Rested mark y w p → y ≡ b → d ≡ w → (is_change q || is_change p) ≡ false → node tree.Cond ss (t ⊳ c ⊳ d ⊳ ε) ≡ node tree.Cond ss (t ⊳ a ⊳ b ⊳ ε)
arms_same mark ss t a b c d x v y w q p h ax cv k ay dw n = let e = no_change (is_change q) (is_change p) n in ap (λ z. node tree.Cond ss (t ⊳ z ⊳ d ⊳ ε)) (cv ∙ unchanged mark x v q e.0 h ∙ ax) ∙ ap (λ z. node tree.Cond ss (t ⊳ a ⊳ z ⊳ ε)) (dw ∙ unchanged mark y w p e.1 k ∙ ay)
