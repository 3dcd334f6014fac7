-- What is left of nodes, as the functions answer it: from what is left of parts, which are the node's by equations.
use Rattle.std.proofs.Common.{◌≡◌, ℕ, Bool, true, false, List, [], ◌∷◌, map, Option, Some, None, sym, ap, subst, ◌∙◌}
use Rattle.swc_ast.specs.Tree as tree
use Rattle.swc_ast.specs.Tree.{Text, ItemKind, Tree, node, Forest, ε, ◌⊳◌}
use Rattle.swc_ast.specs.declared.Span.{Span}
use Rattle.swc_ast.specs.declared.UnaryOp.{UnaryOp}
use Rattle.swc_ast.specs.declared.BinaryOp.{BinaryOp}
use Rattle.swc_ast.specs.declared.expressions.ArrayLit.{ArrayLit}
use Rattle.swc_ast.specs.declared.expressions.Expr.{Expr}
use Rattle.swc_ast.specs.declared.expressions.ExprOrSpread.{ExprOrSpread}
use Rattle.swc_ast.specs.Expressions.{array_tree, call_node, item_kind, item_spans, item_trees, unary_node}
use Rattle.swc_ast.specs.Parts.{list_trees}
use Rattle.swc_ast.specs.Views.{expr_tree}
use Rattle.swc_utils.specs.Effects.{has_record_spread, is_typeof}
use Rattle.swc_utils.specs.Known.{pure_truth}
use Rattle.swc_utils.specs.Pure.{has_spread, is_pure_callee}
use Rattle.branch_rules.specs.Ignored.{Ignores, as_one, is_function_expression, may_skip, properties_parts}
use Rattle.branch_expressions.specs.Choices.{Decides, only_tree}
use Rattle.branch_expressions.specs.Left.{Adds, AddsItems, Leaves, Rested, other, tree_of}
use Rattle.branch_expressions.specs.declared.rest.Rest.{Rest}
use Rattle.branch_expressions.specs.declared.rest.Rest.TheVariants as rest
use Rattle.branch_expressions.proofs.Adding.{same_adds, sequence_left}
use Rattle.branch_expressions.proofs.Arms as arms
use Rattle.branch_expressions.proofs.ArrayItems.{array_left}
use Rattle.branch_expressions.proofs.Made.{at_tree, rested, unary_left}
use Rattle.branch_expressions.proofs.Nodes.{call_left, new_left, only_left, template_left, plain_array_left, object_left, sides_left}

leaves_at : (mark : ℕ) (x t : Tree) (r : Option Expr) → x ≡ t → Leaves mark x r → Leaves mark t r
leaves_at mark x t r h l = subst (λ y. Leaves mark y r) h l

adds_at : (mark : ℕ) (x t : Forest) (a b : List Expr) (c : Bool) → x ≡ t → Adds mark x a b c → Adds mark t a b c
adds_at mark x t a b c h k = subst (λ y. Adds mark y a b c) h k

pub unary_rested : (mark : ℕ) (o : UnaryOp) (s : Span) (x t u : Tree) (r : Option Expr) (k : Rest) → is_typeof o ≡ false → Leaves mark x r → x ≡ t → k ≡ other r → Rested mark (unary_node o s t) u k
unary_rested mark o s x t u r k h l at is = rested mark _ u r k is (unary_left mark o s t r h (leaves_at mark x t r at l))

module _ (mark : ℕ) (o : BinaryOp) (s : Span) (a b u : Tree) where
  pub side_known : (y x : Tree) (r : Option Expr) (k : Rest) → Decides mark o y true → y ≡ a → Leaves mark x r → x ≡ a → k ≡ other r → Rested mark (node (tree.Binary o) (s ∷ []) (a ⊳ b ⊳ ε)) u k
  side_known y x r k d ay l at is = rested mark _ u r k is (arms.sides_known mark o s a b r (subst (λ z. Decides mark o z true) ay d) (leaves_at mark x a r at l))

  pub side_run : (x : Tree) (r : Option Expr) (k : Rest) → Decides mark o a false → Leaves mark x r → x ≡ b → k ≡ other r → Rested mark (node (tree.Binary o) (s ∷ []) (a ⊳ b ⊳ ε)) u k
  side_run x r k d l at is = rested mark _ u r k is (arms.sides_run mark o s a b r d (leaves_at mark x b r at l))

  pub side_gone : (x y v : Tree) (q : Rest) (r : Option Expr) (k : Rest) → may_skip o ≡ true → Rested mark x v q → q ≡ rest.Nothing → x ≡ b → Leaves mark y r → y ≡ a → k ≡ other r → Rested mark (node (tree.Binary o) (s ∷ []) (a ⊳ b ⊳ ε)) u k
  side_gone x y v q r k m h n at l ay is = rested mark _ u r k is (arms.side_goes mark o s a b r m (subst (λ z. Ignores mark true z None) at (subst (Rested mark x v) n h)) (leaves_at mark y a r ay l))

  pub side_other : (x y v : Tree) (q : Rest) (w e : Expr) → may_skip o ≡ true → Rested mark x v q → q ≡ rest.Other w → x ≡ b → y ≡ a → expr_tree e ≡ node (tree.Binary o) (s ∷ []) (y ⊳ expr_tree w ⊳ ε) → Rested mark (node (tree.Binary o) (s ∷ []) (a ⊳ b ⊳ ε)) u (rest.Other e)
  side_other x y v q w e m h n at ay is = arms.side_left mark o s a b (expr_tree w) e m (subst (λ z. Ignores mark true z (Some (expr_tree w))) at (subst (Rested mark x v) n h)) (is ∙ ap (λ z. node (tree.Binary o) (s ∷ []) (z ⊳ expr_tree w ⊳ ε)) ay)

  pub side_same : (x v w : Tree) (q : Rest) → Rested mark x v q → q ≡ rest.Same → x ≡ b → w ≡ v → node (tree.Binary o) (s ∷ []) (a ⊳ w ⊳ ε) ≡ node (tree.Binary o) (s ∷ []) (a ⊳ b ⊳ ε)
  side_same x v w q h n at aw = ap (λ z. node (tree.Binary o) (s ∷ []) (a ⊳ z ⊳ ε)) (aw ∙ subst (Rested mark x v) n h ∙ at)

  pub sides_rested : (p q : Tree) (xs ys zs : List Expr) (c d : Bool) (r : Option Expr) (k : Rest) (rs : List Span) → may_skip o ≡ false → xs ≡ [] → Adds mark (p ⊳ ε) xs ys c → p ≡ a → Adds mark (q ⊳ ε) ys zs d → q ≡ b → tree_of r ≡ as_one rs (list_trees expr_tree zs) → k ≡ other r → Rested mark (node (tree.Binary o) (s ∷ []) (a ⊳ b ⊳ ε)) u k
  sides_rested p q xs ys zs c d r k rs m none h ap₁ g aq is to = rested mark _ u r k to (sides_left mark o (s ∷ []) a b xs ys zs c d r rs m none (adds_at mark _ _ xs ys c (ap (λ z. z ⊳ ε) ap₁) h) (adds_at mark _ _ ys zs d (ap (λ z. z ⊳ ε) aq) g) is)

  pub pure_rested : (x y : Tree) (p q r : Option Expr) (k : Rest) → may_skip o ≡ false → Ignores mark true a None → Ignores mark true b None → Leaves mark x p → x ≡ a → Leaves mark y q → y ≡ b → tree_of r ≡ only_tree (tree_of p) (tree_of q) → k ≡ other r → Rested mark (node (tree.Binary o) (s ∷ []) (a ⊳ b ⊳ ε)) u k
  pure_rested x y p q r k m ga gb l ax n by is to =
      rested mark _ u r k to (at_tree mark true _ is (only_left mark o (s ∷ []) a b (tree_of p) (tree_of q) m ga gb (leaves_at mark x a p ax l).ignores (leaves_at mark y b q by n).ignores))

module _ (mark : ℕ) (s : Span) (t a b u : Tree) where
  pub cons_rested : (x y : Tree) (r : Option Expr) (k : Rest) → pure_truth mark y ≡ Some true → y ≡ t → Leaves mark x r → x ≡ a → k ≡ other r → Rested mark (node tree.Cond (s ∷ []) (t ⊳ a ⊳ b ⊳ ε)) u k
  cons_rested x y r k h at l ax is = rested mark _ u r k is (arms.cons_runs mark s t a b r (sym (ap (pure_truth mark) at) ∙ h) (leaves_at mark x a r ax l))

  pub alt_rested : (x y : Tree) (r : Option Expr) (k : Rest) → pure_truth mark y ≡ Some false → y ≡ t → Leaves mark x r → x ≡ b → k ≡ other r → Rested mark (node tree.Cond (s ∷ []) (t ⊳ a ⊳ b ⊳ ε)) u k
  alt_rested x y r k h at l ax is = rested mark _ u r k is (arms.alt_runs mark s t a b r (sym (ap (pure_truth mark) at) ∙ h) (leaves_at mark x b r ax l))

-- rows of expressions

module _ (mark : ℕ) (ss : List Span) (ts : Forest) (u : Tree) (a b : List Expr) (c : Bool) (r : Option Expr) (k : Rest) (rs : List Span) where
  pub sequence_rested : a ≡ [] → c ≡ true → Adds mark ts a b c → tree_of r ≡ as_one rs (list_trees expr_tree b) → k ≡ other r → Rested mark (node tree.Seq ss ts) u k
  sequence_rested none changed h is to = rested mark _ u r k to (sequence_left mark ss ts a b c r rs none changed h is)

  pub template_rested : (qs : List (Text × Bool)) → a ≡ [] → Adds mark ts a b c → tree_of r ≡ as_one rs (list_trees expr_tree b) → k ≡ other r → Rested mark (node (tree.Template qs) ss ts) u k
  template_rested qs none h is to = rested mark _ u r k to (template_left mark qs ss ts a b c r rs none h is)

  pub call_rested : (s : Span) (f : Tree) → is_pure_callee f ≡ true → a ≡ [] → Adds mark ts a b c → tree_of r ≡ as_one rs (list_trees expr_tree b) → k ≡ other r → Rested mark (call_node s f ts) u k
  call_rested s f p none h is to = rested mark _ u r k to (call_left mark s f ts a b c r rs p none h is)

  pub new_rested : (f : Tree) → is_function_expression f ≡ true → is_pure_callee f ≡ true → a ≡ [] → Adds mark ts a b c → tree_of r ≡ as_one rs (list_trees expr_tree b) → k ≡ other r → Rested mark (node tree.New ss (f ⊳ ts)) u k
  new_rested f e p none h is to = rested mark _ u r k to (new_left mark ss f ts a b c r rs e p none h is)

  pub array_rested : (ks : List ItemKind) → has_spread ks ≡ false → a ≡ [] → Adds mark ts a b c → tree_of r ≡ as_one rs (list_trees expr_tree b) → k ≡ other r → Rested mark (node (tree.Array ks) ss ts) u k
  array_rested ks p none h is to = rested mark _ u r k to (plain_array_left mark ks ss ts a b c r rs p none h is)

  pub object_rested : has_record_spread ts ≡ false → a ≡ [] → Adds mark (properties_parts mark ts) a b c → tree_of r ≡ as_one rs (list_trees expr_tree b) → k ≡ other r → Rested mark (node tree.Object ss ts) u k
  object_rested p none h is to = rested mark _ u r k to (object_left mark ss ts a b c r rs p none h is)

pub sequence_same : (mark : ℕ) (ss : List Span) (ts : Forest) (a b : List Expr) (c : Bool) → a ≡ [] → c ≡ false → Adds mark ts a b c → node tree.Seq ss (list_trees expr_tree b) ≡ node tree.Seq ss ts
sequence_same mark ss ts a b c none h k = ap (node tree.Seq ss) (same_adds mark ts b c h (subst (λ xs. Adds mark ts xs b c) none k))

pub items_rested : (mark : ℕ) (n : ArrayLit Expr) (s : Span) (u : Tree) (e : Expr) (a b : List (Option (ExprOrSpread Expr))) (c : Bool) → a ≡ [] → c ≡ true → AddsItems mark n.elems.items a b c → expr_tree e ≡ node (tree.Array (map item_kind b)) (s ∷ item_spans b) (item_trees expr_tree b) → Rested mark (array_tree expr_tree n) u (rest.Other e)
items_rested mark n s u e a b c none h k is = subst (λ x. Ignores mark true (array_tree expr_tree n) (Some x)) (sym is) (array_left mark n s a b c none h k)
