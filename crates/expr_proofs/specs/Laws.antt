-- What is proved of each rewrite of a node of an expression.
use Rattle.std.specs.Prelude.{ℕ, Bool, true, false, ◌<◌, ◌≡◌, List}
use Rattle.swc_ast.specs.declared.Span.{Span}
use Rattle.swc_ast.specs.declared.UnaryOp.{UnaryOp}
use Rattle.swc_ast.specs.declared.BinaryOp.{BinaryOp}
use Rattle.swc_ast.specs.Tree.{Name, Unary, Binary, Cond, Seq, Tree, node, ε, ◌⊳◌, label_of}
use Rattle.swc_ast.specs.Redex.{is_zero, is_simple_literal, binary_redex, unary_redex}
use Rattle.swc_ast.specs.Weight.{weight}
use Rattle.meaning_proofs.specs.Exact.{Exact}
use Rattle.meaning_proofs.specs.Roles.{Fits, is_item}
use Rattle.meaning_proofs.specs.Walks.{no_names}
use Rattle.swc_ast.specs.Labels.{is_member_or_name, is_expression}
use Rattle.static_proofs.specs.Step.{Step}
use Rattle.expr_rules.specs.ExprSteps.{ExprStep}
use Rattle.pass_rules.specs.Leaves.{guarded}

-- what takes a node's place means exactly what the node means
abbrev pub StepsAreExact : Type 0
StepsAreExact = (mark : ℕ) (t u : Tree) → ExprStep mark t u → Exact mark t u

-- An expression that takes a node's place keeps and spares what a pass may not touch, and is lighter: whether statements may
-- stop in the pass or not, and whatever names it may not drop.
abbrev pub StepsOwe : Type 0
StepsOwe = (mark : ℕ) (n : Bool) (p : Name → Bool) (t u : Tree) → is_expression (label_of u) ≡ true → ExprStep mark t u → Step (n ≡ true) (λ x. p x ≡ true) t u

-- it declares what the node declares, which is nothing
abbrev pub StepsFit : Type 0
StepsFit = (mark : ℕ) (t u : Tree) → is_expression (label_of u) ≡ true → ExprStep mark t u → Fits no_names t u

-- no import and no export is rewritten
abbrev pub StepsPassItems : Type 0
StepsPassItems = (mark : ℕ) (t u : Tree) → ExprStep mark t u → is_item (label_of t) ≡ false

-- `(0, e)`
abbrev pub is_guarded : Tree → Bool
is_guarded (node Seq ss (z ⊳ t ⊳ ε)) = is_zero z
is_guarded _ = false

-- where a member or a name takes the place of a node that is not `(0, e)`, there is room for `0,` in front of it
abbrev pub StepsAreRoomy : Type 0
StepsAreRoomy = (mark : ℕ) (t u : Tree) → ExprStep mark t u → is_member_or_name (label_of u) ≡ true → is_guarded t ≡ false → (rs zs : List Span) → weight (guarded rs zs u) < weight t

-- some rule replaces the node
abbrev pub HasStep : ℕ → Tree → Type 0
HasStep mark t = (u : Tree) × ExprStep mark t u

-- so it is of each operator and each condition on literals that tell what it gives
pub record RedexesStep (mark : ℕ) (ss : List Span) : Type 0 where
  pub binary : (op : BinaryOp) (a b : Tree) → binary_redex op a b ≡ true → HasStep mark (node (Binary op) ss (a ⊳ b ⊳ ε))
  pub unary : (op : UnaryOp) (a : Tree) → unary_redex op a ≡ true → HasStep mark (node (Unary op) ss (a ⊳ ε))
  pub condition : (t a b : Tree) → is_simple_literal t ≡ true → HasStep mark (node Cond ss (t ⊳ a ⊳ b ⊳ ε))

abbrev pub RedexesHaveSteps : Type 0
RedexesHaveSteps = (mark : ℕ) (ss : List Span) → RedexesStep mark ss
