-- What the expression simplifier does at a node whose children it has done.
use Rattle.std.specs.Prelude.{ℕ, ◌≡◌, true, false}
use Rattle.swc_ast.specs.Redex.{is_delete}
use Rattle.swc_ast.specs.Tree.{Tree, label_of}
use Rattle.swc_ast.specs.Labels.{is_expression}
use Rattle.static_proofs.specs.Free.{kind_at}
use Rattle.tree_walk.specs.Pass.{Pass}
use Rattle.pass_places.specs.Dropped.{Dropped}
use Rattle.expr_rules.specs.ExprSteps.{ExprStep}
use Rattle.expr_rules.specs.Replaced.{expr_redex}

-- a node of an expression becomes the expression that one of the rules makes of it, or a default that is undefined anyway goes
pub data Simplifies (mark : ℕ) : Tree → Tree → Type 0 where
  folds : {t u : Tree} → is_expression (label_of u) ≡ true → ExprStep mark t u → Simplifies mark t u
  default_goes : {t u : Tree} → Dropped mark t u → Simplifies mark t u

-- a node that is no operator and no condition on literals that tell what it gives
abbrev pub Rests : Tree → Type 0
Rests t = kind_at expr_redex t ≡ false

-- Lists of statements stay, and the operand of `delete` isn't entered.
abbrev pub simplify_pass : ℕ → Pass
simplify_pass mark = record { opens = λ t u. ⊥; steps = Simplifies mark; rests = Rests; tidies = λ l ts us. ⊥; tidy = λ l ts. Unit {0}; skips = λ t. is_delete (label_of t) ≡ true }
