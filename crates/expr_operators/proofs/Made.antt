-- The trees of the expressions that folds make.
use Rattle.std.proofs.Common.{◌≡◌, ℕ, ℤ, List, Option, Some, None, codes, sym, ap, ◌∙◌}
use Rattle.swc_ast.specs.Tree.{NumLit, Read, node, ε}
use Rattle.swc_ast.specs.declared.Span.{Span}
use Rattle.swc_utils.specs.Sound.{numeric}
use Rattle.pass_rules.specs.Leaves.{number_tree}

pub number_made : (mark : ℕ) (ss : List Span) (o : Option ℤ) (z k : ℤ) → k ≡ z → o ≡ Some z → node (NumLit k) ss ε ≡ number_tree mark ss (numeric o)
number_made mark ss o z k h is = ap (λ x. node (NumLit x) ss ε) h ∙ sym (ap (λ x. number_tree mark ss (numeric x)) is)

pub nan_made : (mark : ℕ) (ss : List Span) (o : Option ℤ) (t : List ℕ) → t ≡ codes "NaN" → o ≡ None → node (Read (record { text = t; context = mark })) ss ε ≡ number_tree mark ss (numeric o)
nan_made mark ss o t h is = ap (λ x. node (Read (record { text = x; context = mark })) ss ε) h ∙ sym (ap (λ x. number_tree mark ss (numeric x)) is)
