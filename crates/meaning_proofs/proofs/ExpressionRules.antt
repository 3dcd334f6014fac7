-- Rewrites of expressions.
use Rattle.std.proofs.Common.{◌≡◌, ℕ, Bool, List, Option, Some, None, refl, sym, ap, ◌∙◌}
use Rattle.swc_ast.specs.declared.Span.{Span}
use Rattle.swc_ast.specs.declared.BinaryOp.{BinaryOp}
use Rattle.swc_ast.specs.declared.BinaryOp.TheVariants.{LogicalOr, LogicalAnd, NullishCoalescing}
use Rattle.swc_ast.specs.Tree.{Binary, Tree, node, ε, ◌⊳◌}
use Rattle.swc_ast.specs.Value.{Value, State, Outcome, Done, Run, and_then}
use Rattle.swc_ast.specs.Operators.{binary_prim, binary_value}
use Rattle.swc_ast.specs.Meaning.{gives, in_core, eval, evals, act, operate, short_circuits, shortened, compute}
use Rattle.meaning_proofs.specs.Exact.{Exact}
use Rattle.meaning_proofs.proofs.Laws.{exact_path}
use Rattle.meaning_proofs.proofs.Quiet.{Literal, literal_runs}

-- what goes on after a known value
pub known_then : {A B : Type 0} {o : Outcome A} {a : A} {s : State} → o ≡ Done a s → (f : A → Run B) → and_then o f ≡ f a s
unfolding and_then
known_then e f = ap (λ o. and_then o f) e

-- an operator that gives a value does not short-circuit
no_short : (op : BinaryOp) (a b v : Value) → binary_value op a b ≡ Some v → short_circuits op a ≡ None
unfolding binary_prim
no_short LogicalAnd a b v e = cc
no_short LogicalOr a b v e = cc
no_short NullishCoalescing a b v e = cc
no_short _ a b v e = refl

module _ (mark : ℕ) where
  -- two literals to the literal that they give
  pub fold_binary : (op : BinaryOp) (ss : List Span) {a b v : Value} {t u w : Tree} → Literal a t → Literal b u → Literal v w → binary_value op a b ≡ Some v → Exact mark (node (Binary op) ss (t ⊳ u ⊳ ε)) w
  unfolding eval act evals operate
  fold_binary op ss {a} {b} {v} {t} {u} l k m e = exact_path mark (λ n call c s.
      known_then (literal_runs mark n call l c s) (λ v. operate op v (eval mark n call u c))
      ∙ ap (λ (o : Option Bool). shortened o (gives a) (eval mark n call u c) (λ s. and_then (eval mark n call u c s) (λ w. compute op a w)) s) (no_short op a b v e)
      ∙ known_then (literal_runs mark n call k c s) (λ w. compute op a w)
      ∙ ap (λ (o : Option Value). in_core o s) e
      ∙ sym (literal_runs mark n call m c s))
