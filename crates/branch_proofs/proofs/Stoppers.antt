-- Statements that never end normally.
use Rattle.std.proofs.Common.{◌≡◌, ℕ, true}
use Rattle.std.proofs.lemmas.Bool.{false≢true}
use Rattle.swc_ast.specs.Tree.{Return, Throw, Break, Continue, Tree, node, ε, ◌⊳◌}
use Rattle.swc_ast.specs.Meaning.{act, eval, evals}
use Rattle.swc_ast.specs.Weight.{is_stopper}
use Rattle.meaning_proofs.specs.Exact.{stopped_left}
use Rattle.meaning_proofs.proofs.DeadCode.{Ends, ends_return, ends_throw, ends_break, ends_continue}

pub stopper_ends : (mark : ℕ) (t : Tree) → is_stopper t ≡ true → Ends mark t
unfolding eval act evals
stopper_ends mark (node Return ss cs) h = ends_return mark ss cs
stopper_ends mark (node Throw ss ε) h = record { by = λ n call c s. stopped_left }
stopper_ends mark (node Throw ss (t ⊳ ε)) h = ends_throw mark ss t
stopper_ends mark (node Throw ss (t ⊳ u ⊳ ts)) h = record { by = λ n call c s. stopped_left }
stopper_ends mark (node (Break l) ss ε) h = ends_break mark l ss
stopper_ends mark (node (Break l) ss (t ⊳ ts)) h = record { by = λ n call c s. stopped_left }
stopper_ends mark (node (Continue l) ss ε) h = ends_continue mark l ss
stopper_ends mark (node (Continue l) ss (t ⊳ ts)) h = record { by = λ n call c s. stopped_left }
stopper_ends mark _ h = absurd (false≢true h)
