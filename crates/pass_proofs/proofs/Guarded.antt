-- `(0, e)` is e.
use Rattle.std.proofs.Common.{ℕ, List}
use Rattle.swc_ast.specs.declared.Span.{Span}
use Rattle.swc_ast.specs.Tree.{Tree}
use Rattle.swc_ast.specs.Value.{and_then}
use Rattle.swc_ast.specs.Meaning.{in_turn, act, eval, evals}
use Rattle.meaning_proofs.specs.Exact.{Exact}
use Rattle.swc_utils.proofs.Refines.{refines_same}
use Rattle.pass_rules.specs.Leaves.{guarded}

pub guarded_exact : (mark : ℕ) (rs zs : List Span) (t : Tree) → Exact mark t (guarded rs zs t)
unfolding eval act evals in_turn and_then
guarded_exact mark rs zs t = record { by = λ n d c. refines_same _ }
