-- What holds of what rounds come to.
use Rattle.std.proofs.Common.{ℕ, Bool, true, ◌≡◌, ◌<◌, ◌≤◌, ◌+◌, refl, subst}
use Rattle.swc_ast.specs.Marks.{mark_number}
use Rattle.swc_ast.specs.Core.{IsCore}
use Rattle.swc_ast.specs.Resolved.{IsResolved}
use Rattle.swc_ast.specs.Run.{Same}
use Rattle.swc_ast.specs.Tree.{Tree}
use Rattle.swc_ast.specs.Valid.{valid}
use Rattle.swc_ast.specs.Weight.{weight}
use Rattle.swc_pass.specs.Pass.{TellsChange}
use Rattle.swc_pass.specs.Repeat.{Rounds, Rounded}
use Rattle.swc_pass.specs.RepeatLaws.{comes_to_end, few_rounds, rounds_tell}
use Rattle.std.specs.Prelude.{if◌then◌else◌, IsTrue, ◌↔◌}
use Rattle.swc_dce.specs.Shaken.{Told}
use Rattle.swc_optimization.specs.Simplifier.{Round, round_spec, Settled, Simplifying, Simplifies}
use Rattle.swc_optimization.specs.RoundLaws.{round_resolved, round_valid, round_core, round_lawful, rounds_lawful}
use Rattle.swc_optimization.proofs.Rows.{rounds_keep}
use Rattle.swc_optimization.proofs.Settling.{reached_settled}

module _ (told : Told) (most : ℕ) (t : Tree) (n : ℕ) (b : Bool) (u : Tree) (a : Rounded (round_spec told) most t n b u) where
  pub run_same : IsResolved (mark_number told.mark) t → IsCore t → Same (mark_number told.mark) told.keeps_imports t u
  run_same r c = (rounds_lawful told most).same (mark_number told.mark) t u refl (n, b, a) r c

  pub run_resolved : (m : ℕ) → IsResolved m t → IsResolved m u
  run_resolved m = rounds_keep (IsResolved m) (round_resolved told m) a.rounds

  pub run_valid : valid t ≡ true → valid u ≡ true
  run_valid = rounds_keep (λ y. valid y ≡ true) (round_valid told) a.rounds

  pub run_core : IsCore t → IsCore u
  run_core = rounds_keep IsCore (round_core told) a.rounds

  pub run_tells : (c : Bool) → (IsTrue c ↔ ((if b then 1 else 0) < n)) → TellsChange c t u
  run_tells c i = rounds_tell (round_lawful told) t n b u c refl i a.rounds

  pub run_ends : weight t < most → b ≡ true
  run_ends k = comes_to_end (round_lawful told) most t n b u refl k a

  pub run_few : n ≤ weight t + 1
  run_few = few_rounds (round_lawful told) t n b u refl a.rounds

  pub run_settled : b ≡ true → valid u ≡ true → Settled told u
  run_settled e v = reached_settled told t n u (subst (λ c. Rounds (Round told) t n c u) e a.rounds) v

-- all of it, by what the simplifier tells
pub run_simplifies : (told : Told) (most : ℕ) (now : Simplifying) (t u : Tree) → Rounded (round_spec told) most t now.rounds now.reached u → (IsTrue now.changed ↔ ((if now.reached then 1 else 0) < now.rounds)) → Simplifies told most now t u
run_simplifies told most now t u a i = record {
  same = run_same told most t now.rounds now.reached u a;
  stays_resolved = run_resolved told most t now.rounds now.reached u a (mark_number told.mark);
  stays_valid = run_valid told most t now.rounds now.reached u a;
  stays_core = run_core told most t now.rounds now.reached u a;
  changed = run_tells told most t now.rounds now.reached u a now.changed i;
  rounds = a;
  comes_to_end = run_ends told most t now.rounds now.reached u a;
  few_rounds = run_few told most t now.rounds now.reached u a;
  settled = run_settled told most t now.rounds now.reached u a;
}
