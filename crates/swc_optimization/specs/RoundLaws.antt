-- A round is a lawful pass, and so are rounds.
use Rattle.std.specs.Prelude.{ℕ, Bool, true, ◌≡◌}
use Rattle.std.proofs.Common.{refl}
use Rattle.swc_ast.specs.Marks.{mark_number}
use Rattle.swc_ast.specs.Core.{IsCore}
use Rattle.swc_ast.specs.Resolved.{IsResolved}
use Rattle.swc_ast.specs.Run.{Same}
use Rattle.swc_ast.specs.Tree.{Tree}
use Rattle.swc_ast.specs.Valid.{valid}
use Rattle.meaning_proofs.proofs.Observations.{same_trans}
use Rattle.swc_pass.specs.ChainLaws.{lighter_on}
use Rattle.swc_pass.specs.Pass.{PassSpec, IsLawful}
use Rattle.swc_pass.specs.Repeat.{Rounded, repeated}
use Rattle.swc_pass.specs.RepeatLaws.{repeated_lawful, rounds_give}
use Rattle.swc_dce.specs.Shaken.{Told}
use Rattle.swc_optimization.specs.Simplifier.{Round, round_spec, rounds_spec}

-- a round keeps what its passes keep

module _ (told : Told) where
  pub round_resolved : (n : ℕ) (t u : Tree) → Round told t u → IsResolved n t → IsResolved n u
  round_resolved n t u a r = a.shakes.resolved n (a.removes.resolved n (a.simplifies.resolved n r))

  pub round_core : (t u : Tree) → Round told t u → IsCore t → IsCore u
  round_core t u a c = a.shakes.core (a.removes.core (a.simplifies.core c))

  pub round_valid : (t u : Tree) → Round told t u → valid t ≡ true → valid u ≡ true
  round_valid t u a v = a.shakes.stays_valid (a.removes.stays_valid (a.simplifies.stays_valid v))

  round_same : (n : ℕ) (t u : Tree) → n ≡ mark_number told.mark → Round told t u → IsResolved n t → IsCore t → Same n told.keeps_imports t u
  round_same n t u f a r c =
      let s = a.simplifies.resolved n r in
      let d = a.simplifies.core c in
      same_trans n told.keeps_imports t a.simplified u (a.simplifies.same n f told.keeps_imports)
      (same_trans n told.keeps_imports a.simplified a.removed u (a.removes.same n f s d told.keeps_imports)
      (a.shakes.same n f (a.removes.resolved n s) (a.removes.core d)))

  pub round_lawful : IsLawful (round_spec told)
  round_lawful = record {
    same = λ n t u f a r c. round_same n t u f a r c;
    resolved = λ n t u f a r. round_resolved n t u a r;
    valid = λ n t u f a r v. round_valid t u a v;
    core = λ n t u f a r c. round_core t u a c;
    lighter = λ t u e a. lighter_on t a.removed u (lighter_on t a.simplified a.removed a.simplifies.lighter a.removes.lighter) a.shakes.lighter;
  }

-- what rounds come to is an answer of the pass that runs again and again
module _ {p : PassSpec} (h : IsLawful p) (l : p.lowers ≡ true) (most : ℕ) where
  repeats : (t u : Tree) → (n : ℕ) × (reached : Bool) × Rounded p most t n reached u → (repeated p most).answers t u
  repeats t u a = (a.0, a.1, record { last = u; rounded = a.2; gives = rounds_give h t a.0 a.1 u l a.2.rounds })

pub rounds_lawful : (told : Told) (most : ℕ) → IsLawful (rounds_spec told most)
rounds_lawful told most =
    let h = repeated_lawful (round_lawful told) most in
    let again = repeats (round_lawful told) refl most in
    record {
      same = λ n t u f a r c. h.same n t u f (again t u a) r c;
      resolved = λ n t u f a r. h.resolved n t u f (again t u a) r;
      valid = λ n t u f a r v. h.valid n t u f (again t u a) r v;
      core = λ n t u f a r c. h.core n t u f (again t u a) r c;
      lighter = λ t u e a. h.lighter t u e (again t u a);
    }
