-- What the loop does at a time is rounds.
use Rattle.std.proofs.Common.{ℕ, ◌+◌, ◌<◌, ◌≤◌, ◌≡◌, ◌⊎◌, inl, inr, Bool, true, false, not, ◌||◌, refl, sym, subst, arith}
use Rattle.std.proofs.lemmas.Bool.{false≢true}
use Rattle.swc_ast.specs.declared.names.Mark.{Mark}
use Rattle.swc_ast.specs.Marks.{mark_number}
use Rattle.swc_ast.specs.Tree.{Tree}
use Rattle.swc_ast.specs.Weight.{weight}
use Rattle.swc_pass.specs.ChainLaws.{lighter_on}
use Rattle.swc_pass.specs.Lighter.{Falls, falls, falls_on, falls_tells}
use Rattle.swc_pass.specs.Pass.{SameBare, TellsChange}
use Rattle.swc_pass.specs.Repeat.{Rounds, none, changing, last}
use Rattle.swc_pass.specs.RepeatLaws.{round_on, round_last}
use Rattle.swc_expr.specs.Simplified.{Simplified, simplify_lawful}
use Rattle.swc_branch.specs.Removed.{Removed, remove_lawful}
use Rattle.swc_dce.specs.Shaken.{Told, Shaken, shake_lawful}
use Rattle.round_proofs.specs.Rested.{AtRest, Rested}
use Rattle.swc_optimization.specs.Simplifier.{Round}
use Rattle.swc_optimization.specs.Turns.{Cleared, Turned}
use Rattle.swc_optimization.proofs.Exact.{not_heavier, unchanged}
use Rattle.swc_optimization.proofs.Rows.{simplify_settles, remove_settles, wider_rounds}

-- rounds behind rounds
pub rounds_then : {A : Tree → Tree → Type 0} {t v u : Tree} {n m : ℕ} {b : Bool} → Rounds A t n false v → Rounds A v m b u → Rounds A t (n + m) b u
rounds_then {A} {t} {v} {n = n} s none = subst (λ k. Rounds A t k false v) (omega arith) s
rounds_then {A} {t} {n = n} s (changing {n = m} {v = w} r a d) = subst (λ k. Rounds A t k false w) (omega arith) (changing (rounds_then s r) a d)
rounds_then {A} {t} {n = n} s (last {n = m} {u = w} r a) = subst (λ k. Rounds A t k true w) (omega arith) (last (rounds_then s r) a)

-- rounds of a turn behind rounds
pub turned_on : (told : Told) (most done left n : ℕ) (b : Bool) (t v u : Tree) → done + left ≡ most → Rounds (Round told) t done false v → Turned told left v n b u → (done + n ≤ most) × Rounds (Round told) t (done + n) b u
turned_on told most done left n b t v u e s r = (omega (arith, e, r.within), rounds_then s r.rounds)

-- one more, by what it tells
more_on : {A : Tree → Tree → Type 0} {t v u : Tree} {n : ℕ} (c : Bool) → Rounds A t n false v → A v u → TellsChange c v u → Rounds A t (n + 1) (not c) u
more_on true s a d = round_on true refl s a d
more_on false s a d = round_last false refl s a d

-- what two passes in a row answer
pub cleared_as : (m k : Mark) (t v u : Tree) → Simplified (mark_number m) t v → Removed (mark_number k) v u → Cleared m k t u
cleared_as m k t v u a b = record { simplified = v; simplifies = a; removes = b }

-- and what they tell together
pub cleared_tells : (m k : Mark) (c d : Bool) (t v u : Tree) → Simplified (mark_number m) t v → TellsChange c t v → Removed (mark_number k) v u → TellsChange d v u → TellsChange (c || d) t u
cleared_tells m k c d t v u a e b f = falls_tells (c || d) t u (falls_on c d t v u (falls (simplify_lawful m) refl c t v a e) (falls (remove_lawful k) refl d v u b f))

module _ (told : Told) where
  -- two passes in a row rest where they changed nothing
  cleared_rests : (t u : Tree) → Cleared told.mark told.mark t u → u ≡ t → AtRest told t
  cleared_rests t u a e =
      let f = simplify_settles told.mark t a.simplified a.simplifies in
      let g = remove_settles told.mark a.simplified u a.removes in
      let d = not_heavier g.0 a.simplified u g.1 in
      let i = unchanged f.0 t a.simplified f.1 (subst (λ x. weight x ≤ weight a.simplified) e d) in
      record {
        simplifies = subst (λ x. Simplified (mark_number told.mark) t x) i a.simplifies;
        removes = subst (λ x. Removed (mark_number told.mark) t x) e (subst (λ x. Removed (mark_number told.mark) x u) i a.removes);
      }

  pub still_rests : (c : Bool) (t u : Tree) → Cleared told.mark told.mark t u → TellsChange c t u → c ≡ false → AtRest told u
  still_rests true t u a d e = absurd (false≢true (sym e))
  still_rests false t u a d e = subst (AtRest told) (sym d) (cleared_rests t u a d)

  -- a change of theirs is lighter
  cleared_falls : (c : Bool) (t u : Tree) → Cleared told.mark told.mark t u → TellsChange c t u → Falls c t u
  cleared_falls true t u a d = by (lighter_on t a.simplified u a.simplifies.lighter a.removes.lighter)
    where
      by : SameBare t u ⊎ (weight u < weight t) → weight u < weight t
      by (inl e) = absurd (d e)
      by (inr k) = k
  cleared_falls false t u a e = e

  round_of : (t v u : Tree) → Cleared told.mark told.mark t v → Shaken told v u → Round told t u
  round_of t v u a s = record { simplified = a.simplified; removed = v; simplifies = a.simplifies; removes = a.removes; shakes = s }

  -- a round
  pub one_round : (most : ℕ) (c d : Bool) (t v u : Tree) → 0 < most → Cleared told.mark told.mark t v → TellsChange c t v → Shaken told v u → TellsChange d v u → Turned told most t 1 (not (c || d)) u
  one_round most c d t v u k a e s f = record {
    rounds = more_on (c || d) none (round_of t v u a s) (falls_tells (c || d) t u (falls_on c d t v u (cleared_falls c t v a e) (falls (shake_lawful told) refl d v u s f)));
    some = omega arith;
    within = omega (arith, k);
  }

  rested_round : (t u : Tree) → Rested told t u → Round told t u
  rested_round t u r = record { simplified = t; removed = t; simplifies = r.rests.simplifies; removes = r.rests.removes; shakes = r.shakes }

  -- rounds of the shaker alone, as many as may be
  pub only_rested : (most n : ℕ) (t u : Tree) → 0 < most → n ≡ most → Rounds (Rested told) t n false u → Turned told most t most false u
  only_rested most n t u k e s = record { rounds = subst (λ m. Rounds (Round told) t m false u) e (wider_rounds rested_round s); some = k; within = omega arith }

  -- and one more
  pub rested_then : (most n : ℕ) (d : Bool) (t v u : Tree) → n < most → Rounds (Rested told) t n false v → AtRest told v → Shaken told v u → TellsChange d v u → Turned told most t (n + 1) (not d) u
  rested_then most n d t v u k s a b f = record { rounds = more_on d (wider_rounds rested_round s) (rested_round v u (record { rests = a; shakes = b })) f; some = omega arith; within = omega (arith, k) }
