-- A lawful pass that runs again and again is a lawful pass. Where each change makes a module lighter, it comes to an end.
use Rattle.std.proofs.Common.{ℕ, ◌+◌, ◌≤◌, Bool, true, false, ◌≡◌, ◌<◌, if◌then◌else◌, refl, sym, subst, arith, ◌⊎◌, inl, inr}
use Rattle.std.specs.Prelude.{IsTrue, ◌↔◌}
use Rattle.std.proofs.lemmas.Bool.{false≢true}
use Rattle.swc_ast.specs.Tree.{Tree}
use Rattle.swc_ast.specs.Valid.{valid}
use Rattle.swc_ast.specs.Resolved.{IsResolved}
use Rattle.swc_ast.specs.Core.{IsCore}
use Rattle.swc_ast.specs.Weight.{weight}
use Rattle.swc_ast.specs.Run.{Same}
use Rattle.meaning_proofs.proofs.Observations.{same_itself, same_trans}
use Rattle.swc_pass.specs.Pass.{PassSpec, IsFor, IsLawful, SameBare, TellsChange}
use Rattle.swc_pass.specs.Chain.{GivesBack}
use Rattle.swc_pass.specs.ChainLaws.{given, lighter_on}
use Rattle.swc_pass.specs.Lighter.{falls, falls_tells, falls_gives}
use Rattle.swc_pass.specs.Repeat.{Rounds, none, changing, last, Rounded, repeated}

pub round_on : {answers : Tree → Tree → Type 0} {t v w : Tree} {n : ℕ} (b : Bool) → b ≡ true → Rounds answers t n false v → answers v w → TellsChange b v w → Rounds answers t (n + 1) false w
round_on true e s a d = changing s a d
round_on false e s a d = absurd (false≢true e)

pub round_last : {answers : Tree → Tree → Type 0} {t v w : Tree} {n : ℕ} (b : Bool) → b ≡ false → Rounds answers t n false v → answers v w → TellsChange b v w → Rounds answers t (n + 1) true w
round_last true e s a d = absurd (false≢true (sym e))
round_last {answers} {t} {v} {w} {n} false e s a d = subst (λ x. Rounds answers t (n + 1) true x) (sym d) (last s (subst (λ x. answers v x) d a))

module _ {p : PassSpec} (h : IsLawful p) where
  rounds_resolved : (k : ℕ) (t : Tree) {n : ℕ} {b : Bool} {u : Tree} → IsFor p.mark k → Rounds p.answers t n b u → IsResolved k t → IsResolved k u
  rounds_resolved k t f none r = r
  rounds_resolved k t f (changing {u = v} {v = w} s a d) r = h.resolved k v w f a (rounds_resolved k t f s r)
  rounds_resolved k t f (last s a) r = rounds_resolved k t f s r

  rounds_valid : (k : ℕ) (t : Tree) {n : ℕ} {b : Bool} {u : Tree} → IsFor p.mark k → Rounds p.answers t n b u → IsResolved k t → valid t ≡ true → valid u ≡ true
  rounds_valid k t f none r i = i
  rounds_valid k t f (changing {u = v} {v = w} s a d) r i = h.valid k v w f a (rounds_resolved k t f s r) (rounds_valid k t f s r i)
  rounds_valid k t f (last s a) r i = rounds_valid k t f s r i

  rounds_core : (k : ℕ) (t : Tree) {n : ℕ} {b : Bool} {u : Tree} → IsFor p.mark k → Rounds p.answers t n b u → IsResolved k t → IsCore t → IsCore u
  rounds_core k t f none r i = i
  rounds_core k t f (changing {u = v} {v = w} s a d) r i = h.core k v w f a (rounds_resolved k t f s r) (rounds_core k t f s r i)
  rounds_core k t f (last s a) r i = rounds_core k t f s r i

  rounds_same : (k : ℕ) (t : Tree) {n : ℕ} {b : Bool} {u : Tree} → IsFor p.mark k → Rounds p.answers t n b u → IsResolved k t → IsCore t → Same k p.loads t u
  rounds_same k t f none r i = same_itself k p.loads t
  rounds_same k t f (changing {u = v} {v = w} s a d) r i = same_trans k p.loads t v w (rounds_same k t f s r i) (h.same k v w f a (rounds_resolved k t f s r) (rounds_core k t f s r i))
  rounds_same k t f (last s a) r i = rounds_same k t f s r i

  rounds_lighter : (t : Tree) {n : ℕ} {b : Bool} {u : Tree} → p.lowers ≡ true → Rounds p.answers t n b u → SameBare t u ⊎ (weight u < weight t)
  rounds_lighter t l none = inl refl
  rounds_lighter t l (changing {u = v} {v = w} s a d) = lighter_on t v w (rounds_lighter t l s) (h.lighter v w l a)
  rounds_lighter t l (last s a) = rounds_lighter t l s

  pub repeated_lawful : (most : ℕ) → IsLawful (repeated p most)
  repeated_lawful most = record {
    same = λ k t u f a r i. given (λ x. Same k p.loads t x) a.2.gives (same_itself k p.loads t) (rounds_same k t f a.2.rounded.rounds r i);
    resolved = λ k t u f a r. given (λ x. IsResolved k x) a.2.gives r (rounds_resolved k t f a.2.rounded.rounds r);
    valid = λ k t u f a r i. given (λ x. valid x ≡ true) a.2.gives i (rounds_valid k t f a.2.rounded.rounds r i);
    core = λ k t u f a r i. given (λ x. IsCore x) a.2.gives i (rounds_core k t f a.2.rounded.rounds r i);
    lighter = λ t u l a. given (λ x. SameBare t x ⊎ (weight x < weight t)) a.2.gives (inl refl) (rounds_lighter t l a.2.rounded.rounds);
  }

  -- where each change makes it lighter

  -- a round that changes something takes at least 1
  rounds_weigh : (t : Tree) {n : ℕ} {b : Bool} {u : Tree} → p.lowers ≡ true → Rounds p.answers t n b u → weight u + n ≤ weight t + (if b then 1 else 0)
  rounds_weigh t l none = omega arith
  rounds_weigh t l (changing {u = v} {v = w} s a d) = omega (arith, rounds_weigh t l s, falls h l true v w a d)
  rounds_weigh t l (last s a) = omega (arith, rounds_weigh t l s)

  pub few_rounds : (t : Tree) (n : ℕ) (b : Bool) (u : Tree) → p.lowers ≡ true → Rounds p.answers t n b u → n ≤ weight t + 1
  few_rounds t n true u l s = omega (arith, rounds_weigh t l s)
  few_rounds t n false u l s = omega (arith, rounds_weigh t l s)

  pub comes_to_end : (most : ℕ) (t : Tree) (n : ℕ) (b : Bool) (u : Tree) → p.lowers ≡ true → weight t < most → Rounded p most t n b u → b ≡ true
  comes_to_end most t n true u l k s = refl
  comes_to_end most t n false u l k s = s.fewer (omega (arith, rounds_weigh t l s.rounds))

  -- nothing changed in them, or it is lighter
  rounds_fall : (t : Tree) {n : ℕ} {b : Bool} {u : Tree} → p.lowers ≡ true → Rounds p.answers t n b u → ((n ≡ (if b then 1 else 0)) × (u ≡ t)) ⊎ (((if b then 1 else 0) < n) × (weight u < weight t))
  rounds_fall t l none = inl (refl, refl)
  rounds_fall t l (changing {u = v} {v = w} s a d) = by_case (falls h l true v w a d) (rounds_fall t l s)
    where
      by_case : {n : ℕ} {v w : Tree} → weight w < weight v → ((n ≡ 0) × (v ≡ t)) ⊎ ((0 < n) × (weight v < weight t)) → ((n + 1 ≡ 0) × (w ≡ t)) ⊎ ((0 < n + 1) × (weight w < weight t))
      by_case {n} {v} {w} k (inl e) = inr (omega arith, subst (λ x. weight w < weight x) e.1 k)
      by_case k (inr j) = inr (omega arith, omega (arith, j.1))
  rounds_fall t l (last s a) = by_case (rounds_fall t l s)
    where
      by_case : {n : ℕ} {u : Tree} → ((n ≡ 0) × (u ≡ t)) ⊎ ((0 < n) × (weight u < weight t)) → ((n + 1 ≡ 1) × (u ≡ t)) ⊎ ((1 < n + 1) × (weight u < weight t))
      by_case (inl e) = inl (omega (arith, e.0), e.1)
      by_case (inr j) = inr (omega (arith, j.0), j.1)

  pub rounds_tell : (t : Tree) (n : ℕ) (b : Bool) (u : Tree) (c : Bool) → p.lowers ≡ true → (IsTrue c ↔ ((if b then 1 else 0) < n)) → Rounds p.answers t n b u → TellsChange c t u
  rounds_tell t n b u c l i s = by_case c i (rounds_fall t l s)
    where
      by_case : (c : Bool) → (IsTrue c ↔ ((if b then 1 else 0) < n)) → ((n ≡ (if b then 1 else 0)) × (u ≡ t)) ⊎ (((if b then 1 else 0) < n) × (weight u < weight t)) → TellsChange c t u
      by_case true i (inl e) = absurd (omega (arith, i.0 refl, e.0))
      by_case true i (inr j) = falls_tells true t u j.1
      by_case false i (inl e) = e.1
      by_case false i (inr j) = absurd (false≢true (i.1 j.0))

  pub rounds_give : (t : Tree) (n : ℕ) (b : Bool) (u : Tree) → p.lowers ≡ true → Rounds p.answers t n b u → GivesBack t u u
  rounds_give t n b u l s = by_case (rounds_fall t l s)
    where
      by_case : ((n ≡ (if b then 1 else 0)) × (u ≡ t)) ⊎ (((if b then 1 else 0) < n) × (weight u < weight t)) → GivesBack t u u
      by_case (inl e) = falls_gives false t u e.1
      by_case (inr j) = falls_gives true t u j.1
