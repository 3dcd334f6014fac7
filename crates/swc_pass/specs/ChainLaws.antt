-- Two lawful passes, one after the other, are a lawful pass.
use Rattle.std.proofs.Common.{ℕ, Bool, true, false, ◌≡◌, ◌<◌, ◌&&◌, ◌||◌, refl, ◌∙◌, subst, arith, ◌⊎◌, inl, inr, Option, Some, None}
use Rattle.std.proofs.lemmas.Bool.{false≢true}
use Rattle.swc_ast.specs.declared.names.Mark.{Mark}
use Rattle.swc_ast.specs.Tree.{Tree}
use Rattle.swc_ast.specs.Valid.{valid}
use Rattle.swc_ast.specs.Resolved.{IsResolved}
use Rattle.swc_ast.specs.Core.{IsCore}
use Rattle.swc_ast.specs.Weight.{weight}
use Rattle.swc_ast.specs.Run.{Same}
use Rattle.meaning_proofs.proofs.Observations.{same_itself, same_trans, same_weaker}
use Rattle.swc_pass.specs.Pass.{PassSpec, IsFor, IsLawful, SameBare, TellsChange}
use Rattle.swc_pass.specs.Chain.{MarksAgree, first_mark, GivesBack, input, other, Chained, InRow, chained}
use Rattle.swc_pass.specs.Lighter.{same_weight, Falls, falls, falls_on, falls_tells, falls_gives}

pub given : (P : Tree → Type 0) {t w u : Tree} → GivesBack t w u → P t → P w → P u
given P (input e) a b = a
given P (other d) a b = b

for_first : (n : ℕ) (m k : Option Mark) → IsFor (first_mark m k) n → IsFor m n
for_first n None k h = tt
for_first n (Some m) k h = h

for_second : (n : ℕ) (m k : Option Mark) → MarksAgree m k → IsFor (first_mark m k) n → IsFor k n
for_second n None k a h = h
for_second n (Some m) None a h = tt
for_second n (Some m) (Some k) a h = h ∙ a m k refl refl

fewer_first : (n : ℕ) (a b : Bool) (t u : Tree) → Same n a t u → Same n (a && b) t u
fewer_first n true true t u h = h
fewer_first n true false t u h = same_weaker n t u h
fewer_first n false b t u h = h

fewer_second : (n : ℕ) (a b : Bool) (t u : Tree) → Same n b t u → Same n (a && b) t u
fewer_second n true b t u h = h
fewer_second n false true t u h = same_weaker n t u h
fewer_second n false false t u h = h

pub both_true : (a b : Bool) → a && b ≡ true → (a ≡ true) × (b ≡ true)
both_true true true e = (refl, refl)
both_true true false e = absurd (false≢true e)
both_true false b e = absurd (false≢true e)

pub lighter_on : (t v u : Tree) → SameBare t v ⊎ (weight v < weight t) → SameBare v u ⊎ (weight u < weight v) → SameBare t u ⊎ (weight u < weight t)
lighter_on t v u (inl a) (inl b) = inl (b ∙ a)
lighter_on t v u (inl a) (inr k) = inr (omega (arith, same_weight t v a))
lighter_on t v u (inr h) (inl b) = inr (omega (arith, same_weight v u b))
lighter_on t v u (inr h) (inr k) = inr (omega arith)

pub chained_lawful : {p q : PassSpec} → MarksAgree p.mark q.mark → IsLawful p → IsLawful q → IsLawful (chained p q)
chained_lawful {p} {q} a h k = record {
  same = λ n t u f c r o. let f1 = for_first n p.mark q.mark f in let f2 = for_second n p.mark q.mark a f in
      given (λ x. Same n (p.loads && q.loads) t x) c.gives (same_itself n (p.loads && q.loads) t)
      (same_trans n (p.loads && q.loads) t c.between c.last (fewer_first n p.loads q.loads t c.between (h.same n t c.between f1 c.first_answers r o))
      (fewer_second n p.loads q.loads c.between c.last (k.same n c.between c.last f2 c.second_answers (h.resolved n t c.between f1 c.first_answers r) (h.core n t c.between f1 c.first_answers r o))));
  resolved = λ n t u f c r. let f1 = for_first n p.mark q.mark f in let f2 = for_second n p.mark q.mark a f in
      given (λ x. IsResolved n x) c.gives r (k.resolved n c.between c.last f2 c.second_answers (h.resolved n t c.between f1 c.first_answers r));
  valid = λ n t u f c r v. let f1 = for_first n p.mark q.mark f in let f2 = for_second n p.mark q.mark a f in
      given (λ x. valid x ≡ true) c.gives v (k.valid n c.between c.last f2 c.second_answers (h.resolved n t c.between f1 c.first_answers r) (h.valid n t c.between f1 c.first_answers r v));
  core = λ n t u f c r o. let f1 = for_first n p.mark q.mark f in let f2 = for_second n p.mark q.mark a f in
      given (λ x. IsCore x) c.gives o (k.core n c.between c.last f2 c.second_answers (h.resolved n t c.between f1 c.first_answers r) (h.core n t c.between f1 c.first_answers r o));
  lighter = λ t u l c. let both = both_true p.lowers q.lowers l in
      given (λ x. SameBare t x ⊎ (weight x < weight t)) c.gives (inl refl)
      (lighter_on t c.between c.last (h.lighter t c.between both.0 c.first_answers) (k.lighter c.between c.last both.1 c.second_answers));
}

-- a run of both is an answer of the chain, once it is settled
pub settled_row : {p q : PassSpec} {c d : Bool} {t s w u : Tree} → InRow p q c d t w → s ≡ t → GivesBack s w u → Chained p q t u
settled_row {w = w} {u = u} r e g = record { between = r.between; last = w; first_answers = r.first_answers; second_answers = r.second_answers; gives = subst (λ x. GivesBack x w u) e g }

module _ {p q : PassSpec} (h : IsLawful p) (k : IsLawful q) (l : p.lowers ≡ true) (m : q.lowers ≡ true) where
  row_falls : (c d : Bool) (t u : Tree) → InRow p q c d t u → Falls (c || d) t u
  row_falls c d t u r = falls_on c d t r.between u (falls h l c t r.between r.first_answers r.first_tells) (falls k m d r.between u r.second_answers r.second_tells)

  -- so it is where both lower the weight
  pub lower_row : (c d : Bool) (t u : Tree) → InRow p q c d t u → Chained p q t u
  lower_row c d t u r = record { between = r.between; last = u; first_answers = r.first_answers; second_answers = r.second_answers; gives = falls_gives (c || d) t u (row_falls c d t u r) }

  pub lower_tells : (c d : Bool) (t u : Tree) → InRow p q c d t u → TellsChange (c || d) t u
  lower_tells c d t u r = falls_tells (c || d) t u (row_falls c d t u r)
