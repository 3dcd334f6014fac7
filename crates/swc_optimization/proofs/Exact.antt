-- Where each change is lighter and tells itself, what passes in a row come to is what they answer.
use Rattle.std.proofs.Common.{Bool, true, false, ◌≡◌, ◌≤◌, ◌||◌, refl, sym, ap, subst, arith}
use Rattle.swc_ast.specs.Tree.{Tree}
use Rattle.swc_ast.specs.Weight.{weight}
use Rattle.swc_pass.specs.Chain.{GivesBack, input, other, Chained, chained}
use Rattle.swc_pass.specs.Lighter.{Falls, falls, falls_on, falls_gives}
use Rattle.swc_pass.specs.Pass.{PassSpec, IsLawful, TellsChange}

-- each answer is equal or lighter
abbrev pub Settles : PassSpec → Type 0
Settles p = (t u : Tree) → p.answers t u → (c : Bool) × Falls c t u

pub settles : {p : PassSpec} → IsLawful p → p.lowers ≡ true → ((t u : Tree) → p.answers t u → (c : Bool) × TellsChange c t u) → Settles p
settles h l d t u a = let e = d t u a in (e.0, falls h l e.0 t u a e.1)

-- what is given back is the end itself, where that is given back of itself
pub given_last : {t w v u : Tree} → GivesBack t w v → v ≡ w → GivesBack t w u → u ≡ w
given_last (input e) q (input f) = q
given_last (input e) q (other d) = refl
given_last (other d) q (input f) = absurd (d f)
given_last (other d) q (other k) = refl

-- a row of two
module _ {p q : PassSpec} (h : Settles p) (k : Settles q) where
  pub row_falls : (t u : Tree) (a : Chained p q t u) → (c : Bool) × Falls c t a.last
  row_falls t u a = let b = h t a.between a.first_answers in let d = k a.between a.last a.second_answers in (b.0 || d.0, falls_on b.0 d.0 t a.between a.last b.1 d.1)

  pub row_last : (t u : Tree) (a : Chained p q t u) → u ≡ a.last
  row_last t u a = let f = row_falls t u a in given_last (falls_gives f.0 t a.last f.1) refl a.gives

  pub row_settles : Settles (chained p q)
  row_settles t u a = let f = row_falls t u a in (f.0, subst (λ x. Falls f.0 t x) (sym (row_last t u a)) f.1)

-- an answer as heavy as the input is the input
pub not_heavier : (c : Bool) (t u : Tree) → Falls c t u → weight u ≤ weight t
not_heavier true t u h = omega arith
not_heavier false t u e = omega (arith, ap weight e)

pub unchanged : (c : Bool) (t u : Tree) → Falls c t u → weight t ≤ weight u → u ≡ t
unchanged true t u h k = absurd (omega arith)
unchanged false t u e k = e
