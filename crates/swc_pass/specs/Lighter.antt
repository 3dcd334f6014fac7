-- A pass whose changes make a module lighter tells by its own flags whether a run of several changed something.
use Rattle.std.proofs.Common.{Bool, true, false, ◌≡◌, ◌<◌, ◌||◌, ap, ◌∙◌, sym, subst, arith, ◌⊎◌, inl, inr}
use Rattle.swc_ast.specs.Tree.{Tree, bare}
use Rattle.swc_ast.specs.Weight.{weight}
use Rattle.static_proofs.proofs.Bare.{weight_bare}
use Rattle.swc_pass.specs.Pass.{PassSpec, IsLawful, SameBare, TellsChange}
use Rattle.swc_pass.specs.Chain.{GivesBack, input, other}

pub same_weight : (t u : Tree) → SameBare t u → weight u ≡ weight t
same_weight t u e = sym (weight_bare u) ∙ (ap weight e ∙ weight_bare t)

pub not_lighter : (t u : Tree) → weight u < weight t → SameBare t u → ⊥
not_lighter t u h e = omega (arith, same_weight t u e)

-- equal or lighter, as the flag says
abbrev pub Falls : Bool → Tree → Tree → Type 0
Falls true t u = weight u < weight t
Falls false t u = u ≡ t

pub falls : {p : PassSpec} → IsLawful p → p.lowers ≡ true → (c : Bool) (t u : Tree) → p.answers t u → TellsChange c t u → Falls c t u
falls h l true t u a d = by_case (h.lighter t u l a)
  where
    by_case : SameBare t u ⊎ (weight u < weight t) → weight u < weight t
    by_case (inl e) = absurd (d e)
    by_case (inr k) = k
falls h l false t u a e = e

pub falls_on : (c d : Bool) (t v u : Tree) → Falls c t v → Falls d v u → Falls (c || d) t u
falls_on true true t v u h k = omega arith
falls_on true false t v u h e = subst (λ x. weight x < weight t) (sym e) h
falls_on false true t v u e k = subst (λ x. weight u < weight x) e k
falls_on false false t v u e k = k ∙ e

pub falls_tells : (c : Bool) (t u : Tree) → Falls c t u → TellsChange c t u
falls_tells true t u h = not_lighter t u h
falls_tells false t u e = e

pub falls_gives : (c : Bool) (t u : Tree) → Falls c t u → GivesBack t u u
falls_gives true t u h = other (not_lighter t u h)
falls_gives false t u e = subst (λ x. GivesBack t u x) (sym e) (input (ap bare e))
