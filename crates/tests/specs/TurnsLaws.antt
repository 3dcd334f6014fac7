-- The laws of these passes: what they turn is in no core, since its jump has no target.
use Rattle.std.proofs.Common.{ℕ, Bool, true, false, ◌≡◌, ◌<◌, ◌&&◌, refl, ap, ap₂, ◌∙◌, sym, subst, arith, ◌⊎◌, inl, inr}
use Rattle.std.proofs.lemmas.Bool.{false≢true}
use Rattle.swc_ast.specs.Tree.{Tree, node, Forest, ε, ◌⊳◌, bare, bares}
use Rattle.swc_ast.specs.Valid.{valid}
use Rattle.swc_ast.specs.Resolved.{IsResolved, Targets, no_targets, aimed, aimed_all, jump_is_aimed, below}
use Rattle.swc_ast.specs.Core.{IsCore}
use Rattle.swc_ast.specs.Weight.{weight, own_weight}
use Rattle.swc_ast.specs.Run.{Same}
use Rattle.meaning_proofs.proofs.Observations.{same_itself}
use Rattle.static_proofs.proofs.Bare.{weight_bare}
use Rattle.swc_pass.specs.Pass.{IsLawful, SameBare, TellsChange}
use Rattle.tests.specs.Turns.{long_tree, short_tree, turned_from, turned_to, Turned, turns, leaves}

mutual
  aimed_bare : (g : Targets) (t : Tree) → aimed g (bare t) ≡ aimed g t
  aimed_bare g (node l ss cs) = ap (λ b. jump_is_aimed l g && b) (all_aimed_bare (below l g) cs)

  all_aimed_bare : (g : Targets) (ts : Forest) → aimed_all g (bares ts) ≡ aimed_all g ts
  all_aimed_bare g ε = refl
  all_aimed_bare g (t ⊳ ts) = ap₂ ◌&&◌ (aimed_bare g t) (all_aimed_bare g ts)

aimless : (b : Bool) → aimed no_targets (turned_from b) ≡ false
aimless true = refl
aimless false = refl

-- what is turned isn't resolved
not_resolved : {n : ℕ} (b : Bool) (t : Tree) → SameBare (turned_from b) t → IsResolved n t → ⊥
not_resolved b t e r = false≢true (sym (aimless b) ∙ (sym (aimed_bare no_targets (turned_from b)) ∙ (ap (aimed no_targets) (sym e) ∙ (aimed_bare no_targets t ∙ r.jumps_aimed))))

kept : (b : Bool) {n : ℕ} {t u : Tree} (P : Tree → Type 0) → Turned b t u → IsResolved n t → P t → P u
kept b P (inl e) r p = subst P (sym e) p
kept b {t = t} P (inr e) r p = absurd (not_resolved b t e.0 r)

same : (b : Bool) {n : ℕ} {t u : Tree} → Turned b t u → IsResolved n t → Same n true t u
same b {n} {t} {u} a r = kept b (λ x. Same n true t x) a r (same_itself n true t)

short_is_lighter : weight short_tree < weight long_tree
unfolding own_weight
short_is_lighter = omega arith

lighter : (b : Bool) (t u : Tree) → b ≡ true → Turned b t u → SameBare t u ⊎ (weight u < weight t)
lighter b t u l (inl e) = inl (ap bare e)
lighter true t u l (inr e) = inr (omega (arith, ap weight e.1, short_is_lighter, weight_bare t, weight_bare long_tree, ap weight e.0))
lighter false t u l (inr e) = absurd (false≢true l)

pub turns_lawful : (b : Bool) → IsLawful (turns b)
turns_lawful b = record {
  same = λ n t u f a r i. same b a r;
  resolved = λ n t u f a r. kept b (λ x. IsResolved n x) a r r;
  valid = λ n t u f a r i. kept b (λ x. valid x ≡ true) a r i;
  core = λ n t u f a r i. kept b (λ x. IsCore x) a r i;
  lighter = λ t u l a. lighter b t u l a;
}

pub leaves_lawful : IsLawful leaves
leaves_lawful = record {
  same = λ n t u f a r i. subst (λ x. Same n true t x) (sym a) (same_itself n true t);
  resolved = λ n t u f a r. subst (λ x. IsResolved n x) (sym a) r;
  valid = λ n t u f a r i. subst (λ x. valid x ≡ true) (sym a) i;
  core = λ n t u f a r i. subst (λ x. IsCore x) (sym a) i;
  lighter = λ t u l a. inl (ap bare a);
}

-- the two differ
pub turn_tells : (b : Bool) (t u : Tree) → SameBare (turned_from b) t → u ≡ turned_to b → TellsChange true t u
turn_tells true t u e f s = absurd (omega (arith, ap weight (ap bare (sym f) ∙ (s ∙ e)), weight_bare short_tree, weight_bare long_tree, short_is_lighter))
turn_tells false t u e f s = absurd (omega (arith, ap weight (ap bare (sym f) ∙ (s ∙ e)), weight_bare short_tree, weight_bare long_tree, short_is_lighter))
