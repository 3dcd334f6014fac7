-- What a pass that propagates answers, and that it is lawful.
use Rattle.std.specs.Prelude.{ℕ, ◌≡◌, ◌≤◌, true, false, None}
use Rattle.swc_ast.specs.Core.{IsCore}
use Rattle.swc_ast.specs.Resolved.{IsResolved}
use Rattle.swc_ast.specs.Tree.{Name, Tree, bare}
use Rattle.carry_rules.specs.Carry.{Pass, constants, inlines, how_many, propagated}
use Rattle.carry_rules.specs.Late.{is_late, declares_literal}
use Rattle.carry_rules.specs.Voids.{is_voided, declares_set}
use Rattle.swc_pass.specs.Pass.{PassSpec, IsLawful}
use Rattle.carry_proofs.specs.Laws.{IsWhole, Stays}

-- where names are inlined, `void 0` stands for names alone of which no declaration has an initialiser
abbrev pub VoidsAreUnset : Pass → Tree → Tree → Type 0
VoidsAreUnset constants t u = Unit {0}
VoidsAreUnset inlines t u = (x : Name) → is_voided x t u ≡ true → how_many (declares_set x) t ≡ 0

-- an answer on a module or a script
pub record Propagates (p : Pass) (t u : Tree) : Type 0 where
  pub whole : IsWhole t
  -- it is what is propagated, up to spans
  pub is : bare u ≡ bare (propagated p t)
  -- no read of a name that is declared with a literal stands later than its declaration
  pub literals : (mark : ℕ) → IsResolved mark t → IsCore t → (x : Name) → Stays p x t → 1 ≤ how_many (declares_literal p x) t → is_late p x u ≡ false
  pub voids : VoidsAreUnset p t u

abbrev pub propagation_spec : Pass → PassSpec
propagation_spec p = record { mark = None; loads = true; lowers = false; answers = Propagates p }

-- each pass that propagates has the laws of a pass
abbrev pub PropagationIsLawful : Type 0
PropagationIsLawful = (p : Pass) → IsLawful (propagation_spec p)

-- what is propagated, up to spans, is an answer
abbrev pub PropagatedIsAnswer : Type 0
PropagatedIsAnswer = (p : Pass) (t u : Tree) → IsWhole t → bare u ≡ bare (propagated p t) → Propagates p t u
