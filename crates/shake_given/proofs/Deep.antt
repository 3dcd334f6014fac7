-- What the count of levels tells.
use Rattle.std.proofs.Common.{◌≡◌, ◌<◌, ◌≤◌, ℕ, List, Result, IfOk, refl, subst, arith}
use Rattle.std.proofs.lemmas.Result.{IfOk-weaker}
use Rattle.swc_ast.specs.Tree.{Tree}
use Rattle.swc_ast.specs.declared.modules.Module.{Module}
use Rattle.swc_ast.specs.declared.names.Mark.{Mark}
use Rattle.swc_levels.specs.Levels.{levels}
use Rattle.swc_pass.specs.Given.{Answers}
use Rattle.given_rules.specs.Cycles.{Cycle}
use Rattle.given_globals.specs.Globals.{answers_of}
use Rattle.given_globals.specs.declared.settings.Settings.{Settings}
use Rattle.swc_inline_globals.specs.Nesting.{Nests, TellsOfTree}
use Rattle.swc_inline_globals.specs.declared.levels.Nesting.{Nesting}
use Rattle.swc_inline_globals.specs.declared.levels.Nesting.TheVariants.{Levels, TooMany, Cyclic}
use Rattle.shake_options.specs.Flags.{FlagText}
use Rattle.shake_given.specs.declared.error.GivenError.{GivenError}
use Rattle.shake_given.specs.declared.given.Given.{Given}
use Rattle.shake_given.specs.declared.given.GivenNames.{GivenNames}
use Rattle.shake_given.specs.Prepared.{AreSettings, Replaces, Prepared, most_levels}
use Rattle.shake_given.specs.Reads.{Reads}
use Rattle.shake_given.specs.Deep.{Counted, Nested, NamesWithin, NamesNest, Within, flagged_within, IsTooDeep, counted_deep, made_deep}

-- no more are counted, where the count says so and nothing leads back to itself
pub no_more : (a : Answers) (t : Tree) (most : ℕ) (r : Nesting) → TellsOfTree a t most r → (r ≡ TooMany → ⊥) → ((i : ℕ) → Cycle a t i → ⊥) → (n : ℕ) → Nests a t n → n ≤ most
no_more a t most (Levels k) told few acyclic n h = omega (arith, told.1 n h, told.2)
no_more a t most TooMany told few acyclic n h = absurd (few refl)
no_more a t most Cyclic told few acyclic n h = absurd (acyclic told.0 told.1)

-- more are counted
pub nests : (g : GivenNames) (mark : Mark) (s : Settings) → AreSettings g mark s → (t : Tree) (most : ℕ) → TellsOfTree (answers_of s) t most TooMany → Nested g mark most t
nests g mark s are t most told = record { settings = s; are = are; count = told.0; nests = told.1; more = told.2 }

-- what is asked for is what the module may have
module _ (fs : List FlagText) (mark : Mark) (most : ℕ) (t : Tree) (is : most ≡ most_levels t) where
  pub is_within : NamesWithin fs mark most t → Within fs mark t
  is_within n = flagged_within (subst (λ k. NamesWithin fs mark k t) is n)

  pub is_counted_deep : NamesNest fs mark most t → IsTooDeep fs mark t
  is_counted_deep n = counted_deep (subst (λ k. NamesNest fs mark k t) is n)

  pub is_made_deep : (u : Tree) → Prepared fs mark t u → most < levels u → IsTooDeep fs mark t
  is_made_deep u p more = made_deep u p (subst (λ k. k < levels u) is more)

  -- the same of the module whose imports are replaced
  pub names_within : (constant : Tree) (g : Given) → Reads mark fs g → Replaces g.modules t constant → (r : Result Module GivenError) → IfOk r (λ m. Counted g.names mark most constant) → IfOk r (λ m. Within fs mark t)
  names_within constant g read replaces r = IfOk-weaker r (λ m. Counted g.names mark most constant) (λ m. Within fs mark t) (λ m c. is_within (record { given = g; read = read; constant = constant; replaces = replaces; holds = c }))
