-- What the pass may answer on a module or a script, and what holds of each answer.
use Rattle.std.specs.Prelude.{ℕ, ◌≡◌, ◌<◌, ◌⊎◌, Bool, true, false, Some}
use Rattle.swc_ast.specs.declared.names.Mark.{Mark}
use Rattle.swc_ast.specs.Marks.{mark_number}
use Rattle.swc_ast.specs.Tree.{Tree}
use Rattle.swc_ast.specs.Valid.{valid}
use Rattle.swc_ast.specs.Core.{IsCore}
use Rattle.swc_ast.specs.Resolved.{IsResolved}
use Rattle.swc_ast.specs.Run.{Same}
use Rattle.swc_ast.specs.Weight.{weight}
use Rattle.static_proofs.specs.Free.{has_kind}
use Rattle.static_proofs.specs.Vars.{LosesNoVar}
use Rattle.tree_walk.specs.Walks.{Whole}
use Rattle.swc_pass.specs.Pass.{PassSpec, IsLawful, SameBare}
use Rattle.expr_rules.specs.Replaced.{expr_redex}
use Rattle.swc_expr.specs.Simplifies.{simplify_pass}

-- what the pass answers, made for the unresolved names of a mark
pub record Simplified (mark : ℕ) (t u : Tree) : Type 0 where
  -- one walk, children first: at each node one fold, or none fits
  pub changed : Bool
  pub walk : Whole (simplify_pass mark) changed t u
  -- both do the same in each world
  pub same : (n : ℕ) → n ≡ mark → (loads : Bool) → Same n loads t u
  pub resolved : (n : ℕ) → IsResolved n t → IsResolved n u
  pub stays_valid : valid t ≡ true → valid u ≡ true
  pub core : IsCore t → IsCore u
  pub lighter : SameBare t u ⊎ (weight u < weight t)
  -- each `var` name of its body, and of bodies inside it, is still one
  pub vars : LosesNoVar t u
  -- where nothing changed, no operator and no condition is left on literals that tell what it gives
  pub finished : SameBare t u → has_kind expr_redex t ≡ false

abbrev pub simplify_spec : Mark → PassSpec
simplify_spec m = record { mark = Some m; loads = true; lowers = true; answers = Simplified (mark_number m) }

pub simplify_lawful : (m : Mark) → IsLawful (simplify_spec m)
simplify_lawful m = record {
  same = λ n t u f a r c. a.same n f true;
  resolved = λ n t u f a r. a.resolved n r;
  valid = λ n t u f a r v. a.stays_valid v;
  core = λ n t u f a r c. a.core c;
  lighter = λ t u e a. a.lighter;
}
