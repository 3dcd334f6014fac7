-- What the pass may answer on a module or a script, and what holds of each answer.
use Rattle.std.specs.Prelude.{ℕ, ◌≡◌, ◌<◌, ◌≤◌, ◌⊎◌, Bool, true, false, Some}
use Rattle.swc_ast.specs.declared.names.Mark.{Mark}
use Rattle.swc_ast.specs.Marks.{mark_number}
use Rattle.swc_ast.specs.Tree.{Name, Tree}
use Rattle.swc_ast.specs.Valid.{valid}
use Rattle.swc_ast.specs.Core.{IsCore}
use Rattle.swc_ast.specs.Resolved.{IsResolved, scopes}
use Rattle.swc_ast.specs.Run.{Same}
use Rattle.swc_ast.specs.Weight.{weight}
use Rattle.static_proofs.specs.Free.{branch_redex, has_kind}
use Rattle.static_proofs.specs.Vars.{LosesNoVar}
use Rattle.tree_walk.specs.Walks.{Whole}
use Rattle.swc_pass.specs.Pass.{PassSpec, IsLawful, SameBare}
use Rattle.branch_rules.specs.Removes.{remove_pass}

-- what the pass answers, made for the unresolved names of a mark
pub record Removed (mark : ℕ) (t u : Tree) : Type 0 where
  -- one walk: at each node one rule in front of its children, if one fits, and one behind them, or none fits
  pub changed : Bool
  pub walk : Whole (remove_pass mark) changed t u
  -- what is resolved and in the core does the same in each world
  pub same : (n : ℕ) → n ≡ mark → IsResolved n t → IsCore t → (loads : Bool) → Same n loads t u
  pub resolved : (n : ℕ) → IsResolved n t → IsResolved n u
  pub stays_valid : valid t ≡ true → valid u ≡ true
  pub core : IsCore t → IsCore u
  pub lighter : SameBare t u ⊎ (weight u < weight t)
  -- each `var` name of its body, and of bodies inside it, is still one
  pub vars : LosesNoVar t u
  -- no name is bound by more scopes than before
  pub binds : (x : Name) → scopes x u ≤ scopes x t
  -- where nothing changed in a valid tree, none of the statements and lists that a rule takes is left
  pub finished : valid t ≡ true → SameBare t u → has_kind branch_redex t ≡ false

abbrev pub remove_spec : Mark → PassSpec
remove_spec m = record { mark = Some m; loads = true; lowers = true; answers = Removed (mark_number m) }

pub remove_lawful : (m : Mark) → IsLawful (remove_spec m)
remove_lawful m = record {
  same = λ n t u f a r c. a.same n f r c true;
  resolved = λ n t u f a r. a.resolved n r;
  valid = λ n t u f a r v. a.stays_valid v;
  core = λ n t u f a r c. a.core c;
  lighter = λ t u e a. a.lighter;
}
