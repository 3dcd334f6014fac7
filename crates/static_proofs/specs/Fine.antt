-- What a rewrite of a loop's part keeps, where the part may go.
use Rattle.std.specs.Prelude.{◌≤◌, ◌≡◌, true}
use Rattle.swc_ast.specs.Tree.{Name, Tree}
use Rattle.swc_ast.specs.Scope.{vars}
use Rattle.swc_ast.specs.Valid.{valid, is_listed}
use Rattle.swc_ast.specs.Resolved.{scopes, Targets, aimed, apart}
use Rattle.swc_ast.specs.Core.{fits}
use Rattle.static_proofs.specs.Names.{Within, Fewer, names_of}

pub record Fine (t u : Tree) : Type 0 where
  pub scopes_fine : (x : Name) → scopes x u ≤ scopes x t
  pub vars_fine : Within (vars u) (vars t)
  pub names_fine : Fewer (names_of u) (names_of t)
  pub listed_fine : is_listed u ≡ true → is_listed t ≡ true
  pub valid_fine : valid t ≡ true → valid u ≡ true
  pub aimed_fine : (g : Targets) → aimed g t ≡ true → aimed g u ≡ true
  pub apart_fine : apart t ≡ true → apart u ≡ true
  pub fits_fine : fits t ≡ true → fits u ≡ true
