-- Expressions that may be put wherever one is read.
use Rattle.std.specs.Prelude.{ℕ, ◌≡◌, true, slice_get, Some}
use Rattle.swc_ast.specs.Core.{fits}
use Rattle.swc_ast.specs.Resolved.{Targets, scopes, aimed, apart}
use Rattle.swc_ast.specs.Tree.{Name, Tree, label_of}
use Rattle.swc_ast.specs.Valid.{valid}
use Rattle.swc_ast.specs.Labels.{is_expression}
use Rattle.swc_pass.specs.Given.{a_plain, Answers}

-- An expression that binds no name, and is valid, in the core and without a jump that leads out of it.
pub record IsGivable (t : Tree) : Type 0 where
  pub expression : is_expression (label_of t) ≡ true
  pub binds_none : (x : Name) → scopes x t ≡ 0
  pub is_valid : valid t ≡ true
  pub in_core : fits t ≡ true
  pub jumps : (g : Targets) → aimed g t ≡ true
  pub stands_apart : apart t ≡ true

-- All that is given may be put.
pub record AllGivable (a : Answers) : Type 0 where
  pub values : (i : ℕ) (t : Tree) → slice_get a.values i ≡ Some t → IsGivable t
  pub plain_ones : (t v : Tree) → a.found t ≡ a_plain v → IsGivable v
