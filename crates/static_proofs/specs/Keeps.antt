-- What a rewrite of a tree keeps: the tree stays valid, fits the core and has its jumps aimed and its parameters apart, and
-- it binds and declares no more than before.
use Rattle.std.specs.Prelude.{◌≤◌, ◌≡◌, true}
use Rattle.swc_ast.specs.Tree.{Name, Tree, Forest, ε, ◌⊳◌, children_of}
use Rattle.swc_ast.specs.Scope.{vars}
use Rattle.swc_ast.specs.Valid.{valid, is_listed}
use Rattle.swc_ast.specs.Resolved.{scopes, Targets, aimed, apart}
use Rattle.swc_ast.specs.Core.{fits}
use Rattle.static_proofs.specs.Names.{Within, Fewer, names_of, own_names, frame, KeptPart}

pub record Keeps (t u : Tree) : Type 0 where
  -- no name is bound by more scopes
  pub scopes_kept : (x : Name) → scopes x u ≤ scopes x t
  -- no `var` is new
  pub vars_kept : Within (vars u) (vars t)
  -- nothing is declared more often
  pub names_kept : Fewer (names_of u) (names_of t)
  pub own_kept : Fewer (own_names u) (own_names t)
  -- a part that a parent looks for stays that part, and holds no more
  pub frame_kept : frame u ≡ frame t
  pub part_kept : KeptPart (frame t) (children_of t) (children_of u)
  -- what may stand outside lists still may
  pub listed_kept : is_listed u ≡ true → is_listed t ≡ true
  pub valid_kept : valid t ≡ true → valid u ≡ true
  pub aimed_kept : (g : Targets) → aimed g t ≡ true → aimed g u ≡ true
  pub apart_kept : apart t ≡ true → apart u ≡ true
  pub fits_kept : fits t ≡ true → fits u ≡ true

-- tree by tree
pub data AllKeep : Forest → Forest → Type 0 where
  none_kept : AllKeep ε ε
  more_kept : {t u : Tree} {ts us : Forest} → Keeps t u → AllKeep ts us → AllKeep (t ⊳ ts) (u ⊳ us)
