-- A parameter that loses its default.
use Rattle.std.specs.Prelude.{ℕ, ◌≡◌, Bool, true, false, List}
use Rattle.swc_ast.specs.declared.Span.{Span}
use Rattle.swc_ast.specs.Tree.{Name, Param, Tree, node, ε, ◌⊳◌}
use Rattle.pass_rules.specs.Defaults.{is_void}

-- a parameter without a default that is `undefined`, or `void` of a pure expression
pub data Dropped (mark : ℕ) : Tree → Tree → Type 0 where
  dropped : (x : Name) (ss rs : List Span) (d : Tree) → is_void mark d ≡ true → Dropped mark (node (Param x) ss (d ⊳ ε)) (node (Param x) rs ε)

-- a parameter whose default is undefined anyway
abbrev pub has_void_default : ℕ → Tree → Bool
has_void_default mark (node (Param x) ss (d ⊳ ε)) = is_void mark d
has_void_default mark t = false

-- that, or what it was
abbrev pub MayDrop : ℕ → Bool → Tree → Tree → Type 0
MayDrop mark true t u = Dropped mark t u
MayDrop mark false t u = u ≡ t
