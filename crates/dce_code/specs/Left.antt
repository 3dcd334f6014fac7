-- What is left of a node.
use Rattle.std.specs.Prelude.{◌≡◌, List}
use Rattle.swc_ast.specs.declared.Span.{Span}
use Rattle.swc_ast.specs.Tree.{Empty, Tree, node, ε}
use Rattle.dce_rules.specs.Shakes.{Shaker, Opens, Shakes, Rests}
use Rattle.dce_code.specs.declared.declarations.Left.{Left}
use Rattle.dce_code.specs.declared.declarations.Left.TheVariants as left

-- the node, where nothing is to do at it; what it became; nothing
abbrev pub LeftOf : Shaker → Left → Tree → Tree → Type 0
LeftOf S left.Same t u = (u ≡ t) × Rests S u
LeftOf S left.Less t u = Shakes S t u
LeftOf S left.Nothing t u = (rs : List Span) → Shakes S t (node Empty rs ε)

-- the same before first values are walked
abbrev pub EarlyLeft : Shaker → Left → Tree → Tree → Type 0
EarlyLeft S left.Same t u = u ≡ t
EarlyLeft S left.Less t u = Opens S t u
EarlyLeft S left.Nothing t u = (rs : List Span) → Opens S t (node Empty rs ε)
