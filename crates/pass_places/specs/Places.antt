-- Places where a member or a name would mean something else than an expression of its value.
use Rattle.std.specs.Prelude.{Bool, false, not, ◌&&◌, if◌then◌else◌, [], ◌∷◌}
use Rattle.swc_ast.specs.declared.Span.{Span}
use Rattle.swc_ast.specs.Redex.{is_zero}
use Rattle.swc_ast.specs.Tree.{Seq, Tree, node, Forest, ε, ◌⊳◌}
use Rattle.tree_walk.specs.Parts.{stands_alone}
use Rattle.tree_walk.specs.declared.rules.Place.{Place}
use Rattle.pass_rules.specs.Leaves.{guarded}

-- the literal 0, and what would mean something else by itself
abbrev pub is_shielding : Place → Forest → Bool
is_shielding p (a ⊳ b ⊳ ε) = is_zero a && not (stands_alone p b)
is_shielding p ts = false

-- `(0, e)`, where e would mean something else by itself
abbrev pub is_shield : Place → Tree → Bool
is_shield p (node Seq ss ts) = is_shielding p ts
is_shield p t = false

-- the span of what stands nowhere in the text
abbrev pub nowhere : Span
nowhere = record { lo = 0; hi = 0 }

-- an expression, or `(0, e)` where it would mean something else by itself
abbrev pub shielded : Place → Tree → Tree
shielded p t = if stands_alone p t then t else guarded (nowhere ∷ []) (nowhere ∷ []) t
