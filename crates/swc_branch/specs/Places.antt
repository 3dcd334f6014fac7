-- Sequences that stay, as what would take their place may be no lighter.
use Rattle.std.specs.Prelude.{Bool, true, false, not, ◌&&◌, pos, zero}
use Rattle.swc_ast.specs.Tree.{NumLit, Seq, Tree, node, Forest, ε, ◌⊳◌}
use Rattle.tree_walk.specs.Parts.{stands_alone}
use Rattle.tree_walk.specs.declared.rules.Place.{Place}

-- the literal 0, or a sequence
abbrev pub is_light : Tree → Bool
is_light (node (NumLit (pos zero)) ss cs) = true
is_light (node Seq ss cs) = true
is_light _ = false

-- one of these, and what would mean something else by itself
abbrev pub are_cramped : Place → Forest → Bool
are_cramped p (a ⊳ b ⊳ ε) = is_light a && not (stands_alone p b)
are_cramped p ts = false

-- a sequence of these
abbrev pub is_cramped : Place → Tree → Bool
is_cramped p (node Seq ss ts) = are_cramped p ts
is_cramped p t = false
