-- What a pass puts in places, as functions on trees with a state that is carried in the order of the text.
use Rattle.swc_ast.specs.Tree.{Label, Tree, Forest}
use Rattle.tree_put.specs.declared.rules.Spot.{Spot}

-- what is done at an expression, before its parts are walked
pub data Answer : Type 0 where
  -- its parts are walked
  enter : Answer
  -- it stays, and so do its parts
  stay : Answer
  -- a tree takes its place, and is not walked
  become : Tree → Answer

pub record Puts (S : Type 0) : Type 0 where
  -- an expression, or a name or a member that is part of the label of the node round it
  pub expression : S → Spot → Tree → Answer × S
  -- a scope opens: the label of its node, and what stands in it
  pub opens : S → Label → Forest → S
  -- the scope that was opened last closes
  pub closes : S → S
  -- a declarator, once its first value is walked
  pub declares : S → Tree → S
  -- a name that is exported
  pub exports : S → Tree → Tree × S
