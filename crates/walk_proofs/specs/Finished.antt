-- What a pass does at a node, in front of its children, at its list and at the node behind them; and what is known of a node that it left as it is.
use Rattle.std.specs.Prelude.{◌≡◌, true, List}
use Rattle.swc_ast.specs.declared.Span.{Span}
use Rattle.swc_ast.specs.Tree.{Label, Tree, node, Forest, label_of, children_of}
use Rattle.swc_ast.specs.Weight.{is_list}
use Rattle.tree_walk.specs.Pass.{Pass, is_visited, only_head}

-- a step in front, a step of the node, one of its list, or of the list and then of the node
pub data Does (X : Pass) : Tree → Tree → Type 0 where
  at_front : {a b : Tree} → X.opens a b → Does X a b
  at_node : {a b : Tree} → X.steps a b → Does X a b
  at_list : {l : Label} {ss : List Span} {ts us : Forest} → is_list l ≡ true → X.tidies l ts us → Does X (node l ss ts) (node l ss us)
  at_both : {l : Label} {ss : List Span} {ts us : Forest} {b : Tree} → is_list l ≡ true → X.tidies l ts us → X.steps (node l ss us) b → Does X (node l ss ts) b

-- a node that is not entered, or a head of a `for` that is not
pub data Closed (X : Pass) (t : Tree) : Type 0 where
  closed_node : X.skips t → Closed X t
  closed_head : X.skips (only_head t) → Closed X t

-- no rule fits a node, where one sees it, nor its list, where it has one
pub record Finished (X : Pass) (t : Tree) : Type 0 where
  pub rests_there : is_visited (label_of t) ≡ true → X.rests t
  pub tidy_there : is_list (label_of t) ≡ true → X.tidy (label_of t) (children_of t)
