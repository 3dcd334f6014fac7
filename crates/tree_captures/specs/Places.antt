-- The scopes round each child of a node, in turn.
use Rattle.std.specs.Prelude.{◌≡◌}
use Rattle.swc_resolved.specs.Scopes.{own_names}
use Rattle.tree_visit.specs.Kinds.{kind_label}
use Rattle.tree_visit.specs.Nodes.{children_forest}
use Rattle.tree_captures.specs.Captured as captured
use Rattle.tree_captures.specs.Captured.{Inside, each, behind_first, with_scope}
use Rattle.tree_captures.specs.Views.{captures, restored}
use Rattle.tree_captures.specs.declared.scopes.Place.{Place}
use Rattle.tree_captures.specs.declared.scopes.Place.TheVariants as place
use Rattle.tree_captures.specs.declared.scopes.Scopes.{Scopes}
use Rattle.tree_captures.specs.declared.table.Table.{Table}

-- the scopes round the child at a place
abbrev pub at : Inside → Place → captured.Scopes
at i place.First = i.first
at i place.Second = i.second
at i place.Third = i.others
at i place.Later = i.others

-- the scopes round the child in front of it, or those round the node
abbrev pub before : captured.Scopes → Inside → Place → captured.Scopes
before e i place.First = e
before e i place.Second = i.first
before e i place.Third = i.second
before e i place.Later = i.others

-- the scopes round the children from a place on
abbrev pub from : Inside → Place → Inside
from i place.First = i
from i place.Second = behind_first i
from i place.Third = each i.others
from i place.Later = each i.others

-- the place behind another
abbrev pub next : Place → Place
next place.First = place.Second
next place.Second = place.Third
next place.Third = place.Later
next place.Later = place.Later

-- the scopes are those of the same node
pub record SameNode (old new : Scopes) : Type 0 where
  pub reach : new.reach ≡ old.reach
  pub kind : new.kind ≡ old.kind
  pub children : new.children ≡ old.children

-- the scopes inside a node, given those round it
abbrev pub within : Scopes → captured.Scopes → Inside
within s e = captured.within s.reach (children_forest s.children) e (with_scope (own_names (kind_label s.kind) (children_forest s.children)) e)

-- the scopes round a node some of whose scopes are open
abbrev pub round : Scopes → Table → captured.Scopes
round s t = restored s.outer.items (captures t)
