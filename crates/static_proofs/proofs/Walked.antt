-- A walk that is finished at each node is a walk.
use Rattle.swc_ast.specs.Tree.{Tree, node, Forest, ε, ◌⊳◌}
use Rattle.static_proofs.specs.Walks.{Walks, AllWalk, inside, then, early, nothing, both, Leaves, AllLeave, closed, opened, stands, steps, none_left, more_left}

mutual
  pub walks_itself : (X : Tree → Tree → Type 0) (t : Tree) → Walks X t t
  walks_itself X (node l ss ts) = inside (all_walk_itself X ts)

  pub all_walk_itself : (X : Tree → Tree → Type 0) (ts : Forest) → AllWalk X ts ts
  all_walk_itself X ε = nothing
  all_walk_itself X (t ⊳ ts) = both (walks_itself X t) (all_walk_itself X ts)

mutual
  pub leaves_walks : {C E : Tree → Type 0} {X : Tree → Tree → Type 0} {t u : Tree} → Leaves C E X t u → Walks X t u
  leaves_walks {X = X} (closed {t = t} c) = walks_itself X t
  leaves_walks (opened x h) = early x (leaves_walks h)
  leaves_walks (stands h e) = inside (all_leave_walk h)
  leaves_walks (steps h x) = then (inside (all_leave_walk h)) x

  pub all_leave_walk : {C E : Tree → Type 0} {X : Tree → Tree → Type 0} {ts us : Forest} → AllLeave C E X ts us → AllWalk X ts us
  all_leave_walk none_left = nothing
  all_leave_walk (more_left h hs) = both (leaves_walks h) (all_leave_walk hs)
