-- Walks of trees in a row.
use Rattle.std.proofs.Common.{◌≡◌, Bool, false, refl, subst}
use Rattle.std.proofs.lemmas.Bool.{or_parts}
use Rattle.swc_ast.specs.Scope.{joined}
use Rattle.swc_ast.specs.Tree.{Tree, Forest, ε, ◌⊳◌}
use Rattle.tree_walk.specs.Pass.{Pass}
use Rattle.tree_walk.specs.Walks.{Walks, AllWalk, nothing, both}

module _ {X : Pass} where
  -- the walk of the first tree, and of the others
  pub first_walks : {c : Bool} {t u : Tree} {ts us : Forest} → AllWalk X c (t ⊳ ts) (u ⊳ us) → c ≡ false → Walks X false t u
  first_walks {t = t} {u = u} (both {c = c} {d = d} w ws) h = subst (λ k. Walks X k t u) (or_parts c d h).0 w

  pub rest_walks : {c : Bool} {t u : Tree} {ts us : Forest} → AllWalk X c (t ⊳ ts) (u ⊳ us) → c ≡ false → AllWalk X false ts us
  rest_walks {ts = ts} {us = us} (both {c = c} {d = d} w ws) h = subst (λ k. AllWalk X k ts us) (or_parts c d h).1 ws

  -- those of two rows
  pub before_walks : (ts us : Forest) → AllWalk X false (joined ts us) (joined ts us) → AllWalk X false ts ts
  before_walks ε us w = nothing
  before_walks (t ⊳ ts) us w = both (first_walks w refl) (before_walks ts us (rest_walks w refl))

  pub behind_walks : (ts us : Forest) → AllWalk X false (joined ts us) (joined ts us) → AllWalk X false us us
  behind_walks ε us w = w
  behind_walks (t ⊳ ts) us w = behind_walks ts us (rest_walks w refl)

  -- a tree between them
  pub between_walks : {c : Bool} {t u : Tree} (ts us : Forest) → AllWalk X false ts ts → AllWalk X c (t ⊳ us) (u ⊳ us) → AllWalk X c (joined ts (t ⊳ us)) (joined ts (u ⊳ us))
  between_walks ε us w v = v
  between_walks (r ⊳ ts) us w v = both (first_walks w refl) (between_walks ts us (rest_walks w refl) v)
