-- What a walk leaves that changed nothing.
use Rattle.std.proofs.Common.{◌≡◌, Bool, false, sym, subst}
use Rattle.swc_ast.specs.Tree.{Tree}
use Rattle.tree_walk.specs.Pass.{Pass}
use Rattle.tree_walk.specs.Walks.{Walks}
use Rattle.tree_walk.proofs.Walked.{walks_same}
use Rattle.round_units.specs.Rests.{Rests}

-- the pass leaves it
pub rests_then : {X : Pass} (c : Bool) (a b : Tree) → c ≡ false → Walks X c a b → Rests X b
rests_then {X} c a b e w = subst (λ t. Rests X t) (sym (walks_same w e)) (subst (λ t. Walks X false a t) (walks_same w e) (subst (λ d. Walks X d a b) e w))

-- what was known is still known
pub known_then : {X : Pass} (P : Tree → Type 0) (c : Bool) (a b : Tree) → c ≡ false → Walks X c a b → P a → P b
known_then P c a b e w h = subst P (sym (walks_same w e)) h
