-- From one child of a node to the next.
use Rattle.std.proofs.Common.{◌≡◌, refl, sym, ap₂, ◌∙◌}
use Rattle.tree_captures.specs.Captured.{Scopes, Inside, behind_first}
use Rattle.tree_captures.specs.Places.{at, before, from, next}
use Rattle.tree_captures.specs.declared.scopes.Place.{Place}
use Rattle.tree_captures.specs.declared.scopes.Place.TheVariants as place

-- the scopes round the child at a place are the first of those from there on
pub first_at : (i : Inside) (p : Place) → at i p ≡ (from i p).first
first_at i place.First = refl
first_at i place.Second = refl
first_at i place.Third = refl
first_at i place.Later = refl

pub from_next : (i : Inside) (p : Place) → from i (next p) ≡ behind_first (from i p)
from_next i place.First = refl
from_next i place.Second = refl
from_next i place.Third = refl
from_next i place.Later = refl

pub before_next : (e : Scopes) (i : Inside) (p : Place) → at i p ≡ before e i (next p)
before_next e i place.First = refl
before_next e i place.Second = refl
before_next e i place.Third = refl
before_next e i place.Later = refl

-- what a node has inside, by the scopes round it
pub stands : (e r f : Scopes) (i w : Scopes → Inside) (p : Place) → f ≡ before e (i e) p → r ≡ e → w ≡ i → f ≡ before r (w r) p
stands e r f i w p is round within = is ∙ sym (ap₂ (λ v s. before s (v s) p) within round)

pub goes : (e r f : Scopes) (i w : Scopes → Inside) (p : Place) → f ≡ at (w r) p → r ≡ e → w ≡ i → f ≡ at (i e) p
goes e r f i w p is round within = is ∙ ap₂ (λ v s. at (v s) p) within round
