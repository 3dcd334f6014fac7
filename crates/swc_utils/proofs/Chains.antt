-- Lists of trees in a row.
use Rattle.std.proofs.Common.{◌≡◌, List, [], ◌∷◌, ◌++◌, refl, ap}
use Rattle.swc_ast.specs.Tree.{Tree, Forest, ε, ◌⊳◌}
use Rattle.swc_ast.specs.Parts.{list_trees}
use Rattle.swc_ast.specs.Scope.{joined}

pub joined_none : (ts : Forest) → joined ts ε ≡ ts
joined_none ε = refl
joined_none (t ⊳ ts) = ap (λ us. t ⊳ us) (joined_none ts)

pub joined_assoc : (ts us vs : Forest) → joined (joined ts us) vs ≡ joined ts (joined us vs)
joined_assoc ε us vs = refl
joined_assoc (t ⊳ ts) us vs = ap (λ ws. t ⊳ ws) (joined_assoc ts us vs)

-- the trees of a list with one more element
pub pushed : {X : Type 0} (f : X → Tree) (xs : List X) (x : X) → list_trees f (xs ++ (x ∷ [])) ≡ joined (list_trees f xs) (f x ⊳ ε)
pushed f [] x = refl
pushed f (y ∷ ys) x = ap (λ ts. f y ⊳ ts) (pushed f ys x)
