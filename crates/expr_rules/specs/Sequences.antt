-- What stands in front of the last item of a sequence.
use Rattle.std.specs.Prelude.{Bool, false, if◌then◌else◌, not, ℕ, ◌&&◌, ◌||◌}
use Rattle.swc_ast.specs.Meaning.{is_unresolved}
use Rattle.swc_ast.specs.Scope.{joined}
use Rattle.swc_ast.specs.Tree.{Array, Forest, Read, Tree, node, ε, ◌⊳◌}
use Rattle.swc_utils.specs.Literals.{is_literal}
use Rattle.swc_utils.specs.Pure.{has_spread}

-- a name that the module binds
abbrev pub is_bound_name : ℕ → Tree → Bool
is_bound_name mark (node (Read x) ss ts) = not (is_unresolved mark x)
is_bound_name mark _ = false

-- an array without a spread is its items
abbrev pub array_opened : Tree → Forest
array_opened (node (Array ks) ss ts) = if has_spread ks then node (Array ks) ss ts ⊳ ε else ts
array_opened t = t ⊳ ε

-- an item in front of the last: a literal goes, and a bound name in callee place
abbrev pub front_item : ℕ → Bool → Tree → Forest
front_item mark callee t = if is_literal t || (callee && is_bound_name mark t) then ε else array_opened t

-- the items of a sequence with those in front of the last folded
abbrev pub front_folded : ℕ → Bool → Forest → Forest
front_folded mark callee ε = ε
front_folded mark callee (t ⊳ ε) = t ⊳ ε
front_folded mark callee (t ⊳ u ⊳ ts) = joined (front_item mark callee t) (front_folded mark callee (u ⊳ ts))

-- a front item that is not left as it stands
abbrev pub folds : ℕ → Bool → Tree → Bool
folds mark callee (node (Array ks) ss ts) = is_literal (node (Array ks) ss ts) || not (has_spread ks)
folds mark callee t = is_literal t || (callee && is_bound_name mark t)

-- whether a front item is not left as it stands
abbrev pub some_folds : ℕ → Bool → Forest → Bool
some_folds mark callee ε = false
some_folds mark callee (t ⊳ ε) = false
some_folds mark callee (t ⊳ u ⊳ ts) = folds mark callee t || some_folds mark callee (u ⊳ ts)
