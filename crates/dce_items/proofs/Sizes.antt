-- How large what is left is.
use Rattle.std.proofs.Common.{◌≡◌, ℕ, ◌<◌, ◌≤◌, ap, arith}
use Rattle.swc_ast.specs.Tree.{Tree, Forest, ◌⊳◌, children_of}
use Rattle.tree_visit.proofs.Caps.{forest_size, opened_smaller}

pub inner_falls : (t : Tree) (ts us cs : Forest) (n : ℕ) → us ≡ t ⊳ ts → children_of t ≡ cs → forest_size us ≤ n → forest_size cs < n
inner_falls t ts us cs n is held h = let smaller = opened_smaller t cs held in omega (arith, smaller, ap forest_size is, h)

pub rest_within : (t : Tree) (ts us : Forest) (n : ℕ) → us ≡ t ⊳ ts → forest_size us ≤ n → forest_size ts ≤ n
rest_within t ts us n is h = omega (arith, ap forest_size is, h)
