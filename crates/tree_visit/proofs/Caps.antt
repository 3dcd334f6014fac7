-- How large trees are.
use Rattle.std.proofs.Common.{◌≡◌, ℕ, suc, ◌+◌, ◌<◌, ap, arith}
use Rattle.swc_ast.specs.Tree.{Tree, node, Forest, ε, ◌⊳◌, children_of}

abbrev mutual
  pub tree_size : Tree → ℕ
  tree_size (node l ss cs) = suc (forest_size cs)

  pub forest_size : Forest → ℕ
  forest_size ε = 0
  forest_size (t ⊳ ts) = suc (tree_size t + forest_size ts)

children_smaller : (t : Tree) → forest_size (children_of t) < tree_size t
children_smaller (node l ss cs) = omega arith

pub opened_smaller : (t : Tree) (cs : Forest) → children_of t ≡ cs → forest_size cs < tree_size t
opened_smaller t cs is = let smaller = children_smaller t in omega (arith, smaller, ap forest_size is)

pub child_smaller : (t : Tree) (ts us : Forest) (n : ℕ) → us ≡ t ⊳ ts → forest_size us < n → tree_size t < n
child_smaller t ts us n is h = omega (arith, ap forest_size is, h)

pub rest_smaller : (t : Tree) (ts us : Forest) (n : ℕ) → us ≡ t ⊳ ts → forest_size us < n → forest_size ts < n
rest_smaller t ts us n is h = omega (arith, ap forest_size is, h)

pub rest_falls : (t : Tree) (ts us : Forest) → us ≡ t ⊳ ts → forest_size ts < forest_size us
rest_falls t ts us is = omega (arith, ap forest_size is)
