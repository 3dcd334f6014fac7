-- How far into a tree a walk is that goes from nodes to their children and on.
use Rattle.std.proofs.Common.{◌≡◌, ◌+◌, ◌*◌, ◌<◌, ◌≤◌, ap, arith}
use Rattle.swc_ast.specs.Tree.{Tree, Forest, ◌⊳◌, children_of}
use Rattle.tree_visit.proofs.Caps.{tree_size, forest_size, opened_smaller}

pub children_fall : (t : Tree) (cs : Forest) → children_of t ≡ cs → forest_size cs * 4 + 2 < tree_size t * 4 + 2
children_fall t cs is = let smaller = opened_smaller t cs is in omega (arith, smaller)

pub child_falls : (t : Tree) (ts us cs : Forest) → us ≡ t ⊳ ts → forest_size us ≤ forest_size cs → tree_size t * 4 + 3 < forest_size cs * 4
child_falls t ts us cs is h = omega (arith, ap forest_size is, h)

pub rest_within : (t : Tree) (ts us cs : Forest) → us ≡ t ⊳ ts → forest_size us ≤ forest_size cs → forest_size ts ≤ forest_size cs
rest_within t ts us cs is h = omega (arith, ap forest_size is, h)
