-- How far into a tree the walk is.
use Rattle.std.proofs.Common.{◌≡◌, ◌<◌, ◌≤◌, ap, arith}
use Rattle.swc_ast.specs.Tree.{Tree, Forest, ◌⊳◌}
use Rattle.tree_visit.proofs.Caps.{tree_size, forest_size}

pub child_within : (t : Tree) (ts us cs : Forest) → us ≡ t ⊳ ts → forest_size us ≤ forest_size cs → tree_size t < forest_size cs
child_within t ts us cs is h = omega (arith, ap forest_size is, h)

pub rest_within : (t : Tree) (ts us cs : Forest) → us ≡ t ⊳ ts → forest_size us ≤ forest_size cs → forest_size ts ≤ forest_size cs
rest_within t ts us cs is h = omega (arith, ap forest_size is, h)
