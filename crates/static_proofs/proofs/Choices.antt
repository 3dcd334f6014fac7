-- Lists of names that are there or not.
use Rattle.std.proofs.Common.{Bool, true, false, if◌then◌else◌, List, []}
use Rattle.swc_ast.specs.Tree.{Name}
use Rattle.static_proofs.specs.Names.{Within}
use Rattle.static_proofs.proofs.Names.{within_same}

pub within_if : (b : Bool) (xs ys : List Name) → Within xs ys → Within (if b then xs else []) (if b then ys else [])
within_if true xs ys h = h
within_if false xs ys h = within_same []
