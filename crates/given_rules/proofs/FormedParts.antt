-- Trees that are formed.
use Rattle.std.proofs.Common.{◌≡◌, true}
use Rattle.swc_ast.specs.Tree.{Tree}
use Rattle.given_rules.specs.Formed.{formed}

pub record Fine (t : Tree) : Type 0 where
  pub is : formed t ≡ true
