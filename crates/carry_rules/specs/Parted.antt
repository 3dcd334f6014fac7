-- Trees whose nodes have the parts that the views of the syntax tree give them, where a node's label alone says that: a `switch`
-- holds what it switches on and then a test and a body for each case, and what reads a name by itself holds nothing.
use Rattle.std.specs.Prelude.{◌≡◌, Bool, true, false, ◌&&◌, List, [], ◌∷◌}
use Rattle.swc_ast.specs.Tree.{Tree, node, Forest, ε, ◌⊳◌}
pub use Rattle.static_proofs.specs.Signature.{is_case, are_cases, is_switched, is_none, has_parts}

abbrev mutual
  pub is_parted : Tree → Bool
  is_parted (node l ss cs) = has_parts l cs && are_parted cs

  pub are_parted : Forest → Bool
  are_parted ε = true
  are_parted (t ⊳ ts) = is_parted t && are_parted ts

-- a tree whose nodes all have such parts
pub record IsParted (t : Tree) : Type 0 where
  pub parted : is_parted t ≡ true
