-- What a pass owes for each of its steps, meaning aside. N holds of a pass that may make statements stop that did not, and
-- P of the names that it may not drop.
use Rattle.swc_ast.specs.Tree.{Name, Tree}
use Rattle.static_proofs.specs.Keeps.{Keeps}
use Rattle.static_proofs.specs.Spares.{Spares}
use Rattle.static_proofs.specs.Lighter.{Lowers}

pub record Step (N : Type 0) (P : Name → Type 0) (t u : Tree) : Type 0 where
  pub keeps : Keeps t u
  pub spares : Spares P t u
  pub lowers : Lowers N t u
