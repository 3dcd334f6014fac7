-- A pass that carries nothing: its state is what it was made with, and each answer follows from that, the spot and the tree.
use Rattle.swc_ast.specs.Tree.{Tree}
use Rattle.tree_put.specs.Put.{put}
use Rattle.tree_put.specs.Puts.{Answer, Puts}
use Rattle.tree_put.specs.declared.rules.Spot.{Spot}

abbrev pub still : {K : Type 0} → (K → Spot → Tree → Answer) → Puts K
still A = record {
  expression = λ k p t. (A k p t, k);
  opens = λ k l ts. k;
  closes = λ k. k;
  declares = λ k t. k;
  exports = λ k t. (t, k);
}

-- what it makes of a tree
abbrev pub put_still : {K : Type 0} → (K → Spot → Tree → Answer) → K → Spot → Tree → Tree
put_still A k p t = (put (still A) t k p).0
