-- A tree with its reads marked is the same but for spans.
use Rattle.std.proofs.Common.{Bool}
use Rattle.swc_ast.specs.Tree.{Name, Tree, node, Forest, ε, ◌⊳◌}
use Rattle.carry_rules.specs.Carry.{Pass, Facts, Carried, enter, after, marks, marks_all}
use Rattle.carry_proofs.proofs.Like.{Like, like_none, like_more}

module _ (V N : Type 0) (B : Name → Bool) (p : Pass) (F : Facts) where
  mutual
    mark_like : (s : Carried) (t : Tree) {ts us : Forest} → Like V N B ts us → Like V N B (t ⊳ ts) (marks p F s t ⊳ us)
    mark_like s (node l ss cs) h = like_more l (marks_like (enter p F l ss cs s) cs) h

    pub marks_like : (s : Carried) (ts : Forest) → Like V N B ts (marks_all p F s ts)
    marks_like s ε = like_none
    marks_like s (t ⊳ ts) = mark_like s t (marks_like (after p F s t) ts)
