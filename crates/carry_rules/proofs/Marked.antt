-- Facts of labels are the same of a tree with marks.
use Rattle.std.proofs.Common.{◌≡◌, ◌+◌, Bool, refl, ap, ap₂}
use Rattle.swc_ast.specs.Tree.{Label, Tree, node, Forest, ε, ◌⊳◌}
use Rattle.carry_rules.specs.Carry.{Pass, Facts, one, how_many, how_many_in, Carried, enter, after, marks, marks_all}

module _ (p : Pass) (F : Facts) where
  mutual
    -- how many labels hold
    pub many_marked : (q : Label → Bool) (s : Carried) (t : Tree) → how_many (λ l cs. q l) (marks p F s t) ≡ how_many (λ l cs. q l) t
    many_marked q s (node l ss cs) = ap (λ n. one (q l) + n) (many_all_marked q (enter p F l ss cs s) cs)

    pub many_all_marked : (q : Label → Bool) (s : Carried) (ts : Forest) → how_many_in (λ l cs. q l) (marks_all p F s ts) ≡ how_many_in (λ l cs. q l) ts
    many_all_marked q s ε = refl
    many_all_marked q s (t ⊳ ts) = ap₂ ◌+◌ (many_marked q s t) (many_all_marked q (after p F s t) ts)
