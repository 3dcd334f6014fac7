-- What is put at each read of a tree, in the order of the text. Nodes in which nothing is put are left out.
use Rattle.std.specs.Prelude.{if◌then◌else◌, List, [], ◌∷◌, ◌++◌}
use Rattle.swc_ast.specs.Tree.{Name, Label, Read, TypeOfName, Shorthand, Tree, node, Forest, ε, ◌⊳◌}
use Rattle.link_proofs.specs.Links.{Put}
use Rattle.carry_rules.specs.Carry.{Pass, constants, Facts, Carried, carried, enter, after}

-- the name that a node reads, where something may be put for it
abbrev pub asked : Pass → Label → List Name
asked p (Read y) = y ∷ []
asked p (TypeOfName y) = y ∷ []
asked constants (Shorthand y) = y ∷ []
asked p l = []

abbrev pub put_each : Carried → List Name → List Put
put_each s [] = []
put_each s (y ∷ ys) = carried s y ∷ put_each s ys

module _ (p : Pass) (F : Facts) where
  abbrev pub own_reads : Carried → Label → List Put
  own_reads s l = if s.quiet then [] else put_each s (asked p l)

  abbrev mutual
    pub reads : Carried → Tree → List Put
    reads s (node l ss cs) = own_reads s l ++ reads_all (enter p F l ss cs s) cs

    pub reads_all : Carried → Forest → List Put
    reads_all s ε = []
    reads_all s (t ⊳ ts) = reads s t ++ reads_all (after p F s t) ts
