-- What reading a tree does.
use Rattle.std.specs.Prelude.{◌≡◌, List, ◌++◌, map, Option}
use Rattle.swc_ast.specs.Tree.{Tree, Forest, label_of, spans_of, children_of}
use Rattle.carry_rules.specs.Carry as carry
use Rattle.carry_rules.specs.Carry.{Facts, Carried, behind, after, after_all}
use Rattle.link_proofs.specs.Links.{Put}
use Rattle.carry_parts.specs.Carries.{pass_of, puts_of}
use Rattle.carry_parts.specs.Reads.{reads, reads_all}
use Rattle.carry_parts.specs.declared.carry.Carry.{Carry}
use Rattle.carry_reads.specs.declared.place.Place.{Place}
use Rattle.carry_reads.specs.declared.reader.Reader.{Reader}
use Rattle.carry_reads.specs.declared.tables.Tables.{Tables}
use Rattle.carry_reads.specs.States.{facts_of, state_of, Grown}

-- what is carried behind a declarator
abbrev pub behind_tree : carry.Pass → Facts → Tree → Carried → Carried
behind_tree p F t s = behind p F (label_of t) (spans_of t) (children_of t) s

-- tables come to what is carried
pub record Steps (r : Reader) (q : Place) (u v : Tables) (s : Carried) : Type 0 where
  pub state : state_of r v q ≡ s
  pub grown : Grown u v

-- what is put
abbrev pub puts : List (Option Carry) → List Put
puts = map puts_of

-- a tree was read
pub record Walks (r : Reader) (q : Place) (u v : Tables) (xs ys : List Put) (t : Tree) : Type 0 where
  pub reads : ys ≡ xs ++ reads (pass_of r.pass) (facts_of r.vars) (state_of r u q) t
  pub steps : Steps r q u v (after (pass_of r.pass) (facts_of r.vars) (state_of r u q) t)

-- trees were read
pub record WalksAll (r : Reader) (q : Place) (u v : Tables) (xs ys : List Put) (ts : Forest) : Type 0 where
  pub reads : ys ≡ xs ++ reads_all (pass_of r.pass) (facts_of r.vars) (state_of r u q) ts
  pub steps : Steps r q u v (after_all (pass_of r.pass) (facts_of r.vars) (state_of r u q) ts)
