-- What the first reading of a tree tells.
use Rattle.std.specs.Prelude.{◌≡◌, map}
use Rattle.swc_ast.specs.Tree.{Name, Tree}
use Rattle.link_proofs.specs.Links.{Put}
use Rattle.carry_rules.specs.Carry.{Pass, facts, starting, after}
use Rattle.carry_parts.specs.Carries.{puts_of}
use Rattle.carry_parts.specs.Reads.{reads}
use Rattle.carry_reads.specs.States.{value_at}
use Rattle.carry_reads.specs.declared.reading.Reading.{Reading}

-- what is carried of a name at the end, as a reading has it
abbrev pub value_of : Reading → Name → Put
value_of r x = value_at r.reader r.tables x

-- What is put at the reads of a tree, and what is carried of names at its end.
pub record Tells (p : Pass) (r : Reading) (t : Tree) : Type 0 where
  pub reads : map puts_of r.reads.items ≡ reads p (facts t) (starting p (facts t)) t
  pub values : (x : Name) → value_of r x ≡ (after p (facts t) (starting p (facts t)) t).values x
