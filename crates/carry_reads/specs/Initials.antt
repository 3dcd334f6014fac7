-- What a name as an initialiser carries, by the names that are ready.
use Rattle.std.specs.Prelude.{Bool}
use Rattle.swc_ast.specs.Tree.{Name}
use Rattle.link_proofs.specs.Links.{Put}
use Rattle.carry_rules.specs.Carry as carry
use Rattle.carry_rules.specs.Carry.{nothing_carried}

-- a state of which this alone is known
abbrev pub with_ready : (Name → Bool) → carry.Carried
with_ready ready = record nothing_carried { ready = ready }

abbrev pub passed_on : (Name → Bool) → Put → Put → Put
passed_on ready q own = carry.passed_on (with_ready ready) q own

abbrev pub name_put : carry.Pass → (Name → Bool) → Bool → Name → Put
name_put p ready dummy a = carry.name_put p (with_ready ready) dummy a
