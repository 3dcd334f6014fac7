-- What is carried of names of `let` and `const`, as a table has it.
use Rattle.std.specs.Prelude.{◌≡◌, Bool, Option, is_some, option_and_then}
use Rattle.swc_ast.specs.Tree.{Name}
use Rattle.link_proofs.specs.Links.{Put}
use Rattle.carry_rules.specs.Carry.{with_put}
use Rattle.carry_parts.specs.Carries.{puts_of}
use Rattle.carry_parts.specs.declared.carry.Carry.{Carry}
use Rattle.carry_tables.specs.Tables.{at}
use Rattle.carry_tables.specs.declared.table.NameTable.{NameTable}

abbrev pub value_from : NameTable (Option Carry) → Name → Put
value_from u x = puts_of (option_and_then (λ o. o) (at u x))

-- the names of a table
abbrev pub named : NameTable (Option Carry) → Name → Bool
named u x = is_some (at u x)

-- Something is carried of one name.
pub record Puts (u v : NameTable (Option Carry)) (y : Name) (q : Put) : Type 0 where
  pub values : (x : Name) → value_from v x ≡ with_put y q (value_from u) x
  pub names : (x : Name) → named v x ≡ named u x
