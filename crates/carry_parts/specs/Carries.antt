-- What is carried of a name, as the walk has it.
use Rattle.std.specs.Prelude.{Bool, true, false, Option, Some, None, string_bytes}
use Rattle.swc_ast.specs.Parts.{ident_name}
use Rattle.swc_ast.specs.Tree.{Read, Tree, node}
use Rattle.swc_ast.specs.Value.{Undefined, Null, Truth, Num, Text as TextValue}
use Rattle.link_proofs.specs.Links.{Put, nothing, a_name, a_value}
use Rattle.carry_rules.specs.Carry as carry
use Rattle.carry_parts.specs.declared.carry.Carry.{Carry}
use Rattle.carry_parts.specs.declared.carry.Carry.TheVariants as a
use Rattle.carry_parts.specs.declared.carry.Pass.{Pass}
use Rattle.carry_parts.specs.declared.carry.Pass.TheVariants as pass

-- the pass that it is
abbrev pub pass_of : Pass → carry.Pass
pass_of pass.Constants = carry.constants
pass_of pass.Inlines = carry.inlines

-- what it puts
abbrev pub put_of : Carry → Put
put_of (a.Name n) = a_name (ident_name n.now)
put_of (a.Num z) = a_value (Num z)
put_of (a.Text t) = a_value (TextValue (string_bytes t.now.value))
put_of (a.Truth b) = a_value (Truth b)
put_of a.Null = a_value Null
put_of a.Void = a_value Undefined

abbrev pub puts_of : Option Carry → Put
puts_of None = nothing
puts_of (Some c) = put_of c

abbrev pub is_read_tree : Tree → Bool
is_read_tree (node (Read x) ss cs) = true
is_read_tree t = false
