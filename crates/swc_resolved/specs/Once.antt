-- Sets of names that stand in a list once each.
use Rattle.std.specs.Prelude.{true, false, ◌≡◌, List, Option, Some, None}
use Rattle.swc_ast.specs.Tree.{Name}
use Rattle.swc_ast.specs.Core.{once_each}
use Rattle.swc_ast.specs.Scope.{has_name}
use Rattle.swc_resolved.specs.Names.{members}
use Rattle.swc_resolved.specs.declared.names.NameSet.{NameSet}

-- each name stands once in the list exactly where there is a set
abbrev pub EachOnce : List Name → Option NameSet → Type 0
EachOnce xs None = once_each xs xs ≡ false
EachOnce xs (Some s) = once_each xs xs ≡ true

-- the set holds the names of the list
abbrev pub AreMembers : List Name → NameSet → Type 0
AreMembers xs s = (y : Name) → has_name y (members s) ≡ has_name y xs
