-- What `typeof` gives of an expression.
use Rattle.std.specs.Prelude.{List, None, Option, Some, codes, ℕ}
use Rattle.swc_ast.specs.Operators.{type_name}
use Rattle.swc_ast.specs.Tree.{Array, Arrow, Fn, Object, Tree, node}
use Rattle.swc_ast.specs.Value.{Value}
use Rattle.pass_rules.specs.Values.{value_of}

-- what `typeof` gives of a value (13.5.3)
abbrev pub name_of : Option Value → Option (List ℕ)
name_of None = None
name_of (Some v) = Some (type_name v)

-- what `typeof` gives of an expression's value
abbrev pub typeof_known : ℕ → Tree → Option (List ℕ)
typeof_known mark (node (Fn o) ss ts) = Some (codes "function")
typeof_known mark (node Arrow ss ts) = Some (codes "function")
typeof_known mark (node (Array ks) ss ts) = Some (codes "object")
typeof_known mark (node Object ss ts) = Some (codes "object")
typeof_known mark t = name_of (value_of mark t)
