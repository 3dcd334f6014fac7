-- Number literals.
use Rattle.std.specs.Prelude.{ℤ, Option, Some, None}
use Rattle.swc_ast.specs.Tree.{NumLit, Tree, node}

-- the value of a number literal
abbrev pub literal_number : Tree → Option ℤ
literal_number (node (NumLit z) ss cs) = Some z
literal_number _ = None
