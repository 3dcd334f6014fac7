-- Names, and names whose types are asked for.
use Rattle.std.specs.Prelude.{Option, Some, None}
use Rattle.swc_ast.specs.Tree.{Name, Read, TypeOfName, Tree, node, ε}

-- the name that an expression is
abbrev pub read_name : Tree → Option Name
read_name (node (Read x) ss ε) = Some x
read_name _ = None

-- the name whose type `typeof` asks for
abbrev pub typeof_name : Tree → Option Name
typeof_name (node (TypeOfName x) ss ε) = Some x
typeof_name _ = None
