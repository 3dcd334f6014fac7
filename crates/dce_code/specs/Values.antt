-- What is left of declarations all of whose names go.
use Rattle.std.specs.Prelude.{◌≡◌, Bool, true, false, ◌&&◌, Option, None, Some}
use Rattle.swc_ast.specs.Parts.{ident_name}
use Rattle.swc_ast.specs.Scope.{joined}
use Rattle.swc_ast.specs.Tree.{Declarator, Tree, node, Forest, ε, ◌⊳◌}
use Rattle.swc_ast.specs.Views.{stmt_tree}
use Rattle.swc_ast.specs.declared.declarations.VarDeclarator.{VarDeclarator}
use Rattle.swc_ast.specs.declared.expressions.Expr.{Expr}
use Rattle.swc_ast.specs.declared.statements.Stmt.{Stmt}
use Rattle.dce_rules.specs.Shakes.{Shaker, Leaves, Shakes}

-- a declarator of a name that goes
abbrev pub Free : Shaker → VarDeclarator Expr → Type 0
Free S d = S.free (ident_name d.name) ≡ true

-- whether all names of some declarators go
abbrev pub all_free : Shaker → Forest → Bool
all_free S ε = true
all_free S (node (Declarator k x) ss cs ⊳ ts) = S.free x && all_free S ts
all_free S (t ⊳ ts) = false

-- what is left of a declarator, behind other values
pub data ValueBehind (S : Shaker) (d : Tree) (before after : Forest) : Type 0 where
  value_behind : {qs : Forest} → Leaves S (d ⊳ ε) qs → after ≡ joined before qs → ValueBehind S d before after

-- the statement that takes a node's place; none: the node is as it was
abbrev pub Replaced : Shaker → Option Stmt → Tree → Tree → Type 0
Replaced S None t u = u ≡ t
Replaced S (Some s) t u = Shakes S t (stmt_tree s)
