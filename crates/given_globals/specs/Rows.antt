-- What the names, keys and answers of the program stand for.
use Rattle.std.specs.Prelude.{Bool, true, false, List, map, Option, Some, None}
use Rattle.std.specs.Borrow.{Bor}
use Rattle.std.specs.BTreeMap.{BTreeMap}
use Rattle.std.specs.declared.alloc.Global.{Global}
use Rattle.std.specs.declared.string.String.{String}
use Rattle.swc_ast.specs.Tree.{Text, StrLit, Read, Dot, Index, Tree, node}
use Rattle.swc_ast.specs.Views.{expr_tree}
use Rattle.swc_ast.specs.declared.expressions.Expr.{Expr}
use Rattle.swc_ast.specs.declared.expressions.MemberProp.{MemberProp}
use Rattle.swc_ast.specs.declared.expressions.MemberProp.TheVariants as prop
use Rattle.swc_expr_map.specs.declared.entry.Entry.{Entry}
use Rattle.swc_pass.specs.Given as given
use Rattle.given_globals.specs.Globals.{row_name, expression_rows, global_rows}
use Rattle.given_globals.specs.declared.found.Found.{Found}
use Rattle.given_globals.specs.declared.found.Found.TheVariants as found

abbrev pub texts : List (Bor Text) → List Text
texts ns = map (λ n. n.now) ns

abbrev pub expression_names : List Entry → List Text
expression_names es = map row_name (expression_rows es)

abbrev pub global_names : BTreeMap (String Global) Expr → List Text
global_names m = map row_name (global_rows m)

abbrev pub found_of : Found → given.Found
found_of found.Nothing = given.nothing
found_of (found.Value i) = given.a_value i
found_of (found.Plain e) = given.a_plain (expr_tree e.now)

-- the text of a key that is written out
abbrev pub key_of_tree : Tree → Option Text
key_of_tree (node (StrLit k) ss cs) = Some k
key_of_tree t = None

abbrev pub written_key : MemberProp Expr → Option Text
written_key (prop.Ident n) = Some n.sym
written_key (prop.Computed n) = key_of_tree (expr_tree n.expr.value)

-- a name or a member
abbrev pub is_read : Tree → Bool
is_read (node (Read x) ss cs) = true
is_read (node (Dot k) ss cs) = true
is_read (node Index ss cs) = true
is_read t = false
