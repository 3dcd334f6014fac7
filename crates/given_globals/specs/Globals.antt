-- What is given by maps, as the answers of the world in which a program is read.
use Rattle.std.specs.Prelude.{ℕ, ◌+◌, List, [], ◌++◌, map, length, position, slice_get, string_bytes, bytes_eq, Option, Some, None, option_map}
use Rattle.std.specs.Borrow.{Bor}
use Rattle.std.specs.BTreeMap.{BTreeMap, get_by_text}
use Rattle.std.specs.declared.alloc.Global.{Global}
use Rattle.std.specs.declared.string.String.{String}
use Rattle.swc_ast.specs.Tree.{Text, Tree}
use Rattle.swc_ast.specs.Views.{expr_tree}
use Rattle.swc_ast.specs.declared.expressions.Expr.{Expr}
use Rattle.given_shield.specs.Names.{mark_of}
use Rattle.swc_expr_map.specs.Entries.{key_of, value_of, number_of, leading_name}
use Rattle.swc_expr_map.specs.declared.entry.Entry.{Entry}
use Rattle.swc_pass.specs.Given.{Answers}
use Rattle.swc_pass.specs.Inlined.{Given, inlined}
use Rattle.given_globals.specs.declared.settings.Settings.{Settings}

abbrev pub entries_of : Option (Bor (List Entry)) → List Entry
entries_of None = []
entries_of (Some m) = m.now

-- the values that are given for expressions
abbrev pub expressions : Settings → List Entry
expressions s = entries_of s.global_exprs

-- A value, with the name that is told of it.
abbrev pub Row : Type 0
Row = Text × Tree

abbrev pub row_name : Row → Text
row_name r = r.0

abbrev pub text_or_none : Option Text → Text
text_or_none None = []
text_or_none (Some t) = t

-- values of expressions, each with the name that its key begins with
abbrev pub expression_row : Entry → Row
expression_row e = (text_or_none (leading_name (key_of e)), value_of e)

abbrev pub expression_rows : List Entry → List Row
expression_rows es = map expression_row es

-- values of names
abbrev pub global_row : String Global × Expr → Row
global_row e = (string_bytes e.0, expr_tree e.1)

abbrev pub global_rows : BTreeMap (String Global) Expr → List Row
global_rows m = map global_row m.entries

-- the values by their numbers: those of expressions come first, and each kind stands in the order of its keys
abbrev pub rows_of : Settings → List Row
rows_of s = expression_rows (expressions s) ++ global_rows s.globals.now

-- the number of a name
abbrev pub global_number : Settings → Text → Option ℕ
global_number s x = option_map (λ i. length (expressions s) + i) (position (λ r. bytes_eq x (row_name r)) (global_rows s.globals.now))

unfoldable pub given_of : Settings → Given
given_of s = record {
  values = map (λ r. r.1) (rows_of s);
  global = global_number s;
  expression = λ t. number_of t (expressions s);
  type_text = λ x. option_map string_bytes (get_by_text s.typeofs.now x);
  env = λ k. option_map expr_tree (get_by_text s.envs.now k);
}

-- what stands for what is read
unfoldable pub answers_of : Settings → Answers
answers_of s = inlined (given_of s) (mark_of s.mark)

-- the name that is told of a value
abbrev pub told_name : Settings → ℕ → Option Text
told_name s i = option_map row_name (slice_get (rows_of s) i)
