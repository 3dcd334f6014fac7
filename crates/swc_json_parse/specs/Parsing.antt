-- What takes the place of literals.
use Rattle.std.specs.Prelude.{ℕ, ◌+◌, ◌^◌, nat_le, nat_lt, Bool, true, false, ◌&&◌, if◌then◌else◌, List, [], ◌∷◌, length, Option, Some, None, codes}
use Rattle.swc_ast.specs.declared.Span.{Span}
use Rattle.swc_ast.specs.Tree.{Text, Name, Label, StrLit, Read, Array, Object, CallDot, Tree, node, ε, ◌⊳◌}
use Rattle.tree_put.specs.Puts.{Answer, enter, become}
use Rattle.tree_put.specs.Still.{put_still}
use Rattle.tree_put.specs.declared.rules.Spot.{Spot}
use Rattle.tree_put.specs.declared.rules.Spot.TheVariants.{Here}
use Rattle.swc_json_parse.specs.JsonText.{json_text}

abbrev pub nowhere : Span
nowhere = record { lo = 0; hi = 0 }

-- the host's `JSON`
abbrev pub json_name : Name
json_name = record { text = codes "JSON"; context = 0 }

-- the call `JSON.parse('text')` that takes a literal's place: it stands where the literal stood
abbrev pub parse_call : Span → Text → Tree
parse_call s t = node (CallDot (codes "parse")) (s ∷ nowhere ∷ nowhere ∷ []) (node (Read json_name) (nowhere ∷ []) ε ⊳ node (StrLit t) (nowhere ∷ []) ε ⊳ ε)

abbrev pub is_list_literal : Label → Bool
is_list_literal (Array ks) = true
is_list_literal Object = true
is_list_literal l = false

abbrev pub first_span : List Span → Span
first_span [] = nowhere
first_span (s ∷ ss) = s

-- where an array or object literal stands
abbrev pub literal_span : Tree → Option Span
literal_span (node l ss cs) = if is_list_literal l then Some (first_span ss) else None

-- whether a text has at least as many bytes: no text has where the number is the greatest `usize`
abbrev pub is_long : ℕ → Text → Bool
is_long least x = nat_lt (least + 1) (2 ^ 64) && nat_le least (length x)

-- what takes the place of an array or object literal that has a text, if it is one
abbrev pub call_for : ℕ → Option Span → Option Text → Answer
call_for least None o = enter
call_for least (Some s) None = enter
call_for least (Some s) (Some x) = if is_long least x then become (parse_call s x) else enter

-- what takes the place of an expression
abbrev pub parsing : ℕ → Spot → Tree → Answer
parsing least p t = call_for least (literal_span t) (json_text t)

-- what becomes of a tree: the walk comes to parents before children, and goes into no operand of `delete`
abbrev pub parsed : ℕ → Tree → Tree
parsed least t = put_still parsing least Here t
