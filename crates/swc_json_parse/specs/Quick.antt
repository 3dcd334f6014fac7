-- How the walk decides, for private clauses.
use Rattle.std.specs.Prelude.{ℕ, ◌+◌, ◌^◌, nat_le, nat_lt, if◌then◌else◌, length, Option, Some, None}
use Rattle.swc_ast.specs.declared.Span.{Span}
use Rattle.swc_ast.specs.Tree.{Text, Tree}
use Rattle.tree_put.specs.Puts.{Answer, enter, stay, become}
use Rattle.tree_put.specs.declared.rules.Spot.{Spot}
use Rattle.swc_json_parse.specs.JsonText.{json_text}
use Rattle.swc_json_parse.specs.Parsing.{parse_call, literal_span}

-- as `parsing`, but a literal with a text that is too short stays with all that is in it: no text in it is longer
abbrev pub quick_call : ℕ → Option Span → Option Text → Answer
quick_call least None o = enter
quick_call least (Some s) None = enter
quick_call least (Some s) (Some x) = if nat_lt (least + 1) (2 ^ 64) then (if nat_le least (length x) then become (parse_call s x) else stay) else enter

abbrev pub quick : ℕ → Spot → Tree → Answer
quick least p t = quick_call least (literal_span t) (json_text t)
