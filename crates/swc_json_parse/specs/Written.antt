-- What is known while a text is written, for private clauses.
use Rattle.std.specs.Prelude.{ℕ, ℤ, ◌+◌, ◌≡◌, nat_le, Bool, true, false, if◌then◌else◌, List, ◌∷◌, ◌++◌, map, Option, Some, None, option_map, option_and_then}
use Rattle.json.specs.Print.{quoted}
use Rattle.swc_ast.specs.Meaning.{key_name}
use Rattle.swc_ast.specs.Parts.{lit_tree}
use Rattle.swc_ast.specs.declared.literals.Lit.{Lit}
use Rattle.swc_ast.specs.declared.expressions.Expr.{Expr}
use Rattle.swc_ast.specs.declared.expressions.ExprOrSpread.{ExprOrSpread}
use Rattle.swc_ast.specs.Expressions.{item_kind, item_trees}
use Rattle.swc_ast.specs.Tree.{Text, KeyValue, PlainKey, Tree, node, Forest, ε, ◌⊳◌}
use Rattle.swc_ast.specs.Views.{expr_tree}
use Rattle.serde_json.specs.Data.{number, depth, items_depth, members_depth}
use Rattle.serde_json.specs.Written.{compact_text, items_text, members_text}
use Rattle.swc_json_parse.specs.JsonText.{whole, data_of, items_of, members_of, all_plain}

-- the text of a JSON literal that nests no deeper than a number of levels
abbrev pub text_within : ℕ → Tree → Option Text
text_within n t = option_and_then (λ d. if nat_le (depth d) n then Some (compact_text d) else None) (data_of t)

-- the same of items, with the closing bracket, and whether others stand in front
abbrev pub items_within : ℕ → Bool → Forest → Option Text
items_within n later ts = option_and_then (λ ds. if nat_le (items_depth ds) n then Some (items_text later ds) else None) (items_of ts)

abbrev pub elements_within : ℕ → Bool → List (Option (ExprOrSpread Expr)) → Option Text
elements_within n later xs = if all_plain (map item_kind xs) then items_within n later (item_trees expr_tree xs) else None

-- the same of members
abbrev pub members_within : ℕ → Bool → Forest → Option Text
members_within n later ts = option_and_then (λ ms. if nat_le (members_depth ms) n then Some (members_text later ms) else None) (members_of ts)

-- the same of a property
abbrev pub member_within : ℕ → Tree → Option Text
member_within n (node KeyValue ss (node (PlainKey k) rs ε ⊳ v ⊳ ε)) = option_map (λ x. quoted (key_name k) ++ 58 ∷ x) (text_within n v)
member_within n t = None

-- the text of a number, and of a literal
abbrev pub number_text : ℤ → Option Text
number_text z = option_map compact_text (option_map number (whole z))

abbrev pub lit_text : Lit → Option Text
lit_text n = option_map compact_text (data_of (lit_tree n))

-- what was taken of a text, and whether there is one
abbrev pub Wrote : {O : Type 0} → (O → Text → O → Type 0) → Option Text → O → Bool → O → Type 0
Wrote takes (Some x) old wrote new = (wrote ≡ true) × takes old x new
Wrote takes None old wrote new = wrote ≡ false
