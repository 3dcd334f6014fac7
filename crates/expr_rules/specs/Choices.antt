-- Which side of `&&` and `||` and which arm of a condition answers. ECMA-262, 13.13 and 13.14.
use Rattle.std.specs.Prelude.{Bool, List, false, if◌then◌else◌, not, true, ℕ}
use Rattle.swc_ast.specs.Tree.{Seq, Tree, node, ε, ◌⊳◌}
use Rattle.swc_ast.specs.declared.BinaryOp.{BinaryOp}
use Rattle.swc_ast.specs.declared.BinaryOp.TheVariants.{LogicalAnd, LogicalOr}
use Rattle.swc_ast.specs.declared.Span.{Span}
use Rattle.swc_utils.specs.Pure.{pure}

-- `&&` and `||`
abbrev pub is_logical : BinaryOp → Bool
is_logical LogicalAnd = true
is_logical LogicalOr = true
is_logical _ = false

-- `&&` and `||` with a left side of known truth: whether that side is the answer
abbrev pub decided : BinaryOp → Bool → Bool
decided LogicalAnd b = not b
decided LogicalOr b = b
decided _ b = false

-- the side that answers, behind the left one where that is not pure
abbrev pub chosen_side : ℕ → List Span → BinaryOp → Tree → Tree → Bool → Tree
chosen_side mark rs op a b known = if decided op known then a else (if pure mark a then b else node Seq rs (a ⊳ b ⊳ ε))

-- the arm of a condition of known truth, behind the test where that is not pure
abbrev pub chosen_arm : List Span → Tree → Tree → Bool → Tree
chosen_arm rs t arm is_pure = if is_pure then arm else node Seq rs (t ⊳ arm ⊳ ε)
