-- Members of literals.
use Rattle.std.specs.Prelude.{◌≡◌, ℕ, true, List, [], ◌∷◌, Option, Some, None, if◌then◌else◌, pos, chars, slice_get, slice_index_or, take}
use Rattle.swc_ast.specs.Core.{in_range}
use Rattle.swc_ast.specs.Expressions.{item_trees, member_node}
use Rattle.swc_ast.specs.Operators.{if_some}
use Rattle.swc_ast.specs.Tree.{NumLit, Tree, node, ε}
use Rattle.swc_ast.specs.Views.{expr_tree}
use Rattle.swc_ast.specs.declared.Span.{Span}
use Rattle.swc_ast.specs.declared.expressions.Expr.{Expr}
use Rattle.swc_ast.specs.declared.expressions.ExprOrSpread.{ExprOrSpread}
use Rattle.swc_ast.specs.declared.expressions.MemberProp.{MemberProp}
use Rattle.swc_utils.specs.Effects.{effects_all, preserve}
use Rattle.expr_rules.specs.ExprSteps.{ExprStep, MemberOf}
use Rattle.pass_rules.specs.Leaves.{text_tree, void_tree}
use Rattle.expr_rules.specs.Members.{all_basic, character}

-- an expression that may take the place of member k of one of tree o
abbrev pub StandsFor : ℕ → Tree → List ℕ → Expr → Type 0
StandsFor mark o k e = (m : Tree) → MemberOf m o k → ExprStep mark m (expr_tree e)

-- the text of a member's key
abbrev pub IsKey : MemberProp Expr → List ℕ → Type 0
IsKey p k = (s : Span) (o : Expr) → MemberOf (member_node expr_tree s o p) (expr_tree o) k

-- the literal of a length that is a number of the core
abbrev pub IsLength : Span → ℕ → Expr → Type 0
IsLength s n e = (expr_tree e ≡ node (NumLit (pos n)) (s ∷ []) ε) × (in_range (pos n) ≡ true)

-- the character of a text at an index, where no character of the text lies past the basic plane
abbrev pub character_at : List ℕ → ℕ → Option (List ℕ)
character_at t i = if all_basic (chars t) then if_some (slice_get (chars t) i) character else None

-- the literal of it
abbrev pub IsCharacter : Span → List ℕ → ℕ → Expr → Type 0
IsCharacter s t i e = (u : List ℕ) × (expr_tree e ≡ text_tree (s ∷ []) u) × (character_at t i ≡ Some u)

-- the tree of an item; a hole's is what w says
abbrev pub item_value : Tree → Option (ExprOrSpread Expr) → Tree
item_value w None = w
item_value w (Some n) = expr_tree n.expr.value

-- item i, behind what is to be run of the items in front
abbrev pub IsItem : ℕ → Span → List (Option (ExprOrSpread Expr)) → ℕ → Expr → Type 0
IsItem mark s xs i e = (x : Option (ExprOrSpread Expr)) × (x ≡ slice_index_or xs i x) × (expr_tree e ≡ preserve (s ∷ []) (effects_all mark (item_trees expr_tree (take i xs))) (item_value (void_tree (s ∷ []) (s ∷ [])) x))
