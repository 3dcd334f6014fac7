-- The items of an array, as a loop over them comes to each.
use Rattle.std.proofs.Common.{◌≡◌, ℕ, suc, ◌<◌, Bool, false, not, ◌&&◌, List, ◌∷◌, map, drop, length, Option, Some, sym, ap, ◌∙◌, get_or}
use Rattle.std.proofs.Math.Seq.{drop-cons}
use Rattle.swc_ast.specs.Expressions.{item_kind, item_trees}
use Rattle.swc_ast.specs.Views.{expr_tree}
use Rattle.swc_ast.specs.declared.expressions.Expr.{Expr}
use Rattle.swc_ast.specs.declared.expressions.ExprOrSpread.{ExprOrSpread}
use Rattle.swc_utils.specs.Pure.{has_spread, pure, pure_all}
use Rattle.swc_utils.proofs.PureNodes.{second_fails}

-- an element and those behind it
pub from_here : {X : Type 0} (xs : List X) (i : ℕ) (x y : X) → i < length xs → x ≡ get_or xs i x → x ≡ y → drop i xs ≡ y ∷ drop (suc i) xs
from_here xs i x y within at is = drop-cons xs i x within ∙ ap (λ z. z ∷ drop (suc i) xs) (sym at ∙ is)

-- no spread among the items, and all of them pure
abbrev pub items_pure : ℕ → List (Option (ExprOrSpread Expr)) → Bool
items_pure mark xs = not (has_spread (map item_kind xs)) && pure_all mark (item_trees expr_tree xs)

pub items_fail : (mark : ℕ) (xs : List (Option (ExprOrSpread Expr))) (i : ℕ) (o : Option (ExprOrSpread Expr)) (n : ExprOrSpread Expr) (g : Bool) → i < length xs → o ≡ get_or xs i o → o ≡ Some n → pure mark (expr_tree n.expr.value) ≡ false → items_pure mark (drop i xs) ≡ g → false ≡ g
items_fail mark xs i o n g within at is impure h = sym (ap (items_pure mark) (from_here xs i o (Some n) within at is) ∙ second_fails _ _ _ impure) ∙ h
