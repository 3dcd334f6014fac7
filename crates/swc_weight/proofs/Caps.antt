-- Sums that stop at the greatest number of 64 bits.
use Rattle.std.proofs.Common.{◌≡◌, ℕ, ◌+◌, ◌-◌, ◌^◌, ◌<◌, ◌≤◌, min, refl, sym, ap, ◌∙◌, arith, List, [], ◌∷◌, map, length}
use Rattle.std.specs.Prelude.{Option}
use Rattle.swc_ast.specs.Tree.{Label, Tree, node, Forest, ε, ◌⊳◌, label_of, children_of}
use Rattle.swc_ast.specs.Expressions.{item_kind}
use Rattle.swc_ast.specs.Weight.{weight, weight_all, items_weight, movable}
use Rattle.swc_ast.specs.declared.expressions.Expr.{Expr}
use Rattle.swc_ast.specs.declared.expressions.ExprOrSpread.{ExprOrSpread}
use Rattle.swc_weight.specs.Classes.{weight_without_children}

weight_split : (t : Tree) → weight t ≡ weight_without_children (label_of t) (children_of t) + weight_all (children_of t)
weight_split (node l ss cs) = refl

cap_left : (a b c : ℕ) → a ≡ min b (2 ^ 64 - 1) → min (a + c) (2 ^ 64 - 1) ≡ min (b + c) (2 ^ 64 - 1)
cap_left a b c is = omega (arith, is)

pub weight_starts : (t : Tree) (l : Label) (cs : Forest) (w : ℕ) → label_of t ≡ l → children_of t ≡ cs → w ≡ min (weight_without_children l cs) (2 ^ 64 - 1) → min (w + weight_all cs) (2 ^ 64 - 1) ≡ min (weight t) (2 ^ 64 - 1)
weight_starts t l cs w labelled held is = cap_left w (weight_without_children l cs) (weight_all cs) is ∙ ap (λ n. min n (2 ^ 64 - 1)) (sym (weight_split t ∙ cc (labelled, held)))

cap_step : (total w new v rest g : ℕ) → w ≡ min v (2 ^ 64 - 1) → new ≡ min (total + w) (2 ^ 64 - 1) → min (total + (v + rest)) (2 ^ 64 - 1) ≡ g → min (new + rest) (2 ^ 64 - 1) ≡ g
cap_step total w new v rest g is made h = omega (arith, is, made, h)

pub weight_goes_on : (t : Tree) (ts us : Forest) (total w new g : ℕ) → us ≡ t ⊳ ts → w ≡ min (weight t) (2 ^ 64 - 1) → new ≡ min (total + w) (2 ^ 64 - 1) → min (total + weight_all us) (2 ^ 64 - 1) ≡ g → min (new + weight_all ts) (2 ^ 64 - 1) ≡ g
weight_goes_on t ts us total w new g is weighed made h = cap_step total w new (weight t) (weight_all ts) g weighed made (ap (λ cs. min (total + weight_all cs) (2 ^ 64 - 1)) (sym is) ∙ h)

pub weight_ends : (us : Forest) (total g : ℕ) → us ≡ ε → total ≤ 2 ^ 64 - 1 → min (total + weight_all us) (2 ^ 64 - 1) ≡ g → total ≡ g
weight_ends us total g is small h = omega (arith, ap weight_all is, small, h)

pub items_end : (xs : List (Option (ExprOrSpread Expr))) (total g : ℕ) → length xs < 1 → total ≤ 2 ^ 64 - 1 → min (total + items_weight (map item_kind xs)) (2 ^ 64 - 1) ≡ g → total ≡ g
items_end [] total g short small h = omega (arith, small, h)
items_end (x ∷ xs) total g short small h = absurd (omega (arith, short))

pub movable_ends : (us : Forest) (total g : ℕ) → us ≡ ε → total ≤ 2 ^ 64 - 1 → min (total + movable us) (2 ^ 64 - 1) ≡ g → total ≡ g
movable_ends us total g is small h = omega (arith, ap movable is, small, h)
