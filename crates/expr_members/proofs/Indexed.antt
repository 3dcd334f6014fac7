-- The items of an array round an index.
use Rattle.std.proofs.Common.{◌≡◌, ℕ, zero, suc, ◌<◌, true, false, not, ◌&&◌, if◌then◌else◌, List, [], ◌∷◌, length, take, drop, get_or, Option, Some, None, refl, sym, ap, ◌∙◌, arith}
use Rattle.swc_ast.specs.Operators.{if_some}
use Rattle.swc_ast.specs.Tree.{Tree, ◌⊳◌}
use Rattle.swc_ast.specs.Expressions.{spread_kind}
use Rattle.swc_ast.specs.Views.{expr_tree}
use Rattle.swc_ast.specs.declared.Span.{Span}
use Rattle.swc_utils.specs.Effects.{effects_all, preserve}
use Rattle.swc_utils.specs.Pure.{has_spread, pure_all}
use Rattle.expr_rules.specs.Members.{array_at, item_at, items_before, items_behind}
use Rattle.expr_members.specs.Members.{item_value}
use Rattle.expr_members.proofs.Opened.{Item, kinds_of, trees_of}

before_is : (xs : List Item) (i : ℕ) → items_before (kinds_of xs) (trees_of xs) i ≡ trees_of (take i xs)
before_is xs zero = refl
before_is [] (suc i) = refl
before_is (None ∷ xs) (suc i) = before_is xs i
before_is (Some n ∷ xs) (suc i) = by n.spread ∙ ap (λ ts. expr_tree n.expr.value ⊳ ts) (before_is xs i)
  where
    by : (o : Option Span) → items_before (spread_kind o ∷ kinds_of xs) (expr_tree n.expr.value ⊳ trees_of xs) (suc i) ≡ expr_tree n.expr.value ⊳ items_before (kinds_of xs) (trees_of xs) i
    by None = refl
    by (Some s) = refl

behind_is : (xs : List Item) (i : ℕ) → items_behind (kinds_of xs) (trees_of xs) i ≡ trees_of (drop (suc i) xs)
behind_is [] i = refl
behind_is (None ∷ xs) zero = refl
behind_is (None ∷ xs) (suc i) = behind_is xs i
behind_is (Some n ∷ xs) zero = by n.spread
  where
    by : (o : Option Span) → items_behind (spread_kind o ∷ kinds_of xs) (expr_tree n.expr.value ⊳ trees_of xs) zero ≡ trees_of xs
    by None = refl
    by (Some s) = refl
behind_is (Some n ∷ xs) (suc i) = by n.spread ∙ behind_is xs i
  where
    by : (o : Option Span) → items_behind (spread_kind o ∷ kinds_of xs) (expr_tree n.expr.value ⊳ trees_of xs) (suc i) ≡ items_behind (kinds_of xs) (trees_of xs) i
    by None = refl
    by (Some s) = refl

at_is : (w : Tree) (xs : List Item) (i : ℕ) (x : Item) → i < length xs → x ≡ get_or xs i x → item_at w (kinds_of xs) (trees_of xs) i ≡ Some (item_value w x)
at_is w [] i x h is = absurd (omega (arith, h))
at_is w (None ∷ xs) zero x h is = ap (λ y. Some (item_value w y)) (sym is)
at_is w (None ∷ xs) (suc i) x h is = at_is w xs i x (omega (arith, h)) is
at_is w (Some n ∷ xs) zero x h is = by n.spread ∙ ap (λ y. Some (item_value w y)) (sym is)
  where
    by : (o : Option Span) → item_at w (spread_kind o ∷ kinds_of xs) (expr_tree n.expr.value ⊳ trees_of xs) zero ≡ Some (expr_tree n.expr.value)
    by None = refl
    by (Some s) = refl
at_is w (Some n ∷ xs) (suc i) x h is = by n.spread ∙ at_is w xs i x (omega (arith, h)) is
  where
    by : (o : Option Span) → item_at w (spread_kind o ∷ kinds_of xs) (expr_tree n.expr.value ⊳ trees_of xs) (suc i) ≡ item_at w (kinds_of xs) (trees_of xs) i
    by None = refl
    by (Some s) = refl

-- the item at an index, behind the effects of those in front
pub item_is : (mark : ℕ) (rs : List Span) (w : Tree) (xs : List Item) (i : ℕ) (x : Item) → i < length xs → x ≡ get_or xs i x → has_spread (kinds_of xs) ≡ false → pure_all mark (trees_of (drop (suc i) xs)) ≡ true → array_at mark rs w (kinds_of xs) (trees_of xs) i ≡ Some (preserve rs (effects_all mark (trees_of (take i xs))) (item_value w x))
item_is mark rs w xs i x within at plain clean =
    let behind = items_behind (kinds_of xs) (trees_of xs) i in
    let before = items_before (kinds_of xs) (trees_of xs) i in
    let put = λ (t : Tree). Some (preserve rs (effects_all mark before) t) in
    ap (λ b. if not b && pure_all mark behind then if_some (item_at w (kinds_of xs) (trees_of xs) i) put else None) plain
    ∙ ap (λ b. if b then if_some (item_at w (kinds_of xs) (trees_of xs) i) put else None) (ap (pure_all mark) (behind_is xs i) ∙ clean)
    ∙ ap (λ o. if_some o put) (at_is w xs i x within at)
    ∙ ap (λ ts. Some (preserve rs (effects_all mark ts) (item_value w x))) (before_is xs i)
