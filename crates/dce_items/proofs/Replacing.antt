-- A module with another item at the place of its wrapper.
use Rattle.std.proofs.Common.{ℕ, zero, suc, ◌+◌, ◌≡◌, ◌<◌, List, [], ◌∷◌, ◌++◌, length, get_or, set, take, drop, refl, sym, ap, ap₂, ◌∙◌, arith}
use Rattle.std.proofs.lemmas.List.{set_split}
use Rattle.swc_ast.specs.declared.modules.Module.{Module}
use Rattle.swc_ast.specs.declared.modules.ModuleItem.{ModuleItem}
use Rattle.swc_ast.specs.Modules.{item_tree, module_tree}
use Rattle.swc_ast.specs.Parts.{list_trees}
use Rattle.swc_ast.specs.Scope.{joined}
use Rattle.swc_ast.specs.Tree.{Module as Whole, Tree, node, Forest, ◌⊳◌}
use Rattle.dce_layer_proofs.specs.Frames.{Wrapper, wrapped, within}
use Rattle.dce_items.specs.Wrapped.{WrapperAt, around}

row_joined : {X : Type 0} (f : X → Tree) (xs ys : List X) → list_trees f (xs ++ ys) ≡ joined (list_trees f xs) (list_trees f ys)
row_joined f [] ys = refl
row_joined f (x ∷ xs) ys = ap (λ ts. f x ⊳ ts) (row_joined f xs ys)

next : (k : ℕ) → suc k ≡ k + 1
next k = omega arith

-- the item that stands at a place
at_place : {X : Type 0} (xs : List X) (i : ℕ) (x d : X) → i < length xs → xs ≡ take i xs ++ x ∷ drop (suc i) xs → get_or xs i d ≡ x
at_place [] i x d h e = absurd (omega (arith, h))
at_place (y ∷ ys) zero x d h e = ap (λ zs. get_or zs 0 d) e
at_place (y ∷ ys) (suc i) x d h e = at_place ys i x d (omega (arith, h)) (ap (drop 1) e)

item_at : {X : Type 0} (xs : List X) (i : ℕ) (x d : X) → i < length xs → xs ≡ take i xs ++ x ∷ drop (i + 1) xs → get_or xs i d ≡ x
item_at xs i x d h e = at_place xs i x d h (e ∙ ap (λ k. take i xs ++ x ∷ drop k xs) (sym (next i)))

pub wrapper_there : (items : List ModuleItem) (i : ℕ) (ts : Forest) (old : ModuleItem) (s : WrapperAt items i ts) → old ≡ get_or items i old → item_tree old ≡ wrapped s.is.parts ts
wrapper_there items i ts old s is = ap item_tree (is ∙ item_at items i s.item old s.there s.splits) ∙ s.is.is

-- the module with its wrapper
pub module_within : (m : Module) (i : ℕ) (ts : Forest) (s : WrapperAt m.body.items i ts) → module_tree m ≡ within (around (m.span ∷ []) m.body.items i s.is.parts) ts
module_within m i ts s =
    let items = m.body.items in
    ap (node Whole (m.span ∷ [])) (ap (list_trees item_tree) s.splits ∙ row_joined item_tree (take i items) (s.item ∷ drop (i + 1) items) ∙ ap (λ t. joined (list_trees item_tree (take i items)) (t ⊳ list_trees item_tree (drop (i + 1) items))) s.is.is)

-- the module with another in its place
pub module_replaced : (m r : Module) (i : ℕ) (w : Wrapper) (us : Forest) (new : ModuleItem) → i < length m.body.items → r.span ≡ m.span → r.body.items ≡ set m.body.items i new → item_tree new ≡ wrapped w us → module_tree r ≡ within (around (m.span ∷ []) m.body.items i w) us
module_replaced m r i w us new there spanned is so =
    let items = m.body.items in
    let split : r.body.items ≡ take i items ++ new ∷ drop (i + 1) items = is ∙ set_split items i new there ∙ ap (λ n. take i items ++ new ∷ drop n items) (next i) in
    ap₂ (λ s ts. node Whole (s ∷ []) ts) spanned (ap (list_trees item_tree) split ∙ row_joined item_tree (take i items) (new ∷ drop (i + 1) items) ∙ ap (λ t. joined (list_trees item_tree (take i items)) (t ⊳ list_trees item_tree (drop (i + 1) items))) so)

set_same : {X : Type 0} (f : X → Tree) (xs : List X) (i : ℕ) (y x : X) → x ≡ get_or xs i x → f y ≡ f x → list_trees f (set xs i y) ≡ list_trees f xs
set_same f [] i y x is same = refl
set_same f (z ∷ zs) zero y x is same = ap (λ t. t ⊳ list_trees f zs) (same ∙ ap f is)
set_same f (z ∷ zs) (suc i) y x is same = ap (λ ts. f z ⊳ ts) (set_same f zs i y x is same)

-- the module with the same tree in its place
pub module_same : (m r : Module) (i : ℕ) (old new : ModuleItem) → r.span ≡ m.span → r.body.items ≡ set m.body.items i new → old ≡ get_or m.body.items i old → item_tree new ≡ item_tree old → module_tree r ≡ module_tree m
module_same m r i old new spanned is stood same = ap₂ (λ s ts. node Whole (s ∷ []) ts) spanned (ap (list_trees item_tree) is ∙ set_same item_tree m.body.items i new old stood same)
