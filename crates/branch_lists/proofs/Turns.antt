-- Loops over items that add for each what a function gives of it.
use Rattle.std.proofs.Common.{◌≡◌, ◌≤◌, ◌-◌, List, [], ◌∷◌, ◌++◌, length, take, drop, get_or, refl, sym, ap, ap₂, ◌∙◌, arith}
use Rattle.std.proofs.lemmas.List.{take_all}
use Rattle.std.specs.Vec.Iter.{into_iter_items, into_iter_len}
use Rattle.std.specs.declared.vec.IntoIter.{IntoIter}
use Rattle.swc_ast.specs.Tree.{Forest, ε, ◌⊳◌}
use Rattle.swc_ast.specs.Scope.{joined}
use Rattle.swc_ast.specs.Modules.{item_tree}
use Rattle.swc_ast.specs.Views.{stmt_tree}
use Rattle.swc_ast.specs.declared.modules.ModuleItem.{ModuleItem}
use Rattle.swc_ast.specs.declared.modules.ModuleItem.TheVariants as items
use Rattle.swc_ast.specs.declared.statements.Stmt.{Stmt}
use Rattle.swc_utils.proofs.Chains.{joined_none, joined_assoc, pushed}
use Rattle.branch_lists.specs.Swept.{trees}

-- trees
pub trees_on : {X : Type 0} (f : List X → Forest) (cons : (x : X) (xs : List X) → f (x ∷ xs) ≡ joined (f (x ∷ [])) (f xs)) (a d : Forest) (x : X) (xs ys : List X) {g : Forest} → ys ≡ x ∷ xs → d ≡ joined a (f (x ∷ [])) → joined a (f ys) ≡ g → joined d (f xs) ≡ g
trees_on f cons a d x xs ys at is h = ap (λ e. joined e (f xs)) is ∙ joined_assoc a (f (x ∷ [])) (f xs) ∙ sym (ap (joined a) (ap f at ∙ cons x xs)) ∙ h

none_of : {X : Type 0} (xs : List X) → length xs ≡ 0 → xs ≡ []
none_of [] h = refl
none_of (x ∷ xs) h = absurd (omega (arith, h))

-- an iterator that has no items left
pub spent : {X Z : Type 0} (it : IntoIter X Z) → into_iter_len it ≡ 0 → into_iter_items it ≡ []
spent it h = none_of (into_iter_items it) (sym it.rest.ok.0 ∙ h)

pub trees_end : {X Z : Type 0} (f : List X → Forest) → f [] ≡ ε → (a : Forest) (it : IntoIter X Z) {g : Forest} → into_iter_len it ≡ 0 → joined a (f (into_iter_items it)) ≡ g → a ≡ g
trees_end f none a it h is = sym (joined_none a) ∙ ap (joined a) (sym none ∙ sym (ap f (spent it h))) ∙ is

-- the first of what is left, and what stands behind it
pub first_left : {X : Type 0} (left : List X) (x : X) → 1 ≤ length left → x ≡ get_or left 0 x → left ≡ x ∷ take (length left - 1) (drop 1 left)
first_left [] x some is = absurd (omega (arith, some))
first_left (y ∷ ys) x some is = ap₂ (λ k ks. k ∷ ks) (sym is) (sym (take_all (length (y ∷ ys) - 1) ys (omega arith)))

-- an item behind others
pub pushed_item : {X : Type 0} (f : X → ModuleItem) (xs ys : List X) (x : X) → ys ≡ xs ++ x ∷ [] → trees f ys ≡ joined (trees f xs) (item_tree (f x) ⊳ ε)
pushed_item f xs ys x is = ap (trees f) is ∙ pushed (λ y. item_tree (f y)) xs x

-- what is made of a statement
pub pushed_statement : {X : Type 0} (f : X → ModuleItem) {made : Stmt → X} → ((s : Stmt) → f (made s) ≡ items.Stmt s) → (xs ys : List X) (x : X) (s : Stmt) → ys ≡ xs ++ x ∷ [] → x ≡ made s → trees f ys ≡ joined (trees f xs) (stmt_tree s ⊳ ε)
pushed_statement f made_is xs ys x s is same = pushed_item f xs ys x is ∙ ap (λ y. joined (trees f xs) (item_tree y ⊳ ε)) (ap f same ∙ made_is s)
