-- Nodes of lists in a row.
use Rattle.std.proofs.Common.{ℕ, zero, suc, ◌+◌, ◌-◌, ◌≡◌, ◌<◌, ◌≤◌, List, [], ◌∷◌, ◌++◌, Vec, Global, length, take, drop, refl, sym, ap, ap₂, ◌∙◌, arith}
use Rattle.std.proofs.lemmas.List.{take_all}
use Rattle.std.specs.Borrow.{Bor}
use Rattle.swc_ast.specs.declared.modules.ModuleItem.{ModuleItem}
use Rattle.swc_ast.specs.declared.statements.Stmt.{Stmt}
use Rattle.swc_ast.specs.Modules.{item_tree}
use Rattle.swc_ast.specs.Parts.{list_trees}
use Rattle.swc_ast.specs.Scope.{joined}
use Rattle.swc_ast.specs.Tree.{Tree, Forest, ε, ◌⊳◌}
use Rattle.swc_ast.specs.Views.{stmt_tree}
use Rattle.swc_utils.proofs.Chains.{joined_assoc, joined_none, pushed}
use Rattle.tree_visit.specs.declared.lists.NodeList.{NodeList}
use Rattle.tree_visit.specs.declared.lists.NodeList.TheVariants as list
use Rattle.tree_visit.specs.declared.node.Node.{Node}
use Rattle.tree_visit.specs.declared.node.Node.TheVariants.{At}
use Rattle.tree_visit.specs.declared.children.Children.TheVariants.{Listed}
use Rattle.tree_visit.specs.Nodes.{head_tree, node_at, node_tree, children_forest}
use Rattle.dce_items.specs.Wrapped.{row}

-- what is in a row, with what is still to be added to it
pub goes_on : (l : NodeList) (i j m n : ℕ) (now new : List Node) (all : Forest) → j ≡ suc i → m ≡ suc n → new ≡ now ++ At l i ∷ [] → joined (list_trees node_tree now) (row l i m) ≡ all → joined (list_trees node_tree new) (row l j n) ≡ all
goes_on l i j m n now new all next more is h =
    ap₂ (λ ns k. joined (list_trees node_tree ns) (row l k n)) is next ∙ ap (λ ts. joined ts (row l (suc i) n)) (pushed node_tree now (At l i)) ∙ joined_assoc (list_trees node_tree now) (node_at l i ⊳ ε) (row l (suc i) n)
    ∙ sym (ap (λ k. joined (list_trees node_tree now) (row l i k)) more) ∙ h

pub done : (l : NodeList) (i m : ℕ) (now : List Node) (all : Forest) → m ≡ 0 → joined (list_trees node_tree now) (row l i m) ≡ all → list_trees node_tree now ≡ all
done l i m now all none h = sym (ap (λ k. joined (list_trees node_tree now) (row l i k)) none ∙ joined_none (list_trees node_tree now)) ∙ h

-- a list that has a place has an item there
cut : {X : Type 0} (xs : List X) (i : ℕ) → i < length xs → (x : X) × (drop i xs ≡ x ∷ drop (suc i) xs)
cut [] i h = absurd (omega (arith, h))
cut (x ∷ xs) zero h = (x, refl)
cut (x ∷ xs) (suc i) h = cut xs i (omega (arith, h))

-- so many nodes of a list are so many of its items
row_is : {X : Type 0} (f : X → Tree) (xs : List X) (l : NodeList) → ((i : ℕ) → node_at l i ≡ head_tree f (drop i xs)) → (i n : ℕ) → i + n ≤ length xs → row l i n ≡ list_trees f (take n (drop i xs))
row_is f xs l at i zero h = refl
row_is f xs l at i (suc n) h =
    let k = cut xs i (omega (arith, h)) in
    ap₂ (λ t ts. t ⊳ ts) (at i ∙ ap (head_tree f) k.1) (row_is f xs l at (suc i) n (omega (arith, h))) ∙ sym (ap (λ ys. list_trees f (take (suc n) ys)) k.1)

rest_length : {X : Type 0} (xs : List X) (i : ℕ) → length (drop i xs) ≤ length xs - i
rest_length [] zero = omega arith
rest_length [] (suc i) = omega arith
rest_length (x ∷ xs) zero = omega arith
rest_length (x ∷ xs) (suc i) = let h = rest_length xs i in omega (arith, h)

pub items_front : (xs : Bor (Vec ModuleItem Global)) (n : ℕ) → n ≤ length xs.now.items → row (list.ModuleItems xs) 0 n ≡ list_trees item_tree (take n xs.now.items)
items_front xs n h = row_is item_tree xs.now.items (list.ModuleItems xs) (λ i. refl) 0 n (omega (arith, h))

pub items_behind : (xs : Bor (Vec ModuleItem Global)) (i : ℕ) → i ≤ length xs.now.items → row (list.ModuleItems xs) i (length xs.now.items - i) ≡ list_trees item_tree (drop i xs.now.items)
items_behind xs i h = row_is item_tree xs.now.items (list.ModuleItems xs) (λ j. refl) i (length xs.now.items - i) (omega (arith, h)) ∙ ap (list_trees item_tree) (take_all (length xs.now.items - i) (drop i xs.now.items) (rest_length xs.now.items i))

pub stmts_row : (xs : Bor (Vec Stmt Global)) → row (list.Stmts xs) 0 (length xs.now.items) ≡ list_trees stmt_tree xs.now.items
stmts_row xs = row_is stmt_tree xs.now.items (list.Stmts xs) (λ j. refl) 0 (length xs.now.items) (omega arith) ∙ ap (list_trees stmt_tree) (take_all (length xs.now.items) xs.now.items (omega arith))

-- a module's items, by what the code adds
pub own_is : (xs : Bor (Vec ModuleItem Global)) (old new : List Node) (n : ℕ) → n ≡ length xs.now.items → old ≡ [] → list_trees node_tree new ≡ joined (list_trees node_tree old) (row (list.ModuleItems xs) 0 n) → list_trees node_tree new ≡ list_trees item_tree xs.now.items
own_is xs old new n is none h =
    h ∙ ap₂ (λ ns m. joined (list_trees node_tree ns) (row (list.ModuleItems xs) 0 m)) none is ∙ items_front xs (length xs.now.items) (omega arith) ∙ ap (list_trees item_tree) (take_all (length xs.now.items) xs.now.items (omega arith))

-- those round one of them, and the statements of that
pub around_is : (xs : Bor (Vec ModuleItem Global)) (ys : Bor (Vec Stmt Global)) (none front beside all : List Node) (i j n m : ℕ) → i < length xs.now.items → j ≡ i → n ≡ length xs.now.items → m ≡ length ys.now.items → none ≡ [] → list_trees node_tree front ≡ joined (list_trees node_tree none) (row (list.ModuleItems xs) 0 j) → list_trees node_tree beside ≡ joined (list_trees node_tree front) (row (list.ModuleItems xs) (i + 1) (n - (i + 1))) → list_trees node_tree all ≡ joined (list_trees node_tree beside) (row (list.Stmts ys) 0 m) → list_trees node_tree all ≡ joined (joined (list_trees item_tree (take i xs.now.items)) (list_trees item_tree (drop (i + 1) xs.now.items))) (list_trees stmt_tree ys.now.items)
around_is xs ys none front beside all i j n m there at is so nothing f g h =
    let p : list_trees node_tree front ≡ list_trees item_tree (take i xs.now.items) = f ∙ ap₂ (λ ns k. joined (list_trees node_tree ns) (row (list.ModuleItems xs) 0 k)) nothing at ∙ items_front xs i (omega (arith, there)) in
    let q : list_trees node_tree beside ≡ joined (list_trees item_tree (take i xs.now.items)) (list_trees item_tree (drop (i + 1) xs.now.items)) = g ∙ ap₂ joined p (ap (λ k. row (list.ModuleItems xs) (i + 1) (k - (i + 1))) is ∙ items_behind xs (i + 1) (omega (arith, there))) in
    h ∙ ap₂ joined q (ap (λ k. row (list.Stmts ys) 0 k) so ∙ stmts_row ys)

-- the statements of a body as children
pub listed_is : (xs : Bor (Vec Stmt Global)) → children_forest (Listed (list.Stmts xs) 0) ≡ list_trees stmt_tree xs.now.items
unfolding children_forest
listed_is xs = refl
