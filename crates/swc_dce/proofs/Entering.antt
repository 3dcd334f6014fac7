-- What is not entered, and what became of lists, as the walk asks for it.
use Rattle.std.proofs.Common.{◌≡◌, Bool, true, false, not, ◌||◌, IsTrue, IsFalse, List, [], ◌∷◌, refl, sym, ap, ◌∙◌}
use Rattle.std.proofs.lemmas.Bool.{true≢false}
use Rattle.swc_ast.proofs.Equations.{stmt_tree-Block}
use Rattle.swc_ast.specs.Modules.{item_tree}
use Rattle.swc_ast.specs.Parts.{list_trees}
use Rattle.swc_ast.specs.Reach.{begins_with_asm, is_default_function}
use Rattle.swc_ast.specs.Redex.{is_delete}
use Rattle.swc_ast.specs.Tree.{Label, Block, Module, Tree, node, label_of}
use Rattle.swc_ast.specs.Views.{stmt_tree}
use Rattle.swc_ast.specs.Weight.{is_list}
use Rattle.swc_ast.specs.declared.Span.{Span}
use Rattle.swc_ast.specs.declared.modules.ModuleItem.{ModuleItem}
use Rattle.swc_ast.specs.declared.modules.ModuleItem.TheVariants as in_item
use Rattle.swc_ast.specs.declared.statements.BlockStmt.{BlockStmt}
use Rattle.swc_ast.specs.declared.statements.Stmt.{Stmt}
use Rattle.swc_ast.specs.declared.statements.Stmt.TheVariants as in_stmt
use Rattle.tree_walk.specs.Lists.{ItemsBecame, ListBecame, Shut, list_label}
use Rattle.tree_walk.specs.declared.rules.ListPlace.{ListPlace}
use Rattle.tree_walk.specs.declared.rules.ListPlace.TheVariants as place
use Rattle.dce_rules.specs.Shakes.{Shaker, is_shut, is_head_alone, shake_pass}
use Rattle.dce_code.specs.Lists.{trees, ListShaken}

not_false : (b : Bool) → IsFalse (not b) → IsTrue b
not_false true h = refl
not_false false h = absurd (true≢false h)

-- the operand of `delete`

one_of_four : (a c d : Bool) → ((a || (true || c)) || d) ≡ true
one_of_four true c d = refl
one_of_four false c d = refl

pub delete_shut : (t : Tree) (b : Bool) → b ≡ is_delete (label_of t) → IsFalse (not b) → is_shut t ≡ true
delete_shut (node l ss cs) b is h =
    ap (λ d. (begins_with_asm l cs || (d || is_default_function l)) || is_head_alone l cs) (sym is ∙ not_false b h) ∙ one_of_four (begins_with_asm l cs) (is_default_function l) (is_head_alone l cs)

-- lists that begin with the directive

-- what a look at a list tells: where it says so, no node that has the list is entered
abbrev pub ShutBy : {X : Type 0} → (X → ModuleItem) → List X → Bool → Type 0
ShutBy f xs b = IsTrue b → (l : Label) → is_list l ≡ true → (ss : List Span) → is_shut (node l ss (trees f xs)) ≡ true

lists : (p : ListPlace) → is_list (list_label p) ≡ true
lists place.Block = refl
lists place.Body = refl
lists place.Case = refl
lists place.Script = refl

pub list_shut : (S : Shaker) (p : ListPlace) (xs : List Stmt) (b : Bool) → ShutBy in_item.Stmt xs b → IsFalse (not b) → Shut (shake_pass S) (list_label p) (list_trees stmt_tree xs)
list_shut S p xs b shut h = λ ss. shut (not_false b h) (list_label p) (lists p) ss

pub items_shut : (S : Shaker) (xs : List ModuleItem) (b : Bool) → ShutBy (λ x. x) xs b → IsFalse (not b) → Shut (shake_pass S) Module (list_trees item_tree xs)
items_shut S xs b shut h = λ ss. shut (not_false b h) Module refl ss

pub block_shut : (s : Stmt) (n : BlockStmt Stmt) (b : Bool) → s ≡ in_stmt.Block n → ShutBy in_item.Stmt n.stmts.items b → IsFalse (not b) → is_shut (stmt_tree s) ≡ true
block_shut s n b is shut h = ap (λ z. is_shut (stmt_tree z)) is ∙ ap is_shut (stmt_tree-Block n) ∙ shut (not_false b h) Block refl (n.span ∷ [])

-- lists that are walked

pub list_became : (S : Shaker) (p : ListPlace) (b : Bool) (xs ys : List Stmt) → ListShaken S b (trees in_item.Stmt xs) (trees in_item.Stmt ys) → ListBecame (shake_pass S) p b xs ys
list_became S p true xs ys h = h
list_became S p false xs ys h = h

pub items_became : (S : Shaker) (b : Bool) (xs ys : List ModuleItem) → ListShaken S b (trees (λ x. x) xs) (trees (λ x. x) ys) → ItemsBecame (shake_pass S) b xs ys
items_became S true xs ys h = h
items_became S false xs ys h = h
