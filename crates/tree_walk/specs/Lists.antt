-- Lists of statements: each is the children of one node.
use Rattle.std.specs.Prelude.{Bool, true, false, ◌≡◌, List}
use Rattle.swc_ast.specs.Labels.{is_block}
use Rattle.swc_ast.specs.Tree.{Label, Block, Body, CaseBody, Script, Module, node, Forest}
use Rattle.swc_ast.specs.declared.Span.{Span}
use Rattle.swc_ast.specs.Parts.{list_trees}
use Rattle.swc_ast.specs.Modules.{item_tree}
use Rattle.swc_ast.specs.Views.{stmt_tree}
use Rattle.swc_ast.specs.declared.modules.ModuleItem.{ModuleItem}
use Rattle.swc_ast.specs.declared.statements.Stmt.{Stmt}
use Rattle.tree_walk.specs.declared.rules.ListPlace.{ListPlace}
use Rattle.tree_walk.specs.declared.rules.ListPlace.TheVariants as place
use Rattle.tree_walk.specs.Walks.{Walks, ListMade}
use Rattle.tree_walk.specs.Pass.{Pass}

-- the label of the node whose children the list is
abbrev pub list_label : ListPlace → Label
list_label place.Block = Block
list_label place.Body = Body
list_label place.Case = CaseBody
list_label place.Script = Script

-- what a rule did with a list: a step, or nothing
abbrev pub ListBecame : Pass → ListPlace → Bool → List Stmt → List Stmt → Type 0
ListBecame X p true xs ys = X.tidies (list_label p) (list_trees stmt_tree xs) (list_trees stmt_tree ys)
ListBecame X p false xs ys = (list_trees stmt_tree ys ≡ list_trees stmt_tree xs) × X.tidy (list_label p) (list_trees stmt_tree ys)

-- a list whose statements are walked, and then the list
abbrev pub ListWalks : Pass → ListPlace → List Stmt → List Stmt → Bool → Type 0
ListWalks X p xs ys c = ListMade X (list_label p) c (list_trees stmt_tree xs) (list_trees stmt_tree ys)

-- a list that is not entered, whatever the spans of its node are
abbrev pub Shut : Pass → Label → Forest → Type 0
Shut X l ts = (ss : List Span) → X.skips (node l ss ts)

-- a list in a node that no rule sees
abbrev pub PartWalks : Pass → ListPlace → List Stmt → List Stmt → Bool → Type 0
PartWalks X p xs ys c = is_block (list_label p) ≡ true → (ss : List Span) → Walks X c (node (list_label p) ss (list_trees stmt_tree xs)) (node (list_label p) ss (list_trees stmt_tree ys))

-- the same of the items of a module
abbrev pub ItemsBecame : Pass → Bool → List ModuleItem → List ModuleItem → Type 0
ItemsBecame X true xs ys = X.tidies Module (list_trees item_tree xs) (list_trees item_tree ys)
ItemsBecame X false xs ys = (list_trees item_tree ys ≡ list_trees item_tree xs) × X.tidy Module (list_trees item_tree ys)
