-- The tree of a node, and the trees of the children that are still to be read.
use Rattle.std.specs.Prelude.{false, ℕ, ◌≡◌, Option, Some, None, map, drop, List, [], ◌∷◌}
use Rattle.swc_ast.specs.Labels.{is_member_or_name}
use Rattle.swc_ast.specs.Tree.{Tree, Forest, ε, ◌⊳◌, label_of, children_of}
use Rattle.swc_ast.specs.Parts.{absent, tree_or_absent, list_trees, ident_tree}
use Rattle.swc_ast.specs.Expressions.{item_trees, key_tree, param_tree, params_tree, body_tree, member_tree}
use Rattle.swc_ast.specs.Statements.{CaseTrees, case_children, block_tree, declarator_tree, var_tree, handler_tree, option_block_tree, option_init_tree}
use Rattle.swc_ast.specs.Views.{expr_tree, stmt_tree, decl_tree, prop_or_spread_tree, case_trees, arrow_body_tree}
use Rattle.swc_ast.specs.Modules.{import_specifier_tree, export_specifier_tree, item_tree, module_tree, script_tree}
use Rattle.tree_visit.specs.declared.node.Node.{Node}
use Rattle.tree_visit.specs.declared.node.Node.TheVariants as a
use Rattle.tree_visit.specs.declared.lists.NodeList.{NodeList}
use Rattle.tree_visit.specs.declared.lists.NodeList.TheVariants as list
use Rattle.tree_visit.specs.declared.children.Children.{Children}
use Rattle.tree_visit.specs.declared.children.Children.TheVariants as some
use Rattle.tree_visit.specs.declared.opened.Opened.{Opened}
use Rattle.tree_visit.specs.declared.expressions.Part.{Part}
use Rattle.tree_visit.specs.declared.expressions.Part.TheVariants as part
use Rattle.tree_visit.specs.Kinds.{kind_label}

-- the tree of the first item, or of a part left out
abbrev pub head_tree : {A : Type 0} → (A → Tree) → List A → Tree
head_tree f [] = absent
head_tree f (x ∷ xs) = f x

-- the tree of the node at a place of a list
abbrev pub node_at : NodeList → ℕ → Tree
node_at (list.ModuleItems xs) i = head_tree item_tree (drop i xs.now.items)
node_at (list.ImportSpecifiers xs) i = head_tree import_specifier_tree (drop i xs.now.items)
node_at (list.ExportSpecifiers xs) i = head_tree export_specifier_tree (drop i xs.now.items)
node_at (list.Declarators k xs) i = head_tree (declarator_tree expr_tree k) (drop i xs.now.items)
node_at (list.Stmts xs) i = head_tree stmt_tree (drop i xs.now.items)
node_at (list.Exprs xs) i = head_tree expr_tree (drop i xs.now.items)
node_at (list.Props xs) i = head_tree prop_or_spread_tree (drop i xs.now.items)
node_at (list.Params xs) i = head_tree (param_tree expr_tree) (drop i xs.now.items)

abbrev pub node_tree : Node → Tree
node_tree (a.Module n) = module_tree n.now
node_tree (a.Script n) = script_tree n.now
node_tree (a.At xs i) = node_at xs i
node_tree (a.Decl n) = decl_tree n.now
node_tree (a.VarDecl n) = var_tree expr_tree n.now
node_tree (a.Stmt n) = stmt_tree n.now.value
node_tree (a.Block n) = block_tree stmt_tree n.now
node_tree (a.CaseBody xs i) = head_tree (λ n. (case_trees n).body) (drop i xs.now.items)
node_tree (a.Expr n) = expr_tree n.now.value
node_tree (a.Key n) = key_tree expr_tree n.now
node_tree (a.Params xs) = params_tree expr_tree xs.now.items
node_tree (a.Body n) = body_tree stmt_tree n.now
node_tree a.Absent = absent

-- the trees of a list from a place on
abbrev pub list_forest : NodeList → ℕ → Forest
list_forest (list.ModuleItems xs) i = list_trees item_tree (drop i xs.now.items)
list_forest (list.ImportSpecifiers xs) i = list_trees import_specifier_tree (drop i xs.now.items)
list_forest (list.ExportSpecifiers xs) i = list_trees export_specifier_tree (drop i xs.now.items)
list_forest (list.Declarators k xs) i = list_trees (declarator_tree expr_tree k) (drop i xs.now.items)
list_forest (list.Stmts xs) i = list_trees stmt_tree (drop i xs.now.items)
list_forest (list.Exprs xs) i = list_trees expr_tree (drop i xs.now.items)
list_forest (list.Props xs) i = list_trees prop_or_spread_tree (drop i xs.now.items)
list_forest (list.Params xs) i = list_trees (param_tree expr_tree) (drop i xs.now.items)

-- the statements of the first case, and the cases behind it
abbrev pub behind_test : List CaseTrees → Forest
behind_test [] = ε
behind_test (c ∷ cs) = c.body ⊳ case_children cs

-- the children that are still to be read
unfoldable pub children_forest : Children → Forest
children_forest some.None = ε
children_forest (some.One n) = node_tree n ⊳ ε
children_forest (some.Listed xs i) = list_forest xs i
children_forest (some.Items xs i) = item_trees expr_tree (drop i xs.now.items)
children_forest (some.Cases xs i) = case_children (map case_trees (drop i xs.now.items))
children_forest (some.CaseBody xs i) = behind_test (map case_trees (drop i xs.now.items))
children_forest (some.Switch e xs) = expr_tree e.now.value ⊳ case_children (map case_trees xs.now.items)
children_forest (some.Call e xs) = expr_tree e.now.value ⊳ list_trees expr_tree xs.now.items
children_forest (some.CallIndex e k xs) = expr_tree e.now.value ⊳ expr_tree k.now.value ⊳ list_trees expr_tree xs.now.items
children_forest (some.Two a b) = expr_tree a.now.value ⊳ expr_tree b.now.value ⊳ ε
children_forest (some.Three a b c) = expr_tree a.now.value ⊳ expr_tree b.now.value ⊳ expr_tree c.now.value ⊳ ε
children_forest (some.Function xs b) = params_tree expr_tree xs.now.items ⊳ body_tree stmt_tree b.now ⊳ ε
children_forest (some.Arrow xs b) = params_tree expr_tree xs.now.items ⊳ arrow_body_tree b.now ⊳ ε
children_forest (some.KeyValue k e) = key_tree expr_tree k.now ⊳ expr_tree e.now.value ⊳ ε
children_forest (some.Method k xs b) = key_tree expr_tree k.now ⊳ params_tree expr_tree xs.now.items ⊳ body_tree stmt_tree b.now ⊳ ε
children_forest (some.While e s) = expr_tree e.now.value ⊳ stmt_tree s.now.value ⊳ ε
children_forest (some.DoWhile s e) = stmt_tree s.now.value ⊳ expr_tree e.now.value ⊳ ε
children_forest (some.IfElse e s t) = expr_tree e.now.value ⊳ stmt_tree s.now.value ⊳ stmt_tree t.now.value ⊳ ε
children_forest (some.Branches s t) = stmt_tree s.now.value ⊳ stmt_tree t.now.value ⊳ ε
children_forest (some.For i t u s) = option_init_tree expr_tree i.now ⊳ tree_or_absent expr_tree t.now ⊳ tree_or_absent expr_tree u.now ⊳ stmt_tree s.now.value ⊳ ε
children_forest (some.ForTest t u s) = tree_or_absent expr_tree t.now ⊳ tree_or_absent expr_tree u.now ⊳ stmt_tree s.now.value ⊳ ε
children_forest (some.ForUpdate u s) = tree_or_absent expr_tree u.now ⊳ stmt_tree s.now.value ⊳ ε
children_forest (some.Try b h f) = block_tree stmt_tree b.now ⊳ handler_tree stmt_tree h.now ⊳ option_block_tree stmt_tree f.now ⊳ ε
children_forest (some.Handler h f) = handler_tree stmt_tree h.now ⊳ option_block_tree stmt_tree f.now ⊳ ε

-- the first child and those behind it
abbrev pub next_forest : Option (Node × Children) → Forest
next_forest None = ε
next_forest (Some p) = node_tree p.0 ⊳ children_forest p.1

-- a tree is what a node was found to be, with its children
abbrev pub Opens : Tree → Opened → Type 0
Opens t o = (label_of t ≡ kind_label o.kind) × (children_of t ≡ children_forest o.children)

abbrev pub IsPart : Part → Tree → Type 0
IsPart (part.Name n) t = t ≡ ident_tree n.now
IsPart (part.Member n) t = t ≡ member_tree expr_tree n.now
IsPart part.Whole t = is_member_or_name (label_of t) ≡ false
