-- The label of a scope's node, and what stands in it.
use Rattle.std.specs.Prelude.{map, Some}
use Rattle.swc_ast.specs.Tree as tree
use Rattle.swc_ast.specs.Tree.{Label, Forest, ε, ◌⊳◌, children_of}
use Rattle.swc_ast.specs.Parts.{list_trees, ident_name, option_ident_name}
use Rattle.swc_ast.specs.Expressions.{FunctionTrees}
use Rattle.swc_ast.specs.Modules.{item_tree}
use Rattle.swc_ast.specs.Statements.{is_default_case, case_children, block_tree}
use Rattle.swc_ast.specs.Views.{stmt_tree, function_trees, arrow_tree, for_tree, case_trees}
use Rattle.tree_put.specs.declared.rules.Scope.{Scope}
use Rattle.tree_put.specs.declared.rules.Scope.TheVariants as scope

-- the parameters and the body of a function
abbrev pub function_forest : FunctionTrees → Forest
function_forest p = p.parameters ⊳ p.body ⊳ ε

abbrev pub scope_label : Scope → Label
scope_label (scope.Function o n) = tree.Fn (option_ident_name o.now)
scope_label (scope.Declared x n) = tree.FnDecl (ident_name x.now)
scope_label (scope.Method n) = tree.Method
scope_label (scope.Arrow n) = tree.Arrow
scope_label (scope.Block xs) = tree.Block
scope_label (scope.Body xs) = tree.Body
scope_label (scope.Case xs) = tree.CaseBody
scope_label (scope.Script xs) = tree.Script
scope_label (scope.Module xs) = tree.Module
scope_label (scope.Cases xs) = tree.Switch (map is_default_case (map case_trees xs.now.items))
scope_label (scope.Handler n) = tree.Try (Some (option_ident_name n.now.param))
scope_label (scope.For n) = tree.For

abbrev pub scope_trees : Scope → Forest
scope_trees (scope.Function o n) = function_forest (function_trees n.now.value)
scope_trees (scope.Declared x n) = function_forest (function_trees n.now.value)
scope_trees (scope.Method n) = function_forest (function_trees n.now.value)
scope_trees (scope.Arrow n) = children_of (arrow_tree n.now)
scope_trees (scope.Block xs) = list_trees stmt_tree xs.now.items
scope_trees (scope.Body xs) = list_trees stmt_tree xs.now.items
scope_trees (scope.Case xs) = list_trees stmt_tree xs.now.items
scope_trees (scope.Script xs) = list_trees stmt_tree xs.now.items
scope_trees (scope.Module xs) = list_trees item_tree xs.now.items
scope_trees (scope.Cases xs) = case_children (map case_trees xs.now.items)
scope_trees (scope.Handler n) = block_tree stmt_tree n.now.body ⊳ ε
scope_trees (scope.For n) = children_of (for_tree n.now)
