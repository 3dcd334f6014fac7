-- The trees of parts that other nodes take up: what a comparison of them by themselves goes by.
use Rattle.std.specs.Prelude.{[], ◌∷◌, Option, Some, None}
use Rattle.swc_ast.specs.Tree as tree
use Rattle.swc_ast.specs.Tree.{Tree, node, ε, ◌⊳◌}
use Rattle.swc_ast.specs.Parts.{leaf, absent, word_text, option_ident_name, option_ident_spans}
use Rattle.swc_ast.specs.Expressions.{function_node}
use Rattle.swc_ast.specs.Statements.{var_tree, block_tree, while_node}
use Rattle.swc_ast.specs.Views.{function_trees, case_trees, loop_trees}
use Rattle.swc_ast.specs.declared.declarations.Function.{Function}
use Rattle.swc_ast.specs.declared.statements.CatchClause.{CatchClause}
use Rattle.swc_ast.specs.declared.statements.SwitchCase.{SwitchCase}
use Rattle.swc_ast.specs.declared.statements.VarDeclOrExpr.{VarDeclOrExpr}
use Rattle.swc_ast.specs.declared.statements.VarDeclOrExpr.TheVariants as init
use Rattle.swc_ast.specs.declared.statements.WhileStmt.{WhileStmt}
use Rattle.swc_ast.specs.declared.expressions.MemberProp.{MemberProp}
use Rattle.swc_ast.specs.declared.expressions.MemberProp.TheVariants as prop

-- what stands behind the dot or in the brackets, as a key
abbrev pub key_of_member : {X : Type 0} → (X → Tree) → MemberProp X → Tree
key_of_member f (prop.Ident n) = leaf (tree.PlainKey (tree.NameKey (word_text n))) n.span
key_of_member f (prop.Computed n) = node tree.ComputedKey (n.span ∷ []) (f n.expr.value ⊳ ε)

-- a first part of a `for`: an expression is one child
abbrev pub init_node : {X : Type 0} → (X → Tree) → VarDeclOrExpr X → Tree
init_node f (init.VarDecl n) = var_tree f n
init_node f (init.Expr n) = node tree.ExprStmt [] (f n.value ⊳ ε)

abbrev pub option_init_node : {X : Type 0} → (X → Tree) → Option (VarDeclOrExpr X) → Tree
option_init_node f None = absent
option_init_node f (Some n) = init_node f n

-- a handler with its name and its block
abbrev pub handler_node : {X : Type 0} → (X → Tree) → CatchClause X → Tree
handler_node f n = node (tree.Try (Some (option_ident_name n.param))) (n.span ∷ option_ident_spans n.param) (block_tree f n.body ⊳ ε)

abbrev pub option_handler_node : {X : Type 0} → (X → Tree) → Option (CatchClause X) → Tree
option_handler_node f None = absent
option_handler_node f (Some n) = handler_node f n

-- a function that has no name
abbrev pub function_tree : Function → Tree
function_tree n = function_node (tree.Fn None) [] (function_trees n)

-- a case by itself
abbrev pub case_tree : SwitchCase → Tree
case_tree n = let c = case_trees n in node (tree.Switch (c.is_default ∷ [])) [] (c.test ⊳ c.body ⊳ ε)

-- a loop by itself
abbrev pub loop_tree : WhileStmt → Tree
loop_tree n = while_node (loop_trees n)
