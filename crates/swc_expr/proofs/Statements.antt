-- No rule of expressions leaves a statement or an item of a module.
use Rattle.std.proofs.Common.{Bool, refl, ap, ◌∙◌, subst}
use Rattle.swc_ast.specs.Modules.{item_tree}
use Rattle.swc_ast.specs.Views.{decl_tree, stmt_tree}
use Rattle.swc_ast.specs.Tree.{Tree}
use Rattle.swc_ast.specs.declared.declarations.Decl.{Decl}
use Rattle.swc_ast.specs.declared.declarations.Decl.TheOpen as Open
use Rattle.swc_ast.specs.declared.declarations.Decl.TheVariants as in_decl
use Rattle.swc_ast.specs.declared.modules.ModuleDecl.TheVariants as decls
use Rattle.swc_ast.specs.declared.modules.ModuleItem.{ModuleItem}
use Rattle.swc_ast.specs.declared.modules.ModuleItem.TheVariants as items
use Rattle.swc_ast.specs.declared.declarations.Function.{Function}
use Rattle.swc_ast.specs.declared.expressions.ArrowExpr.{ArrowExpr}
use Rattle.swc_ast.specs.declared.expressions.BlockStmtOrExpr.{BlockStmtOrExpr}
use Rattle.swc_ast.specs.declared.expressions.Expr.{Expr}
use Rattle.swc_ast.specs.declared.expressions.MethodProp.{MethodProp}
use Rattle.swc_ast.specs.declared.expressions.Prop.{Prop}
use Rattle.swc_ast.specs.declared.expressions.PropOrSpread.{PropOrSpread}
use Rattle.swc_ast.specs.declared.statements.ForStmt.{ForStmt}
use Rattle.swc_ast.specs.declared.statements.IfStmt.{IfStmt}
use Rattle.swc_ast.specs.declared.statements.SwitchCase.{SwitchCase}
use Rattle.swc_ast.specs.declared.statements.SwitchStmt.{SwitchStmt}
use Rattle.swc_ast.specs.declared.statements.WhileStmt.{WhileStmt}
use Rattle.swc_ast.specs.declared.statements.Stmt.{Stmt}
use Rattle.swc_ast.specs.declared.statements.Stmt.TheVariants as in_stmt
use Rattle.swc_ast.proofs.Equations.{stmt_tree-Block, stmt_tree-Empty, stmt_tree-Return, stmt_tree-Labeled, stmt_tree-Break, stmt_tree-Continue, stmt_tree-If, stmt_tree-Switch, stmt_tree-Throw, stmt_tree-Try, stmt_tree-While, stmt_tree-DoWhile, stmt_tree-For, stmt_tree-Decl, stmt_tree-Expr, if_tree-is, switch_tree-is, for_tree-is, decl_tree-Fn, decl_tree-Var}
use Rattle.swc_ast.specs.declared.declarations.Decl.TheViews.{roll-Stmt, out-Stmt, roll-out-Stmt, roll-Decl, out-Decl, roll-out-Decl}
use Rattle.static_proofs.specs.Free.{kind_at}
use Rattle.expr_rules.specs.Replaced.{expr_redex}
use Rattle.swc_expr.specs.Simplifies.{Rests}

abbrev own : Tree → Bool
own = kind_at expr_redex

at_decl : (d : Open.Decl-F Decl BlockStmtOrExpr Expr Prop PropOrSpread Stmt Function ArrowExpr MethodProp ForStmt IfStmt SwitchCase SwitchStmt WhileStmt) → Rests (decl_tree (roll-Decl d))
at_decl (Open.Decl::Fn n) = ap own (ap decl_tree (in_decl.rolls-Fn n) ∙ decl_tree-Fn n)
at_decl (Open.Var n) = ap own (ap decl_tree (in_decl.rolls-Var n) ∙ decl_tree-Var n)

decl_rests : (d : Decl) → Rests (decl_tree d)
decl_rests d = subst (λ e. Rests (decl_tree e)) (roll-out-Decl d) (at_decl (out-Decl d))

at_stmt : (s : Open.Stmt-F Decl BlockStmtOrExpr Expr Prop PropOrSpread Stmt Function ArrowExpr MethodProp ForStmt IfStmt SwitchCase SwitchStmt WhileStmt) → Rests (stmt_tree (roll-Stmt s))
at_stmt (Open.Block n) = ap own (ap stmt_tree (in_stmt.rolls-Block n) ∙ stmt_tree-Block n)
at_stmt (Open.Empty n) = ap own (ap stmt_tree (in_stmt.rolls-Empty n) ∙ stmt_tree-Empty n)
at_stmt (Open.Return n) = ap own (ap stmt_tree (in_stmt.rolls-Return n) ∙ stmt_tree-Return n)
at_stmt (Open.Labeled n) = ap own (ap stmt_tree (in_stmt.rolls-Labeled n) ∙ stmt_tree-Labeled n)
at_stmt (Open.Break n) = ap own (ap stmt_tree (in_stmt.rolls-Break n) ∙ stmt_tree-Break n)
at_stmt (Open.Continue n) = ap own (ap stmt_tree (in_stmt.rolls-Continue n) ∙ stmt_tree-Continue n)
at_stmt (Open.If n) = ap own (ap stmt_tree (in_stmt.rolls-If n) ∙ stmt_tree-If n ∙ if_tree-is n)
at_stmt (Open.Switch n) = ap own (ap stmt_tree (in_stmt.rolls-Switch n) ∙ stmt_tree-Switch n ∙ switch_tree-is n)
at_stmt (Open.Throw n) = ap own (ap stmt_tree (in_stmt.rolls-Throw n) ∙ stmt_tree-Throw n)
at_stmt (Open.Try n) = ap own (ap stmt_tree (in_stmt.rolls-Try n) ∙ stmt_tree-Try n)
at_stmt (Open.While n) = ap own (ap stmt_tree (in_stmt.rolls-While n) ∙ stmt_tree-While n)
at_stmt (Open.DoWhile n) = ap own (ap stmt_tree (in_stmt.rolls-DoWhile n) ∙ stmt_tree-DoWhile n)
at_stmt (Open.For n) = ap own (ap stmt_tree (in_stmt.rolls-For n) ∙ stmt_tree-For n ∙ for_tree-is n.value)
at_stmt (Open.Decl n) = ap own (ap stmt_tree (in_stmt.rolls-Decl n) ∙ stmt_tree-Decl n) ∙ decl_rests n
at_stmt (Open.Stmt::Expr n) = ap own (ap stmt_tree (in_stmt.rolls-Expr n) ∙ stmt_tree-Expr n)

pub stmt_rests : (s : Stmt) → Rests (stmt_tree s)
stmt_rests s = subst (λ t. Rests (stmt_tree t)) (roll-out-Stmt s) (at_stmt (out-Stmt s))

pub item_rests : (i : ModuleItem) → Rests (item_tree i)
item_rests (items.ModuleDecl (decls.Import n)) = refl
item_rests (items.ModuleDecl (decls.ExportDecl n)) = refl
item_rests (items.ModuleDecl (decls.ExportNamed n)) = refl
item_rests (items.ModuleDecl (decls.ExportDefaultDecl n)) = refl
item_rests (items.ModuleDecl (decls.ExportDefaultExpr n)) = refl
item_rests (items.Stmt n) = stmt_rests n
