-- What both nodes hold falls, so each measure takes the deeper of the two.
use Rattle.std.specs.Prelude.{max}
use Rattle.swc_ast.specs.declared.expressions.ArrowExpr.{size-ArrowExpr}
use Rattle.swc_ast.specs.declared.expressions.BlockStmtOrExpr.{size-BlockStmtOrExpr}
use Rattle.swc_ast.specs.declared.expressions.MethodProp.{size-MethodProp}
use Rattle.swc_ast.specs.declared.expressions.Prop.{size-Prop}
use Rattle.swc_ast.specs.declared.declarations.Decl.{size-Decl}
use Rattle.swc_ast.specs.declared.statements.ForStmt.{size-ForStmt}
use Rattle.swc_ast.specs.declared.statements.IfStmt.{size-IfStmt}
use Rattle.swc_ast.specs.declared.statements.SwitchStmt.{size-SwitchStmt}
use Rattle.swc_ast.specs.declared.statements.WhileStmt.{size-WhileStmt}
use Rattle.swc_ast.proofs.same_hubs.+same.Given as goal

abbrev pub decreases-ArrowExprCompare::is_same : goal.decreases-ArrowExprCompare::is_same
decreases-ArrowExprCompare::is_same l = max (size-ArrowExpr l.self.now) (size-ArrowExpr l.other.now)

abbrev pub decreases-BlockStmtOrExprCompare::is_same : goal.decreases-BlockStmtOrExprCompare::is_same
decreases-BlockStmtOrExprCompare::is_same l = max (size-BlockStmtOrExpr l.self.now) (size-BlockStmtOrExpr l.other.now)

abbrev pub decreases-MethodPropCompare::is_same : goal.decreases-MethodPropCompare::is_same
decreases-MethodPropCompare::is_same l = max (size-MethodProp l.self.now) (size-MethodProp l.other.now)

abbrev pub decreases-PropCompare::is_same : goal.decreases-PropCompare::is_same
decreases-PropCompare::is_same l = max (size-Prop l.self.now) (size-Prop l.other.now)

abbrev pub decreases-DeclCompare::is_same : goal.decreases-DeclCompare::is_same
decreases-DeclCompare::is_same l = max (size-Decl l.self.now) (size-Decl l.other.now)

abbrev pub decreases-ForStmtCompare::is_same : goal.decreases-ForStmtCompare::is_same
decreases-ForStmtCompare::is_same l = max (size-ForStmt l.self.now) (size-ForStmt l.other.now)

abbrev pub decreases-IfStmtCompare::is_same : goal.decreases-IfStmtCompare::is_same
decreases-IfStmtCompare::is_same l = max (size-IfStmt l.self.now) (size-IfStmt l.other.now)

abbrev pub decreases-SwitchStmtCompare::is_same : goal.decreases-SwitchStmtCompare::is_same
decreases-SwitchStmtCompare::is_same l = max (size-SwitchStmt l.self.now) (size-SwitchStmt l.other.now)

abbrev pub decreases-WhileStmtCompare::is_same : goal.decreases-WhileStmtCompare::is_same
decreases-WhileStmtCompare::is_same l = max (size-WhileStmt l.self.now) (size-WhileStmt l.other.now)
