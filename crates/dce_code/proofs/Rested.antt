-- Nodes at which nothing is to do.
use Rattle.std.proofs.Common.{◌≡◌, Bool, true, refl, sym, ap, ◌∙◌}
use Rattle.std.proofs.lemmas.Bool.{false≢true}
use Rattle.swc_ast.specs.Views.{expr_tree, stmt_tree}
use Rattle.swc_ast.specs.Tree.{Label, VarDecl, Import, Tree, Forest, label_of, children_of}
use Rattle.swc_ast.specs.declared.declarations.Decl.{Decl}
use Rattle.swc_ast.specs.declared.declarations.Decl.TheOpen as Open
use Rattle.swc_ast.specs.declared.declarations.Function.{Function}
use Rattle.swc_ast.specs.declared.expressions.ArrowExpr.{ArrowExpr}
use Rattle.swc_ast.specs.declared.expressions.BlockStmtOrExpr.{BlockStmtOrExpr}
use Rattle.swc_ast.specs.declared.expressions.Expr.{Expr}
use Rattle.swc_ast.specs.declared.expressions.MethodProp.{MethodProp}
use Rattle.swc_ast.specs.declared.expressions.Prop.{Prop}
use Rattle.swc_ast.specs.declared.expressions.PropOrSpread.{PropOrSpread}
use Rattle.swc_ast.specs.declared.statements.ForStmt.{ForStmt}
use Rattle.swc_ast.specs.declared.statements.IfStmt.{IfStmt}
use Rattle.swc_ast.specs.declared.statements.SwitchCase.{SwitchCase}
use Rattle.swc_ast.specs.declared.statements.SwitchStmt.{SwitchStmt}
use Rattle.swc_ast.specs.declared.statements.WhileStmt.{WhileStmt}
use Rattle.swc_ast.specs.declared.statements.Stmt.{Stmt}
use Rattle.swc_ast.specs.declared.statements.Stmt.TheVariants as in_stmt
use Rattle.swc_ast.proofs.Equations.{stmt_tree-Block, stmt_tree-Empty, stmt_tree-Return, stmt_tree-Labeled, stmt_tree-Break, stmt_tree-Continue, stmt_tree-If, stmt_tree-Switch, stmt_tree-Throw, stmt_tree-Try, stmt_tree-While, stmt_tree-DoWhile, stmt_tree-For, stmt_tree-Expr, if_tree-is, switch_tree-is, for_tree-is}
use Rattle.swc_ast.specs.declared.declarations.Decl.TheViews.{roll-Stmt, out-Stmt, roll-out-Stmt}
use Rattle.swc_ast.specs.Labels.{is_expression}
use Rattle.pass_proofs.proofs.ExprTrees.{is_an_expression}
use Rattle.dce_rules.specs.Shakes.{Shaker, node_rests, Rests}

abbrev own : Shaker → Tree → Bool
own S t = node_rests S (label_of t) (children_of t)

-- a statement that is no declaration
pub other_rests : (S : Shaker) (s : Stmt) → ((n : Decl) → s ≡ in_stmt.Decl n → ⊥) → Rests S (stmt_tree s)
other_rests S s others = by (out-Stmt s) (roll-out-Stmt s)
  where
    by : (p : Open.Stmt-F Decl BlockStmtOrExpr Expr Prop PropOrSpread Stmt Function ArrowExpr MethodProp ForStmt IfStmt SwitchCase SwitchStmt WhileStmt) → roll-Stmt p ≡ s → own S (stmt_tree s) ≡ true
    by (Open.Block n) r = ap (λ z. own S (stmt_tree z)) (sym r) ∙ ap (own S) (ap stmt_tree (in_stmt.rolls-Block n) ∙ stmt_tree-Block n)
    by (Open.Empty n) r = ap (λ z. own S (stmt_tree z)) (sym r) ∙ ap (own S) (ap stmt_tree (in_stmt.rolls-Empty n) ∙ stmt_tree-Empty n)
    by (Open.Return n) r = ap (λ z. own S (stmt_tree z)) (sym r) ∙ ap (own S) (ap stmt_tree (in_stmt.rolls-Return n) ∙ stmt_tree-Return n)
    by (Open.Labeled n) r = ap (λ z. own S (stmt_tree z)) (sym r) ∙ ap (own S) (ap stmt_tree (in_stmt.rolls-Labeled n) ∙ stmt_tree-Labeled n)
    by (Open.Break n) r = ap (λ z. own S (stmt_tree z)) (sym r) ∙ ap (own S) (ap stmt_tree (in_stmt.rolls-Break n) ∙ stmt_tree-Break n)
    by (Open.Continue n) r = ap (λ z. own S (stmt_tree z)) (sym r) ∙ ap (own S) (ap stmt_tree (in_stmt.rolls-Continue n) ∙ stmt_tree-Continue n)
    by (Open.If n) r = ap (λ z. own S (stmt_tree z)) (sym r) ∙ ap (own S) (ap stmt_tree (in_stmt.rolls-If n) ∙ stmt_tree-If n ∙ if_tree-is n)
    by (Open.Switch n) r = ap (λ z. own S (stmt_tree z)) (sym r) ∙ ap (own S) (ap stmt_tree (in_stmt.rolls-Switch n) ∙ stmt_tree-Switch n ∙ switch_tree-is n)
    by (Open.Throw n) r = ap (λ z. own S (stmt_tree z)) (sym r) ∙ ap (own S) (ap stmt_tree (in_stmt.rolls-Throw n) ∙ stmt_tree-Throw n)
    by (Open.Try n) r = ap (λ z. own S (stmt_tree z)) (sym r) ∙ ap (own S) (ap stmt_tree (in_stmt.rolls-Try n) ∙ stmt_tree-Try n)
    by (Open.While n) r = ap (λ z. own S (stmt_tree z)) (sym r) ∙ ap (own S) (ap stmt_tree (in_stmt.rolls-While n) ∙ stmt_tree-While n)
    by (Open.DoWhile n) r = ap (λ z. own S (stmt_tree z)) (sym r) ∙ ap (own S) (ap stmt_tree (in_stmt.rolls-DoWhile n) ∙ stmt_tree-DoWhile n)
    by (Open.For n) r = ap (λ z. own S (stmt_tree z)) (sym r) ∙ ap (own S) (ap stmt_tree (in_stmt.rolls-For n) ∙ stmt_tree-For n ∙ for_tree-is n.value)
    by (Open.Decl n) r = absurd (others n (sym r ∙ in_stmt.rolls-Decl n))
    by (Open.Stmt::Expr n) r = ap (λ z. own S (stmt_tree z)) (sym r) ∙ ap (own S) (ap stmt_tree (in_stmt.rolls-Expr n) ∙ stmt_tree-Expr n)

no_rule : (S : Shaker) (l : Label) (cs : Forest) → is_expression l ≡ true → node_rests S l cs ≡ true
no_rule S (VarDecl k) cs h = absurd (false≢true h)
no_rule S (Import src) cs h = absurd (false≢true h)
no_rule S _ cs h = refl

-- an expression is neither a declaration nor an import
pub expr_rests : (S : Shaker) (e : Expr) → Rests S (expr_tree e)
expr_rests S e = no_rule S (label_of (expr_tree e)) (children_of (expr_tree e)) (is_an_expression e)
