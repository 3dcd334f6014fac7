-- Each statement of a view is one of which no run gives a value.
use Rattle.std.proofs.Common.{◌≡◌, ℕ, zero, suc, ◌≤◌, true, List, [], ◌∷◌, refl, sym, ap, subst, ◌∙◌, arith}
use Rattle.std.specs.Prelude.{Option, Some, None}
use Rattle.std.proofs.lemmas.Bool.{and_from}
use Rattle.std.specs.declared.alloc.Global.{Global}
use Rattle.std.specs.declared.boxed.Box.{Box}
use Rattle.swc_ast.specs.Tree as tree
use Rattle.swc_ast.specs.Tree.{Tree, node, ε, ◌⊳◌}
use Rattle.swc_ast.specs.Parts.{list_trees, optional_trees}
use Rattle.swc_ast.specs.Statements.{block_tree, handler_param, handler_spans, handler_tree, option_block_tree, try_tree}
use Rattle.swc_ast.specs.Views.{decl_tree, stmt_tree}
use Rattle.swc_ast.specs.declared.declarations.Decl.{Decl}
use Rattle.swc_ast.specs.declared.declarations.Decl.TheOpen as Open
use Rattle.swc_ast.specs.declared.declarations.Decl.TheViews.{roll-Decl, out-Decl, roll-out-Decl, roll-Stmt, out-Stmt, roll-out-Stmt}
use Rattle.swc_ast.specs.declared.declarations.Decl.TheVariants as in_decl
use Rattle.swc_ast.specs.declared.declarations.Function.{Function}
use Rattle.swc_ast.specs.declared.expressions.ArrowExpr.{ArrowExpr}
use Rattle.swc_ast.specs.declared.expressions.BlockStmtOrExpr.{BlockStmtOrExpr}
use Rattle.swc_ast.specs.declared.expressions.Expr.{Expr}
use Rattle.swc_ast.specs.declared.expressions.MethodProp.{MethodProp}
use Rattle.swc_ast.specs.declared.expressions.Prop.{Prop}
use Rattle.swc_ast.specs.declared.expressions.PropOrSpread.{PropOrSpread}
use Rattle.swc_ast.specs.declared.statements.CatchClause.{CatchClause}
use Rattle.swc_ast.specs.declared.statements.ForStmt.{ForStmt}
use Rattle.swc_ast.specs.declared.statements.IfStmt.{IfStmt}
use Rattle.swc_ast.specs.declared.statements.Stmt.{Stmt}
use Rattle.swc_ast.specs.declared.statements.Stmt.TheVariants as in_stmt
use Rattle.swc_ast.specs.declared.statements.SwitchCase.{SwitchCase}
use Rattle.swc_ast.specs.declared.statements.SwitchStmt.{SwitchStmt}
use Rattle.swc_ast.specs.declared.statements.TryStmt.{TryStmt}
use Rattle.swc_ast.specs.declared.statements.WhileStmt.{WhileStmt}
use Rattle.swc_ast.proofs.ApartStatements.{StmtForm}
use Rattle.swc_ast.proofs.Equations.{stmt_tree-Block, stmt_tree-Empty, stmt_tree-Return, stmt_tree-Labeled, stmt_tree-Break, stmt_tree-Continue, stmt_tree-If, stmt_tree-Switch, stmt_tree-Throw, stmt_tree-Try, stmt_tree-While, stmt_tree-DoWhile, stmt_tree-For, stmt_tree-Decl, stmt_tree-Expr, if_tree-is, switch_tree-is, for_tree-is, decl_tree-Fn, decl_tree-Var}
use Rattle.static_proofs.proofs.ShapedParts.{nodes, nodes_all, some_node}
use Rattle.branch_rules.specs.Statements.{gives_nothing, all_give_nothing}

-- a declaration, opened
abbrev DeclForm : Type 0
DeclForm = Open.Decl-F Decl BlockStmtOrExpr Expr Prop PropOrSpread Stmt Function ArrowExpr MethodProp ForStmt IfStmt SwitchCase SwitchStmt WhileStmt

-- the same of what a view is
viewed : {t u : Tree} {n : ℕ} → t ≡ u → (nodes u ≤ n → gives_nothing u ≡ true) → nodes t ≤ n → gives_nothing t ≡ true
viewed {t} {u} {n} e f = subst (λ v. nodes v ≤ n → gives_nothing v ≡ true) (sym e) f

decl_nothing : (d : Decl) → gives_nothing (decl_tree d) ≡ true
decl_nothing d = subst (λ q. gives_nothing (decl_tree q) ≡ true) (roll-out-Decl d) (by (out-Decl d))
  where
    by : (o : DeclForm) → gives_nothing (decl_tree (roll-Decl o)) ≡ true
    by (Open.Decl::Fn n) = ap gives_nothing (ap decl_tree (in_decl.rolls-Fn n) ∙ decl_tree-Fn n)
    by (Open.Var n) = ap gives_nothing (ap decl_tree (in_decl.rolls-Var n) ∙ decl_tree-Var n)

try_nothing : (s : TryStmt Stmt) → gives_nothing (try_tree stmt_tree s) ≡ true
try_nothing s = by s.handler
  where
    by : (h : Option (CatchClause Stmt)) → gives_nothing (node (tree.Try (handler_param h)) (s.span ∷ handler_spans h) (block_tree stmt_tree s.block ⊳ handler_tree stmt_tree h ⊳ option_block_tree stmt_tree s.finalizer ⊳ ε)) ≡ true
    by None = refl
    by (Some c) = refl

module _ {n : ℕ} (below : (s : Stmt) → nodes (stmt_tree s) ≤ n → gives_nothing (stmt_tree s) ≡ true) where
  option_nothing : (o : Option (Box Stmt Global)) → nodes_all (optional_trees stmt_tree o) ≤ n → all_give_nothing (optional_trees stmt_tree o) ≡ true
  option_nothing None b = refl
  option_nothing (Some s) b = and_from (gives_nothing (stmt_tree s.value)) true (below s.value (omega (arith, b))) refl

  form_nothing : (o : StmtForm) → nodes (stmt_tree (roll-Stmt o)) ≤ suc n → gives_nothing (stmt_tree (roll-Stmt o)) ≡ true
  form_nothing (Open.Block s) = viewed (ap stmt_tree (in_stmt.rolls-Block s) ∙ stmt_tree-Block s) (λ b. refl)
  form_nothing (Open.Empty s) = viewed (ap stmt_tree (in_stmt.rolls-Empty s) ∙ stmt_tree-Empty s) (λ b. refl)
  form_nothing (Open.Return s) = viewed (ap stmt_tree (in_stmt.rolls-Return s) ∙ stmt_tree-Return s) (λ b. refl)
  form_nothing (Open.Labeled s) = viewed (ap stmt_tree (in_stmt.rolls-Labeled s) ∙ stmt_tree-Labeled s) (λ b. and_from (gives_nothing (stmt_tree s.body.value)) true (below s.body.value (omega (arith, b))) refl)
  form_nothing (Open.Break s) = viewed (ap stmt_tree (in_stmt.rolls-Break s) ∙ stmt_tree-Break s) (λ b. refl)
  form_nothing (Open.Continue s) = viewed (ap stmt_tree (in_stmt.rolls-Continue s) ∙ stmt_tree-Continue s) (λ b. refl)
  form_nothing (Open.If s) = viewed (ap stmt_tree (in_stmt.rolls-If s) ∙ stmt_tree-If s ∙ if_tree-is s) (λ b. and_from (gives_nothing (stmt_tree s.cons.value)) _ (below s.cons.value (omega (arith, b))) (option_nothing s.alt (omega (arith, b))))
  form_nothing (Open.Switch s) = viewed (ap stmt_tree (in_stmt.rolls-Switch s) ∙ stmt_tree-Switch s ∙ switch_tree-is s) (λ b. refl)
  form_nothing (Open.Throw s) = viewed (ap stmt_tree (in_stmt.rolls-Throw s) ∙ stmt_tree-Throw s) (λ b. refl)
  form_nothing (Open.Try s) = viewed (ap stmt_tree (in_stmt.rolls-Try s) ∙ stmt_tree-Try s) (λ b. try_nothing s.value)
  form_nothing (Open.While s) = viewed (ap stmt_tree (in_stmt.rolls-While s) ∙ stmt_tree-While s) (λ b. refl)
  form_nothing (Open.DoWhile s) = viewed (ap stmt_tree (in_stmt.rolls-DoWhile s) ∙ stmt_tree-DoWhile s) (λ b. refl)
  form_nothing (Open.For s) = viewed (ap stmt_tree (in_stmt.rolls-For s) ∙ stmt_tree-For s ∙ for_tree-is s.value) (λ b. refl)
  form_nothing (Open.Decl d) = viewed (ap stmt_tree (in_stmt.rolls-Decl d) ∙ stmt_tree-Decl d) (λ b. decl_nothing d)
  form_nothing (Open.Stmt::Expr s) = viewed (ap stmt_tree (in_stmt.rolls-Expr s) ∙ stmt_tree-Expr s) (λ b. refl)

-- all sizes
below : (n : ℕ) (s : Stmt) → nodes (stmt_tree s) ≤ n → gives_nothing (stmt_tree s) ≡ true
below zero s = λ b. absurd (omega (arith, b, some_node (stmt_tree s)))
below (suc n) s = subst (λ q. nodes (stmt_tree q) ≤ suc n → gives_nothing (stmt_tree q) ≡ true) (roll-out-Stmt s) (form_nothing (below n) (out-Stmt s))

pub stmt_gives_nothing : (s : Stmt) → gives_nothing (stmt_tree s) ≡ true
stmt_gives_nothing s = below (nodes (stmt_tree s)) s (omega arith)

pub list_gives_nothing : (ss : List Stmt) → all_give_nothing (list_trees stmt_tree ss) ≡ true
list_gives_nothing [] = refl
list_gives_nothing (s ∷ ss) = and_from (gives_nothing (stmt_tree s)) _ (stmt_gives_nothing s) (list_gives_nothing ss)
