-- Statements and declarations of two variants have different trees.
use Rattle.std.proofs.Common.{◌≡◌, refl, sym, ap, ◌∙◌, Bool, false, ◌==◌, subst}
use Rattle.std.specs.Prelude.{ℕ}
use Rattle.swc_ast.specs.Tree as tree
use Rattle.swc_ast.specs.Tree.{Label, label_of}
use Rattle.swc_ast.specs.Same.{same}
use Rattle.swc_ast.specs.Views.{decl_tree, stmt_tree}
use Rattle.swc_ast.proofs.Labels.{differ}
use Rattle.swc_ast.proofs.Equations.{stmt_tree-Block, stmt_tree-Empty, stmt_tree-Return, stmt_tree-Labeled, stmt_tree-Break, stmt_tree-Continue, stmt_tree-If, stmt_tree-Switch, stmt_tree-Throw, stmt_tree-Try, stmt_tree-While, stmt_tree-DoWhile, stmt_tree-For, stmt_tree-Decl, stmt_tree-Expr, if_tree-is, switch_tree-is, for_tree-is, decl_tree-Fn, decl_tree-Var}
use Rattle.swc_ast.specs.declared.declarations.Decl.TheViews.{roll-Stmt, out-Stmt, roll-out-Stmt, roll-Decl, out-Decl, roll-out-Decl}
use Rattle.swc_ast.specs.declared.declarations.Decl.TheVariants as in_decl
use Rattle.swc_ast.specs.declared.statements.Stmt.TheVariants as in_stmt
use Rattle.swc_ast.specs.declared.declarations.Decl.TheOpen as Open
use Rattle.swc_ast.specs.declared.declarations.Decl.{Decl}
use Rattle.swc_ast.specs.declared.declarations.Function.{Function}
use Rattle.swc_ast.specs.declared.expressions.ArrowExpr.{ArrowExpr}
use Rattle.swc_ast.specs.declared.expressions.BlockStmtOrExpr.{BlockStmtOrExpr}
use Rattle.swc_ast.specs.declared.expressions.Expr.{Expr}
use Rattle.swc_ast.specs.declared.expressions.MethodProp.{MethodProp}
use Rattle.swc_ast.specs.declared.expressions.Prop.{Prop}
use Rattle.swc_ast.specs.declared.expressions.PropOrSpread.{PropOrSpread}
use Rattle.swc_ast.specs.declared.statements.ForStmt.{ForStmt}
use Rattle.swc_ast.specs.declared.statements.IfStmt.{IfStmt}
use Rattle.swc_ast.specs.declared.statements.SwitchCase.{SwitchCase}
use Rattle.swc_ast.specs.declared.statements.SwitchStmt.{SwitchStmt}
use Rattle.swc_ast.specs.declared.statements.WhileStmt.{WhileStmt}
use Rattle.swc_ast.specs.declared.statements.Stmt.{Stmt}

abbrev DeclForm : Type 0
DeclForm = Open.Decl-F Decl BlockStmtOrExpr Expr Prop PropOrSpread Stmt Function ArrowExpr MethodProp ForStmt IfStmt SwitchCase SwitchStmt WhileStmt

-- which statement a label_of is of, by number
abbrev pub stmt_form : Label → ℕ
stmt_form tree.Block = 1
stmt_form tree.Empty = 2
stmt_form tree.Return = 3
stmt_form (tree.Labeled _) = 4
stmt_form (tree.Break _) = 5
stmt_form (tree.Continue _) = 6
stmt_form tree.If = 7
stmt_form (tree.Switch _) = 8
stmt_form tree.Throw = 9
stmt_form (tree.Try _) = 10
stmt_form tree.While = 11
stmt_form tree.DoWhile = 12
stmt_form tree.For = 13
stmt_form (tree.VarDecl _) = 14
stmt_form (tree.FnDecl _) = 14
stmt_form tree.ExprStmt = 15
stmt_form _ = 0

abbrev pub StmtForm : Type 0
StmtForm = Open.Stmt-F Decl BlockStmtOrExpr Expr Prop PropOrSpread Stmt Function ArrowExpr MethodProp ForStmt IfStmt SwitchCase SwitchStmt WhileStmt

abbrev pub stmt_number : StmtForm → ℕ
stmt_number (Open.Block n) = 1
stmt_number (Open.Empty n) = 2
stmt_number (Open.Return n) = 3
stmt_number (Open.Labeled n) = 4
stmt_number (Open.Break n) = 5
stmt_number (Open.Continue n) = 6
stmt_number (Open.If n) = 7
stmt_number (Open.Switch n) = 8
stmt_number (Open.Throw n) = 9
stmt_number (Open.Try n) = 10
stmt_number (Open.While n) = 11
stmt_number (Open.DoWhile n) = 12
stmt_number (Open.For n) = 13
stmt_number (Open.Decl n) = 14
stmt_number (Open.Stmt::Expr n) = 15

decl_form-at : (o : DeclForm) → stmt_form (label_of (decl_tree (roll-Decl o))) ≡ 14
decl_form-at (Open.Decl::Fn n) = ap (λ t. stmt_form (label_of t)) (ap decl_tree (in_decl.rolls-Fn n) ∙ decl_tree-Fn n)
decl_form-at (Open.Var n) = ap (λ t. stmt_form (label_of t)) (ap decl_tree (in_decl.rolls-Var n) ∙ decl_tree-Var n)

of_decl : (d : Decl) → stmt_form (label_of (decl_tree d)) ≡ 14
of_decl d = subst (λ e. stmt_form (label_of (decl_tree e)) ≡ 14) (roll-out-Decl d) (decl_form-at (out-Decl d))

pub stmt_at : (o : StmtForm) → stmt_form (label_of (stmt_tree (roll-Stmt o))) ≡ stmt_number o
stmt_at (Open.Block n) = ap (λ t. stmt_form (label_of t)) (ap stmt_tree (in_stmt.rolls-Block n) ∙ stmt_tree-Block n)
stmt_at (Open.Empty n) = ap (λ t. stmt_form (label_of t)) (ap stmt_tree (in_stmt.rolls-Empty n) ∙ stmt_tree-Empty n)
stmt_at (Open.Return n) = ap (λ t. stmt_form (label_of t)) (ap stmt_tree (in_stmt.rolls-Return n) ∙ stmt_tree-Return n)
stmt_at (Open.Labeled n) = ap (λ t. stmt_form (label_of t)) (ap stmt_tree (in_stmt.rolls-Labeled n) ∙ stmt_tree-Labeled n)
stmt_at (Open.Break n) = ap (λ t. stmt_form (label_of t)) (ap stmt_tree (in_stmt.rolls-Break n) ∙ stmt_tree-Break n)
stmt_at (Open.Continue n) = ap (λ t. stmt_form (label_of t)) (ap stmt_tree (in_stmt.rolls-Continue n) ∙ stmt_tree-Continue n)
stmt_at (Open.If n) = ap (λ t. stmt_form (label_of t)) (ap stmt_tree (in_stmt.rolls-If n) ∙ stmt_tree-If n ∙ if_tree-is n)
stmt_at (Open.Switch n) = ap (λ t. stmt_form (label_of t)) (ap stmt_tree (in_stmt.rolls-Switch n) ∙ stmt_tree-Switch n ∙ switch_tree-is n)
stmt_at (Open.Throw n) = ap (λ t. stmt_form (label_of t)) (ap stmt_tree (in_stmt.rolls-Throw n) ∙ stmt_tree-Throw n)
stmt_at (Open.Try n) = ap (λ t. stmt_form (label_of t)) (ap stmt_tree (in_stmt.rolls-Try n) ∙ stmt_tree-Try n)
stmt_at (Open.While n) = ap (λ t. stmt_form (label_of t)) (ap stmt_tree (in_stmt.rolls-While n) ∙ stmt_tree-While n)
stmt_at (Open.DoWhile n) = ap (λ t. stmt_form (label_of t)) (ap stmt_tree (in_stmt.rolls-DoWhile n) ∙ stmt_tree-DoWhile n)
stmt_at (Open.For n) = ap (λ t. stmt_form (label_of t)) (ap stmt_tree (in_stmt.rolls-For n) ∙ stmt_tree-For n ∙ for_tree-is n.value)
stmt_at (Open.Decl n) = ap (λ t. stmt_form (label_of t)) (ap stmt_tree (in_stmt.rolls-Decl n) ∙ stmt_tree-Decl n) ∙ of_decl n
stmt_at (Open.Stmt::Expr n) = ap (λ t. stmt_form (label_of t)) (ap stmt_tree (in_stmt.rolls-Expr n) ∙ stmt_tree-Expr n)

pub stmt_apart : (s : Bool) (o p : StmtForm) (a b : Stmt) → roll-Stmt o ≡ a → roll-Stmt p ≡ b → (stmt_number o == stmt_number p) ≡ false → false ≡ same s (stmt_tree a) (stmt_tree b)
stmt_apart s o p a b at_a at_b = differ stmt_form s (stmt_tree a) (stmt_tree b) (stmt_number o) (stmt_number p) (ap (λ e. stmt_form (label_of (stmt_tree e))) (sym at_a) ∙ stmt_at o) (ap (λ e. stmt_form (label_of (stmt_tree e))) (sym at_b) ∙ stmt_at p)

pub other_stmt-Block : (s : Bool) (a b : Stmt) (x : _) → a ≡ in_stmt.Block x → ((y : _) → b ≡ in_stmt.Block y → ⊥) → false ≡ same s (stmt_tree a) (stmt_tree b)
other_stmt-Block s a b x is others = by (out-Stmt b) (roll-out-Stmt b)
  where
    by : (p : StmtForm) → roll-Stmt p ≡ b → false ≡ same s (stmt_tree a) (stmt_tree b)
    by (Open.Block y) r = absurd (others y (sym r ∙ in_stmt.rolls-Block y))
    by p r = stmt_apart s (Open.Block x) p a b (in_stmt.rolls-Block x ∙ sym is) r refl

pub other_stmt-Empty : (s : Bool) (a b : Stmt) (x : _) → a ≡ in_stmt.Empty x → ((y : _) → b ≡ in_stmt.Empty y → ⊥) → false ≡ same s (stmt_tree a) (stmt_tree b)
other_stmt-Empty s a b x is others = by (out-Stmt b) (roll-out-Stmt b)
  where
    by : (p : StmtForm) → roll-Stmt p ≡ b → false ≡ same s (stmt_tree a) (stmt_tree b)
    by (Open.Empty y) r = absurd (others y (sym r ∙ in_stmt.rolls-Empty y))
    by p r = stmt_apart s (Open.Empty x) p a b (in_stmt.rolls-Empty x ∙ sym is) r refl

pub other_stmt-Return : (s : Bool) (a b : Stmt) (x : _) → a ≡ in_stmt.Return x → ((y : _) → b ≡ in_stmt.Return y → ⊥) → false ≡ same s (stmt_tree a) (stmt_tree b)
other_stmt-Return s a b x is others = by (out-Stmt b) (roll-out-Stmt b)
  where
    by : (p : StmtForm) → roll-Stmt p ≡ b → false ≡ same s (stmt_tree a) (stmt_tree b)
    by (Open.Return y) r = absurd (others y (sym r ∙ in_stmt.rolls-Return y))
    by p r = stmt_apart s (Open.Return x) p a b (in_stmt.rolls-Return x ∙ sym is) r refl

pub other_stmt-Labeled : (s : Bool) (a b : Stmt) (x : _) → a ≡ in_stmt.Labeled x → ((y : _) → b ≡ in_stmt.Labeled y → ⊥) → false ≡ same s (stmt_tree a) (stmt_tree b)
other_stmt-Labeled s a b x is others = by (out-Stmt b) (roll-out-Stmt b)
  where
    by : (p : StmtForm) → roll-Stmt p ≡ b → false ≡ same s (stmt_tree a) (stmt_tree b)
    by (Open.Labeled y) r = absurd (others y (sym r ∙ in_stmt.rolls-Labeled y))
    by p r = stmt_apart s (Open.Labeled x) p a b (in_stmt.rolls-Labeled x ∙ sym is) r refl

pub other_stmt-Break : (s : Bool) (a b : Stmt) (x : _) → a ≡ in_stmt.Break x → ((y : _) → b ≡ in_stmt.Break y → ⊥) → false ≡ same s (stmt_tree a) (stmt_tree b)
other_stmt-Break s a b x is others = by (out-Stmt b) (roll-out-Stmt b)
  where
    by : (p : StmtForm) → roll-Stmt p ≡ b → false ≡ same s (stmt_tree a) (stmt_tree b)
    by (Open.Break y) r = absurd (others y (sym r ∙ in_stmt.rolls-Break y))
    by p r = stmt_apart s (Open.Break x) p a b (in_stmt.rolls-Break x ∙ sym is) r refl

pub other_stmt-Continue : (s : Bool) (a b : Stmt) (x : _) → a ≡ in_stmt.Continue x → ((y : _) → b ≡ in_stmt.Continue y → ⊥) → false ≡ same s (stmt_tree a) (stmt_tree b)
other_stmt-Continue s a b x is others = by (out-Stmt b) (roll-out-Stmt b)
  where
    by : (p : StmtForm) → roll-Stmt p ≡ b → false ≡ same s (stmt_tree a) (stmt_tree b)
    by (Open.Continue y) r = absurd (others y (sym r ∙ in_stmt.rolls-Continue y))
    by p r = stmt_apart s (Open.Continue x) p a b (in_stmt.rolls-Continue x ∙ sym is) r refl

pub other_stmt-If : (s : Bool) (a b : Stmt) (x : _) → a ≡ in_stmt.If x → ((y : _) → b ≡ in_stmt.If y → ⊥) → false ≡ same s (stmt_tree a) (stmt_tree b)
other_stmt-If s a b x is others = by (out-Stmt b) (roll-out-Stmt b)
  where
    by : (p : StmtForm) → roll-Stmt p ≡ b → false ≡ same s (stmt_tree a) (stmt_tree b)
    by (Open.If y) r = absurd (others y (sym r ∙ in_stmt.rolls-If y))
    by p r = stmt_apart s (Open.If x) p a b (in_stmt.rolls-If x ∙ sym is) r refl

pub other_stmt-Switch : (s : Bool) (a b : Stmt) (x : _) → a ≡ in_stmt.Switch x → ((y : _) → b ≡ in_stmt.Switch y → ⊥) → false ≡ same s (stmt_tree a) (stmt_tree b)
other_stmt-Switch s a b x is others = by (out-Stmt b) (roll-out-Stmt b)
  where
    by : (p : StmtForm) → roll-Stmt p ≡ b → false ≡ same s (stmt_tree a) (stmt_tree b)
    by (Open.Switch y) r = absurd (others y (sym r ∙ in_stmt.rolls-Switch y))
    by p r = stmt_apart s (Open.Switch x) p a b (in_stmt.rolls-Switch x ∙ sym is) r refl

pub other_stmt-Throw : (s : Bool) (a b : Stmt) (x : _) → a ≡ in_stmt.Throw x → ((y : _) → b ≡ in_stmt.Throw y → ⊥) → false ≡ same s (stmt_tree a) (stmt_tree b)
other_stmt-Throw s a b x is others = by (out-Stmt b) (roll-out-Stmt b)
  where
    by : (p : StmtForm) → roll-Stmt p ≡ b → false ≡ same s (stmt_tree a) (stmt_tree b)
    by (Open.Throw y) r = absurd (others y (sym r ∙ in_stmt.rolls-Throw y))
    by p r = stmt_apart s (Open.Throw x) p a b (in_stmt.rolls-Throw x ∙ sym is) r refl

pub other_stmt-Try : (s : Bool) (a b : Stmt) (x : _) → a ≡ in_stmt.Try x → ((y : _) → b ≡ in_stmt.Try y → ⊥) → false ≡ same s (stmt_tree a) (stmt_tree b)
other_stmt-Try s a b x is others = by (out-Stmt b) (roll-out-Stmt b)
  where
    by : (p : StmtForm) → roll-Stmt p ≡ b → false ≡ same s (stmt_tree a) (stmt_tree b)
    by (Open.Try y) r = absurd (others y (sym r ∙ in_stmt.rolls-Try y))
    by p r = stmt_apart s (Open.Try x) p a b (in_stmt.rolls-Try x ∙ sym is) r refl

pub other_stmt-While : (s : Bool) (a b : Stmt) (x : _) → a ≡ in_stmt.While x → ((y : _) → b ≡ in_stmt.While y → ⊥) → false ≡ same s (stmt_tree a) (stmt_tree b)
other_stmt-While s a b x is others = by (out-Stmt b) (roll-out-Stmt b)
  where
    by : (p : StmtForm) → roll-Stmt p ≡ b → false ≡ same s (stmt_tree a) (stmt_tree b)
    by (Open.While y) r = absurd (others y (sym r ∙ in_stmt.rolls-While y))
    by p r = stmt_apart s (Open.While x) p a b (in_stmt.rolls-While x ∙ sym is) r refl

pub other_stmt-DoWhile : (s : Bool) (a b : Stmt) (x : _) → a ≡ in_stmt.DoWhile x → ((y : _) → b ≡ in_stmt.DoWhile y → ⊥) → false ≡ same s (stmt_tree a) (stmt_tree b)
other_stmt-DoWhile s a b x is others = by (out-Stmt b) (roll-out-Stmt b)
  where
    by : (p : StmtForm) → roll-Stmt p ≡ b → false ≡ same s (stmt_tree a) (stmt_tree b)
    by (Open.DoWhile y) r = absurd (others y (sym r ∙ in_stmt.rolls-DoWhile y))
    by p r = stmt_apart s (Open.DoWhile x) p a b (in_stmt.rolls-DoWhile x ∙ sym is) r refl

pub other_stmt-For : (s : Bool) (a b : Stmt) (x : _) → a ≡ in_stmt.For x → ((y : _) → b ≡ in_stmt.For y → ⊥) → false ≡ same s (stmt_tree a) (stmt_tree b)
other_stmt-For s a b x is others = by (out-Stmt b) (roll-out-Stmt b)
  where
    by : (p : StmtForm) → roll-Stmt p ≡ b → false ≡ same s (stmt_tree a) (stmt_tree b)
    by (Open.For y) r = absurd (others y (sym r ∙ in_stmt.rolls-For y))
    by p r = stmt_apart s (Open.For x) p a b (in_stmt.rolls-For x ∙ sym is) r refl

pub other_stmt-Decl : (s : Bool) (a b : Stmt) (x : _) → a ≡ in_stmt.Decl x → ((y : _) → b ≡ in_stmt.Decl y → ⊥) → false ≡ same s (stmt_tree a) (stmt_tree b)
other_stmt-Decl s a b x is others = by (out-Stmt b) (roll-out-Stmt b)
  where
    by : (p : StmtForm) → roll-Stmt p ≡ b → false ≡ same s (stmt_tree a) (stmt_tree b)
    by (Open.Decl y) r = absurd (others y (sym r ∙ in_stmt.rolls-Decl y))
    by p r = stmt_apart s (Open.Decl x) p a b (in_stmt.rolls-Decl x ∙ sym is) r refl

pub other_stmt-Expr : (s : Bool) (a b : Stmt) (x : _) → a ≡ in_stmt.Expr x → ((y : _) → b ≡ in_stmt.Expr y → ⊥) → false ≡ same s (stmt_tree a) (stmt_tree b)
other_stmt-Expr s a b x is others = by (out-Stmt b) (roll-out-Stmt b)
  where
    by : (p : StmtForm) → roll-Stmt p ≡ b → false ≡ same s (stmt_tree a) (stmt_tree b)
    by (Open.Stmt::Expr y) r = absurd (others y (sym r ∙ in_stmt.rolls-Expr y))
    by p r = stmt_apart s (Open.Stmt::Expr x) p a b (in_stmt.rolls-Expr x ∙ sym is) r refl
