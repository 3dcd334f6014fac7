-- What the tree of a statement may look like.
use Rattle.std.proofs.Common.{◌≡◌, ℕ, Bool, true, false, ◌==◌, ◌&&◌, ◌≤◌, List, [], ◌∷◌, ◌++◌, length, map, refl, sym, ap, ap₂, subst, ◌∙◌, arith}
use Rattle.std.specs.Cmp.{unsigned_Decides}
use Rattle.swc_ast.specs.Tree as tree
use Rattle.swc_ast.specs.Tree.{Name, Label, Tree, node, Forest, ε, label_of}
use Rattle.swc_ast.specs.Parts.{list_trees, ident_name, word_text, option_word_text}
use Rattle.swc_ast.specs.Redex.{is_loose, is_nothing, binds_nothing}
use Rattle.swc_ast.specs.SameLaws.{impossible}
use Rattle.swc_ast.specs.Scope.{Declared, declared, declared_by}
use Rattle.swc_ast.specs.Statements.{declarator_tree, var_tree, handler_param, is_default_case}
use Rattle.swc_ast.specs.Views.{decl_tree, expr_tree, stmt_tree, case_trees}
use Rattle.swc_ast.specs.declared.Span.{Span}
use Rattle.swc_ast.specs.declared.VarDeclKind.{VarDeclKind}
use Rattle.swc_ast.specs.declared.VarDeclKind.TheVariants.{Var, Let, Const}
use Rattle.swc_ast.specs.declared.declarations.Decl.{Decl}
use Rattle.swc_ast.specs.declared.declarations.Decl.TheOpen as Open
use Rattle.swc_ast.specs.declared.declarations.Decl.TheViews.{out-SwitchStmt, roll-Stmt, out-Stmt, roll-out-Stmt, roll-Decl, out-Decl, roll-out-Decl}
use Rattle.swc_ast.specs.declared.declarations.Decl.TheVariants as in_decl
use Rattle.swc_ast.specs.declared.declarations.Function.{Function}
use Rattle.swc_ast.specs.declared.declarations.VarDecl.{VarDecl}
use Rattle.swc_ast.specs.declared.declarations.VarDeclarator.{VarDeclarator}
use Rattle.swc_ast.specs.declared.expressions.ArrowExpr.{ArrowExpr}
use Rattle.swc_ast.specs.declared.expressions.BlockStmtOrExpr.{BlockStmtOrExpr}
use Rattle.swc_ast.specs.declared.expressions.Expr.{Expr}
use Rattle.swc_ast.specs.declared.expressions.MethodProp.{MethodProp}
use Rattle.swc_ast.specs.declared.expressions.Prop.{Prop}
use Rattle.swc_ast.specs.declared.expressions.PropOrSpread.{PropOrSpread}
use Rattle.swc_ast.specs.declared.statements.BlockStmt.{BlockStmt}
use Rattle.swc_ast.specs.declared.statements.ForStmt.{ForStmt}
use Rattle.swc_ast.specs.declared.statements.IfStmt.{IfStmt}
use Rattle.swc_ast.specs.declared.statements.Stmt.{Stmt}
use Rattle.swc_ast.specs.declared.statements.Stmt.TheVariants as in_stmt
use Rattle.swc_ast.specs.declared.statements.SwitchCase.{SwitchCase}
use Rattle.swc_ast.specs.declared.statements.SwitchStmt.{SwitchStmt}
use Rattle.swc_ast.specs.declared.statements.WhileStmt.{WhileStmt}
use Rattle.swc_ast.proofs.ApartStatements.{StmtForm, stmt_form, stmt_at}
use Rattle.swc_ast.proofs.Equations.{stmt_tree-Block, stmt_tree-Empty, stmt_tree-Return, stmt_tree-Labeled, stmt_tree-Break, stmt_tree-Continue, stmt_tree-If, stmt_tree-Switch, stmt_tree-Throw, stmt_tree-Try, stmt_tree-While, stmt_tree-DoWhile, stmt_tree-For, stmt_tree-Decl, stmt_tree-Expr, if_tree-is, switch_tree-is, for_tree-is, decl_tree-Fn, decl_tree-Var}
use Rattle.branch_rules.specs.Lists.{is_bare, all_bare}
use Rattle.static_proofs.specs.Shaped.{is_lexical}
use Rattle.branch_lists.specs.Swept.{contents}

-- a declaration, opened
abbrev DeclForm : Type 0
DeclForm = Open.Decl-F Decl BlockStmtOrExpr Expr Prop PropOrSpread Stmt Function ArrowExpr MethodProp ForStmt IfStmt SwitchCase SwitchStmt WhileStmt

-- a statement that is neither empty, a block nor a declaration
abbrev pub is_rest : Label → Bool
is_rest tree.Throw = true
is_rest tree.ExprStmt = true
is_rest tree.Return = true
is_rest tree.If = true
is_rest tree.While = true
is_rest tree.DoWhile = true
is_rest tree.For = true
is_rest (tree.Labeled t) = true
is_rest (tree.Break o) = true
is_rest (tree.Continue o) = true
is_rest (tree.Switch ds) = true
is_rest (tree.Try o) = true
is_rest _ = false

pub data Shape : Tree → Type 0 where
  rest : (l : Label) (ss : List Span) (cs : Forest) → is_rest l ≡ true → Shape (node l ss cs)
  block : (ss : List Span) (xs : List Stmt) → Shape (node tree.Block ss (list_trees stmt_tree xs))
  empty : (ss : List Span) → Shape (node tree.Empty ss ε)
  function : (x : Name) (ss : List Span) (cs : Forest) → Shape (node (tree.FnDecl x) ss cs)
  variables : (k : VarDeclKind) (ss : List Span) (ds : List (VarDeclarator Expr)) → Shape (node (tree.VarDecl k) ss (list_trees (declarator_tree expr_tree k) ds))

moved : (t u : Tree) → t ≡ u → Shape u → Shape t
moved t u is h = subst Shape (sym is) h

pub shape_decl : (d : Decl) → Shape (decl_tree d)
shape_decl d = by (out-Decl d) (roll-out-Decl d)
  where
    by : (o : DeclForm) → roll-Decl o ≡ d → Shape (decl_tree d)
    by (Open.Decl::Fn n) r = moved _ _ (ap decl_tree (sym r ∙ in_decl.rolls-Fn n) ∙ decl_tree-Fn n) (function (ident_name n.ident) _ _)
    by (Open.Var n) r = moved _ _ (ap decl_tree (sym r ∙ in_decl.rolls-Var n) ∙ decl_tree-Var n) (variables n.kind (n.span ∷ []) n.decls.items)

pub shape : (s : Stmt) → Shape (stmt_tree s)
shape s = by (out-Stmt s) (roll-out-Stmt s)
  where
    by : (o : StmtForm) → roll-Stmt o ≡ s → Shape (stmt_tree s)
    by (Open.Block n) r = moved _ _ (ap stmt_tree (sym r ∙ in_stmt.rolls-Block n) ∙ stmt_tree-Block n) (block (n.span ∷ []) n.stmts.items)
    by (Open.Empty n) r = moved _ _ (ap stmt_tree (sym r ∙ in_stmt.rolls-Empty n) ∙ stmt_tree-Empty n) (empty (n.span ∷ []))
    by (Open.Return n) r = moved _ _ (ap stmt_tree (sym r ∙ in_stmt.rolls-Return n) ∙ stmt_tree-Return n) (rest tree.Return _ _ refl)
    by (Open.Labeled n) r = moved _ _ (ap stmt_tree (sym r ∙ in_stmt.rolls-Labeled n) ∙ stmt_tree-Labeled n) (rest (tree.Labeled (word_text n.label)) _ _ refl)
    by (Open.Break n) r = moved _ _ (ap stmt_tree (sym r ∙ in_stmt.rolls-Break n) ∙ stmt_tree-Break n) (rest (tree.Break (option_word_text n.label)) _ _ refl)
    by (Open.Continue n) r = moved _ _ (ap stmt_tree (sym r ∙ in_stmt.rolls-Continue n) ∙ stmt_tree-Continue n) (rest (tree.Continue (option_word_text n.label)) _ _ refl)
    by (Open.If n) r = moved _ _ (ap stmt_tree (sym r ∙ in_stmt.rolls-If n) ∙ stmt_tree-If n ∙ if_tree-is n) (rest tree.If _ _ refl)
    by (Open.Switch n) r = moved _ _ (ap stmt_tree (sym r ∙ in_stmt.rolls-Switch n) ∙ stmt_tree-Switch n ∙ switch_tree-is n) (rest (tree.Switch (map is_default_case (map case_trees (out-SwitchStmt n).cases.items))) _ _ refl)
    by (Open.Throw n) r = moved _ _ (ap stmt_tree (sym r ∙ in_stmt.rolls-Throw n) ∙ stmt_tree-Throw n) (rest tree.Throw _ _ refl)
    by (Open.Try n) r = moved _ _ (ap stmt_tree (sym r ∙ in_stmt.rolls-Try n) ∙ stmt_tree-Try n) (rest (tree.Try (handler_param n.value.handler)) _ _ refl)
    by (Open.While n) r = moved _ _ (ap stmt_tree (sym r ∙ in_stmt.rolls-While n) ∙ stmt_tree-While n) (rest tree.While _ _ refl)
    by (Open.DoWhile n) r = moved _ _ (ap stmt_tree (sym r ∙ in_stmt.rolls-DoWhile n) ∙ stmt_tree-DoWhile n) (rest tree.DoWhile _ _ refl)
    by (Open.For n) r = moved _ _ (ap stmt_tree (sym r ∙ in_stmt.rolls-For n) ∙ stmt_tree-For n ∙ for_tree-is n.value) (rest tree.For _ _ refl)
    by (Open.Decl n) r = moved _ _ (ap stmt_tree (sym r ∙ in_stmt.rolls-Decl n) ∙ stmt_tree-Decl n) (shape_decl n)
    by (Open.Stmt::Expr n) r = moved _ _ (ap stmt_tree (sym r ∙ in_stmt.rolls-Expr n) ∙ stmt_tree-Expr n) (rest tree.ExprStmt _ _ refl)

-- what a statement declares in its list, by its shape

is_nothing_both : (xs ys : List Declared) → is_nothing (xs ++ ys) ≡ (is_nothing xs && is_nothing ys)
is_nothing_both [] ys = refl
is_nothing_both (x ∷ xs) ys = refl

rest_declares : (l : Label) (ss : List Span) (cs : Forest) → is_rest l ≡ true → is_nothing (declared_by (node l ss cs)) ≡ is_bare (node l ss cs)
rest_declares tree.Throw ss cs h = refl
rest_declares tree.ExprStmt ss cs h = refl
rest_declares tree.Return ss cs h = refl
rest_declares tree.If ss cs h = refl
rest_declares tree.While ss cs h = refl
rest_declares tree.DoWhile ss cs h = refl
rest_declares tree.For ss cs h = refl
rest_declares (tree.Labeled t) ss cs h = refl
rest_declares (tree.Break o) ss cs h = refl
rest_declares (tree.Continue o) ss cs h = refl
rest_declares (tree.Switch ds) ss cs h = refl
rest_declares (tree.Try o) ss cs h = refl
rest_declares _ ss cs h = impossible h

var_declares : (k : VarDeclKind) (ss : List Span) (ds : List (VarDeclarator Expr)) → is_nothing (declared_by (node (tree.VarDecl k) ss (list_trees (declarator_tree expr_tree k) ds))) ≡ is_bare (node (tree.VarDecl k) ss (list_trees (declarator_tree expr_tree k) ds))
var_declares Var ss [] = refl
var_declares Var ss (d ∷ ds) = refl
var_declares Let ss [] = refl
var_declares Let ss (d ∷ ds) = refl
var_declares Const ss [] = refl
var_declares Const ss (d ∷ ds) = refl

declares_at : (t : Tree) → Shape t → is_nothing (declared_by t) ≡ is_bare t
declares_at _ (rest l ss cs h) = rest_declares l ss cs h
declares_at _ (block ss xs) = refl
declares_at _ (empty ss) = refl
declares_at _ (function x ss cs) = refl
declares_at _ (variables k ss ds) = var_declares k ss ds

pub binds_nothing_is : (ss : List Stmt) → all_bare (list_trees stmt_tree ss) ≡ binds_nothing (list_trees stmt_tree ss)
binds_nothing_is [] = refl
binds_nothing_is (s ∷ ss) = sym (is_nothing_both (declared_by (stmt_tree s)) (declared (list_trees stmt_tree ss)) ∙ ap₂ (λ a b. a && b) (declares_at (stmt_tree s) (shape s)) (sym (binds_nothing_is ss)))

-- loose statements

pub data Loose : Tree → Type 0 where
  loose_empty : (ss : List Span) → Loose (node tree.Empty ss ε)
  loose_block : (ss : List Span) (cs : Forest) → all_bare cs ≡ true → Loose (node tree.Block ss cs)

rest_firm : (l : Label) (ss : List Span) (cs : Forest) → is_rest l ≡ true → is_loose (node l ss cs) ≡ false
rest_firm tree.Block ss cs h = impossible h
rest_firm tree.Empty ss cs h = impossible h
rest_firm _ ss cs h = refl

loose_at : (t : Tree) → Shape t → is_loose t ≡ true → Loose t
loose_at _ (rest l ss cs h) is = impossible (sym (rest_firm l ss cs h) ∙ is)
loose_at _ (block ss xs) is = loose_block ss (list_trees stmt_tree xs) (binds_nothing_is xs ∙ is)
loose_at _ (empty ss) is = loose_empty ss
loose_at _ (function x ss cs) is = impossible is
loose_at _ (variables k ss ds) is = impossible is

pub loose_stmt : (s : Stmt) → is_loose (stmt_tree s) ≡ true → Loose (stmt_tree s)
loose_stmt s is = loose_at (stmt_tree s) (shape s) is

-- the statements of what is no block

other_contents : (t : Tree) → (stmt_form (label_of t) == 1) ≡ false → contents t ≡ ε
other_contents (node tree.Block ss cs) h = impossible (sym h)
other_contents (node _ ss cs) h = refl

pub no_contents : (s : Stmt) → ((y : BlockStmt Stmt) → s ≡ in_stmt.Block y → ⊥) → contents (stmt_tree s) ≡ ε
no_contents s none = by (out-Stmt s) (roll-out-Stmt s)
  where
    by : (o : StmtForm) → roll-Stmt o ≡ s → contents (stmt_tree s) ≡ ε
    by (Open.Block n) r = absurd (none n (sym r ∙ in_stmt.rolls-Block n))
    by o r = other_contents (stmt_tree s) (ap (λ x. stmt_form (label_of (stmt_tree x)) == 1) (sym r) ∙ ap (λ n. n == 1) (stmt_at o))

-- declarations that declare nothing but by `var`

not_zero : (n : ℕ) → 1 ≤ n → (n == 0) ≡ false
not_zero n h = by (n == 0) refl
  where
    by : (b : Bool) → (n == 0) ≡ b → (n == 0) ≡ false
    by true e = absurd (omega (arith, (unsigned_Decides n 0).0 e, h))
    by false e = e

by_count : (k : VarDeclKind) (ss : List Span) (ds : List (VarDeclarator Expr)) (m : ℕ) → is_lexical k ≡ true → m ≡ length ds → (m == 0) ≡ is_bare (node (tree.VarDecl k) ss (list_trees (declarator_tree expr_tree k) ds))
by_count Var ss ds m h l = impossible h
by_count Let ss [] m h l = ap (λ n. n == 0) l
by_count Let ss (d ∷ ds) m h l = not_zero m (omega (arith, l))
by_count Const ss [] m h l = ap (λ n. n == 0) l
by_count Const ss (d ∷ ds) m h l = not_zero m (omega (arith, l))

pub bare_by_count : (n : VarDecl Expr) (m : ℕ) → is_lexical n.kind ≡ true → m ≡ length n.decls.items → (m == 0) ≡ is_bare (var_tree expr_tree n)
bare_by_count n m h l = by_count n.kind (n.span ∷ []) n.decls.items m h l

by_kind : (k : VarDeclKind) (ss : List Span) (ds : List (VarDeclarator Expr)) → is_lexical k ≡ false → true ≡ is_bare (node (tree.VarDecl k) ss (list_trees (declarator_tree expr_tree k) ds))
by_kind Var ss [] h = refl
by_kind Var ss (d ∷ ds) h = refl
by_kind Let ss ds h = impossible (sym h)
by_kind Const ss ds h = impossible (sym h)

pub bare_by_kind : (n : VarDecl Expr) → is_lexical n.kind ≡ false → true ≡ is_bare (var_tree expr_tree n)
bare_by_kind n h = by_kind n.kind (n.span ∷ []) n.decls.items h
