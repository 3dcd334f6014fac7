-- Nodes that give no names.
use Rattle.std.proofs.Common.{◌≡◌, ◌≤◌, List, [], ◌∷◌, refl, sym, ap, subst, ◌∙◌, arith}
use Rattle.swc_ast.specs.declared.VarDeclKind.{VarDeclKind}
use Rattle.swc_ast.specs.declared.VarDeclKind.TheVariants.{Let, Const}
use Rattle.swc_ast.specs.declared.declarations.Decl.TheOpen as Open
use Rattle.swc_ast.specs.declared.declarations.Decl.TheViews.{roll-Expr, out-Expr, roll-out-Expr, roll-Stmt, out-Stmt, roll-out-Stmt}
use Rattle.swc_ast.specs.declared.declarations.VarDeclarator.{VarDeclarator}
use Rattle.swc_ast.specs.declared.expressions.Expr.{Expr}
use Rattle.swc_ast.specs.declared.statements.Stmt.{Stmt}
use Rattle.swc_ast.specs.Parts.{list_trees}
use Rattle.swc_ast.specs.Resolved.{first_names}
use Rattle.swc_ast.specs.Scope.{vars, vars_all, declared_by}
use Rattle.swc_ast.specs.Statements.{declarator_tree}
use Rattle.swc_ast.specs.Tree as tree
use Rattle.swc_ast.specs.Tree.{Tree, node, label_of}
use Rattle.swc_ast.specs.Views.{expr_tree, stmt_tree}
use Rattle.swc_ast.proofs.ApartExpressions.{ExprForm, expr_form, expr_number, expr_at}
use Rattle.swc_ast.proofs.ApartStatements.{StmtForm, stmt_form, stmt_number, stmt_at}
use Rattle.swc_resolved.specs.declared.declared.Part.{Part}
use Rattle.swc_resolved.specs.declared.declared.Part.TheVariants as part
use Rattle.swc_resolved.specs.Parts.{tree_names}

-- expressions

expression_number : (o : ExprForm) → 1 ≤ expr_number o
expression_number (Open.This n) = omega arith
expression_number _ = omega arith

formed_vars : (t : Tree) → 1 ≤ expr_form (label_of t) → vars t ≡ []
formed_vars (node tree.Block ss cs) h = absurd (omega (arith, h))
formed_vars (node tree.If ss cs) h = absurd (omega (arith, h))
formed_vars (node tree.While ss cs) h = absurd (omega (arith, h))
formed_vars (node tree.DoWhile ss cs) h = absurd (omega (arith, h))
formed_vars (node tree.For ss cs) h = absurd (omega (arith, h))
formed_vars (node (tree.Labeled l) ss cs) h = absurd (omega (arith, h))
formed_vars (node (tree.Switch ds) ss cs) h = absurd (omega (arith, h))
formed_vars (node tree.CaseBody ss cs) h = absurd (omega (arith, h))
formed_vars (node (tree.Try o) ss cs) h = absurd (omega (arith, h))
formed_vars (node (tree.VarDecl k) ss cs) h = absurd (omega (arith, h))
formed_vars (node tree.ExportDecl ss cs) h = absurd (omega (arith, h))
formed_vars (node (tree.Declarator k x) ss cs) h = absurd (omega (arith, h))
formed_vars (node _ ss cs) h = refl

no_vars_within : (e : Expr) → vars (expr_tree e) ≡ []
no_vars_within e = subst (λ x. vars (expr_tree x) ≡ []) (roll-out-Expr e) (formed_vars (expr_tree (roll-Expr (out-Expr e))) (subst (λ n. 1 ≤ n) (sym (expr_at (out-Expr e))) (expression_number (out-Expr e))))

pub expression_vars : (p : Part) (t : Tree) (e : Expr) → p ≡ part.Vars → t ≡ expr_tree e → tree_names p t ≡ []
expression_vars p t e whole is = ap (λ q. tree_names q t) whole ∙ ap vars is ∙ no_vars_within e

-- statements

pub statement_vars : (p : Part) (t u : Tree) → p ≡ part.Vars → t ≡ u → vars u ≡ [] → tree_names p t ≡ []
statement_vars p t u whole is h = ap (λ q. tree_names q t) whole ∙ ap vars is ∙ h

pub statement_declares : (p : Part) (t u : Tree) → p ≡ part.Declarations → t ≡ u → first_names (declared_by u) ≡ [] → tree_names p t ≡ []
statement_declares p t u whole is h = ap (λ q. tree_names q t) whole ∙ ap (λ v. first_names (declared_by v)) is ∙ h

statement_number : (o : StmtForm) → 1 ≤ stmt_number o
statement_number (Open.Block n) = omega arith
statement_number _ = omega arith

formed_imports : (t : Tree) → 1 ≤ stmt_form (label_of t) → tree_names part.Imports t ≡ []
formed_imports (node (tree.Import src) ss cs) h = absurd (omega (arith, h))
formed_imports (node _ ss cs) h = refl

no_imports_within : (s : Stmt) → tree_names part.Imports (stmt_tree s) ≡ []
no_imports_within s = subst (λ x. tree_names part.Imports (stmt_tree x) ≡ []) (roll-out-Stmt s) (formed_imports (stmt_tree (roll-Stmt (out-Stmt s))) (subst (λ n. 1 ≤ n) (sym (stmt_at (out-Stmt s))) (statement_number (out-Stmt s))))

pub statement_imports : (p : Part) (t : Tree) (s : Stmt) → p ≡ part.Imports → t ≡ stmt_tree s → tree_names p t ≡ []
statement_imports p t s whole is = ap (λ q. tree_names q t) whole ∙ ap (tree_names part.Imports) is ∙ no_imports_within s

-- declarators of `let` and `const`

of_let : (xs : List (VarDeclarator Expr)) → vars_all (list_trees (declarator_tree expr_tree Let) xs) ≡ []
of_let [] = refl
of_let (x ∷ xs) = of_let xs

of_const : (xs : List (VarDeclarator Expr)) → vars_all (list_trees (declarator_tree expr_tree Const) xs) ≡ []
of_const [] = refl
of_const (x ∷ xs) = of_const xs

pub let_vars : (k : VarDeclKind) (xs : List (VarDeclarator Expr)) → k ≡ Let → vars_all (list_trees (declarator_tree expr_tree k) xs) ≡ []
let_vars k xs is = ap (λ j. vars_all (list_trees (declarator_tree expr_tree j) xs)) is ∙ of_let xs

pub const_vars : (k : VarDeclKind) (xs : List (VarDeclarator Expr)) → k ≡ Const → vars_all (list_trees (declarator_tree expr_tree k) xs) ≡ []
const_vars k xs is = ap (λ j. vars_all (list_trees (declarator_tree expr_tree j) xs)) is ∙ of_const xs
