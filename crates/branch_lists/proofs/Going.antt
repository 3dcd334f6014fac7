-- The names that stay of statements behind one that ends their list.
use Rattle.std.proofs.Common.{◌≡◌, Bool, true, false, ◌==◌, if◌then◌else◌, List, [], ◌∷◌, ◌++◌, refl, sym, ap, ◌∙◌}
use Rattle.swc_ast.specs.Tree as tree
use Rattle.swc_ast.specs.Tree.{Name, Tree, node, label_of}
use Rattle.swc_ast.specs.Parts.{ident_name, list_trees}
use Rattle.swc_ast.specs.SameLaws.{impossible}
use Rattle.swc_ast.specs.Scope.{vars, vars_all, declarator_names}
use Rattle.swc_ast.specs.Statements.{declarator_tree, var_tree}
use Rattle.swc_ast.specs.Views.{decl_tree, expr_tree, stmt_tree}
use Rattle.swc_ast.specs.declared.Span.{Span}
use Rattle.swc_ast.specs.declared.VarDeclKind.{VarDeclKind}
use Rattle.swc_ast.specs.declared.VarDeclKind.TheVariants.{Var, Let, Const}
use Rattle.swc_ast.specs.declared.declarations.Decl.{Decl}
use Rattle.swc_ast.specs.declared.declarations.Decl.TheOpen as Open
use Rattle.swc_ast.specs.declared.declarations.Decl.TheViews.{roll-Stmt, out-Stmt, roll-out-Stmt}
use Rattle.swc_ast.specs.declared.declarations.Decl.TheVariants as in_decl
use Rattle.swc_ast.specs.declared.declarations.FnDecl.{FnDecl}
use Rattle.swc_ast.specs.declared.declarations.Function.{Function}
use Rattle.swc_ast.specs.declared.declarations.VarDecl.{VarDecl}
use Rattle.swc_ast.specs.declared.declarations.VarDeclarator.{VarDeclarator}
use Rattle.swc_ast.specs.declared.expressions.Expr.{Expr}
use Rattle.swc_ast.specs.declared.statements.Stmt.{Stmt}
use Rattle.swc_ast.specs.declared.statements.Stmt.TheVariants as in_stmt
use Rattle.swc_ast.proofs.ApartStatements.{StmtForm, stmt_form, stmt_at}
use Rattle.swc_ast.proofs.Equations.{decl_tree-Fn}
use Rattle.std.proofs.lemmas.List.{append-nil}
use Rattle.static_proofs.specs.Shaped.{is_lexical}
use Rattle.branch_rules.specs.Vars.{those}
use Rattle.branch_lists.specs.Cuts.{picked, going_names}

all_picked : (kept : Name → Bool) (ds : List (VarDeclarator Expr)) → picked kept false ds ≡ vars_all (list_trees (declarator_tree expr_tree Var) ds)
all_picked kept [] = refl
all_picked kept (d ∷ ds) = ap (λ xs. ident_name d.name ∷ xs) (all_picked kept ds)

some_picked : (kept : Name → Bool) (k : VarDeclKind) (ds : List (VarDeclarator Expr)) → picked kept true ds ≡ those kept (declarator_names (list_trees (declarator_tree expr_tree k) ds))
some_picked kept k [] = refl
some_picked kept k (d ∷ ds) = ap (λ xs. if kept (ident_name d.name) then ident_name d.name ∷ xs else xs) (some_picked kept k ds)

by_kind : (kept : Name → Bool) (k : VarDeclKind) (ss : List Span) (ds : List (VarDeclarator Expr)) → picked kept (is_lexical k) ds ≡ going_names kept (node (tree.VarDecl k) ss (list_trees (declarator_tree expr_tree k) ds))
by_kind kept Var ss ds = all_picked kept ds
by_kind kept Let ss ds = some_picked kept Let ds
by_kind kept Const ss ds = some_picked kept Const ds

pub picked_is : (kept : Name → Bool) (n : VarDecl Expr) → picked kept (is_lexical n.kind) n.decls.items ≡ going_names kept (var_tree expr_tree n)
picked_is kept n = by_kind kept n.kind (n.span ∷ []) n.decls.items

other_names : (kept : Name → Bool) (t : Tree) → (stmt_form (label_of t) == 14) ≡ false → (stmt_form (label_of t) == 0) ≡ false → vars t ≡ going_names kept t
other_names kept (node (tree.VarDecl k) ss cs) h some = impossible (sym h)
other_names kept (node (tree.FnDecl x) ss cs) h some = impossible (sym h)
other_names kept (node (tree.Import src) ss cs) h some = impossible (sym some)
other_names kept (node tree.ExportDecl ss cs) h some = impossible (sym some)
other_names kept (node tree.ExportNamed ss cs) h some = impossible (sym some)
other_names kept (node (tree.ExportDefaultFn o) ss cs) h some = impossible (sym some)
other_names kept (node tree.ExportDefaultExpr ss cs) h some = impossible (sym some)
other_names kept (node _ ss cs) h some = refl

pub no_declaration : (kept : Name → Bool) (s : Stmt) → ((y : Decl) → s ≡ in_stmt.Decl y → ⊥) → vars (stmt_tree s) ≡ going_names kept (stmt_tree s)
no_declaration kept s none = by (out-Stmt s) (roll-out-Stmt s)
  where
    by : (o : StmtForm) → roll-Stmt o ≡ s → vars (stmt_tree s) ≡ going_names kept (stmt_tree s)
    by (Open.Decl n) r = absurd (none n (sym r ∙ in_stmt.rolls-Decl n))
    by o r = other_names kept (stmt_tree s) (ap (λ x. stmt_form (label_of (stmt_tree x)) == 14) (sym r) ∙ ap (λ n. n == 14) (stmt_at o)) (ap (λ x. stmt_form (label_of (stmt_tree x)) == 0) (sym r) ∙ ap (λ n. n == 0) (stmt_at o))

-- of a function nothing goes
pub no_function : (kept : Name → Bool) (d : Decl) (n : FnDecl Function) (xs : List Name) → d ≡ in_decl.Fn n → xs ≡ xs ++ going_names kept (decl_tree d)
no_function kept d n xs is = sym (append-nil xs) ∙ ap (λ t. xs ++ going_names kept t) (sym (ap decl_tree is ∙ decl_tree-Fn n))
