-- Modules and their items, once their parts are walked.
use Rattle.std.proofs.Common.{◌≡◌, Bool, true, false, ◌||◌, refl, sym, ap, ◌∙◌, subst, List, [], ◌∷◌}
use Rattle.std.specs.declared.alloc.Global.{Global}
use Rattle.std.specs.declared.boxed.Box.{Box}
use Rattle.swc_ast.specs.Tree as tree
use Rattle.swc_ast.specs.Tree.{Tree, node, ε, ◌⊳◌}
use Rattle.swc_ast.specs.Parts.{list_trees, option_ident_name, option_ident_spans}
use Rattle.swc_ast.specs.Expressions.{FunctionTrees}
use Rattle.swc_ast.specs.Modules.{item_tree, module_decl_tree, import_specifier_tree, export_specifier_tree, export_default_fn_tree}
use Rattle.swc_ast.specs.Views.{decl_tree, expr_tree, stmt_tree, function_trees}
use Rattle.swc_ast.specs.declared.Span.{Span}
use Rattle.swc_ast.specs.declared.declarations.Decl.{Decl}
use Rattle.swc_ast.specs.declared.declarations.Function.{Function}
use Rattle.swc_ast.specs.declared.expressions.Expr.{Expr}
use Rattle.swc_ast.specs.declared.expressions.FnExpr.{FnExpr}
use Rattle.swc_ast.specs.declared.modules.ExportDecl.{ExportDecl}
use Rattle.swc_ast.specs.declared.modules.ExportDefaultDecl.{ExportDefaultDecl}
use Rattle.swc_ast.specs.declared.modules.ExportDefaultExpr.{ExportDefaultExpr}
use Rattle.swc_ast.specs.declared.modules.ExportNamedSpecifier.{ExportNamedSpecifier}
use Rattle.swc_ast.specs.declared.modules.ImportDecl.{ImportDecl}
use Rattle.swc_ast.specs.declared.modules.ImportSpecifier.{ImportSpecifier}
use Rattle.swc_ast.specs.declared.modules.ImportSpecifier.TheVariants as imports
use Rattle.swc_ast.specs.declared.modules.ModuleDecl.{ModuleDecl}
use Rattle.swc_ast.specs.declared.modules.ModuleDecl.TheVariants as decls
use Rattle.swc_ast.specs.declared.modules.ModuleItem.{ModuleItem}
use Rattle.swc_ast.specs.declared.modules.NamedExport.{NamedExport}
use Rattle.swc_ast.specs.declared.modules.ModuleItem.TheVariants as items
use Rattle.swc_ast.specs.declared.statements.Stmt.{Stmt}
use Rattle.tree_walk.specs.Walks.{Walks, Entered, plain, exported, imports, ListMade, listed, tidied, Whole, whole, AllWalk, Each}
use Rattle.tree_walk.specs.Lists.{ItemsBecame}
use Rattle.tree_walk.specs.StatementParts.{FunctionWalks, DeclWalks, declared}
use Rattle.tree_walk.proofs.Walked.{or_none, or_true, walks_at, entered_at, inside_entered, shallow_inside, one_child, each_list}
use Rattle.tree_walk.specs.Pass.{Pass, is_shallow, are_unvisited}

pub items_then : {X : Pass} (xs ys zs : List ModuleItem) (c d : Bool) (ss : List Span) → Each (λ x y d. Walks X d (item_tree x) (item_tree y)) xs ys c → ItemsBecame X d ys zs → Whole X (c || d) (node tree.Module ss (list_trees item_tree xs)) (node tree.Module ss (list_trees item_tree zs))
items_then {X} xs ys zs c true ss h s = whole refl (subst (λ k. ListMade X tree.Module k (list_trees item_tree xs) (list_trees item_tree zs)) (sym (or_true c)) (tidied (each_list h) s))
items_then {X} xs ys zs c false ss h s = whole refl (subst (λ k. ListMade X tree.Module k (list_trees item_tree xs) (list_trees item_tree zs)) (sym (or_none c)) (listed (subst (λ k. AllWalk X c (list_trees item_tree xs) k) (sym s.0) (each_list h)) s.1))

pub decl_item : {X : Pass} {e : ModuleItem} {n : ModuleDecl} {c : Bool} (a : ModuleDecl) → e ≡ items.ModuleDecl n → Entered X c (module_decl_tree n) (module_decl_tree a) → Entered X c (item_tree e) (item_tree (items.ModuleDecl a))
decl_item a is w = entered_at (ap item_tree is) refl w

pub stmt_item : {X : Pass} {e : ModuleItem} {n : Stmt} {c : Bool} (a : Stmt) → e ≡ items.Stmt n → Walks X c (stmt_tree n) (stmt_tree a) → Walks X c (item_tree e) (item_tree (items.Stmt a))
stmt_item a is w = walks_at (ap item_tree is) refl w

exported_by : {X : Pass} {t u : Tree} {c : Bool} (ss : List Span) → DeclWalks X t u c → Entered X c (node tree.ExportDecl ss (t ⊳ ε)) (node tree.ExportDecl ss (u ⊳ ε))
exported_by ss (declared i e f ws) = entered_at (ap (λ k. node tree.ExportDecl ss (k ⊳ ε)) e) (ap (λ k. node tree.ExportDecl ss (k ⊳ ε)) f) (exported i ws)

pub export_arm : {X : Pass} {e : ModuleDecl} {n : ExportDecl} {c : Bool} (a : Decl) → e ≡ decls.ExportDecl n → DeclWalks X (decl_tree n.decl) (decl_tree a) c → Entered X c (module_decl_tree e) (module_decl_tree (decls.ExportDecl (record n { decl = a })))
export_arm {n = n} a is w = entered_at (ap module_decl_tree is) refl (exported_by (n.span ∷ []) w)

pub default_expr_arm : {X : Pass} {e : ModuleDecl} {n : ExportDefaultExpr} {c : Bool} (a : Box Expr Global) → e ≡ decls.ExportDefaultExpr n → Walks X c (expr_tree n.expr.value) (expr_tree a.value) → Entered X c (module_decl_tree e) (module_decl_tree (decls.ExportDefaultExpr (record n { expr = a })))
default_expr_arm a is w = entered_at (ap module_decl_tree is) refl (plain refl (one_child w))

pub default_fn_arm : {X : Pass} {e : ModuleDecl} {n : ExportDefaultDecl} {c : Bool} (a : FnExpr Function) → e ≡ decls.ExportDefaultDecl n → option_ident_name a.ident ≡ option_ident_name n.decl.ident → option_ident_spans a.ident ≡ option_ident_spans n.decl.ident → FunctionWalks X (function_trees n.decl.function.value) (function_trees a.function.value) c → Entered X c (module_decl_tree e) (module_decl_tree (decls.ExportDefaultDecl (record n { decl = a })))
default_fn_arm {X} {e} {n} {c} a is named spans w =
    let p : FunctionTrees = function_trees a.function.value in
    let kept : export_default_fn_tree (record n { decl = a }) ≡ node (tree.ExportDefaultFn (option_ident_name n.decl.ident)) (n.span ∷ (function_trees n.decl.function.value).own ∷ option_ident_spans n.decl.ident) (p.parameters ⊳ p.body ⊳ ε) = cc (named, spans, w.own) in
    entered_at (ap module_decl_tree is) kept (plain refl w.parts)

import_names : (xs : List ImportSpecifier) → are_unvisited (list_trees import_specifier_tree xs) ≡ true
import_names [] = refl
import_names (imports.Named n ∷ xs) = import_names xs
import_names (imports.Default n ∷ xs) = import_names xs
import_names (imports.Namespace n ∷ xs) = import_names xs

pub import_arm : (X : Pass) {e : ModuleDecl} {n : ImportDecl} → e ≡ decls.Import n → Entered X false (module_decl_tree e) (module_decl_tree e)
import_arm X {e} {n} is = entered_at (ap module_decl_tree is) (ap module_decl_tree is) (imports (import_names n.specifiers.items))

export_names : (xs : List ExportNamedSpecifier) → are_unvisited (list_trees export_specifier_tree xs) ≡ true
export_names [] = refl
export_names (x ∷ xs) = export_names xs

pub export_names_arm : (X : Pass) {e : ModuleDecl} {n : NamedExport} → e ≡ decls.ExportNamed n → Entered X false (module_decl_tree e) (module_decl_tree e)
export_names_arm X {e} {n} is = inside_entered (shallow_inside X (module_decl_tree e) (ap (λ k. is_shallow (module_decl_tree k)) is ∙ export_names n.specifiers.items))
