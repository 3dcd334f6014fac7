-- Modules and their items, once their parts are walked.
use Rattle.std.proofs.Common.{◌≡◌, refl, sym, ap, ◌∙◌, [], ◌∷◌}
use Rattle.std.specs.declared.alloc.Global.{Global}
use Rattle.std.specs.declared.boxed.Box.{Box}
use Rattle.std.specs.declared.vec.Vec.{Vec}
use Rattle.swc_ast.specs.Tree as tree
use Rattle.swc_ast.specs.Tree.{Label, node}
use Rattle.swc_ast.specs.Parts.{list_trees, option_ident_name, option_ident_spans}
use Rattle.swc_ast.specs.Modules.{item_tree, module_decl_tree, import_tree, export_specifier_tree, export_default_fn_tree, module_tree, script_tree}
use Rattle.swc_ast.specs.Views.{decl_tree, expr_tree, stmt_tree, function_trees}
use Rattle.swc_ast.specs.declared.declarations.Decl.{Decl}
use Rattle.swc_ast.specs.declared.declarations.Function.{Function}
use Rattle.swc_ast.specs.declared.expressions.Expr.{Expr}
use Rattle.swc_ast.specs.declared.modules.ExportDecl.{ExportDecl}
use Rattle.swc_ast.specs.declared.modules.ExportDefaultDecl.{ExportDefaultDecl}
use Rattle.swc_ast.specs.declared.modules.ExportDefaultExpr.{ExportDefaultExpr}
use Rattle.swc_ast.specs.declared.modules.ExportNamedSpecifier.{ExportNamedSpecifier}
use Rattle.swc_ast.specs.declared.modules.ImportDecl.{ImportDecl}
use Rattle.swc_ast.specs.declared.modules.Module.{Module}
use Rattle.swc_ast.specs.declared.modules.Script.{Script}
use Rattle.swc_ast.specs.declared.modules.ModuleDecl.{ModuleDecl}
use Rattle.swc_ast.specs.declared.modules.ModuleDecl.TheVariants as decls
use Rattle.swc_ast.specs.declared.modules.ModuleItem.{ModuleItem}
use Rattle.swc_ast.specs.declared.modules.ModuleItem.TheVariants as items
use Rattle.swc_ast.specs.declared.modules.NamedExport.{NamedExport}
use Rattle.swc_ast.specs.declared.statements.Stmt.{Stmt}
use Rattle.tree_put.specs.Put.{around, under}
use Rattle.tree_put.specs.Puts.{Puts}
use Rattle.tree_put.specs.Scopes.{function_forest}
use Rattle.tree_put.specs.Walks.{Makes, EachGoes, FunctionGoes}
use Rattle.tree_put.specs.declared.rules.Spot.TheVariants as spot
use Rattle.tree_put.proofs.Putting.{one, parts, plain, passed, put_at, in_scope, each_list}

pub decl_item : {S : Type 0} {X : Puts S} {s t : S} {e : ModuleItem} {n : ModuleDecl} (a : ModuleDecl) → e ≡ items.ModuleDecl n → Makes X (module_decl_tree n) s spot.Here (module_decl_tree a) t → Makes X (item_tree e) s spot.Here (item_tree (items.ModuleDecl a)) t
decl_item a is w = put_at (ap item_tree is) refl w

pub stmt_item : {S : Type 0} {X : Puts S} {s t : S} {e : ModuleItem} {n : Stmt} (a : Stmt) → e ≡ items.Stmt n → Makes X (stmt_tree n) s spot.Here (stmt_tree a) t → Makes X (item_tree e) s spot.Here (item_tree (items.Stmt a)) t
stmt_item a is w = put_at (ap item_tree is) refl w

pub import_arm : {S : Type 0} (X : Puts S) (s : S) {e : ModuleDecl} {n : ImportDecl} → e ≡ decls.Import n → Makes X (module_decl_tree e) s spot.Here (module_decl_tree e) s
unfolding around
import_arm X s {e} {n} is = put_at (ap module_decl_tree is) (ap module_decl_tree is) (record { is = passed X (import_tree n) s spot.Here refl })

pub export_arm : {S : Type 0} {X : Puts S} {s t : S} {e : ModuleDecl} {n : ExportDecl} (a : Decl) → e ≡ decls.ExportDecl n → Makes X (decl_tree n.decl) s spot.Here (decl_tree a) t → Makes X (module_decl_tree e) s spot.Here (module_decl_tree (decls.ExportDecl (record n { decl = a }))) t
export_arm a is w = put_at (ap module_decl_tree is) refl (plain refl refl (one w))

pub named_arm : {S : Type 0} {X : Puts S} {s t : S} {e : ModuleDecl} {n : NamedExport} (ys : Vec ExportNamedSpecifier Global) → e ≡ decls.ExportNamed n → EachGoes X export_specifier_tree s n.specifiers.items ys.items t → Makes X (module_decl_tree e) s spot.Here (module_decl_tree (decls.ExportNamed (record n { specifiers = ys }))) t
named_arm ys is w = put_at (ap module_decl_tree is) refl (plain refl refl (each_list w))

pub specifier_goes : {S : Type 0} {X : Puts S} {s t : S} (a b : ExportNamedSpecifier) → X.exports s (export_specifier_tree a) ≡ (export_specifier_tree b, t) → Makes X (export_specifier_tree a) s spot.Here (export_specifier_tree b) t
unfolding around
specifier_goes {S} {X} {s} {t} a b h = record { is = passed X (export_specifier_tree a) s spot.Here refl ∙ h }

pub default_expr_arm : {S : Type 0} {X : Puts S} {s t : S} {e : ModuleDecl} {n : ExportDefaultExpr} (a : Box Expr Global) → e ≡ decls.ExportDefaultExpr n → Makes X (expr_tree n.expr.value) s spot.Here (expr_tree a.value) t → Makes X (module_decl_tree e) s spot.Here (module_decl_tree (decls.ExportDefaultExpr (record n { expr = a }))) t
default_expr_arm a is w = put_at (ap module_decl_tree is) refl (plain refl refl (one w))

pub default_fn_arm : {S : Type 0} {X : Puts S} {s q r t : S} {e : ModuleDecl} {n : ExportDefaultDecl} (b : Box Function Global) → e ≡ decls.ExportDefaultDecl n → X.opens s (tree.Fn (option_ident_name n.decl.ident)) (function_forest (function_trees n.decl.function.value)) ≡ q → FunctionGoes X q (function_trees n.decl.function.value) (function_trees b.value) r → X.closes r ≡ t → Makes X (module_decl_tree e) s spot.Here (module_decl_tree (decls.ExportDefaultDecl (record n { decl = record n.decl { function = b } }))) t
unfolding around
default_fn_arm {S} {X} {s} {q} {r} {t} {e} {n} b is o w c =
    let l : Label = tree.ExportDefaultFn (option_ident_name n.decl.ident) in
    let ss = option_ident_spans n.decl.ident in
    put_at (ap module_decl_tree is) refl (record {
      is = passed X (export_default_fn_tree n) s spot.Here refl
          ∙ ap (under l (n.span ∷ (function_trees n.decl.function.value).own ∷ ss)) (in_scope {l = tree.Fn (option_ident_name n.decl.ident)} o w.parts c).is
          ∙ ap (λ k. (node l (n.span ∷ k ∷ ss) (function_forest (function_trees b.value)), t)) (sym w.own);
    })

pub module_made : {S : Type 0} {X : Puts S} {s q r t : S} (n : Module) (ys : Vec ModuleItem Global) → X.opens s tree.Module (list_trees item_tree n.body.items) ≡ q → EachGoes X item_tree q n.body.items ys.items r → X.closes r ≡ t → Makes X (module_tree n) s spot.Here (module_tree (record n { body = ys })) t
unfolding around
module_made {S} {X} {s} n ys o w c = record { is = passed X (module_tree n) s spot.Here refl ∙ ap (under tree.Module (n.span ∷ [])) (in_scope {l = tree.Module} o (each_list w) c).is }

pub script_made : {S : Type 0} {X : Puts S} {s q r t : S} (n : Script) (ys : Vec Stmt Global) → X.opens s tree.Script (list_trees stmt_tree n.body.items) ≡ q → EachGoes X stmt_tree q n.body.items ys.items r → X.closes r ≡ t → Makes X (script_tree n) s spot.Here (script_tree (record n { body = ys })) t
unfolding around
script_made {S} {X} {s} n ys o w c = record { is = passed X (script_tree n) s spot.Here refl ∙ ap (under tree.Script (n.span ∷ [])) (in_scope {l = tree.Script} o (each_list w) c).is }
