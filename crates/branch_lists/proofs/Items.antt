-- Items of modules by the statement that they are, if they are one.
use Rattle.std.proofs.Common.{◌≡◌, true, false, Some, None, refl, sym, ap}
use Rattle.std.proofs.lemmas.Option.{none-some}
use Rattle.std.specs.Prelude.{unwrap_or}
use Rattle.swc_ast.specs.Modules.{item_tree, module_decl_tree}
use Rattle.swc_ast.specs.Redex.{is_loose}
use Rattle.swc_ast.specs.Views.{stmt_tree}
use Rattle.swc_ast.specs.Weight.{is_stopper, stays_behind}
use Rattle.swc_ast.specs.declared.modules.ModuleDecl.{ModuleDecl}
use Rattle.swc_ast.specs.declared.modules.ModuleDecl.TheVariants as decls
use Rattle.swc_ast.specs.declared.modules.ModuleItem.{ModuleItem}
use Rattle.swc_ast.specs.declared.modules.ModuleItem.TheVariants as items
use Rattle.swc_ast.specs.declared.statements.Stmt.{Stmt}
use Rattle.stmt_like.specs.Items.{statement_of}

pub same_tree : (x : ModuleItem) (s : Stmt) → Some s ≡ statement_of x → item_tree x ≡ stmt_tree s
same_tree (items.Stmt u) s h = ap stmt_tree (sym (ap (λ o. unwrap_or o s) h))
same_tree (items.ModuleDecl d) s h = absurd (none-some s (sym h))

pub loose_decl : (d : ModuleDecl) → is_loose (module_decl_tree d) ≡ false
loose_decl (decls.Import n) = refl
loose_decl (decls.ExportDecl n) = refl
loose_decl (decls.ExportNamed n) = refl
loose_decl (decls.ExportDefaultDecl n) = refl
loose_decl (decls.ExportDefaultExpr n) = refl

pub not_loose : (x : ModuleItem) → None ≡ statement_of x → is_loose (item_tree x) ≡ false
not_loose (items.Stmt u) h = absurd (none-some u h)
not_loose (items.ModuleDecl d) h = loose_decl d

stopper_at : (d : ModuleDecl) → is_stopper (module_decl_tree d) ≡ false
stopper_at (decls.Import n) = refl
stopper_at (decls.ExportDecl n) = refl
stopper_at (decls.ExportNamed n) = refl
stopper_at (decls.ExportDefaultDecl n) = refl
stopper_at (decls.ExportDefaultExpr n) = refl

pub no_stopper : (x : ModuleItem) → None ≡ statement_of x → is_stopper (item_tree x) ≡ false
no_stopper (items.Stmt u) h = absurd (none-some u h)
no_stopper (items.ModuleDecl d) h = stopper_at d

pub stays_at : (d : ModuleDecl) → stays_behind (module_decl_tree d) ≡ true
stays_at (decls.Import n) = refl
stays_at (decls.ExportDecl n) = refl
stays_at (decls.ExportNamed n) = refl
stays_at (decls.ExportDefaultDecl n) = refl
stays_at (decls.ExportDefaultExpr n) = refl

pub declaration_stays : (x : ModuleItem) → None ≡ statement_of x → stays_behind (item_tree x) ≡ true
declaration_stays (items.Stmt u) h = absurd (none-some u h)
declaration_stays (items.ModuleDecl d) h = stays_at d
