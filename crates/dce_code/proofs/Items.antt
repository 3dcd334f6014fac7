-- Items of modules by what they are.
use Rattle.std.proofs.Common.{◌≡◌, false, Some, None, sym, ap}
use Rattle.std.proofs.lemmas.Option.{none-some}
use Rattle.std.specs.Prelude.{unwrap_or}
use Rattle.swc_ast.specs.Modules.{item_tree, module_decl_tree}
use Rattle.swc_ast.specs.Views.{stmt_tree}
use Rattle.swc_ast.specs.declared.modules.ModuleDecl.{ModuleDecl}
use Rattle.swc_ast.specs.declared.modules.ModuleItem.{ModuleItem}
use Rattle.swc_ast.specs.declared.modules.ModuleItem.TheVariants as items
use Rattle.swc_ast.specs.declared.statements.Stmt.{Stmt}
use Rattle.stmt_like.specs.Items.{statement_of, declaration_of}
use Rattle.dce_rules.specs.Shakes.{Shaker, item_goes}

pub same_tree : (x : ModuleItem) (s : Stmt) → Some s ≡ statement_of x → item_tree x ≡ stmt_tree s
same_tree (items.Stmt u) s h = ap stmt_tree (sym (ap (λ o. unwrap_or o s) h))
same_tree (items.ModuleDecl d) s h = absurd (none-some s (sym h))

pub declared_tree : (x : ModuleItem) (d : ModuleDecl) → Some d ≡ declaration_of x → item_tree x ≡ module_decl_tree d
declared_tree (items.Stmt u) d h = absurd (none-some d (sym h))
declared_tree (items.ModuleDecl e) d h = ap module_decl_tree (sym (ap (λ o. unwrap_or o d) h))

-- there is no third
pub no_item : (S : Shaker) (x : ModuleItem) → None ≡ statement_of x → None ≡ declaration_of x → item_goes S (item_tree x) ≡ false
no_item S (items.Stmt u) h k = absurd (none-some u h)
no_item S (items.ModuleDecl e) h k = absurd (none-some e k)
