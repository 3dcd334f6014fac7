-- The tree of an item, by the module declaration that it is.
use Rattle.std.proofs.Common.{◌≡◌, Some, sym, ap}
use Rattle.std.proofs.lemmas.Option.{none-some}
use Rattle.std.specs.Prelude.{unwrap_or}
use Rattle.swc_ast.specs.Modules.{item_tree, module_decl_tree}
use Rattle.swc_ast.specs.declared.modules.ModuleDecl.{ModuleDecl}
use Rattle.swc_ast.specs.declared.modules.ModuleItem.{ModuleItem}
use Rattle.swc_ast.specs.declared.modules.ModuleItem.TheVariants as items
use Rattle.stmt_like.specs.Items.{declaration_of}

pub declared : (i : ModuleItem) (d : ModuleDecl) → Some d ≡ declaration_of i → item_tree i ≡ module_decl_tree d
declared (items.ModuleDecl e) d h = ap module_decl_tree (sym (ap (λ o. unwrap_or o d) h))
declared (items.Stmt s) d h = absurd (none-some d (sym h))
