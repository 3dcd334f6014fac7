-- The views of the syntax tree are shaped: their nodes have their signatures.
use Rattle.std.proofs.Common.{◌≡◌, true, refl}
use Rattle.std.proofs.lemmas.Bool.{and_parts, and_from}
use Rattle.std.specs.Prelude.{List, [], ◌∷◌}
use Rattle.swc_ast.specs.Tree as tree
use Rattle.swc_ast.specs.Tree.{Tree, node, Forest, ε, ◌⊳◌}
use Rattle.swc_ast.specs.Parts.{list_trees}
use Rattle.swc_ast.specs.Views.{expr_tree, stmt_tree}
use Rattle.swc_ast.specs.Modules.{item_tree, module_tree, script_tree}
use Rattle.swc_ast.specs.declared.Span.{Span}
use Rattle.swc_ast.specs.declared.expressions.Expr.{Expr}
use Rattle.swc_ast.specs.declared.modules.Module.{Module}
use Rattle.swc_ast.specs.declared.modules.Script.{Script}
use Rattle.swc_ast.specs.declared.modules.ModuleItem.{ModuleItem}
use Rattle.swc_ast.specs.declared.statements.Stmt.{Stmt}
use Rattle.static_proofs.specs.Shaped.{is_inner, is_statement, labels_of, holds, is_shaped, are_shaped, IsShaped}
use Rattle.static_proofs.specs.Signature.{signed, is_signed, are_signed}
use Rattle.static_proofs.proofs.ShapedParts.{Good}
use Rattle.static_proofs.proofs.SignedViews.{expr_signed, stmt_signed, items_signed, module_signed, script_signed}

mutual
  shaped_of : (t : Tree) → is_signed t ≡ true → is_shaped t ≡ true
  shaped_of (node l ss cs) e = let p = and_parts (signed l ss cs) (are_signed cs) e in and_from (holds l (labels_of cs)) (are_shaped cs) (and_parts (holds l (labels_of cs)) _ p.0).0 (all_shaped_of cs p.1)

  all_shaped_of : (ts : Forest) → are_signed ts ≡ true → are_shaped ts ≡ true
  all_shaped_of ε e = refl
  all_shaped_of (t ⊳ ts) e = let p = and_parts (is_signed t) (are_signed ts) e in and_from (is_shaped t) (are_shaped ts) (shaped_of t p.0) (all_shaped_of ts p.1)

pub expr_shaped : (e : Expr) → Good is_inner (expr_tree e)
expr_shaped e = record { stands = (expr_signed e).stands; shaped = shaped_of (expr_tree e) (expr_signed e).signed }

pub stmt_shaped : (s : Stmt) → Good is_statement (stmt_tree s)
stmt_shaped s = record { stands = (stmt_signed s).stands; shaped = shaped_of (stmt_tree s) (stmt_signed s).signed }

-- items of a module, in a row
pub items_shaped : (s : Span) (xs : List ModuleItem) → IsShaped (node tree.Module (s ∷ []) (list_trees item_tree xs))
items_shaped s xs = record { shaped = shaped_of (node tree.Module (s ∷ []) (list_trees item_tree xs)) (items_signed s xs) }

pub module_shaped : (m : Module) → IsShaped (module_tree m)
module_shaped m = record { shaped = shaped_of (module_tree m) (module_signed m) }

pub script_shaped : (s : Script) → IsShaped (script_tree s)
script_shaped s = record { shaped = shaped_of (script_tree s) (script_signed s) }
