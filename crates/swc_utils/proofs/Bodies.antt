-- The body of an arrow that is an expression is no block.
use Rattle.std.proofs.Common.{◌≡◌, Bool, true, false, refl, sym, ◌∙◌}
use Rattle.std.proofs.lemmas.Bool.{false≢true}
use Rattle.swc_ast.specs.Tree as tree
use Rattle.swc_ast.specs.Tree.{Tree, node, label_of}
use Rattle.swc_ast.specs.Views.{expr_tree}
use Rattle.swc_ast.specs.SameLaws.{bare-same}
use Rattle.swc_ast.specs.declared.expressions.Expr.{Expr}
use Rattle.swc_ast.proofs.ApartExpressions.{expr_form, no_expr}
use Rattle.swc_utils.specs.Pure.{is_empty_body}

empty_form : (t : Tree) → is_empty_body t ≡ true → expr_form (label_of t) ≡ 0
empty_form (node tree.Body ss ts) h = refl
empty_form (node l ss ts) h = absurd (false≢true h)

block_or_not : (e : Expr) (b : Bool) → is_empty_body (expr_tree e) ≡ b → false ≡ b
block_or_not e true h = no_expr false (expr_tree e) e (empty_form (expr_tree e) h) ∙ bare-same _ _ refl
block_or_not e false h = refl

pub no_block : (e : Expr) → is_empty_body (expr_tree e) ≡ false
no_block e = sym (block_or_not e (is_empty_body (expr_tree e)) refl)
