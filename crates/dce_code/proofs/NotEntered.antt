-- Lists that are not entered.
use Rattle.std.proofs.Common.{◌≡◌, ◌≤◌, true, ◌&&◌, ◌||◌, List, [], ◌∷◌, Some, length, get_or, sym, ap, ap₂, ◌∙◌, arith}
use Rattle.swc_ast.specs.declared.Span.{Span}
use Rattle.swc_ast.specs.declared.statements.Stmt.{Stmt}
use Rattle.swc_ast.specs.declared.modules.ModuleItem.{ModuleItem}
use Rattle.swc_ast.specs.Modules.{item_tree}
use Rattle.swc_ast.specs.Reach.{is_asm}
use Rattle.swc_ast.specs.Redex.{is_delete}
use Rattle.swc_ast.specs.Reach.{is_default_function}
use Rattle.swc_ast.specs.Tree.{Label, Tree, node, Forest, ◌⊳◌}
use Rattle.swc_ast.specs.Views.{stmt_tree}
use Rattle.swc_ast.specs.Weight.{is_list}
use Rattle.stmt_like.specs.Items.{statement_of}
use Rattle.dce_rules.specs.Shakes.{is_shut, is_head_alone}
use Rattle.dce_code.specs.Lists.{trees}
use Rattle.dce_code.proofs.Items.{same_tree}

-- a list whose first statement is the directive
pub shut_by : (l : Label) (ss : List Span) (t : Tree) (ts : Forest) → is_list l ≡ true → is_asm t ≡ true → is_shut (node l ss (t ⊳ ts)) ≡ true
shut_by l ss t ts h a = ap₂ (λ b c. ((b && c) || (is_delete l || is_default_function l)) || is_head_alone l (t ⊳ ts)) h a

pub shut_by_first : {X : Type 0} (f : X → ModuleItem) (xs : List X) (x : X) (s : Stmt) → 1 ≤ length xs → x ≡ get_or xs 0 x → Some s ≡ statement_of (f x) → is_asm (stmt_tree s) ≡ true → (l : Label) → is_list l ≡ true → (ss : List Span) → is_shut (node l ss (trees f xs)) ≡ true
shut_by_first f [] x s h e i a l j ss = absurd (omega (arith, h))
shut_by_first f (y ∷ ys) x s h e i a l j ss = shut_by l ss (item_tree (f y)) (trees f ys) j (ap is_asm (ap (λ z. item_tree (f z)) (sym e) ∙ same_tree (f x) s i) ∙ a)
