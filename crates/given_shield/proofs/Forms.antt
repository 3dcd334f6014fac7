-- What a view of an expression is not, by the expression's form.
use Rattle.std.proofs.Common.{◌≡◌, ℕ, pos, zero, false, refl, sym, ap, ◌∙◌, ◌==◌, ◌∷◌, []}
use Rattle.std.proofs.lemmas.Bool.{true≢false}
use Rattle.swc_ast.specs.Parts.{list_trees}
use Rattle.swc_ast.specs.Tree as tree
use Rattle.swc_ast.specs.Tree.{Tree, node, ε, ◌⊳◌, label_of}
use Rattle.swc_ast.specs.Views.{expr_tree}
use Rattle.swc_ast.specs.declared.declarations.Decl.TheOpen as Open
use Rattle.swc_ast.specs.declared.declarations.Decl.TheViews.{roll-Expr, out-Expr, roll-out-Expr}
use Rattle.swc_ast.specs.declared.expressions.Expr.{Expr}
use Rattle.swc_ast.specs.declared.expressions.Expr.TheVariants as in_expr
use Rattle.swc_ast.specs.declared.expressions.SeqExpr.{SeqExpr}
use Rattle.swc_ast.specs.declared.literals.Lit.TheVariants as lit
use Rattle.swc_ast.proofs.ApartExpressions.{expr_form, ExprForm, expr_number, expr_at}
use Rattle.swc_ast.proofs.Equations.{expr_tree-Seq, expr_tree-Lit}
use Rattle.given_shield.specs.Shield.{is_bare_callee, is_bare_operand, nowhere, guarded}

form_of : (p : ExprForm) (e : Expr) → roll-Expr p ≡ e → expr_form (label_of (expr_tree e)) ≡ expr_number p
form_of p e r = ap (λ x. expr_form (label_of (expr_tree x))) (sym r) ∙ expr_at p

-- neither a member nor a name

no_callee : (t : Tree) (n : ℕ) → expr_form (label_of t) ≡ n → (n == 9) ≡ false → (n == 14) ≡ false → false ≡ is_bare_callee t
no_callee (node (tree.Dot k) ss cs) n h j k' = absurd (true≢false (ap (λ m. m == 9) h ∙ j))
no_callee (node tree.Index ss cs) n h j k' = absurd (true≢false (ap (λ m. m == 9) h ∙ j))
no_callee (node (tree.Read x) ss cs) n h j k' = absurd (true≢false (ap (λ m. m == 14) h ∙ k'))
no_callee (node l ss cs) n h j k' = refl

pub other_callee : (e : Expr) → ((n : _) → e ≡ in_expr.Member n → ⊥) → ((n : _) → e ≡ in_expr.Ident n → ⊥) → false ≡ is_bare_callee (expr_tree e)
other_callee e f g = by (out-Expr e) (roll-out-Expr e)
  where
    by : (p : ExprForm) → roll-Expr p ≡ e → false ≡ is_bare_callee (expr_tree e)
    by (Open.Member n) r = absurd (f n (sym r ∙ in_expr.rolls-Member n))
    by (Open.Ident n) r = absurd (g n (sym r ∙ in_expr.rolls-Ident n))
    by p r = no_callee (expr_tree e) (expr_number p) (form_of p e r) refl refl

no_operand : (t : Tree) (n : ℕ) → expr_form (label_of t) ≡ n → (n == 14) ≡ false → false ≡ is_bare_operand t
no_operand (node (tree.Read x) ss cs) n h k = absurd (true≢false (ap (λ m. m == 14) h ∙ k))
no_operand (node l ss cs) n h k = refl

pub other_operand : (e : Expr) → ((n : _) → e ≡ in_expr.Ident n → ⊥) → false ≡ is_bare_operand (expr_tree e)
other_operand e g = by (out-Expr e) (roll-out-Expr e)
  where
    by : (p : ExprForm) → roll-Expr p ≡ e → false ≡ is_bare_operand (expr_tree e)
    by (Open.Ident n) r = absurd (g n (sym r ∙ in_expr.rolls-Ident n))
    by p r = no_operand (expr_tree e) (expr_number p) (form_of p e r) refl

-- `(0, e)`
pub guarded_at : (e : Expr) (n : SeqExpr Expr) → n.span ≡ nowhere → n.exprs.items ≡ in_expr.Lit (lit.Num (record { span = nowhere; value = pos zero })) ∷ e ∷ [] → expr_tree (in_expr.Seq n) ≡ guarded (expr_tree e)
guarded_at e n s items =
    expr_tree-Seq n
    ∙ ap (λ r. node tree.Seq (r ∷ []) (list_trees expr_tree n.exprs.items)) s
    ∙ ap (λ xs. node tree.Seq (nowhere ∷ []) (list_trees expr_tree xs)) items
    ∙ ap (λ z. node tree.Seq (nowhere ∷ []) (z ⊳ expr_tree e ⊳ ε)) (expr_tree-Lit (lit.Num (record { span = nowhere; value = pos zero })))
