-- What a view of an expression is not, by the expression's form.
use Rattle.std.proofs.Common.{◌≡◌, ◌<◌, ◌≤◌, ℕ, pos, zero, Bool, true, false, not, if◌then◌else◌, refl, sym, ap, ◌∙◌, ◌==◌, subst, List, length, ◌∷◌, [], arith}
use Rattle.std.proofs.lemmas.Bool.{true≢false}
use Rattle.swc_ast.specs.Expressions.{unary_node, param_tree}
use Rattle.swc_ast.specs.Parts.{leaf, ident_name, list_trees}
use Rattle.swc_ast.specs.Redex.{is_zero, is_delete}
use Rattle.swc_ast.specs.Tree as tree
use Rattle.swc_ast.specs.Tree.{Tree, node, ε, ◌⊳◌, label_of}
use Rattle.swc_ast.specs.Views.{expr_tree}
use Rattle.swc_ast.specs.declared.Span.{Span}
use Rattle.swc_ast.specs.declared.UnaryOp.{UnaryOp}
use Rattle.swc_ast.specs.declared.UnaryOp.TheVariants as op
use Rattle.swc_ast.specs.declared.declarations.AssignPat.{AssignPat}
use Rattle.swc_ast.specs.declared.declarations.Decl.TheOpen as Open
use Rattle.swc_ast.specs.declared.declarations.Decl.TheViews.{roll-Expr, out-Expr, roll-out-Expr}
use Rattle.swc_ast.specs.declared.declarations.Pat.{Pat}
use Rattle.swc_ast.specs.declared.declarations.Pat.TheVariants as pat
use Rattle.swc_ast.specs.declared.expressions.Expr.{Expr}
use Rattle.swc_ast.specs.declared.expressions.Expr.TheVariants as in_expr
use Rattle.swc_ast.specs.declared.expressions.UnaryExpr.{UnaryExpr}
use Rattle.swc_ast.specs.declared.expressions.SeqExpr.{SeqExpr}
use Rattle.swc_ast.specs.declared.literals.Lit.TheVariants as lit
use Rattle.swc_ast.specs.declared.names.Ident.{Ident}
use Rattle.swc_ast.proofs.ApartExpressions.{expr_form, ExprForm, expr_number, expr_at}
use Rattle.swc_ast.proofs.Equations.{expr_tree-Unary, expr_tree-Seq, expr_tree-Lit}
use Rattle.swc_utils.specs.Globals.{is_undefined}
use Rattle.swc_utils.specs.Pure.{pure}
use Rattle.tree_walk.specs.Parts.{stands_alone}
use Rattle.tree_walk.specs.declared.rules.Place.{Place}
use Rattle.pass_rules.specs.Defaults.{is_void}
use Rattle.pass_rules.specs.Leaves.{guarded}
use Rattle.pass_places.specs.Places.{is_shielding, is_shield, nowhere, shielded}
use Rattle.pass_places.specs.Dropped.{Dropped, dropped, has_void_default}

form_of : (p : ExprForm) (e : Expr) → roll-Expr p ≡ e → expr_form (label_of (expr_tree e)) ≡ expr_number p
form_of p e r = ap (λ x. expr_form (label_of (expr_tree x))) (sym r) ∙ expr_at p

-- no literal is 0 but a literal

no_zero : (t : Tree) (n : ℕ) → expr_form (label_of t) ≡ n → (n == 15) ≡ false → false ≡ is_zero t
no_zero (node (tree.NumLit z) ss cs) n h k = absurd (true≢false (ap (λ m. m == 15) h ∙ k))
no_zero (node l ss cs) n h k = refl

pub other_zero : (e : Expr) → ((n : _) → e ≡ in_expr.Lit n → ⊥) → false ≡ is_zero (expr_tree e)
other_zero e others = by (out-Expr e) (roll-out-Expr e)
  where
    by : (p : ExprForm) → roll-Expr p ≡ e → false ≡ is_zero (expr_tree e)
    by (Open.Lit n) r = absurd (others n (sym r ∙ in_expr.rolls-Lit n))
    by p r = no_zero (expr_tree e) (expr_number p) (form_of p e r) refl

-- no `(0, e)` but a sequence

no_shield : (q : Place) (t : Tree) (n : ℕ) → expr_form (label_of t) ≡ n → (n == 13) ≡ false → false ≡ is_shield q t
no_shield q (node tree.Seq ss cs) n h k = absurd (true≢false (ap (λ m. m == 13) h ∙ k))
no_shield q (node l ss cs) n h k = refl

pub other_shield : (q : Place) (e : Expr) → ((n : _) → e ≡ in_expr.Seq n → ⊥) → false ≡ is_shield q (expr_tree e)
other_shield q e others = by (out-Expr e) (roll-out-Expr e)
  where
    by : (p : ExprForm) → roll-Expr p ≡ e → false ≡ is_shield q (expr_tree e)
    by (Open.Seq n) r = absurd (others n (sym r ∙ in_expr.rolls-Seq n))
    by p r = no_shield q (expr_tree e) (expr_number p) (form_of p e r) refl

-- `void` and no other operator

not_unary : (e : Expr) → ((n : _) → e ≡ in_expr.Unary n → ⊥) → (expr_form (label_of (expr_tree e)) == 5) ≡ false
not_unary e others = by (out-Expr e) (roll-out-Expr e)
  where
    by : (p : ExprForm) → roll-Expr p ≡ e → (expr_form (label_of (expr_tree e)) == 5) ≡ false
    by (Open.Unary n) r = absurd (others n (sym r ∙ in_expr.rolls-Unary n))
    by p r = ap (λ m. m == 5) (form_of p e r)

no_void : (mark : ℕ) (t : Tree) → (expr_form (label_of t) == 5) ≡ false → is_undefined mark t ≡ is_void mark t
no_void mark (node (tree.Unary o) ss cs) h = absurd (true≢false h)
no_void mark (node l ss cs) h = refl

pub other_void : (mark : ℕ) (e : Expr) → ((n : _) → e ≡ in_expr.Unary n → ⊥) → is_undefined mark (expr_tree e) ≡ is_void mark (expr_tree e)
other_void mark e others = no_void mark (expr_tree e) (not_unary e others)

void_is : (mark : ℕ) (s : Span) (t : Tree) → is_void mark (unary_node op.Void s t) ≡ pure mark t
unfolding unary_node
void_is mark s t = refl

void_of : (mark : ℕ) (o : UnaryOp) (s : Span) (t : Tree) → o ≡ op.Void → is_void mark (unary_node o s t) ≡ pure mark t
void_of mark o s t h = ap (λ k. is_void mark (unary_node k s t)) h ∙ void_is mark s t

double : (b : Bool) → not (not b) ≡ b
double true = refl
double false = refl

pub void_at : (mark : ℕ) (e : Expr) (n : UnaryExpr Expr) (b : Bool) → e ≡ in_expr.Unary n → n.op ≡ op.Void → b ≡ not (pure mark (expr_tree n.arg.value)) → not b ≡ is_void mark (expr_tree e)
void_at mark e n b is h k = ap not k ∙ double (pure mark (expr_tree n.arg.value)) ∙ sym (ap (λ x. is_void mark (expr_tree x)) is ∙ ap (is_void mark) (expr_tree-Unary n) ∙ void_of mark n.op n.span (expr_tree n.arg.value) h)

other_operator : (mark : ℕ) (o : UnaryOp) (s : Span) (t : Tree) → (o ≡ op.Void → ⊥) → is_void mark (unary_node o s t) ≡ false
unfolding unary_node
other_operator mark op.Void s t h = absurd (h refl)
other_operator mark op.TypeOf s (node (tree.Read x) ss cs) h = refl
other_operator mark op.TypeOf s (node l ss cs) h = refl
other_operator mark op.Minus s t h = refl
other_operator mark op.Plus s t h = refl
other_operator mark op.Bang s t h = refl
other_operator mark op.Tilde s t h = refl
other_operator mark op.Delete s t h = refl

pub void_not_at : (mark : ℕ) (e : Expr) (n : UnaryExpr Expr) → e ≡ in_expr.Unary n → (n.op ≡ op.Void → ⊥) → false ≡ is_void mark (expr_tree e)
void_not_at mark e n is h = sym (ap (λ x. is_void mark (expr_tree x)) is ∙ ap (is_void mark) (expr_tree-Unary n) ∙ other_operator mark n.op n.span (expr_tree n.arg.value) h)

-- a parameter without its default
pub without_default : (mark : ℕ) (p : Pat Expr) (n : AssignPat Expr) (x : Ident) → p ≡ pat.Assign n → x ≡ n.left → is_void mark (expr_tree n.right.value) ≡ true → Dropped mark (param_tree expr_tree p) (leaf (tree.Param (ident_name x)) x.span)
without_default mark p n x is same h = subst (λ q. Dropped mark (param_tree expr_tree q) (leaf (tree.Param (ident_name x)) x.span)) (sym is) (subst (λ y. Dropped mark (param_tree expr_tree (pat.Assign n)) (leaf (tree.Param (ident_name y)) y.span)) (sym same) (dropped _ _ _ _ h))

-- a parameter with a default
pub default_told : (mark : ℕ) (p : Pat Expr) (n : AssignPat Expr) (b : Bool) → p ≡ pat.Assign n → is_void mark (expr_tree n.right.value) ≡ b → b ≡ has_void_default mark (param_tree expr_tree p)
default_told mark p n b is h = sym (ap (λ q. has_void_default mark (param_tree expr_tree q)) is ∙ h)

-- a sequence of two items alone shields
pub short_list : (p : Place) (xs : List Expr) → length xs < 2 → false ≡ is_shielding p (list_trees expr_tree xs)
short_list p [] h = refl
short_list p (x ∷ []) h = refl
short_list p (x ∷ y ∷ xs) h = absurd (omega (arith, h))

pub long_list : (p : Place) (xs : List Expr) → 3 ≤ length xs → false ≡ is_shielding p (list_trees expr_tree xs)
long_list p [] h = absurd (omega (arith, h))
long_list p (x ∷ []) h = absurd (omega (arith, h))
long_list p (x ∷ y ∷ []) h = absurd (omega (arith, h))
long_list p (x ∷ y ∷ z ∷ xs) h = refl

-- `(0, e)`
pub guarded_at : (e : Expr) (n : SeqExpr Expr) → n.span ≡ nowhere → n.exprs.items ≡ in_expr.Lit (lit.Num (record { span = nowhere; value = pos zero })) ∷ e ∷ [] → expr_tree (in_expr.Seq n) ≡ guarded (nowhere ∷ []) (nowhere ∷ []) (expr_tree e)
guarded_at e n s items =
    expr_tree-Seq n
    ∙ ap (λ r. node tree.Seq (r ∷ []) (list_trees expr_tree n.exprs.items)) s
    ∙ ap (λ xs. node tree.Seq (nowhere ∷ []) (list_trees expr_tree xs)) items
    ∙ ap (λ z. node tree.Seq (nowhere ∷ []) (z ⊳ expr_tree e ⊳ ε)) (expr_tree-Lit (lit.Num (record { span = nowhere; value = pos zero })))

-- where the expression by itself would mean something else
pub shielded_at : (p : Place) (t u : Tree) → stands_alone p t ≡ false → u ≡ guarded (nowhere ∷ []) (nowhere ∷ []) t → u ≡ shielded p t
shielded_at p t u h is = is ∙ sym (ap (λ b. if b then t else guarded (nowhere ∷ []) (nowhere ∷ []) t) h)

-- `delete` and no other operator

unary_label : (n : UnaryExpr Expr) (e : Expr) → e ≡ in_expr.Unary n → is_delete (label_of (expr_tree e)) ≡ is_delete (label_of (unary_node n.op n.span (expr_tree n.arg.value)))
unary_label n e h = ap (λ t. is_delete (label_of t)) (ap expr_tree h ∙ expr_tree-Unary n)

delete_is : (s : Span) (t : Tree) → is_delete (label_of (unary_node op.Delete s t)) ≡ true
unfolding unary_node
delete_is s t = refl

pub delete_at : (n : UnaryExpr Expr) (e : Expr) → e ≡ in_expr.Unary n → n.op ≡ op.Delete → true ≡ is_delete (label_of (expr_tree e))
delete_at n e h i = sym (unary_label n e h ∙ ap (λ o. is_delete (label_of (unary_node o n.span (expr_tree n.arg.value)))) i ∙ delete_is n.span (expr_tree n.arg.value))

not_delete : (o : UnaryOp) (s : Span) (t : Tree) → (o ≡ op.Delete → ⊥) → is_delete (label_of (unary_node o s t)) ≡ false
unfolding unary_node
not_delete op.Delete s t h = absurd (h refl)
not_delete op.TypeOf s (node (tree.Read x) ss cs) h = refl
not_delete op.TypeOf s (node l ss cs) h = refl
not_delete op.Minus s t h = refl
not_delete op.Plus s t h = refl
not_delete op.Bang s t h = refl
not_delete op.Tilde s t h = refl
not_delete op.Void s t h = refl

pub delete_not_at : (n : UnaryExpr Expr) (e : Expr) → e ≡ in_expr.Unary n → (n.op ≡ op.Delete → ⊥) → false ≡ is_delete (label_of (expr_tree e))
delete_not_at n e h i = sym (unary_label n e h ∙ not_delete n.op n.span (expr_tree n.arg.value) i)

no_delete : (t : Tree) → (expr_form (label_of t) == 5) ≡ false → false ≡ is_delete (label_of t)
no_delete (node (tree.Unary o) ss cs) h = absurd (true≢false h)
no_delete (node l ss cs) h = refl

pub other_delete : (e : Expr) → ((n : _) → e ≡ in_expr.Unary n → ⊥) → false ≡ is_delete (label_of (expr_tree e))
other_delete e others = no_delete (expr_tree e) (not_unary e others)
