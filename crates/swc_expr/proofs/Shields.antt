-- What stands for a member or a name where it may not stand alone.
use Rattle.std.proofs.Common.{◌≡◌, ℕ, Bool, true, false, ◌&&◌, not, if◌then◌else◌, List, [], ◌∷◌, refl, sym, ap, ◌∙◌, subst, pos, zero, Option, Some}
use Rattle.std.proofs.lemmas.Bool.{false≢true, true≢false}
use Rattle.swc_ast.specs.Tree as tree
use Rattle.swc_ast.specs.Tree.{Seq, Tree, node, Forest, ε, ◌⊳◌, label_of}
use Rattle.swc_ast.specs.Redex.{is_zero}
use Rattle.swc_ast.specs.Views.{expr_tree}
use Rattle.swc_ast.specs.declared.expressions.Expr.{Expr}
use Rattle.swc_ast.specs.declared.Span.{Span}
use Rattle.tree_walk.specs.Parts.{stands_alone}
use Rattle.tree_walk.specs.Walks.{Fits, Stepped}
use Rattle.tree_walk.specs.declared.rules.Place.{Place}
use Rattle.tree_walk.specs.declared.rules.Place.TheVariants as place
use Rattle.tree_walk.specs.Parts.{is_bare}
use Rattle.tree_walk.proofs.NodeKinds.{alone_fits, other_bare}
use Rattle.swc_ast.specs.Labels.{is_member_or_name}
use Rattle.expr_rules.specs.ExprSteps.{ExprStep, front, text_length, text_character, array_length, array_item, object_value, in_guard}
use Rattle.pass_rules.specs.Leaves.{guarded}
use Rattle.expr_proofs.specs.Laws.{is_guarded}
use Rattle.expr_proofs.proofs.Roomy.{guarded_lighter}
use Rattle.pass_places.specs.Places.{is_shield, nowhere, shielded}
use Rattle.expr_rules.specs.Replaced.{Replaced}
use Rattle.pass_proofs.proofs.ExprTrees.{is_an_expression}
use Rattle.pass_places.specs.Dropped.{MayDrop}
use Rattle.swc_expr.specs.Simplifies.{Simplifies, folds, default_goes, simplify_pass}

-- sequences stand alone everywhere
sequence_alone : (p : Place) (ss : List Span) (cs : Forest) → stands_alone p (node Seq ss cs) ≡ true
sequence_alone place.Callee ss cs = refl
sequence_alone place.TypeOf ss cs = refl
sequence_alone place.Delete ss cs = refl
sequence_alone place.Value ss cs = refl
sequence_alone place.Statement ss cs = refl
sequence_alone place.Part ss cs = refl

-- what takes the place of `(0, b)` is b, or a sequence
zero_front : (mark : ℕ) (p : Place) (ss : List Span) (z b u : Tree) → is_zero z ≡ true → ExprStep mark (node Seq ss (z ⊳ b ⊳ ε)) u → stands_alone p u ≡ false → stands_alone p b ≡ false
zero_front mark p ss (node (tree.NumLit (pos zero)) zs cs) b u h (front callee ts rs us f) e = e
zero_front mark p ss z b u h (text_length is rs t m d) e = elim m [ ]
zero_front mark p ss z b u h (text_character is rs t k v m d) e = elim m [ ]
zero_front mark p ss z b u h (array_length is rs ks ts m d i j) e = elim m [ ]
zero_front mark p ss z b u h (array_item is rs vs zs ks ts k i t m d j) e = elim m [ ]
zero_front mark p ss z b u h (object_value is ts k t m q d) e = elim m [ ]
zero_front mark p ss z b u h (in_guard rs zs s w) e = absurd (true≢false (sym (sequence_alone p rs _) ∙ e))
zero_front mark p ss z b u h s e = absurd (false≢true h)

-- a tree that is no `(0, e)` of this place, and whose answer does not stand alone, is no `(0, e)` at all
no_guard : (mark : ℕ) (p : Place) (t u : Tree) → is_shield p t ≡ false → ExprStep mark t u → stands_alone p u ≡ false → is_guarded t ≡ false
no_guard mark p (node Seq ss (z ⊳ b ⊳ ε)) u h s e = by_zero (is_zero z) refl
  where
    by_zero : (i : Bool) → is_zero z ≡ i → is_zero z ≡ false
    by_zero false i = i
    by_zero true i = absurd (true≢false (sym (ap not (zero_front mark p ss z b u i s e)) ∙ (ap (λ k. k && not (stands_alone p b)) (sym i) ∙ h)))
no_guard mark p t u h s e = refl

bare_label : (t : Tree) → is_bare t ≡ true → is_member_or_name (label_of t) ≡ true
bare_label (node (tree.Dot k) ss cs) h = refl
bare_label (node tree.Index ss cs) h = refl
bare_label (node (tree.Read x) ss cs) h = refl
bare_label (node l ss cs) h = absurd (false≢true h)

-- a step, shielded where its answer may not stand alone
pub shield_step : (mark : ℕ) (p : Place) (t u : Tree) → is_shield p t ≡ false → ExprStep mark t u → ExprStep mark t (shielded p u)
shield_step mark p t u h s = by_place (stands_alone p u) refl
  where
    by_place : (b : Bool) → stands_alone p u ≡ b → ExprStep mark t (if b then u else guarded (nowhere ∷ []) (nowhere ∷ []) u)
    by_place true e = s
    by_place false e = in_guard (nowhere ∷ []) (nowhere ∷ []) s (guarded_lighter s (bare_label u (other_bare p u e)) (no_guard mark p t u h s e) (nowhere ∷ []) (nowhere ∷ []))

pub shielded_fits : (p : Place) (u : Tree) → Fits p (shielded p u)
shielded_fits p u = by_place (stands_alone p u) refl
  where
    by_place : (b : Bool) → stands_alone p u ≡ b → Fits p (if b then u else guarded (nowhere ∷ []) (nowhere ∷ []) u)
    by_place true e = alone_fits p u e
    by_place false e = alone_fits p (guarded (nowhere ∷ []) (nowhere ∷ []) u) (sequence_alone p _ _)

-- what a fold answers, in an expression's place
pub folded_at : (mark : ℕ) (p : Place) (t v : Tree) (o : Option Expr) (u w : Expr) → is_shield p t ≡ false → o ≡ Some u → Replaced mark t v o → expr_tree w ≡ shielded p (expr_tree u) → Simplifies mark t (expr_tree w)
folded_at mark p t v o u w h is r e = folds (is_an_expression w) (subst (ExprStep mark t) (sym e) (shield_step mark p t (expr_tree u) h (subst (Replaced mark t v) is r)))

-- a parameter that may have lost its default
pub default_at : (mark : ℕ) (c : Bool) (t u : Tree) → MayDrop mark c t u → Stepped (simplify_pass mark) c t u
default_at mark true t u d = default_goes d
default_at mark false t u d = d
