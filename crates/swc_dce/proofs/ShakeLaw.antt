-- The laws of the tree shaker.
use Rattle.std.proofs.Common.{ℕ, ◌≡◌, ◌<◌, Bool, true, false, List, ◌∷◌, refl, sym, ap, subst, ◌∙◌, arith, ◌⊎◌, inl, inr}
use Rattle.swc_ast.specs.declared.Span.{Span}
use Rattle.swc_ast.specs.Core.{IsCore}
use Rattle.swc_ast.specs.Reach.{Reached}
use Rattle.swc_ast.specs.Resolved.{IsResolved}
use Rattle.swc_ast.specs.Run.{Same}
use Rattle.swc_ast.specs.Tree.{Text, Name, Label, Module, Tree, node, Forest, bare, label_of, children_of}
use Rattle.swc_ast.specs.Valid.{valid}
use Rattle.swc_ast.specs.Weight.{weight}
use Rattle.static_proofs.specs.Shaped.{IsShaped}
use Rattle.static_proofs.proofs.Bare.{weight_bare}
use Rattle.static_proofs.proofs.Kept.{walk_keeps}
use Rattle.static_proofs.proofs.Walked.{leaves_walks}
use Rattle.tree_walk.specs.Walks.{Whole, shut, whole}
use Rattle.tree_walk.proofs.Walked.{whole_same}
use Rattle.walk_proofs.proofs.Finished.{whole_leaves}
use Rattle.swc_pass.specs.Pass.{SameBare, TellsChange}
use Rattle.dce_rules.specs.Apart.{has_function}
use Rattle.dce_rules.specs.Left.{declared_plainly, Entered, speaks_of_arguments, is_kept}
use Rattle.dce_rules.specs.Shakes.{Shaker, shake_pass}
use Rattle.dce_rules.specs.Uses.{calls_eval}
use Rattle.dce_proofs.specs.Laws.{Knows}
use Rattle.dce_proofs.proofs.Apart.{none_apart}
use Rattle.dce_proofs.proofs.Left.{unchanged_kept}
use Rattle.dce_proofs.proofs.Owes.{owes}
use Rattle.dce_proofs.proofs.Settles.{shaken_is_same}
use Rattle.dce_proofs.proofs.ShakenLaws.{shaken_resolved, shaken_core, shaken_falls}
use Rattle.dce_proofs.proofs.Standing.{reached_stands}
use Rattle.swc_dce.specs.Shaken.{Told, MadeFor, Shaken}

-- whether it changed

differs : (t u : Tree) → weight u < weight t → SameBare t u → ⊥
differs t u h e = omega (arith, ap weight e, weight_bare t, weight_bare u, h)

module _ (S : Shaker) where
  lighter_by : {t u : Tree} (c : Bool) → Whole (shake_pass S) c t u → SameBare t u ⊎ (weight u < weight t)
  lighter_by true w = inr (shaken_falls w)
  lighter_by false w = inl (ap bare (whole_same w refl))

  pub tells : (c : Bool) (t u : Tree) → Whole (shake_pass S) c t u → TellsChange c t u
  tells true t u w = λ e. differs t u (shaken_falls w) e
  tells false t u w = whole_same w refl

  -- functions of a module that are reached

  own_list : (l : Label) {c : Bool} {ss rs : List Span} {ts us : Forest} {retained : List Text} {n : ℕ} → l ≡ Module → Knows S retained (node l ss ts) → IsShaped (node l ss ts) → Whole (shake_pass S) c (node l ss ts) (node l rs us) → IsResolved n (node l ss ts) → IsCore (node l ss ts) → (f : Name) → Reached retained ts f → has_function f ts ≡ true → has_function f us ≡ true
  own_list Module {ss = ss} {ts = ts} e k s w r o f h i = reached_stands (record { free_are = k.free_are; unread_are = k.unread_are; unread_bound = k.unread_bound }) w f h (none_apart ss ts f r o s i) i
  own_list l e k s w r o f h i = cc

  reached_by : {c : Bool} {t u : Tree} {retained : List Text} {n : ℕ} → Knows S retained t → IsShaped t → Whole (shake_pass S) c t u → label_of t ≡ Module → IsResolved n t → IsCore t → (f : Name) → Reached retained (children_of t) f → has_function f (children_of t) ≡ true → has_function f (children_of u) ≡ true
  reached_by k s (shut h) e r o f g i = i
  reached_by k s (whole {l = l} {ss = ss} j m) e r o f g i = own_list l e k s (whole j m) r o f g i

  -- where nothing changed

  left_by : (told : Told) (c : Bool) {t u : Tree} → MadeFor told S t → IsShaped t → Whole (shake_pass S) c t u → told.top_level ≡ true → SameBare t u → valid t ≡ true → calls_eval t ≡ false → speaks_of_arguments t ≡ false
      → (l : Label) (ss : List Span) (cs : Forest) → Entered (node l ss cs) t → (x : Name) (xs : List Name) → declared_plainly l cs ≡ x ∷ xs → is_kept told.retained t x ≡ true
  left_by told true {t} {u} m s w e b v p a l ss cs i x xs q = absurd (differs t u (shaken_falls w) b)
  left_by told false {t} {u} m s w e b v p a l ss cs i x xs q = unchanged_kept S told.retained t m.knows (m.all_go e) s v p a (subst (λ z. Whole (shake_pass S) false t z) (whole_same w refl) w) l ss cs i x xs q

-- the answer of a walk

pub shaken : (told : Told) (S : Shaker) (c : Bool) (t u : Tree) → MadeFor told S t → IsShaped t → Whole (shake_pass S) c t u → Shaken told t u
shaken told S c t u m s w = record {
  shaker = S;
  made = m;
  changed = c;
  walk = w;
  same = λ n e r o. subst (λ k. Same k told.keeps_imports t u) (m.marked ∙ sym e) (shaken_is_same S told.retained told.keeps_imports c t u m.imports m.knows (subst (λ k. IsResolved k t) (e ∙ sym m.marked) r) o s w);
  resolved = λ n r. shaken_resolved m.knows w r;
  stays_valid = λ v. (walk_keeps (λ a b d. (owes {S = S} a b d).keeps) (leaves_walks (whole_leaves w))).valid_kept v;
  core = λ r. shaken_core w r;
  lighter = lighter_by S c w;
  reached = λ n e r o f g i. reached_by S m.knows s w e r o f g i;
  left = left_by S told c m s w;
}
