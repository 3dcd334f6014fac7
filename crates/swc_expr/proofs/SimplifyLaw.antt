-- The pass keeps what a module or a script does, and more.
use Rattle.std.proofs.Common.{◌≡◌, ℕ, ◌<◌, Bool, true, false, refl, sym, ap, subst, arith, ◌⊎◌, inl, inr}
use Rattle.std.proofs.lemmas.Bool.{false≢true, true≢false}
use Rattle.swc_ast.specs.declared.UnaryOp.TheVariants.{Delete}
use Rattle.swc_ast.specs.Redex.{is_delete}
use Rattle.swc_ast.specs.Run.{Same}
use Rattle.swc_ast.specs.Tree.{Name, Label, Unary, Binary, Cond, Tree, node, Forest, bare, ε, ◌⊳◌, label_of}
use Rattle.swc_ast.specs.Weight.{weight}
use Rattle.static_proofs.specs.Free.{kind_at, has_kind}
use Rattle.swc_ast.specs.Labels.{is_whole}
use Rattle.static_proofs.specs.Step.{Step}
use Rattle.static_proofs.specs.Vars.{LosesNoVar}
use Rattle.static_proofs.proofs.Bare.{weight_bare}
use Rattle.static_proofs.proofs.Free.{delete_free}
use Rattle.static_proofs.proofs.Kept.{walk_keeps}
use Rattle.static_proofs.proofs.Vars.{loses_none, walk_loses_none}
use Rattle.static_proofs.proofs.Walked.{leaves_walks}
use Rattle.tree_walk.specs.Pass.{is_visited}
use Rattle.tree_walk.specs.Walks.{Whole}
use Rattle.tree_walk.proofs.Walked.{whole_same}
use Rattle.walk_proofs.specs.Finished.{Does, at_front, at_node, at_list, at_both, Finished}
use Rattle.walk_proofs.specs.Plain.{PlainRight, NodeRight, does_same, default_goes as undefined_goes}
use Rattle.walk_proofs.proofs.Finished.{whole_leaves}
use Rattle.walk_proofs.proofs.Plain.{right_same}
use Rattle.walk_proofs.proofs.Static.{whole_resolved, whole_core, whole_falls, whole_free}
use Rattle.swc_pass.specs.Pass.{SameBare, TellsChange}
use Rattle.expr_rules.specs.Replaced.{expr_redex}
use Rattle.pass_places.specs.Dropped.{dropped}
use Rattle.pass_proofs.proofs.Defaults.{void_is_undefined}
use Rattle.pass_proofs.proofs.DefaultsOwe.{default_owes}
use Rattle.expr_proofs.proofs.ExprSteps.{step_exact}
use Rattle.expr_proofs.proofs.Owes.{step_owes, step_fits, step_no_item, step_below}
use Rattle.swc_expr.specs.Simplifies.{Simplifies, folds, default_goes, simplify_pass}
use Rattle.swc_expr.specs.Simplified.{Simplified}

-- what the steps do

step_right : (mark : ℕ) (t u : Tree) → Simplifies mark t u → NodeRight mark t u
step_right mark t u (folds e s) = does_same (step_exact s) (step_fits e s) (step_no_item s)
step_right mark t u (default_goes (dropped x ss rs d h)) = undefined_goes (void_is_undefined mark d h)

simplify_right : (mark : ℕ) → PlainRight (simplify_pass mark) mark
simplify_right mark = record {
  open_exact = λ t u s. absurd s;
  open_fits = λ t u s. absurd s;
  open_no_item = λ t u s. absurd s;
  node_right = step_right mark;
  list_exact = λ l ts us d. absurd d;
  list_declares = λ l ts us d. absurd d;
  items_stay = λ ts us d. absurd d;
}

-- what the steps owe

simplifies_owe : {mark : ℕ} {P : Name → Type 0} {t u : Tree} → Simplifies mark t u → Step ⊥ P t u
simplifies_owe (folds e s) = step_owes e s
simplifies_owe (default_goes (dropped x ss rs d h)) = default_owes x ss rs d

owes : {mark : ℕ} {P : Name → Type 0} (t u : Tree) → Does (simplify_pass mark) t u → Step ⊥ P t u
owes t u (at_front s) = absurd s
owes t u (at_node s) = simplifies_owe s
owes t u (at_list e d) = absurd d
owes t u (at_both e d s) = absurd d

-- no `var` goes

below : {mark : ℕ} {t u : Tree} → Simplifies mark t u → is_whole (label_of t) ≡ false
below (folds e s) = step_below s
below (default_goes (dropped x ss rs d h)) = refl

loses : {mark : ℕ} (t u : Tree) → Does (simplify_pass mark) t u → LosesNoVar t u
loses t u (at_front s) = absurd s
loses t u (at_node s) = loses_none (below s) (simplifies_owe s).spares
loses t u (at_list e d) = absurd d
loses t u (at_both e d s) = absurd d

-- a node that stands is none that a rule would take

unseen : (l : Label) (ts : Forest) → is_visited l ≡ false → expr_redex l ts ≡ false
unseen (Binary op) ts e = absurd (true≢false e)
unseen (Unary op) ts e = absurd (true≢false e)
unseen Cond ts e = absurd (true≢false e)
unseen l ts e = refl

node_free : {mark : ℕ} (b : Tree) → Finished (simplify_pass mark) b → kind_at expr_redex b ≡ false
node_free (node l ss ts) f = by_visit (is_visited l) refl
  where
    by_visit : (b : Bool) → is_visited l ≡ b → expr_redex l ts ≡ false
    by_visit true e = f.rests_there e
    by_visit false e = unseen l ts e

shut_free : (b : Tree) → is_delete (label_of b) ≡ true → has_kind expr_redex b ≡ false
shut_free (node (Unary Delete) ss cs) h = delete_free expr_redex ss cs (no_redex cs)
  where
    no_redex : (cs : Forest) → expr_redex (Unary Delete) cs ≡ false
    no_redex ε = refl
    no_redex (a ⊳ ε) = refl
    no_redex (a ⊳ b ⊳ cs) = refl
shut_free (node l ss cs) h = absurd (false≢true h)

-- the walk's answer

differs : (t u : Tree) → weight u < weight t → SameBare t u → ⊥
differs t u h e = omega (arith, ap weight e, weight_bare t, weight_bare u, h)

falls : {mark : ℕ} {t u : Tree} → Whole (simplify_pass mark) true t u → weight u < weight t
falls w = whole_falls {N = ⊥} (λ b f n. absurd n) (λ a b s. (owes {P = λ x. Unit {0}} a b s).lowers) w

free : {mark : ℕ} {t u : Tree} → Whole (simplify_pass mark) false t u → has_kind expr_redex t ≡ false
free w = whole_free {N = ⊥} (λ b f n. absurd n) (λ a b s. (owes {P = λ x. Unit {0}} a b s).lowers) expr_redex node_free shut_free w

lighter_by : {mark : ℕ} {t u : Tree} (c : Bool) → Whole (simplify_pass mark) c t u → SameBare t u ⊎ (weight u < weight t)
lighter_by true w = inr (falls w)
lighter_by false w = inl (ap bare (whole_same w refl))

free_by : {mark : ℕ} {t u : Tree} (c : Bool) → Whole (simplify_pass mark) c t u → SameBare t u → has_kind expr_redex t ≡ false
free_by {mark} {t} {u} true w e = absurd (differs t u (falls w) e)
free_by false w e = free w

pub tells : (mark : ℕ) (t u : Tree) (c : Bool) → Whole (simplify_pass mark) c t u → TellsChange c t u
tells mark t u true w = λ e. differs t u (falls w) e
tells mark t u false w = whole_same w refl

pub simplified : (mark : ℕ) (t u : Tree) (c : Bool) → Whole (simplify_pass mark) c t u → Simplified mark t u
simplified mark t u c w = record {
  changed = c;
  walk = w;
  same = λ n e loads. subst (λ k. Same k loads t u) (sym e) (right_same (simplify_right mark) loads w);
  resolved = λ n r. whole_resolved {N = ⊥} {P = λ x. Unit {0}} owes (λ x h. tt) w r;
  stays_valid = λ v. (walk_keeps (λ a b s. (owes {P = λ x. Unit {0}} a b s).keeps) (leaves_walks (whole_leaves w))).valid_kept v;
  core = λ r. whole_core {N = ⊥} {P = λ x. Unit {0}} owes w r;
  lighter = lighter_by c w;
  vars = walk_loses_none loses (leaves_walks (whole_leaves w));
  finished = λ e. free_by c w e;
}
