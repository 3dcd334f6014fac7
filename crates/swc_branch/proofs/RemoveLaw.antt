-- The pass keeps what a module or a script does, and more.
use Rattle.std.proofs.Common.{◌≡◌, ℕ, ◌<◌, Bool, true, false, refl, sym, ap, subst, arith, ◌⊎◌, inl, inr}
use Rattle.std.proofs.lemmas.Bool.{false≢true}
use Rattle.swc_ast.specs.Modules.{module_tree, script_tree}
use Rattle.swc_ast.specs.Redex.{is_delete}
use Rattle.swc_ast.specs.Resolved.{IsResolved}
use Rattle.swc_ast.specs.Run.{Same}
use Rattle.swc_ast.specs.Tree.{Unary, Tree, node, Forest, bare, ε, ◌⊳◌, label_of}
use Rattle.swc_ast.specs.Weight.{weight}
use Rattle.swc_ast.specs.declared.UnaryOp.TheVariants.{Delete}
use Rattle.swc_ast.specs.declared.modules.Module.{Module}
use Rattle.swc_ast.specs.declared.modules.Script.{Script}
use Rattle.static_proofs.specs.Free.{has_kind}
use Rattle.static_proofs.specs.Keeps.{Keeps}
use Rattle.static_proofs.specs.Lighter.{Lowers, is_settled}
use Rattle.static_proofs.specs.Shaped.{IsShaped}
use Rattle.static_proofs.specs.Step.{Step}
use Rattle.static_proofs.proofs.Bare.{weight_bare}
use Rattle.static_proofs.proofs.Free.{delete_free}
use Rattle.static_proofs.proofs.Kept.{walk_keeps}
use Rattle.static_proofs.proofs.ShapedViews.{module_shaped, script_shaped}
use Rattle.static_proofs.proofs.Vars.{walk_loses_none}
use Rattle.static_proofs.proofs.Walked.{leaves_walks}
use Rattle.tree_walk.specs.Walks.{Whole}
use Rattle.tree_walk.proofs.Walked.{whole_same}
use Rattle.walk_proofs.specs.Finished.{Does, Finished}
use Rattle.walk_proofs.proofs.Dying.{dying_same}
use Rattle.walk_proofs.proofs.Finished.{whole_leaves}
use Rattle.walk_proofs.proofs.Static.{whole_resolved, whole_core, whole_falls, whole_free}
use Rattle.swc_pass.specs.Pass.{SameBare, TellsChange}
use Rattle.branch_rules.specs.Removes.{remove_pass}
use Rattle.branch_proofs.specs.Laws.{left_redex}
use Rattle.branch_proofs.proofs.Dying.{removes_die}
use Rattle.branch_proofs.proofs.Owes.{does_owe}
use Rattle.branch_proofs.proofs.Resting.{finished_free, finished_settled, valid_free}
use Rattle.branch_proofs.proofs.VarsStay.{does_lose_none}
use Rattle.swc_branch.specs.Removed.{Removed}

-- what each step owes

owes : {mark : ℕ} (t u : Tree) → Does (remove_pass mark) t u → Step (true ≡ true) (λ x. Unit {0}) t u
owes t u d = does_owe refl d

lowers : {mark : ℕ} (t u : Tree) → Does (remove_pass mark) t u → Lowers (true ≡ true) t u
lowers t u d = (owes t u d).lowers

settled : {mark : ℕ} (b : Tree) → Finished (remove_pass mark) b → true ≡ true → is_settled b
settled b f e = finished_settled b f

keeps : {mark : ℕ} {c : Bool} {t u : Tree} → Whole (remove_pass mark) c t u → Keeps t u
keeps w = walk_keeps (λ a b d. (owes a b d).keeps) (leaves_walks (whole_leaves w))

-- the operand of `delete` is not looked at

shut_free : (b : Tree) → is_delete (label_of b) ≡ true → has_kind left_redex b ≡ false
shut_free (node (Unary Delete) ss cs) h = delete_free left_redex ss cs (no_redex cs)
  where
    no_redex : (cs : Forest) → left_redex (Unary Delete) cs ≡ false
    no_redex ε = refl
    no_redex (a ⊳ ε) = refl
    no_redex (a ⊳ b ⊳ cs) = refl
shut_free (node l ss cs) h = absurd (false≢true h)

-- the walk's answer

differs : (t u : Tree) → weight u < weight t → SameBare t u → ⊥
differs t u h e = omega (arith, ap weight e, weight_bare t, weight_bare u, h)

falls : {mark : ℕ} {t u : Tree} → Whole (remove_pass mark) true t u → weight u < weight t
falls w = whole_falls settled lowers w

free : {mark : ℕ} {t u : Tree} → Whole (remove_pass mark) false t u → has_kind left_redex t ≡ false
free w = whole_free settled lowers left_redex (λ b f. finished_free b f) shut_free w

lighter_by : {mark : ℕ} {t u : Tree} (c : Bool) → Whole (remove_pass mark) c t u → SameBare t u ⊎ (weight u < weight t)
lighter_by true w = inr (falls w)
lighter_by false w = inl (ap bare (whole_same w refl))

free_by : {mark : ℕ} {t u : Tree} (c : Bool) → Whole (remove_pass mark) c t u → SameBare t u → has_kind left_redex t ≡ false
free_by {mark} {t} {u} true w e = absurd (differs t u (falls w) e)
free_by false w e = free w

pub tells : (mark : ℕ) (t u : Tree) (c : Bool) → Whole (remove_pass mark) c t u → TellsChange c t u
tells mark t u true w = λ e. differs t u (falls w) e
tells mark t u false w = whole_same w refl

pub removed : (mark : ℕ) (t u : Tree) (c : Bool) → IsShaped t → Whole (remove_pass mark) c t u → Removed mark t u
removed mark t u c s w = record {
  changed = c;
  walk = w;
  same = λ n e r k loads. subst (λ m. Same m loads t u) (sym e) (dying_same mark (removes_die mark) loads (subst (λ m. IsResolved m t) e r) k s w);
  resolved = λ n r. whole_resolved owes (λ x h. tt) w r;
  stays_valid = λ v. (keeps w).valid_kept v;
  core = λ k. whole_core owes w k;
  lighter = lighter_by c w;
  vars = walk_loses_none (λ a b d. does_lose_none d) (leaves_walks (whole_leaves w));
  binds = λ x. (keeps w).scopes_kept x;
  finished = λ v e. valid_free t v (free_by c w e);
}

pub removed_module : (mark : ℕ) (m r : Module) (c : Bool) → Whole (remove_pass mark) c (module_tree m) (module_tree r) → Removed mark (module_tree m) (module_tree r)
removed_module mark m r c w = removed mark (module_tree m) (module_tree r) c (module_shaped m) w

pub removed_script : (mark : ℕ) (m r : Script) (c : Bool) → Whole (remove_pass mark) c (script_tree m) (script_tree r) → Removed mark (script_tree m) (script_tree r)
removed_script mark m r c w = removed mark (script_tree m) (script_tree r) c (script_shaped m) w
