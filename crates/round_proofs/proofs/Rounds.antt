-- Layers go in rounds in which the other passes rest.
use Rattle.std.proofs.Common.{ℕ, zero, suc, ◌+◌, ◌<◌, ◌≤◌, Bool, true, false, not, List, ◌++◌, refl, sym, subst, ◌∙◌, arith}
use Rattle.std.proofs.lemmas.Bool.{false≢true}
use Rattle.swc_ast.specs.declared.Span.{Span}
use Rattle.swc_ast.specs.Marks.{mark_number}
use Rattle.swc_ast.specs.Tree.{Tree, node, Forest}
use Rattle.static_proofs.specs.Shaped.{IsShaped}
use Rattle.tree_walk.specs.Walks.{Whole}
use Rattle.swc_pass.specs.Pass.{SameBare}
use Rattle.swc_pass.specs.Repeat.{Rounds, none, changing}
use Rattle.dce_rules.specs.Shakes.{Shaker, shake_pass}
use Rattle.dce_layer_proofs.specs.Frames.{function_label, wrapped_parts, Frame, within}
use Rattle.dce_layer_proofs.specs.Layers.{Layers, items, live, Peels}
use Rattle.dce_layer_proofs.specs.Walked.{module_at, shaker_of}
use Rattle.dce_layer_proofs.proofs.Live.{all_live}
use Rattle.dce_layer_proofs.proofs.Peeled.{placed_parts, round}
use Rattle.branch_rules.specs.Removes.{Rests as BranchRests, remove_pass}
use Rattle.swc_expr.specs.Simplifies.{Rests as ExprRests, simplify_pass}
use Rattle.swc_expr.specs.Simplified.{Simplified}
use Rattle.swc_expr.proofs.SimplifyLaw.{simplified, tells as simplify_tells}
use Rattle.swc_branch.specs.Removed.{Removed}
use Rattle.swc_branch.proofs.RemoveLaw.{removed, tells as remove_tells}
use Rattle.swc_dce.specs.Peeling.{PeelsModule}
use Rattle.swc_dce.specs.Shaken.{Told, MadeFor}
use Rattle.swc_dce.proofs.ShakeLaw.{shaken, tells as shake_tells}
use Rattle.round_proofs.specs.Rested.{AtRest, Rested}
use Rattle.round_proofs.proofs.Sublists.{StaysAtRest, whole_left}
use Rattle.round_proofs.proofs.Tidy.{redex_left, redex_around}
use Rattle.round_proofs.proofs.Shaped.{module_left}

-- a pass that answers a tree as it is took no step
simplify_still : {mark : ℕ} {t : Tree} → Simplified mark t t → Whole (simplify_pass mark) false t t
simplify_still {mark} {t} a = by a.changed a.walk
  where
    by : (c : Bool) → Whole (simplify_pass mark) c t t → Whole (simplify_pass mark) false t t
    by true w = absurd (simplify_tells mark t t true w refl)
    by false w = w

remove_still : {mark : ℕ} {t : Tree} → Removed mark t t → Whole (remove_pass mark) false t t
remove_still {mark} {t} a = by a.changed a.walk
  where
    by : (c : Bool) → Whole (remove_pass mark) c t t → Whole (remove_pass mark) false t t
    by true w = absurd (remove_tells mark t t true w refl)
    by false w = w

-- and takes none where a list loses items

simplify_rests : (mark : ℕ) → StaysAtRest (simplify_pass mark)
simplify_rests mark = record {
  enters = λ l ss ts h s. false≢true (sym h ∙ s);
  statement = λ w ts. refl;
  call = λ w ts. refl;
  function = λ w ts. by w.is_arrow w.function (wrapped_parts w ts);
  loses = λ l r ps k. tt;
  around = λ l before behind w ts us k. tt;
}
  where
    by : (b : Bool) (ss : List Span) (ts : Forest) → ExprRests (node (function_label b) ss ts)
    by true ss ts = refl
    by false ss ts = refl

remove_rests : (mark : ℕ) → StaysAtRest (remove_pass mark)
remove_rests mark = record {
  enters = λ l ss ts h s. false≢true (sym h ∙ s);
  statement = λ w ts. refl;
  call = λ w ts. refl;
  function = λ w ts. by w.is_arrow w.function (wrapped_parts w ts);
  loses = λ l r ps k. redex_left r ps k;
  around = λ l before behind w ts us k. redex_around w behind ts us before k;
}
  where
    by : (b : Bool) (ss : List Span) (ts : Forest) → BranchRests (node (function_label b) ss ts)
    by true ss ts = refl
    by false ss ts = refl

left_rests : (told : Told) (F : Frame) (r : ℕ) (ps : Layers) → IsShaped (within F (items ps)) → AtRest told (within F (items ps)) → AtRest told (within F (live r ps))
left_rests told F r ps s a = record {
  simplifies = simplified (mark_number told.mark) (within F (live r ps)) (within F (live r ps)) false (whole_left (simplify_rests (mark_number told.mark)) r ps F (simplify_still a.simplifies));
  removes = removed (mark_number told.mark) (within F (live r ps)) (within F (live r ps)) false (module_left F r ps s) (whole_left (remove_rests (mark_number told.mark)) r ps F (remove_still a.removes));
}

-- Rounds of the shaker in each of which the others rest.
module _ (told : Told) (n : ℕ) (at : ℕ → Tree) (shaped : (r : ℕ) → IsShaped (at r)) (rests : (r : ℕ) → AtRest told (at r)) where
  abbrev S : ℕ → Shaker
  S r = shaker_of (mark_number told.mark) (not told.keeps_imports) told.retained (at r)

  abbrev Walk : Type 0
  Walk = (r : ℕ) → 0 < r → r ≤ n → Whole (shake_pass (S r)) true (at r) (at (r + 1))

  -- what the shaker knows in front of a round
  made : (r : ℕ) → MadeFor told (S r) (at r)
  made r = record {
    marked = refl;
    imports = refl;
    knows = record {
      free_are = λ x h. h;
      unread_are = λ x h. absurd (false≢true h);
      unread_bound = λ x h. absurd (false≢true h);
    };
    all_go = λ e x h. h;
  }

  -- a round, which changes something
  rested : (r : ℕ) → Whole (shake_pass (S r)) true (at r) (at (r + 1)) → Rested told (at r) (at (r + 1))
  rested r w = record { rests = rests r; shakes = shaken told (S r) true (at r) (at (r + 1)) (made r) (shaped r) w }

  differs : (r : ℕ) → Whole (shake_pass (S r)) true (at r) (at (r + 1)) → SameBare (at r) (at (r + 1)) → ⊥
  differs r w e = shake_tells (S r) true (at r) (at (r + 1)) w e

  -- so many of them
  in_row : Walk → (k : ℕ) → k ≤ n → Rounds (Rested told) (at 1) k false (at (k + 1))
  in_row walk zero m = none
  in_row walk (suc k) m =
      let w = walk (k + 1) (omega arith) (omega (arith, m)) in
      subst (λ i. Rounds (Rested told) (at 1) i false (at (i + 1))) (omega arith) (changing (in_row walk k (omega (arith, m))) (rested (k + 1) w) (differs (k + 1) w))

module _ (told : Told) (n : ℕ) (F : Frame) (others ps : Layers) (p : Peels (mark_number told.mark) told.retained n F others ps) (s : IsShaped (within F (items ps))) (a : AtRest told (within F (items ps))) where
  -- layers go in rounds
  layer_rounds : Rounds (Rested told) (within F (items ps)) n false (within F (live (n + 1) ps))
  layer_rounds =
      let first = all_live (mark_number told.mark) told.retained n (others ++ ps) ps (placed_parts (mark_number told.mark) told.retained (others ++ ps) n others ps p.placed).1 in
      let all = in_row told n (module_at F ps) (λ r. module_left F r ps s) (λ r. left_rests told F r ps s a) (λ r k m. round (mark_number told.mark) (not told.keeps_imports) told.retained F others ps n p r k m) n (omega arith) in
      subst (λ xs. Rounds (Rested told) (within F xs) n false (within F (live (n + 1) ps))) first all

module _ (told : Told) (n : ℕ) (t u : Tree) (p : PeelsModule told n t u) (s : IsShaped t) (a : AtRest told t) where
  shaped : IsShaped (within p.frame (items p.layers))
  shaped = subst IsShaped p.whole s

  rests : AtRest told (within p.frame (items p.layers))
  rests = subst (AtRest told) p.whole a

  -- so a module goes in rounds
  pub layers_are_rounds : Rounds (Rested told) t n false u
  layers_are_rounds =
      let all = layer_rounds told n p.frame p.others p.layers p.peels shaped rests in
      subst (λ x. Rounds (Rested told) t n false x) (sym p.left) (subst (λ x. Rounds (Rested told) x n false (within p.frame (live (n + 1) p.layers))) (sym p.whole) all)

  -- and the others rest on what is left
  pub layers_leave_rest : AtRest told u
  layers_leave_rest = subst (AtRest told) (sym p.left) (left_rests told p.frame (n + 1) p.layers shaped rests)
