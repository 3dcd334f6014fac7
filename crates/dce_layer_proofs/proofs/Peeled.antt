-- A round of a module: the layer goes where it stands, and everything else rests.
use Rattle.std.proofs.Common.{ℕ, ◌+◌, ◌-◌, ◌<◌, ◌≤◌, ◌≡◌, Bool, true, false, List, [], ◌∷◌, ◌++◌, refl, sym, subst, ◌∙◌, arith}
use Rattle.std.proofs.lemmas.Bool.{or_parts, or_from}
use Rattle.swc_ast.specs.declared.Span.{Span}
use Rattle.swc_ast.specs.Scope.{joined}
use Rattle.swc_ast.specs.Tree.{Text, Name, Label, Params, Body, Module, Tree, node, Forest, ε, ◌⊳◌}
use Rattle.tree_walk.specs.Walks.{Walks, passes, stands, plain, block, AllWalk, nothing, both, ListMade, listed, Whole, whole}
use Rattle.dce_rules.specs.Shakes.{Shaker, item_goes, some_item_goes, shake_pass}
use Rattle.dce_rules.specs.Uses.{free_to_go}
use Rattle.dce_layer_proofs.specs.Frames.{Wrapper, function_label, wrapped, Frame, own, wrapper, within, outer}
use Rattle.dce_layer_proofs.specs.Layers.{Layers, live, AllPlaced, has_layer, Peels}
use Rattle.dce_layer_proofs.specs.Walked.{module_at, shaker_of}
use Rattle.dce_layer_proofs.proofs.Framed.{free_at, layer_behind}
use Rattle.dce_layer_proofs.proofs.Rounds.{each, rest_all, none_goes, go_all}
use Rattle.dce_layer_proofs.proofs.Rows.{before_walks, behind_walks, between_walks}

-- the items beside others

pub placed_parts : (mark : ℕ) (retained : List Text) (all : Layers) (rounds : ℕ) (os ps : Layers) → AllPlaced mark retained all rounds (os ++ ps) → AllPlaced mark retained all rounds os × AllPlaced mark retained all rounds ps
placed_parts mark retained all rounds [] ps h = (tt, h)
placed_parts mark retained all rounds (o ∷ os) ps h = let k = placed_parts mark retained all rounds os ps h.1 in ((h.0, k.0), k.1)

module _ (S : Shaker) where
  -- a wrapper whose list takes a step
  function_walks : (b : Bool) (ss rs us : List Span) {ts vs : Forest} → ListMade (shake_pass S) Body true ts vs → Walks (shake_pass S) true (node (function_label b) ss (node Params rs ε ⊳ node Body us ts ⊳ ε)) (node (function_label b) ss (node Params rs ε ⊳ node Body us vs ⊳ ε))
  function_walks true ss rs us m = stands (plain refl (both (passes refl (plain refl nothing)) (both (passes refl (block refl m)) nothing))) refl
  function_walks false ss rs us m = stands (plain refl (both (passes refl (plain refl nothing)) (both (passes refl (block refl m)) nothing))) refl

  wrapped_walks : (w : Wrapper) {ts vs : Forest} → ListMade (shake_pass S) Body true ts vs → Walks (shake_pass S) true (wrapped w ts) (wrapped w vs)
  wrapped_walks w m = stands (plain refl (both (stands (plain refl (both (function_walks w.is_arrow w.function w.params w.body m) nothing)) refl) nothing)) refl

  -- a list of items none of which goes, and one more
  still_between : (ts us : Forest) (t : Tree) → some_item_goes S (joined ts us) ≡ false → item_goes S t ≡ false → some_item_goes S (joined ts (t ⊳ us)) ≡ false
  still_between ε us t h k = or_from (item_goes S t) (some_item_goes S us) k h
  still_between (r ⊳ ts) us t h k = let q = or_parts (item_goes S r) (some_item_goes S (joined ts us)) h in or_from (item_goes S r) (some_item_goes S (joined ts (t ⊳ us))) q.0 (still_between ts us t q.1 k)

  -- the module round its list
  whole_walks : (F : Frame) {ts vs : Forest} → AllWalk (shake_pass S) false (outer F) (outer F) → some_item_goes S (outer F) ≡ false → ((l : Label) → ListMade (shake_pass S) l true ts vs) → Whole (shake_pass S) true (within F ts) (within F vs)
  whole_walks (own ss) w n m = whole refl (m Module)
  whole_walks (wrapper ss before w behind) {ts} {vs} a n m =
      whole refl (listed (between_walks before behind (before_walks before behind a) (both (wrapped_walks w (m Body)) (behind_walks before behind a))) (still_between before behind (wrapped w vs) n refl))

module _ (mark : ℕ) (drops : Bool) (retained : List Text) (F : Frame) (others ps : Layers) (rounds : ℕ) (p : Peels mark retained rounds F others ps) where
  abbrev all : Layers
  all = others ++ ps

  frees : (r : ℕ) → r ≤ rounds → (x : Name) → free_to_go retained (module_at F ps r) x ≡ free_to_go retained (node Module [] (live r all)) x
  frees r m x = free_at retained F rounds r others ps x (omega (arith, m)) p.outside p.stay p.fits

  -- each round has a layer
  reached : (r : ℕ) → 0 < r → r ≤ rounds → has_layer r ps ≡ true
  reached r s m =
      sym (layer_behind rounds r others ps m p.stay)
      ∙ each mark drops retained (module_at F ps) all rounds frees (rounds - r) r (omega (arith, m)) s p.placed (layer_behind rounds rounds others ps (omega arith) p.stay ∙ p.reaches)

  pub round : (r : ℕ) → 0 < r → r ≤ rounds → Whole (shake_pass (shaker_of mark drops retained (module_at F ps r))) true (module_at F ps r) (module_at F ps (r + 1))
  round r s m =
      let q = placed_parts mark retained all rounds others ps p.placed in
      whole_walks (shaker_of mark drops retained (module_at F ps r)) F
      (subst (λ ts. AllWalk (shake_pass (shaker_of mark drops retained (module_at F ps r))) false ts ts) p.outside (rest_all mark drops retained (module_at F ps) all rounds frees r others s m p.stay q.0))
      (subst (λ ts. some_item_goes (shaker_of mark drops retained (module_at F ps r)) ts ≡ false) p.outside (none_goes mark drops retained (module_at F ps) all rounds frees r others s m p.stay q.0))
      (λ l. go_all mark drops retained (module_at F ps) all rounds frees l r ps s m q.1 (reached r s m))
