-- Where a walk changes nothing on items, it changes nothing on those of them that are left.
use Rattle.std.proofs.Common.{ℕ, ◌≡◌, Bool, true, false, if◌then◌else◌, nat_lt, List, [], ◌∷◌, refl, sym, subst}
use Rattle.std.proofs.lemmas.Bool.{false≢true}
use Rattle.swc_ast.specs.declared.Span.{Span}
use Rattle.swc_ast.specs.Reach.{is_for}
use Rattle.swc_ast.specs.Redex.{is_delete}
use Rattle.swc_ast.specs.Scope.{joined}
use Rattle.swc_ast.specs.Tree.{Label, Block, Body, CaseBody, Call, ExprStmt, Module, Tree, node, Forest, ε, ◌⊳◌, label_of, children_of}
use Rattle.swc_ast.specs.Labels.{is_block}
use Rattle.tree_walk.specs.Pass.{Pass, walks_each}
use Rattle.tree_walk.specs.Walks.{Walks, closed, opened, passes, stands, stepped, Entered, plain, exported, headed, head_shut, imports, block, AllWalk, nothing, both, ListMade, listed, tidied, Whole, shut, whole}
use Rattle.dce_layer_proofs.specs.Frames.{Wrapper, function_label, wrapped_parts, wrapped_function, wrapped_call, wrapped, Frame, own, wrapper, within}
use Rattle.dce_layer_proofs.specs.Layers.{Layers, items, live}
use Rattle.dce_layer_proofs.proofs.Rows.{first_walks, rest_walks, before_walks, behind_walks, between_walks}

plain_or_list : (l : Label) → is_block l ≡ true → walks_each l ≡ true → ⊥
plain_or_list Block b p = false≢true p
plain_or_list Body b p = false≢true p
plain_or_list CaseBody b p = false≢true p
plain_or_list l b p = false≢true b

module _ {X : Pass} where
  -- the walk of items that are left
  left_walk : (r : ℕ) (ps : Layers) → AllWalk X false (items ps) (items ps) → AllWalk X false (live r ps) (live r ps)
  left_walk r [] w = nothing
  left_walk r (p ∷ ps) w = by (nat_lt p.1 r) (first_walks w refl) (left_walk r ps (rest_walks w refl))
    where
      by : (b : Bool) → Walks X false p.0 p.0 → AllWalk X false (live r ps) (live r ps) → AllWalk X false (if b then live r ps else (p.0 ⊳ live r ps)) (if b then live r ps else (p.0 ⊳ live r ps))
      by true v vs = vs
      by false v vs = both v vs

  -- the walk of a list that stays, and that nothing is to be done in it
  all_of : {c : Bool} {l : Label} {ts us : Forest} → ListMade X l c ts us → c ≡ false → AllWalk X false ts us
  all_of {ts = ts} {us = us} (listed ws k) h = subst (λ b. AllWalk X b ts us) h ws
  all_of (tidied ws s) h = absurd (false≢true (sym h))

  tidy_of : {c : Bool} {l : Label} {ts us : Forest} → ListMade X l c ts us → c ≡ false → X.tidy l us
  tidy_of (listed ws k) h = k
  tidy_of (tidied ws s) h = absurd (false≢true (sym h))

  list_of : {c : Bool} {ss rs : List Span} {ts us : Forest} → (X.skips (node Module ss ts) → ⊥) → Whole X c (node Module ss ts) (node Module rs us) → ListMade X Module c ts us
  list_of n (shut s) = absurd (n s)
  list_of n (whole i w) = w

  -- the walk below a node that stays
  entered : {c : Bool} {t u : Tree} → (X.skips t → ⊥) → Walks X c t u → c ≡ false → Entered X false t u
  entered n (closed s) h = absurd (n s)
  entered n (opened s w) h = absurd (false≢true (sym h))
  entered {t = t} n (passes {l = l} {ss = ss} {us = us} m e) h = subst (λ b. Entered X b t (node l ss us)) h e
  entered {t = t} {u = u} n (stands e r) h = subst (λ b. Entered X b t u) h e
  entered n (stepped e s) h = absurd (false≢true (sym h))

  parts_of : {c : Bool} {t u : Tree} → walks_each (label_of t) ≡ true → is_for (label_of t) ≡ false → Entered X c t u → c ≡ false → AllWalk X false (children_of t) (children_of u)
  parts_of p f (plain {ts = ts} {us = us} i ws) h = subst (λ b. AllWalk X b ts us) h ws
  parts_of p f (exported d ws) h = absurd (false≢true p)
  parts_of p f (headed ds ws) h = absurd (false≢true (sym f))
  parts_of p f (head_shut s ws) h = absurd (false≢true (sym f))
  parts_of p f (imports i) h = absurd (false≢true p)
  parts_of p f (block {l = l} b m) h = absurd (plain_or_list l b p)

  list_in : {c : Bool} {t u : Tree} → is_block (label_of t) ≡ true → Entered X c t u → ListMade X (label_of t) c (children_of t) (children_of u)
  list_in b (plain {l = l} i ws) = absurd (plain_or_list l b i)
  list_in b (exported d ws) = absurd (false≢true b)
  list_in b (headed ds ws) = absurd (false≢true b)
  list_in b (head_shut s ws) = absurd (false≢true b)
  list_in b (imports i) = absurd (false≢true b)
  list_in b (block i m) = m

  -- a node that stays, above others
  kept_above : (l : Label) (ss : List Span) (ts us : Forest) → walks_each l ≡ true → is_for l ≡ false → (X.skips (node l ss ts) → ⊥) → X.rests (node l ss us) → (AllWalk X false ts ts → AllWalk X false us us) → Walks X false (node l ss ts) (node l ss ts) → Walks X false (node l ss us) (node l ss us)
  kept_above l ss ts us p f n r g w = stands (plain p (g (parts_of p f (entered n w refl) refl))) r

  only_above : (t u : Tree) → (Walks X false t t → Walks X false u u) → AllWalk X false (t ⊳ ε) (t ⊳ ε) → AllWalk X false (u ⊳ ε) (u ⊳ ε)
  only_above t u g w = both (g (first_walks w refl)) nothing

-- What is known of a pass that rests, and that goes on to do so where a list of a module or of a wrapper loses items.
pub record StaysAtRest (X : Pass) : Type 1 where
  pub enters : (l : Label) (ss : List Span) (ts : Forest) → is_delete l ≡ false → X.skips (node l ss ts) → ⊥
  pub statement : (w : Wrapper) (ts : Forest) → X.rests (wrapped w ts)
  pub call : (w : Wrapper) (ts : Forest) → X.rests (wrapped_call w ts)
  pub function : (w : Wrapper) (ts : Forest) → X.rests (wrapped_function w ts)
  pub loses : (l : Label) (r : ℕ) (ps : Layers) → X.tidy l (items ps) → X.tidy l (live r ps)
  pub around : (l : Label) (before behind : Forest) (w : Wrapper) (ts us : Forest) → X.tidy l (joined before (wrapped w ts ⊳ behind)) → X.tidy l (joined before (wrapped w us ⊳ behind))

plain_function : (b : Bool) → walks_each (function_label b) ≡ true
plain_function true = refl
plain_function false = refl

no_loop : (b : Bool) → is_for (function_label b) ≡ false
no_loop true = refl
no_loop false = refl

no_delete : (b : Bool) → is_delete (function_label b) ≡ false
no_delete true = refl
no_delete false = refl

module _ {X : Pass} (x : StaysAtRest X) (r : ℕ) (ps : Layers) where
  -- a wrapper whose list loses items
  body_left : (ss : List Span) → Walks X false (node Body ss (items ps)) (node Body ss (items ps)) → Walks X false (node Body ss (live r ps)) (node Body ss (live r ps))
  body_left ss w = let m = list_in refl (entered (x.enters Body ss (items ps) refl) w refl) in passes refl (block refl (listed (left_walk r ps (all_of m refl)) (x.loses Body r ps (tidy_of m refl))))

  parts_left : (w : Wrapper) → AllWalk X false (wrapped_parts w (items ps)) (wrapped_parts w (items ps)) → AllWalk X false (wrapped_parts w (live r ps)) (wrapped_parts w (live r ps))
  parts_left w v = both (first_walks v refl) (both (body_left w.body (first_walks (rest_walks v refl) refl)) nothing)

  function_left : (w : Wrapper) → Walks X false (wrapped_function w (items ps)) (wrapped_function w (items ps)) → Walks X false (wrapped_function w (live r ps)) (wrapped_function w (live r ps))
  function_left w v =
      let l = function_label w.is_arrow in
      let old = wrapped_parts w (items ps) in
      let new = wrapped_parts w (live r ps) in
      kept_above l w.function old new (plain_function w.is_arrow) (no_loop w.is_arrow) (x.enters l w.function old (no_delete w.is_arrow)) (x.function w (live r ps)) (parts_left w) v

  call_left : (w : Wrapper) → Walks X false (wrapped_call w (items ps)) (wrapped_call w (items ps)) → Walks X false (wrapped_call w (live r ps)) (wrapped_call w (live r ps))
  call_left w v =
      let old = wrapped_function w (items ps) in
      let new = wrapped_function w (live r ps) in
      kept_above Call w.call (old ⊳ ε) (new ⊳ ε) refl refl (x.enters Call w.call (old ⊳ ε) refl) (x.call w (live r ps)) (only_above old new (function_left w)) v

  wrapped_left : (w : Wrapper) → Walks X false (wrapped w (items ps)) (wrapped w (items ps)) → Walks X false (wrapped w (live r ps)) (wrapped w (live r ps))
  wrapped_left w v =
      let old = wrapped_call w (items ps) in
      let new = wrapped_call w (live r ps) in
      kept_above ExprStmt w.statement (old ⊳ ε) (new ⊳ ε) refl refl (x.enters ExprStmt w.statement (old ⊳ ε) refl) (x.statement w (live r ps)) (only_above old new (call_left w)) v

  around_left : (before behind : Forest) (w : Wrapper) → AllWalk X false (joined before (wrapped w (items ps) ⊳ behind)) (joined before (wrapped w (items ps) ⊳ behind)) → AllWalk X false (joined before (wrapped w (live r ps) ⊳ behind)) (joined before (wrapped w (live r ps) ⊳ behind))
  around_left before behind w v =
      let old = wrapped w (items ps) in
      let rest = behind_walks before (old ⊳ behind) v in
      between_walks before behind (before_walks before (old ⊳ behind) v) (both (wrapped_left w (first_walks rest refl)) (rest_walks rest refl))

  -- a module that has the list
  pub whole_left : (F : Frame) → Whole X false (within F (items ps)) (within F (items ps)) → Whole X false (within F (live r ps)) (within F (live r ps))
  whole_left (own ss) v = let m = list_of (x.enters Module ss (items ps) refl) v in whole refl (listed (left_walk r ps (all_of m refl)) (x.loses Module r ps (tidy_of m refl)))
  whole_left (wrapper ss before w behind) v =
      let m = list_of (x.enters Module ss (joined before (wrapped w (items ps) ⊳ behind)) refl) v in
      whole refl (listed (around_left before behind w (all_of m refl)) (x.around Module before behind w (items ps) (live r ps) (tidy_of m refl)))
