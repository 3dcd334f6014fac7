-- What holds between the steps of the walk.
use Rattle.std.proofs.Common.{◌≡◌, ℕ, zero, suc, ◌<◌, ◌==◌, ◌||◌, Bool, true, false, if◌then◌else◌, ◌⊎◌, inl, inr, List, [], ◌∷◌, ◌++◌, take, length, set, Option, Some, None, is_some, refl, sym, ap, subst, ◌∙◌, eqb-true}
use Rattle.std.proofs.lemmas.Bool.{false≢true}
use Rattle.std.proofs.lemmas.Bool.Decides.{eqb_tells}
use Rattle.std.proofs.lemmas.List.{length-set}
use Rattle.std.proofs.lemmas.List.Elements.{All-nil, All-head, All-tail, All-push, All-pop, All-weaker}
use Rattle.std.specs.List.{All}
use Rattle.swc_ast.specs.Views.{expr_tree}
use Rattle.swc_ast.specs.declared.expressions.Expr.{Expr}
use Rattle.swc_pass.specs.Given.{Answers, value_at}
use Rattle.given_shield.specs.Shield.{shield}
use Rattle.given_rules.specs.Cycles.{is_among}
use Rattle.given_rules.specs.Met.{met, covers}
use Rattle.given_rules.specs.Put.{here, put}
use Rattle.given_rules.specs.Worked.{final, finished, has_final, puts, none_worked, one_worked}
use Rattle.swc_inline_globals.specs.Slots.{slot_tree, slots}
use Rattle.swc_inline_globals.specs.Walking.{is_done, AllDone, Grows, AreFinals, IsFrame, IsReady, IsFresh, walked, Path, nowhere, IsBegun, Standing}
use Rattle.swc_inline_globals.specs.declared.finals.Frame.{Frame}
use Rattle.swc_inline_globals.proofs.Lists.{get_set_same, get_set_other, covers_more, same_number, take_none}
use Rattle.swc_inline_globals.proofs.Paths.{walked_push, path_tail}

-- a value is made

slots_set : (xs : List (Option Expr)) (i j : ℕ) (v : Expr) → i < length xs → slots (set xs i (Some v)) j ≡ (if i == j then Some (expr_tree v) else slots xs j)
slots_set xs i j v h = elim (eqb_tells i j) [
  | inl e ↦ ap (λ k. slots (set xs i (Some v)) k) (sym e.1) ∙ ap slot_tree (get_set_same xs i (Some v) h) ∙ ap (λ b. if b then Some (expr_tree v) else slots xs j) (sym e.0)
  | inr e ↦ ap slot_tree (get_set_other xs i j (Some v) e.1) ∙ ap (λ b. if b then Some (expr_tree v) else slots xs j) (sym e.0)
]

pub grows_set : (xs : List (Option Expr)) (i : ℕ) (v : Expr) → i < length xs → Grows xs (set xs i (Some v))
grows_set xs i v h j d = ap is_some (slots_set xs i j v h) ∙ by (i == j)
  where
    by : (b : Bool) → is_some (if b then Some (expr_tree v) else slots xs j) ≡ true
    by true = refl
    by false = d

pub done_set : (xs : List (Option Expr)) (i : ℕ) (v : Expr) → i < length xs → is_done (set xs i (Some v)) i ≡ true
done_set xs i v h = ap (λ o. is_some (slot_tree o)) (get_set_same xs i (Some v) h)

ready_grows : (xs ys : List (Option Expr)) → Grows xs ys → (f : Frame) → IsReady xs f → IsReady ys f
ready_grows xs ys g f r = covers_more (is_done ys) (is_done xs) g (take f.next f.needs.items) r

module _ {a : Answers} where
  pub finals_set : (xs : List (Option Expr)) → AreFinals a xs → (i : ℕ) (v : Expr) → i < length xs → AllDone xs (met a (value_at a.values i)) → expr_tree v ≡ put (puts a shield (slots xs)) here (value_at a.values i) → AreFinals a (set xs i (Some v))
  finals_set xs m i v h c e =
      let has : (j : ℕ) → has_final m.finals j ≡ is_done xs j = λ j. ap (λ f. is_some (f j)) m.is in
      record {
        finals = (i, put (puts a shield (finished m.finals)) here (value_at a.values i)) ∷ m.finals;
        worked = one_worked m.worked (covers_more (has_final m.finals) (is_done xs) (λ j d. has j ∙ d) (met a (value_at a.values i)) c);
        is = λ k j. (ap (λ o. if i == j then o else final j m.finals) (ap Some (ap (λ f. put (puts a shield f) here (value_at a.values i)) m.is ∙ sym e)) ∙ ap (λ o. if i == j then Some (expr_tree v) else o) (ap (λ f. f j) m.is) ∙ sym (slots_set xs i j v h)) k;
      }

  module _ {roots : List ℕ} where
    -- a value is begun that is asked for, or that is met in the one which was begun last
    pub standing_begun : {xs : List (Option Expr)} {bs cs : List Bool} {fs gs : List Frame} → Standing a roots xs bs fs → (i : ℕ) (g : Frame) → IsFresh a i g → cs ≡ set bs i true → gs ≡ fs ++ g ∷ [] → i < length bs → Path a roots (i ∷ walked fs) → Standing a roots xs cs gs
    standing_begun {xs} {bs} {cs} {fs} {gs} s i g fresh c e h p =
        let w : walked gs ≡ i ∷ walked fs = ap walked e ∙ walked_push fs g ∙ ap (λ k. k ∷ walked fs) fresh.number in
        record {
          made = s.made;
          all = s.all;
          all_begun = ap length c ∙ length-set bs i true ∙ s.all_begun;
          frames = subst (All (IsFrame a)) (sym e) (All-push (IsFrame a) fs g s.frames fresh.frame);
          ready = subst (All (IsReady xs)) (sym e) (All-push (IsReady xs) fs g s.ready (ap (covers (is_done xs)) (ap (λ n. take n g.needs.items) fresh.next ∙ take_none g.needs.items)));
          path = subst (Path a roots) (sym w) p;
          begun = λ j b. seen j (subst (λ ds. IsBegun ds j) c b) w;
        }
      where
        seen : (j : ℕ) → IsBegun (set bs i true) j → walked gs ≡ i ∷ walked fs → (is_done xs j ≡ true) ⊎ (is_among j (walked gs) ≡ true)
        seen j b w = by (i == j) refl
          where
            on : is_among j (i ∷ walked fs) ≡ true → is_among j (walked gs) ≡ true
            on m = subst (λ js. is_among j js ≡ true) (sym w) m

            by : (c : Bool) → (i == j) ≡ c → (is_done xs j ≡ true) ⊎ (is_among j (walked gs) ≡ true)
            by true q = inr (on (ap (λ d. d || is_among j (walked fs)) q))
            by false q = elim (s.begun j (sym (get_set_other bs i j true (λ z. false≢true (sym q ∙ ap (λ k. i == k) (sym z) ∙ same_number i))) ∙ b)) [
              | inl d ↦ inl d
              | inr m ↦ inr (on (ap (λ d. d || is_among j (walked fs)) q ∙ m))
            ]

    -- the value that was begun last is made
    pub standing_made : {xs : List (Option Expr)} {bs : List Bool} {fs : List Frame} (g : Frame) → Standing a roots xs bs (fs ++ g ∷ []) → (v : Expr) → AllDone xs g.needs.items → expr_tree v ≡ put (puts a shield (slots xs)) here (expr_tree g.value) → Standing a roots (set xs g.number (Some v)) bs fs
    standing_made {xs} {bs} {fs} g s v c e =
        let split = All-pop (IsFrame a) (fs ++ g ∷ []) fs (Some g) refl s.frames in
        let readies = All-pop (IsReady xs) (fs ++ g ∷ []) fs (Some g) refl s.ready in
        let f : IsFrame a g = split.1 in
        let h : g.number < length xs = subst (λ n. g.number < n) (sym s.all) f.in_range in
        let w : walked (fs ++ g ∷ []) ≡ g.number ∷ walked fs = walked_push fs g in
        record {
          made = finals_set xs s.made g.number v h (subst (λ is. AllDone xs is) f.needs c) (e ∙ ap (put (puts a shield (slots xs)) here) f.value);
          all = length-set xs g.number (Some v) ∙ s.all;
          all_begun = s.all_begun;
          frames = split.0;
          ready = All-weaker (IsReady xs) (IsReady (set xs g.number (Some v))) (ready_grows xs (set xs g.number (Some v)) (grows_set xs g.number v h)) fs readies.0;
          path = path_tail g.number (walked fs) (subst (Path a roots) w s.path);
          begun = λ j b. elim (s.begun j b) [
            | inl d ↦ inl (grows_set xs g.number v h j d)
            | inr m ↦ seen j h (subst (λ js. is_among j js ≡ true) w m)
          ];
        }
      where
        seen : (j : ℕ) → g.number < length xs → is_among j (g.number ∷ walked fs) ≡ true → (is_done (set xs g.number (Some v)) j ≡ true) ⊎ (is_among j (walked fs) ≡ true)
        seen j h m = by (g.number == j) refl m
          where
            by : (b : Bool) → (g.number == j) ≡ b → (b || is_among j (walked fs)) ≡ true → (is_done (set xs g.number (Some v)) j ≡ true) ⊎ (is_among j (walked fs) ≡ true)
            by true q m = inl (subst (λ k. is_done (set xs g.number (Some v)) k ≡ true) (eqb-true g.number j q) (done_set xs g.number v h))
            by false q m = inr m

-- nothing is begun

none_done : (xs : List (Option Expr)) → All (λ x. x ≡ None) xs → (i : ℕ) → None ≡ slots xs i
none_done [] h i = refl
none_done (x ∷ xs) h zero = ap slot_tree (ap Some (sym (All-head (λ y. y ≡ None) x xs h)))
none_done (x ∷ xs) h (suc i) = none_done xs (All-tail (λ y. y ≡ None) x xs h) i

none_begun : (bs : List Bool) → All (λ b. b ≡ false) bs → (i : ℕ) → IsBegun bs i → ⊥
none_begun [] h i b = cc
none_begun (x ∷ bs) h zero b = let f = All-head (λ y. y ≡ false) x bs h in cc
none_begun (x ∷ bs) h (suc i) b = none_begun bs (All-tail (λ y. y ≡ false) x bs h) i b

pub standing_new : (a : Answers) (roots : List ℕ) (xs : List (Option Expr)) (bs : List Bool) → length xs ≡ length a.values → length bs ≡ length a.values → All (λ x. x ≡ None) xs → All (λ b. b ≡ false) bs → Standing a roots xs bs []
standing_new a roots xs bs l m x b = record {
  made = record { finals = []; worked = none_worked; is = λ k i. none_done xs x i k };
  all = l;
  all_begun = m;
  frames = All-nil (IsFrame a);
  ready = All-nil (IsReady xs);
  path = nowhere;
  begun = λ i h. absurd (none_begun bs b i h);
}
