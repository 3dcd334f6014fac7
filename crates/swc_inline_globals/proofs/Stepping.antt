-- Steps of the walk, by what their parts did.
use Rattle.std.proofs.Common.{◌≡◌, ℕ, ◌+◌, ◌<◌, Bool, true, false, not, List, [], ◌∷◌, ◌++◌, length, set, count_by, Option, Some, None, is_some, Result, Ok, Err, OnOk, IfErr, slice_get, get_or, take, nat_lt, ltb-true, inl, inr, refl, sym, ap, subst, ◌∙◌, arith}
use Rattle.std.proofs.lemmas.Bool.Decides.{eqb_tells}
use Rattle.std.proofs.lemmas.List.Elements.{All-pop}
use Rattle.std.proofs.lemmas.Option.{slice_get-get_or, slice_get_within}
use Rattle.std.proofs.lemmas.List.{length-append, take_more}
use Rattle.std.specs.declared.alloc.Global.{Global}
use Rattle.std.specs.declared.vec.Vec.{Vec}
use Rattle.swc_ast.specs.declared.errors.PassError.{PassError}
use Rattle.swc_ast.specs.declared.errors.PassError.TheVariants.{OutOfMemory}
use Rattle.swc_ast.specs.declared.expressions.Expr.{Expr}
use Rattle.swc_pass.specs.Given.{value_at}
use Rattle.given_rules.specs.Cycles.{is_among}
use Rattle.given_rules.specs.Met.{covers}
use Rattle.given_rules.proofs.Uncounted.{covers_append}
use Rattle.given_globals.specs.Globals.{answers_of}
use Rattle.given_globals.specs.declared.settings.Settings.{Settings}
use Rattle.swc_inline_globals.specs.Slots.{slot_tree}
use Rattle.swc_inline_globals.specs.Answers.{Refused, no_memory, cyclic}
use Rattle.swc_inline_globals.specs.Walking.{is_done, AllDone, AllInRange, Grows, IsFrame, IsReady, IsNeed, SameFrame, IsBegun, Path, begins, walked, Standing, Stands, SameAsked, Steps, Begins, Finishes, TellsName, tells, RefusedFrom}
use Rattle.swc_inline_globals.specs.declared.finals.Frame.{Frame}
use Rattle.swc_inline_globals.specs.declared.finals.Walk.{Walk}
use Rattle.swc_inline_globals.proofs.Lists.{get_set_same, get_set_other, count_begun, covers_at, covers_one, covers_more, among_at}
use Rattle.swc_inline_globals.proofs.Ranges.{met_in_range}
use Rattle.swc_inline_globals.proofs.Standing.{grows_set, standing_begun, standing_made}
use Rattle.swc_inline_globals.proofs.Turns.{next_standing, need_path, need_cycle}

-- what holds of the parts of a walk holds of the walk
stands_by : (w v : Walk) → SameAsked w v → {xs : List _} {bs : List Bool} {fs : List Frame} → Standing (answers_of w.lookup.now.settings) w.roots.now xs bs fs → xs ≡ v.finals.items → bs ≡ v.begun.items → fs ≡ v.stack.items → Stands v
stands_by w v asked {xs} {bs} {fs} s x b f =
    subst (λ l. Standing (answers_of l.now.settings) v.roots.now v.finals.items v.begun.items v.stack.items) (sym asked.0)
    (subst (λ r. Standing (answers_of w.lookup.now.settings) r.now v.finals.items v.begun.items v.stack.items) (sym asked.1)
    (subst (λ ys. Standing (answers_of w.lookup.now.settings) w.roots.now ys v.begun.items v.stack.items) x
    (subst (λ cs. Standing (answers_of w.lookup.now.settings) w.roots.now xs cs v.stack.items) b
    (subst (λ gs. Standing (answers_of w.lookup.now.settings) w.roots.now xs bs gs) f s))))

-- what is begun stays so
begun_stays : (bs : List Bool) (i j : ℕ) → i < length bs → IsBegun bs j → IsBegun (set bs i true) j
begun_stays bs i j h b = elim (eqb_tells i j) [
  | inl e ↦ ap (slice_get (set bs i true)) (sym e.1) ∙ get_set_same bs i true h
  | inr e ↦ get_set_other bs i j true e.1 ∙ b
]

-- a value is begun, where it is asked for or met in the one that was begun last
pub begin_stands : (w v : Walk) (i : ℕ) → Stands w → Begins i w v → i < length w.begun.items → Path (answers_of w.lookup.now.settings) w.roots.now (i ∷ walked w.stack.items) → Stands v
begin_stands w v i s b h p = stands_by w v b.asked (standing_begun s i b.frame b.fresh b.begun b.stack h p) (ap (λ x. x.items) (sym b.finals)) refl refl

module _ (w v : Walk) (st : Vec Frame Global) (f g : Frame) (split : w.stack.items ≡ st.items ++ f ∷ []) (s : Stands w) (same : SameFrame f g) (ready : IsReady w.finals.items g) where
  split_stands : Standing (answers_of w.lookup.now.settings) w.roots.now w.finals.items w.begun.items (st.items ++ f ∷ [])
  split_stands = subst (λ fs. Standing (answers_of w.lookup.now.settings) w.roots.now w.finals.items w.begun.items fs) split s

  turned : Standing (answers_of w.lookup.now.settings) w.roots.now w.finals.items w.begun.items (st.items ++ g ∷ [])
  turned = next_standing st.items f g split_stands same ready

  number_in_range : g.number < length w.finals.items
  number_in_range = let r = (All-pop (IsFrame (answers_of w.lookup.now.settings)) (st.items ++ g ∷ []) st.items (Some g) refl turned.frames).1.in_range in subst (λ n. g.number < n) (sym turned.all) r

  longer : length w.stack.items ≡ length st.items + 1
  longer = ap length split ∙ length-append st.items (f ∷ [])

  -- the value that was begun last is made
  pub step_finish : AllDone w.finals.items g.needs.items → Finishes g (record w { stack = st }) v → Steps w v
  step_finish done m =
      let k : length v.stack.items ≡ length st.items = ap (λ x. length x.items) m.stack in
      let n : count_by not v.begun.items ≡ count_by not w.begun.items = ap (λ x. count_by not x.items) m.begun in
      let l = longer in
      record {
        stands = stands_by w v m.asked (standing_made g turned m.value done m.is) (sym m.finals) (sym (ap (λ x. x.items) m.begun)) (sym (ap (λ x. x.items) m.stack));
        asked = m.asked;
        grows = subst (Grows w.finals.items) (sym m.finals) (grows_set w.finals.items g.number m.value number_in_range);
        begun = λ i b. subst (λ bs. IsBegun bs i) (sym (ap (λ x. x.items) m.begun)) b;
        falls = omega (arith, k, n, l);
      }

  module _ (up : Vec Frame Global) (pushed : up.items ≡ st.items ++ g ∷ []) (i : ℕ) (need : IsNeed w.finals.items g.needs.items i) where
    pushed_stands : Stands (record w { stack = up })
    pushed_stands = subst (λ fs. Standing (answers_of w.lookup.now.settings) w.roots.now w.finals.items w.begun.items fs) (sym pushed) turned

    -- what it needs is begun
    pub step_begin : slice_get w.begun.items i ≡ Some false → Begins i (record w { stack = up }) v → Steps w v
    step_begin waits b =
        let h : i < length w.begun.items = slice_get_within w.begun.items i false waits in
        let c : count_by not (set w.begun.items i true) + 1 ≡ count_by not w.begun.items = count_begun w.begun.items i waits in
        let d : count_by not v.begun.items ≡ count_by not (set w.begun.items i true) = ap (count_by not) b.begun in
        let k : length v.stack.items ≡ length up.items + 1 = ap length b.stack ∙ length-append up.items (b.frame ∷ []) in
        let p : length up.items ≡ length st.items + 1 = ap length pushed ∙ length-append st.items (g ∷ []) in
        let l = longer in
        record {
          stands = begin_stands (record w { stack = up }) v i pushed_stands b h (subst (λ fs. Path (answers_of w.lookup.now.settings) w.roots.now (i ∷ walked fs)) (sym pushed) (need_path st.items f g split_stands same i need));
          asked = b.asked;
          grows = λ j e. subst (λ x. is_done x.items j ≡ true) (sym b.finals) e;
          begun = λ j e. subst (λ bs. IsBegun bs j) (sym b.begun) (begun_stays w.begun.items i j h e);
          falls = omega (arith, c, d, k, p, l);
        }

    -- it was begun, and is met in its own value
    pub step_refused : IsBegun w.begun.items i → {e : PassError} → TellsName w.lookup.now.settings i e → RefusedFrom w.lookup.now.settings w.roots.now e
    step_refused b (tells n) t m = cyclic i (need_cycle st.items f g split_stands same i need b m) n

-- the value that was begun last, before its next need is looked for
module _ (w : Walk) (st : Vec Frame Global) (f : Frame) (split : w.stack.items ≡ st.items ++ f ∷ []) (s : Stands w) where
  last_frame : IsFrame (answers_of w.lookup.now.settings) f
  last_frame = (All-pop (IsFrame (answers_of w.lookup.now.settings)) w.stack.items st.items (Some f) split s.frames).1

  pub last_needs : AllInRange (length w.finals.items) f.needs.items
  last_needs =
      subst (λ n. AllInRange n f.needs.items) (sym s.all)
      (subst (λ is. AllInRange (length (answers_of w.lookup.now.settings).values) is) (sym last_frame.needs) (met_in_range w.lookup.now.settings (value_at (answers_of w.lookup.now.settings).values f.number)))

-- a need at a place

unslot : (o : Option Expr) → is_some o ≡ false → is_some (slot_tree (Some o)) ≡ false
unslot None e = refl
unslot (Some x) e = e

in_slot : (o : Option Expr) → is_some o ≡ true → is_some (slot_tree (Some o)) ≡ true
in_slot None e = e
in_slot (Some x) e = refl

module _ (xs : List (Option Expr)) (is : List ℕ) (k i : ℕ) (o : Option Expr) (r : AllInRange (length xs) is) (h : k < length is) (at : i ≡ get_or is k i) (here : o ≡ get_or xs i o) where
  at_in_range : i < length xs
  at_in_range = subst (λ j. j < length xs) (sym at) (ltb-true (get_or is k i) (length xs) (covers_at (λ j. nat_lt j (length xs)) is k i r h))

  pub need_at : is_some o ≡ false → IsNeed xs is i
  need_at e = record {
    in_range = at_in_range;
    among = subst (λ j. is_among j is ≡ true) (sym at) (among_at is k i h);
    waits = ap (λ q. is_some (slot_tree q)) (slice_get-get_or xs i o at_in_range ∙ ap Some (sym here)) ∙ unslot o e;
  }

  pub done_at : is_some o ≡ true → AllDone xs (take k is) → AllDone xs (take (k + 1) is)
  done_at e c =
      ap (covers (is_done xs)) (take_more is k i h)
      ∙ covers_append (is_done xs) (take k is) (get_or is k i ∷ []) c (covers_one (is_done xs) (get_or is k i) (ap (is_done xs) (sym at) ∙ ap (λ q. is_some (slot_tree q)) (slice_get-get_or xs i o at_in_range ∙ ap Some (sym here)) ∙ in_slot o e))

-- what holds of a result, through what it owes

pub on_ok : {A E : Type 0} {P Q : Type 0} (r : Result A E) → (P → Q) → OnOk r P → OnOk r Q
on_ok (Ok x) f h = f h
on_ok (Err e) f h = h

pub if_err : {A E : Type 0} {P Q : E → Type 0} (r : Result A E) → ((e : E) → P e → Q e) → IfErr r P → IfErr r Q
if_err (Ok x) f h = h
if_err (Err e) f h = f e h

-- want of memory is no cycle
pub memory_refused : (s : Settings) (roots : List ℕ) (e : PassError) → e ≡ OutOfMemory → RefusedFrom s roots e
memory_refused s roots e q t m = subst (Refused s t) (sym q) no_memory

-- a value that is asked for

pub settle_begins : (w v : Walk) (i : ℕ) → Stands w → w.stack.items ≡ [] → is_among i w.roots.now ≡ true → i < length w.finals.items → Begins i w v → Stands v
settle_begins w v i s e m h b =
    let all = s.all in
    let begun = s.all_begun in
    begin_stands w v i s b (omega (arith, all, begun, h)) (subst (λ fs. Path (answers_of w.lookup.now.settings) w.roots.now (i ∷ walked fs)) (sym e) (begins m))

pub begins_begun : (w v : Walk) (i : ℕ) → Stands w → i < length w.finals.items → Begins i w v → IsBegun v.begun.items i
begins_begun w v i s h b =
    let all = s.all in
    let begun = s.all_begun in
    subst (λ bs. IsBegun bs i) (sym b.begun) (get_set_same w.begun.items i true (omega (arith, all, begun, h)))

-- one more value is done
pub one_more_done : (xs ys : List (Option Expr)) (is : List ℕ) (k : ℕ) → Grows xs ys → AllDone xs (take k is) → k < length is → (i : ℕ) → i ≡ get_or is k i → is_done ys i ≡ true → AllDone ys (take (k + 1) is)
one_more_done xs ys is k g c h i at d =
    ap (covers (is_done ys)) (take_more is k i h)
    ∙ covers_append (is_done ys) (take k is) (get_or is k i ∷ []) (covers_more (is_done ys) (is_done xs) g (take k is) c) (covers_one (is_done ys) (get_or is k i) (ap (is_done ys) (sym at) ∙ d))
