-- A turn of the walk: the value that was begun last, once its next need was looked for.
use Rattle.std.proofs.Common.{◌≡◌, ℕ, ◌<◌, Bool, true, inl, inr, List, [], ◌∷◌, ◌++◌, length, Option, Some, refl, sym, ap, subst, ◌∙◌}
use Rattle.std.proofs.lemmas.Bool.{false≢true}
use Rattle.std.proofs.lemmas.List.Elements.{All-push, All-pop}
use Rattle.swc_ast.specs.Tree.{Tree}
use Rattle.swc_ast.specs.Views.{expr_tree}
use Rattle.swc_ast.specs.declared.expressions.Expr.{Expr}
use Rattle.swc_pass.specs.Given.{Answers, value_at}
use Rattle.given_rules.specs.Cycles.{is_among, Cycle}
use Rattle.given_rules.specs.Met.{met}
use Rattle.swc_inline_globals.specs.Walking.{IsFrame, IsReady, IsNeed, SameFrame, walked, Path, goes, IsBegun, Standing}
use Rattle.swc_inline_globals.specs.declared.finals.Frame.{Frame}
use Rattle.swc_inline_globals.proofs.Paths.{walked_push, path_cycle}

module _ {a : Answers} {roots : List ℕ} {xs : List (Option Expr)} {bs : List Bool} (fs : List Frame) (f g : Frame) (s : Standing a roots xs bs (fs ++ f ∷ [])) (same : SameFrame f g) where
  old_frame : IsFrame a f
  old_frame = (All-pop (IsFrame a) (fs ++ f ∷ []) fs (Some f) refl s.frames).1

  new_frame : IsFrame a g
  new_frame = record {
    in_range = subst (λ n. n < length a.values) (sym same.number) old_frame.in_range;
    value = ap expr_tree same.value ∙ old_frame.value ∙ ap (value_at a.values) (sym same.number);
    needs = ap (λ v. v.items) same.needs ∙ old_frame.needs ∙ ap (λ n. met a (value_at a.values n)) (sym same.number);
  }

  same_walked : walked (fs ++ g ∷ []) ≡ walked (fs ++ f ∷ [])
  same_walked = walked_push fs g ∙ ap (λ n. n ∷ walked fs) same.number ∙ sym (walked_push fs f)

  pub next_standing : IsReady xs g → Standing a roots xs bs (fs ++ g ∷ [])
  next_standing ready = record {
    made = s.made;
    all = s.all;
    all_begun = s.all_begun;
    frames = All-push (IsFrame a) fs g (All-pop (IsFrame a) (fs ++ f ∷ []) fs (Some f) refl s.frames).0 new_frame;
    ready = All-push (IsReady xs) fs g (All-pop (IsReady xs) (fs ++ f ∷ []) fs (Some f) refl s.ready).0 ready;
    path = subst (Path a roots) (sym same_walked) s.path;
    begun = λ i b. elim (s.begun i b) [
      | inl d ↦ inl d
      | inr m ↦ inr (subst (λ is. is_among i is ≡ true) (sym same_walked) m)
    ];
  }

  need_met : (i : ℕ) → IsNeed xs g.needs.items i → is_among i (met a (value_at a.values g.number)) ≡ true
  need_met i n = subst (λ is. is_among i is ≡ true) new_frame.needs n.among

  last_path : Path a roots (g.number ∷ walked fs)
  last_path = subst (Path a roots) (ap (λ n. n ∷ walked fs) (sym same.number)) (subst (Path a roots) (walked_push fs f) s.path)

  -- what is needed may be begun
  pub need_path : (i : ℕ) → IsNeed xs g.needs.items i → Path a roots (i ∷ walked (fs ++ g ∷ []))
  need_path i n = subst (λ is. Path a roots (i ∷ is)) (sym (walked_push fs g)) (goes (need_met i n) last_path)

  -- unless it was begun: then it is met in its own value
  pub need_cycle : (i : ℕ) → IsNeed xs g.needs.items i → IsBegun bs i → {t : Tree} → met a t ≡ roots → Cycle a t i
  need_cycle i n b m = elim (s.begun i b) [
    | inl d ↦ absurd (false≢true (sym n.waits ∙ d))
    | inr w ↦ path_cycle m g.number (walked fs) last_path i (subst (λ is. is_among i is ≡ true) (walked_push fs f ∙ ap (λ n. n ∷ walked fs) (sym same.number)) w) (need_met i n)
  ]
