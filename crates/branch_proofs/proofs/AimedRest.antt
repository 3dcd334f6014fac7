-- Jumps in the body of a loop that aren't aimed at it are aimed without it.
use Rattle.std.proofs.Common.{◌≡◌, ℕ, Bool, true, false, not, ◌&&◌, ◌||◌, List, [], ◌∷◌, Some, None, refl, sym, ◌∙◌, bytes_eq}
use Rattle.std.proofs.lemmas.Bool.{and_parts, and_from, false≢true}
use Rattle.swc_ast.specs.Tree.{Text, Fn, Arrow, Method, FnDecl, ExportDefaultFn, Labeled, While, DoWhile, For, Switch, Break, Continue, Tree, node, Forest, ε, ◌⊳◌}
use Rattle.swc_ast.specs.Meaning.{has_label}
use Rattle.swc_ast.specs.Resolved.{Targets, all_labels, in_loop as loop_targets, below, jump_is_aimed, aimed, aimed_all}
use Rattle.static_proofs.proofs.Targets.{MoreLabels, no_labels, same_labels, label_on_top, labels_together}
use Rattle.branch_rules.specs.Jumps.{Sought, every, only, is_sought, Kinds, escapes_behind, escapes, some_escape}
use Rattle.branch_rules.specs.Once.{looping}
use Rattle.branch_proofs.proofs.Escapes.{neither}
use Rattle.branch_proofs.proofs.Relabelled.{not_not}

-- some kinds
abbrev kinds : Sought → Bool → Bool → List Text → Kinds
kinds k b c i = record { breaks = b; continues = c; labelled = k; inside = i }

-- labels that aren't looked for are still there
record Others (k : Sought) (xs ys : List Text) : Type 0 where
  by : (l : Text) → is_sought k l ≡ false → has_label l xs ≡ true → has_label l ys ≡ true

no_others : (k : Sought) (ys : List Text) → Others k [] ys
no_others k ys = record { by = λ l e h. absurd (false≢true h) }

-- jumps of other kinds go where they went
record Rest (k : Sought) (b c : Bool) (i : List Text) (g h : Targets) : Type 0 where
  labels : MoreLabels g.labels h.labels
  loops_there : (l : Text) → has_label l i ≡ true → has_label l h.loops ≡ true
  -- so does each `continue` with a label that isn't looked for
  others_there : Others k g.loops h.loops
  own_there : Others k g.own h.own
  break_there : b ≡ false → g.can_break ≡ true → h.can_break ≡ true
  continue_there : c ≡ false → g.can_continue ≡ true → h.can_continue ≡ true

-- labels in front of a loop are among those to which its body may go back
record Near (near : List Text) (h : Targets) : Type 0 where
  by : (l : Text) → has_label l near ≡ true → has_label l (loop_targets h).loops ≡ true

or_more : (a n b : Bool) → (n ≡ true → b ≡ true) → (a || n) ≡ true → (a || b) ≡ true
or_more true n b f e = refl
or_more false n b f e = f e

-- a label in front of others
others_on_top : (l : Text) {k : Sought} {xs ys : List Text} → Others k xs ys → Others k (l ∷ xs) (l ∷ ys)
others_on_top l {xs = xs} {ys} f = record { by = λ m s e. or_more (bytes_eq m l) (has_label m xs) (has_label m ys) (f.by m s) e }

-- a label among two rows is in one of them
in_rows : (l : Text) (xs ys : List Text) (b : Bool) → (has_label l xs ≡ true → b ≡ true) → (has_label l ys ≡ true → b ≡ true) → has_label l (all_labels xs ys) ≡ true → b ≡ true
in_rows l [] ys b f g e = g e
in_rows l (x ∷ xs) ys b f g e = by_first (bytes_eq l x) f (in_rows l xs ys b) e
  where
    by_first : (c : Bool) → ((c || has_label l xs) ≡ true → b ≡ true) → ((has_label l xs ≡ true → b ≡ true) → (has_label l ys ≡ true → b ≡ true) → has_label l (all_labels xs ys) ≡ true → b ≡ true) → (c || has_label l (all_labels xs ys)) ≡ true → b ≡ true
    by_first true h r e = h refl
    by_first false h r e = r h g e

in_first : (l : Text) (xs ys : List Text) → has_label l xs ≡ true → has_label l (all_labels xs ys) ≡ true
in_first l [] ys h = absurd (false≢true h)
in_first l (x ∷ xs) ys h = or_more (bytes_eq l x) (has_label l xs) (has_label l (all_labels xs ys)) (in_first l xs ys) h

in_second : (l : Text) (xs ys : List Text) → has_label l ys ≡ true → has_label l (all_labels xs ys) ≡ true
in_second l xs ys h = (labels_together (no_labels xs) (same_labels ys)).by l h

others_together : {k : Sought} {xs ys us vs : List Text} → Others k xs us → Others k ys vs → Others k (all_labels xs ys) (all_labels us vs)
others_together {xs = xs} {ys} {us} {vs} f g = record { by = λ l s e. in_rows l xs ys (has_label l (all_labels us vs)) (λ h. in_first l us vs (f.by l s h)) (λ h. in_second l us vs (g.by l s h)) e }

near_label : {near : List Text} {h : Targets} (l : Text) → Near near h → Near (l ∷ near) (below (Labeled l) h)
near_label {near} {h} l n = record { by = λ m e. or_more (bytes_eq m l) (has_label m near) (has_label m (all_labels h.own h.loops)) (n.by m) e }

module _ {g h : Targets} where
  near_inside : {k : Sought} {b c : Bool} {i : List Text} → Rest k b c i g h → Near i h
  near_inside r = record { by = λ l e. in_second l h.own h.loops (r.loops_there l e) }

  rest_loop : {k : Sought} {b c : Bool} {i : List Text} (p q : Bool) (near : List Text) → Rest k b c i g h → Near near h → Rest k p q near (loop_targets g) (loop_targets h)
  rest_loop {k} p q near r n = record { labels = r.labels; loops_there = n.by; others_there = others_together r.own_there r.others_there; own_there = no_others k []; break_there = λ e i. refl; continue_there = λ e i. refl }

  rest_test : {k : Sought} {b c : Bool} {i : List Text} → Rest k b c i g h → Rest k b c i (loop_targets g) (loop_targets h)
  rest_test {k} {b} {c} {i} r = rest_loop b c i r (near_inside r)

  rest_switch : {k : Sought} {b c : Bool} {i : List Text} (p : Bool) (ds : List Bool) → Rest k b c i g h → Rest k p c i (below (Switch ds) g) (below (Switch ds) h)
  rest_switch {k} p ds r = record { labels = r.labels; loops_there = r.loops_there; others_there = r.others_there; own_there = no_others k []; break_there = λ e i. refl; continue_there = r.continue_there }

  rest_plain : {k : Sought} {b c : Bool} {i : List Text} → Rest k b c i g h → Rest k b c i (record { labels = g.labels; loops = g.loops; can_break = g.can_break; can_continue = g.can_continue; own = [] }) (record { labels = h.labels; loops = h.loops; can_break = h.can_break; can_continue = h.can_continue; own = [] })
  rest_plain {k} r = record { labels = r.labels; loops_there = r.loops_there; others_there = r.others_there; own_there = no_others k []; break_there = r.break_there; continue_there = r.continue_there }

  rest_label : {k : Sought} {b c : Bool} {i : List Text} (l : List ℕ) → Rest k b c i g h → Rest k b c i (below (Labeled l) g) (below (Labeled l) h)
  rest_label l r = record { labels = label_on_top l r.labels; loops_there = r.loops_there; others_there = r.others_there; own_there = others_on_top l r.own_there; break_there = r.break_there; continue_there = r.continue_there }

-- a labelled `continue` that isn't looked for
goes_on : {k : Sought} {b c : Bool} {i : List Text} {g h : Targets} → Rest k b c i g h → (l : Text) → (is_sought k l && not (has_label l i)) ≡ false → has_label l g.loops ≡ true → has_label l h.loops ≡ true
goes_on {k} {i = i} {h = h} r l e a = by_sought (is_sought k l) refl e
  where
    by_sought : (b : Bool) → is_sought k l ≡ b → (b && not (has_label l i)) ≡ false → has_label l h.loops ≡ true
    by_sought true s f = r.loops_there l (not_not (has_label l i) f)
    by_sought false s f = r.others_there.by l s a

mutual
  aimed_rest : (k : Sought) (b c : Bool) (i near : List Text) (t : Tree) {g h : Targets} → Rest k b c i g h → Near near h → escapes_behind near (kinds k b c i) t ≡ false → aimed g t ≡ true → aimed h t ≡ true
  aimed_rest k b c i near (node (Break None) ss cs) {g} {h} r n e a = let p = and_parts (jump_is_aimed (Break None) g) (aimed_all (below (Break None) g) cs) a in let q = neither (some_escape (kinds k b c i) cs) b e in and_from (jump_is_aimed (Break None) h) (aimed_all (below (Break None) h) cs) (r.break_there q.1 p.0) (all_rest k b c i cs (rest_plain r) q.0 p.1)
  aimed_rest k b c i near (node (Break (Some l)) ss cs) {g} {h} r n e a = let p = and_parts (jump_is_aimed (Break (Some l)) g) (aimed_all (below (Break (Some l)) g) cs) a in and_from (jump_is_aimed (Break (Some l)) h) (aimed_all (below (Break (Some l)) h) cs) (r.labels.by l p.0) (all_rest k b c i cs (rest_plain r) e p.1)
  aimed_rest k b c i near (node (Continue None) ss cs) {g} {h} r n e a = let p = and_parts (jump_is_aimed (Continue None) g) (aimed_all (below (Continue None) g) cs) a in let q = neither (some_escape (kinds k b c i) cs) c e in and_from (jump_is_aimed (Continue None) h) (aimed_all (below (Continue None) h) cs) (r.continue_there q.1 p.0) (all_rest k b c i cs (rest_plain r) q.0 p.1)
  aimed_rest k b c i near (node (Continue (Some l)) ss cs) {g} {h} r n e a = let p = and_parts (jump_is_aimed (Continue (Some l)) g) (aimed_all (below (Continue (Some l)) g) cs) a in let q = neither (some_escape (kinds k b c i) cs) (is_sought k l && not (has_label l i)) e in and_from (jump_is_aimed (Continue (Some l)) h) (aimed_all (below (Continue (Some l)) h) cs) (goes_on r l q.1 p.0) (all_rest k b c i cs (rest_plain r) q.0 p.1)
  aimed_rest k b c i near (node (Fn o) ss cs) r n e a = a
  aimed_rest k b c i near (node Arrow ss cs) r n e a = a
  aimed_rest k b c i near (node (FnDecl x) ss cs) r n e a = a
  aimed_rest k b c i near (node (ExportDefaultFn o) ss cs) r n e a = a
  aimed_rest k b c i near (node Method ss cs) r n e a = a
  aimed_rest k b c i near (node (Labeled l) ss (t ⊳ ε)) {g} {h} r n e a = and_from (aimed (below (Labeled l) h) t) true (aimed_rest k b c i (l ∷ near) t (rest_label l r) (near_label l n) e (and_parts (aimed (below (Labeled l) g) t) true a).0) refl
  aimed_rest k b c i near (node (Labeled l) ss cs) r n e a = all_rest k b c i cs (rest_label l r) e a
  aimed_rest k b c i near (node While ss (t ⊳ d ⊳ ε)) {g} {h} r n e a =
      let q = neither (escapes (kinds k b c i) t) (escapes (kinds k false false near) d) e in
      let p = and_parts (aimed (loop_targets g) t) (aimed_all (loop_targets g) (d ⊳ ε)) a in
      let o = and_parts (aimed (loop_targets g) d) true p.1 in
      and_from (aimed (loop_targets h) t) (aimed_all (loop_targets h) (d ⊳ ε)) (aimed_rest k b c i i t (rest_test r) (near_inside (rest_test r)) q.0 p.0) (and_from (aimed (loop_targets h) d) true (aimed_rest k false false near near d (rest_loop false false near r n) (near_inside (rest_loop false false near r n)) q.1 o.0) refl)
  aimed_rest k b c i near (node DoWhile ss (d ⊳ t ⊳ ε)) {g} {h} r n e a =
      let q = neither (escapes (kinds k false false near) d) (escapes (kinds k b c i) t) e in
      let p = and_parts (aimed (loop_targets g) d) (aimed_all (loop_targets g) (t ⊳ ε)) a in
      let o = and_parts (aimed (loop_targets g) t) true p.1 in
      and_from (aimed (loop_targets h) d) (aimed_all (loop_targets h) (t ⊳ ε)) (aimed_rest k false false near near d (rest_loop false false near r n) (near_inside (rest_loop false false near r n)) q.0 p.0) (and_from (aimed (loop_targets h) t) true (aimed_rest k b c i i t (rest_test r) (near_inside (rest_test r)) q.1 o.0) refl)
  aimed_rest k b c i near (node For ss (f ⊳ t ⊳ u ⊳ d ⊳ ε)) {g} {h} r n e a =
      let q = neither (escapes (kinds k b c i) f) (escapes (kinds k b c i) t || (escapes (kinds k b c i) u || escapes (kinds k false false near) d)) e in
      let w = neither (escapes (kinds k b c i) t) (escapes (kinds k b c i) u || escapes (kinds k false false near) d) q.1 in
      let x = neither (escapes (kinds k b c i) u) (escapes (kinds k false false near) d) w.1 in
      let p = and_parts (aimed (loop_targets g) f) (aimed_all (loop_targets g) (t ⊳ u ⊳ d ⊳ ε)) a in
      let o = and_parts (aimed (loop_targets g) t) (aimed_all (loop_targets g) (u ⊳ d ⊳ ε)) p.1 in
      let m = and_parts (aimed (loop_targets g) u) (aimed_all (loop_targets g) (d ⊳ ε)) o.1 in
      let s = and_parts (aimed (loop_targets g) d) true m.1 in
      and_from (aimed (loop_targets h) f) (aimed_all (loop_targets h) (t ⊳ u ⊳ d ⊳ ε)) (aimed_rest k b c i i f (rest_test r) (near_inside (rest_test r)) q.0 p.0) (and_from (aimed (loop_targets h) t) (aimed_all (loop_targets h) (u ⊳ d ⊳ ε)) (aimed_rest k b c i i t (rest_test r) (near_inside (rest_test r)) w.0 o.0)
      (and_from (aimed (loop_targets h) u) (aimed_all (loop_targets h) (d ⊳ ε)) (aimed_rest k b c i i u (rest_test r) (near_inside (rest_test r)) x.0 m.0) (and_from (aimed (loop_targets h) d) true (aimed_rest k false false near near d (rest_loop false false near r n) (near_inside (rest_loop false false near r n)) x.1 s.0) refl)))
  aimed_rest k b c i near (node While ss cs) r n e a = all_rest k b c i cs (rest_test r) e a
  aimed_rest k b c i near (node DoWhile ss cs) r n e a = all_rest k b c i cs (rest_test r) e a
  aimed_rest k b c i near (node For ss cs) r n e a = all_rest k b c i cs (rest_test r) e a
  aimed_rest k b c i near (node (Switch ds) ss (d ⊳ cs)) {g} {h} r n e a =
      let q = neither (escapes (kinds k b c i) d) (some_escape (kinds k false c i) cs) e in
      let p = and_parts (aimed (below (Switch ds) g) d) (aimed_all (below (Switch ds) g) cs) a in
      and_from (aimed (below (Switch ds) h) d) (aimed_all (below (Switch ds) h) cs) (aimed_rest k b c i i d (rest_switch b ds r) (near_inside (rest_switch b ds r)) q.0 p.0) (all_rest k false c i cs (rest_switch false ds r) q.1 p.1)
  aimed_rest k b c i near (node (Switch ds) ss ε) r n e a = refl
  aimed_rest k b c i near (node l ss cs) r n e a = all_rest k b c i cs (rest_plain r) e a

  all_rest : (k : Sought) (b c : Bool) (i : List Text) (ts : Forest) {g h : Targets} → Rest k b c i g h → some_escape (kinds k b c i) ts ≡ false → aimed_all g ts ≡ true → aimed_all h ts ≡ true
  all_rest k b c i ε r e a = refl
  all_rest k b c i (t ⊳ ts) {g} {h} r e a = let p = and_parts (aimed g t) (aimed_all g ts) a in let q = neither (escapes (kinds k b c i) t) (some_escape (kinds k b c i) ts) e in and_from (aimed h t) (aimed_all h ts) (aimed_rest k b c i i t r (near_inside r) q.0 p.0) (all_rest k b c i ts r q.1 p.1)

-- what may be jumped to in the body of a loop may be jumped to without it, but by jumps that are aimed at it
out_of : {k : Sought} (g : Targets) → Others k g.own [] → Rest k true true [] (loop_targets g) g
out_of {k} g f = record {
  labels = same_labels g.labels;
  loops_there = λ l e. absurd (false≢true e);
  others_there = record { by = λ l s e. in_rows l g.own g.loops (has_label l g.loops) (λ h. absurd (false≢true (f.by l s h))) (λ h. h) e };
  own_there = no_others k g.own;
  break_there = λ e. absurd (false≢true (sym e));
  continue_there = λ e. absurd (false≢true (sym e));
}

out_aimed : {k : Sought} (g : Targets) (b : Tree) → Others k g.own [] → escapes (looping k) b ≡ false → aimed (loop_targets g) b ≡ true → aimed g b ≡ true
out_aimed {k} g b f e a = aimed_rest k true true [] [] b (out_of g f) (near_inside (out_of g f)) e a

pub aimed_without : (g : Targets) (b : Tree) → escapes (looping every) b ≡ false → aimed (loop_targets g) b ≡ true → aimed g b ≡ true
aimed_without g b e a = out_aimed g b (record { by = λ l s h. absurd (false≢true (sym s)) }) e a

-- of a loop whose own labels are among those that are looked for
pub aimed_bare : {ls : List Text} (g : Targets) (b : Tree) → MoreLabels g.own ls → escapes (looping (only ls)) b ≡ false → aimed (loop_targets g) b ≡ true → aimed g b ≡ true
aimed_bare g b f e a = out_aimed g b (record { by = λ l s h. absurd (false≢true (sym s ∙ f.by l h)) }) e a
