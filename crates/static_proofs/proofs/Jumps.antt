-- A tree that no jump leaves stays aimed where there is no loop or no switch round it.
use Rattle.std.proofs.Common.{◌≡◌, Bool, true, false, not, ◌&&◌, if◌then◌else◌, [], Some, None, refl, sym, ◌∙◌}
use Rattle.std.proofs.lemmas.Bool.{and_parts, and_from, or_parts}
use Rattle.swc_ast.specs.Tree.{Label, Labeled, While, DoWhile, For, Switch, Break, Continue, Tree, node, Forest, ε, ◌⊳◌}
use Rattle.swc_ast.specs.Scope.{is_function}
use Rattle.swc_ast.specs.Resolved.{Targets, no_targets, in_loop, below, jump_is_aimed, aimed, aimed_all}
use Rattle.static_proofs.specs.Jumps.{jumps_here, breaks_pass, continues_pass, jumps_out, any_jumps_out}
use Rattle.static_proofs.proofs.Targets.{MoreLabels, More, no_labels, label_on_top, more_same, labels_together}

-- what may be jumped to, but for unlabelled jumps that don't occur
pub record MoreBut (b c : Bool) (g h : Targets) : Type 0 where
  pub but_labels : MoreLabels g.labels h.labels
  pub but_loops : MoreLabels g.loops h.loops
  pub but_own : MoreLabels g.own h.own
  pub but_break : b ≡ false → g.can_break ≡ true → h.can_break ≡ true
  pub but_continue : c ≡ false → g.can_continue ≡ true → h.can_continue ≡ true

jump_but : (l : Label) (b c : Bool) {g h : Targets} → MoreBut b c g h → jumps_here b c l ≡ false → jump_is_aimed l g ≡ true → jump_is_aimed l h ≡ true
jump_but (Break None) b c m j e = m.but_break j e
jump_but (Break (Some t)) b c m j e = m.but_labels.by t e
jump_but (Continue None) b c m j e = m.but_continue j e
jump_but (Continue (Some t)) b c m j e = m.but_loops.by t e
jump_but l b c m j e = refl

loop_more : {b c : Bool} {g h : Targets} → MoreBut b c g h → More (in_loop g) (in_loop h)
loop_more m = record { more_labels = m.but_labels; more_loops = labels_together m.but_own m.but_loops; more_own = no_labels []; more_break = λ e. refl; more_continue = λ e. refl }

but_of : {g h : Targets} (b c : Bool) → More g h → MoreBut b c g h
but_of b c m = record { but_labels = m.more_labels; but_loops = m.more_loops; but_own = m.more_own; but_break = λ i e. m.more_break e; but_continue = λ i e. m.more_continue e }

and_true : (b : Bool) → (b && true) ≡ b
and_true true = refl
and_true false = refl

plain_but : (f b c : Bool) (g h : Targets) → MoreBut b c g h → MoreBut (b && not f) (c && not f) (if f then no_targets else record { labels = g.labels; loops = g.loops; can_break = g.can_break; can_continue = g.can_continue; own = [] }) (if f then no_targets else record { labels = h.labels; loops = h.loops; can_break = h.can_break; can_continue = h.can_continue; own = [] })
plain_but true b c g h m = but_of (b && false) (c && false) (more_same no_targets)
plain_but false b c g h m = record { but_labels = m.but_labels; but_loops = m.but_loops; but_own = no_labels []; but_break = λ i e. m.but_break (sym (and_true b) ∙ i) e; but_continue = λ i e. m.but_continue (sym (and_true c) ∙ i) e }

below_but : (l : Label) (b c : Bool) {g h : Targets} → MoreBut b c g h → MoreBut (b && breaks_pass l) (c && continues_pass l) (below l g) (below l h)
below_but (Labeled t) b c m = record { but_labels = label_on_top t m.but_labels; but_loops = m.but_loops; but_own = label_on_top t m.but_own; but_break = λ i e. m.but_break (sym (and_true b) ∙ i) e; but_continue = λ i e. m.but_continue (sym (and_true c) ∙ i) e }
below_but While b c m = but_of (b && false) (c && false) (loop_more m)
below_but DoWhile b c m = but_of (b && false) (c && false) (loop_more m)
below_but For b c m = but_of (b && false) (c && false) (loop_more m)
below_but (Switch ds) b c m = record { but_labels = m.but_labels; but_loops = m.but_loops; but_own = no_labels []; but_break = λ i e. refl; but_continue = λ i e. m.but_continue (sym (and_true c) ∙ i) e }
below_but l b c {g} {h} m = plain_but (is_function l) b c g h m

mutual
  pub aimed_but : (t : Tree) (b c : Bool) {g h : Targets} → MoreBut b c g h → jumps_out b c t ≡ false → aimed g t ≡ true → aimed h t ≡ true
  aimed_but (node l ss cs) b c {g} {h} m j e =
      let p = and_parts (jump_is_aimed l g) (aimed_all (below l g) cs) e in
      let q = or_parts (jumps_here b c l) (any_jumps_out (b && breaks_pass l) (c && continues_pass l) cs) j in
      and_from (jump_is_aimed l h) (aimed_all (below l h) cs) (jump_but l b c m q.0 p.0) (aimed_all_but cs (b && breaks_pass l) (c && continues_pass l) (below_but l b c m) q.1 p.1)

  pub aimed_all_but : (ts : Forest) (b c : Bool) {g h : Targets} → MoreBut b c g h → any_jumps_out b c ts ≡ false → aimed_all g ts ≡ true → aimed_all h ts ≡ true
  aimed_all_but ε b c m j e = refl
  aimed_all_but (t ⊳ ts) b c {g} {h} m j e =
      let p = and_parts (aimed g t) (aimed_all g ts) e in
      let q = or_parts (jumps_out b c t) (any_jumps_out b c ts) j in
      and_from (aimed h t) (aimed_all h ts) (aimed_but t b c m q.0 p.0) (aimed_all_but ts b c m q.1 p.1)
