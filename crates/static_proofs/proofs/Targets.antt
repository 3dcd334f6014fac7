-- Where more may be jumped to, what was aimed stays aimed.
use Rattle.std.proofs.Common.{◌≡◌, Bool, true, false, ◌||◌, if◌then◌else◌, List, [], ◌∷◌, Some, None, refl, sym, ◌∙◌, bytes_eq, ◌⊎◌, inl, inr}
use Rattle.std.proofs.lemmas.Bool.{and_parts, and_from, or_cases, or_left, or_right, false≢true}
use Rattle.swc_ast.specs.Tree.{Text, Label, Labeled, While, DoWhile, For, Switch, Break, Continue, Tree, node, Forest, ε, ◌⊳◌}
use Rattle.swc_ast.specs.Scope.{is_function}
use Rattle.swc_ast.specs.Meaning.{has_label}
use Rattle.swc_ast.specs.Resolved.{Targets, no_targets, all_labels, in_loop, below, jump_is_aimed, aimed, aimed_all}
use Rattle.static_proofs.specs.Drawn.{lets_jumps_out}

pub record MoreLabels (xs ys : List Text) : Type 0 where
  pub by : (t : Text) → has_label t xs ≡ true → has_label t ys ≡ true

pub record More (g h : Targets) : Type 0 where
  pub more_labels : MoreLabels g.labels h.labels
  pub more_loops : MoreLabels g.loops h.loops
  pub more_own : MoreLabels g.own h.own
  pub more_break : g.can_break ≡ true → h.can_break ≡ true
  pub more_continue : g.can_continue ≡ true → h.can_continue ≡ true

pub no_labels : (ys : List Text) → MoreLabels [] ys
no_labels ys = record { by = λ t h. absurd (false≢true h) }

pub same_labels : (xs : List Text) → MoreLabels xs xs
same_labels xs = record { by = λ t h. h }

pub label_on_top : (l : Text) {xs ys : List Text} → MoreLabels xs ys → MoreLabels (l ∷ xs) (l ∷ ys)
label_on_top l {xs} {ys} f = record { by = λ t h. by_case t (bytes_eq t l) h }
  where
    by_case : (t : Text) (b : Bool) → (b || has_label t xs) ≡ true → (b || has_label t ys) ≡ true
    by_case t true e = refl
    by_case t false e = f.by t e

all_labels_has : (t : Text) (xs ys : List Text) → has_label t (all_labels xs ys) ≡ (has_label t xs || has_label t ys)
all_labels_has t [] ys = refl
all_labels_has t (x ∷ xs) ys = by_case (bytes_eq t x) (all_labels_has t xs ys)
  where
    by_case : (b : Bool) → has_label t (all_labels xs ys) ≡ (has_label t xs || has_label t ys) → (b || has_label t (all_labels xs ys)) ≡ ((b || has_label t xs) || has_label t ys)
    by_case true e = refl
    by_case false e = e

pub labels_together : {xs ys us vs : List Text} → MoreLabels xs us → MoreLabels ys vs → MoreLabels (all_labels xs ys) (all_labels us vs)
labels_together {xs} {ys} {us} {vs} f g = record { by = λ t h. all_labels_has t us vs ∙ by_case t (or_cases (has_label t xs) (has_label t ys) (sym (all_labels_has t xs ys) ∙ h)) }
  where
    by_case : (t : Text) → (has_label t xs ≡ true) ⊎ (has_label t ys ≡ true) → (has_label t us || has_label t vs) ≡ true
    by_case t (inl e) = or_left (has_label t us) (has_label t vs) (f.by t e)
    by_case t (inr e) = or_right (has_label t us) (has_label t vs) (g.by t e)

pub more_in_loop : {g h : Targets} → More g h → More (in_loop g) (in_loop h)
more_in_loop m = record { more_labels = m.more_labels; more_loops = labels_together m.more_own m.more_loops; more_own = no_labels []; more_break = λ e. refl; more_continue = λ e. refl }

pub more_same : (g : Targets) → More g g
more_same g = record { more_labels = same_labels g.labels; more_loops = same_labels g.loops; more_own = same_labels g.own; more_break = λ e. e; more_continue = λ e. e }

more_plain : (b : Bool) (g h : Targets) → More g h → More (if b then no_targets else record { labels = g.labels; loops = g.loops; can_break = g.can_break; can_continue = g.can_continue; own = [] }) (if b then no_targets else record { labels = h.labels; loops = h.loops; can_break = h.can_break; can_continue = h.can_continue; own = [] })
more_plain true g h m = more_same no_targets
more_plain false g h m = record { more_labels = m.more_labels; more_loops = m.more_loops; more_own = no_labels []; more_break = m.more_break; more_continue = m.more_continue }

pub more_below : (l : Label) {g h : Targets} → More g h → More (below l g) (below l h)
more_below (Labeled t) m = record { more_labels = label_on_top t m.more_labels; more_loops = m.more_loops; more_own = label_on_top t m.more_own; more_break = m.more_break; more_continue = m.more_continue }
more_below While m = more_in_loop m
more_below DoWhile m = more_in_loop m
more_below For m = more_in_loop m
more_below (Switch ds) m = record { more_labels = m.more_labels; more_loops = m.more_loops; more_own = no_labels []; more_break = λ e. refl; more_continue = m.more_continue }
more_below l {g} {h} m = more_plain (is_function l) g h m

pub jump_more : (l : Label) {g h : Targets} → More g h → jump_is_aimed l g ≡ true → jump_is_aimed l h ≡ true
jump_more (Break None) m e = m.more_break e
jump_more (Break (Some t)) m e = m.more_labels.by t e
jump_more (Continue None) m e = m.more_continue e
jump_more (Continue (Some t)) m e = m.more_loops.by t e
jump_more l m e = refl

mutual
  pub aimed_more : (t : Tree) {g h : Targets} → More g h → aimed g t ≡ true → aimed h t ≡ true
  aimed_more (node l ss cs) {g} {h} m e = let p = and_parts (jump_is_aimed l g) (aimed_all (below l g) cs) e in and_from (jump_is_aimed l h) (aimed_all (below l h) cs) (jump_more l m p.0) (aimed_all_more cs (more_below l m) p.1)

  pub aimed_all_more : (ts : Forest) {g h : Targets} → More g h → aimed_all g ts ≡ true → aimed_all h ts ≡ true
  aimed_all_more ε m e = refl
  aimed_all_more (t ⊳ ts) {g} {h} m e = let p = and_parts (aimed g t) (aimed_all g ts) e in and_from (aimed h t) (aimed_all h ts) (aimed_more t m p.0) (aimed_all_more ts m p.1)

-- below a node that no jump goes to there is no more to jump to than round it
out_plain : (b : Bool) (g : Targets) → More (if b then no_targets else record { labels = g.labels; loops = g.loops; can_break = g.can_break; can_continue = g.can_continue; own = [] }) g
out_plain true g = record { more_labels = no_labels g.labels; more_loops = no_labels g.loops; more_own = no_labels g.own; more_break = λ e. absurd (false≢true e); more_continue = λ e. absurd (false≢true e) }
out_plain false g = record { more_labels = same_labels g.labels; more_loops = same_labels g.loops; more_own = no_labels g.own; more_break = λ e. e; more_continue = λ e. e }

pub more_out : (l : Label) (g : Targets) → lets_jumps_out l ≡ true → More (below l g) g
more_out (Labeled t) g e = absurd (false≢true e)
more_out While g e = absurd (false≢true e)
more_out DoWhile g e = absurd (false≢true e)
more_out For g e = absurd (false≢true e)
more_out (Switch ds) g e = absurd (false≢true e)
more_out l g e = out_plain (is_function l) g
