-- What holds of trees holds of what is built of them.
use Rattle.std.proofs.Common.{None, ◌≡◌, ◌≤◌, Bool, true, false, ◌&&◌, if◌then◌else◌, List, refl, ap, ◌∙◌, arith}
use Rattle.std.proofs.lemmas.Bool.{and_parts, and_from, false≢true}
use Rattle.swc_ast.specs.declared.Span.{Span}
use Rattle.swc_ast.specs.Tree.{Name, Label, Labeled, While, DoWhile, For, Switch, Tree, node, Forest, ε, ◌⊳◌}
use Rattle.swc_ast.specs.Scope.{is_function, joined, vars}
use Rattle.swc_ast.specs.Valid.{good_names, good_shape, valid, valid_all}
use Rattle.swc_ast.specs.Resolved.{scopes_all, Targets, no_targets, below, jump_is_aimed, aimed, aimed_all, params_apart, apart, apart_all}
use Rattle.swc_ast.specs.Core.{numbers_fit, good_scope, fits, fits_all}
use Rattle.static_proofs.specs.Names.{Within, frame}
use Rattle.static_proofs.specs.Keeps.{Keeps}
use Rattle.static_proofs.specs.Drawn.{lets_jumps_out, AllDrawn}
use Rattle.static_proofs.specs.Together.{without_own}
use Rattle.static_proofs.specs.Over.{Over, over_none, over_piece, over_made}
use Rattle.static_proofs.proofs.Targets.{More, aimed_all_more}
use Rattle.static_proofs.proofs.Drawn.{scopes_joined, all_drawn_scopes, all_drawn_valid, all_drawn_aimed, all_drawn_apart, all_drawn_fit, valid_below, aimed_below, apart_below, fits_below}
use Rattle.static_proofs.proofs.Plain.{Plain, keeps_plain, keeps_to_plain}

-- lists taken apart

pub valid_parts : (ts us : Forest) → valid_all (joined ts us) ≡ true → (valid_all ts ≡ true) × (valid_all us ≡ true)
valid_parts ε us h = (refl, h)
valid_parts (t ⊳ ts) us h = let p = and_parts (valid t) (valid_all (joined ts us)) h in let q = valid_parts ts us p.1 in (and_from (valid t) (valid_all ts) p.0 q.0, q.1)

pub aimed_parts : (g : Targets) (ts us : Forest) → aimed_all g (joined ts us) ≡ true → (aimed_all g ts ≡ true) × (aimed_all g us ≡ true)
aimed_parts g ε us h = (refl, h)
aimed_parts g (t ⊳ ts) us h = let p = and_parts (aimed g t) (aimed_all g (joined ts us)) h in let q = aimed_parts g ts us p.1 in (and_from (aimed g t) (aimed_all g ts) p.0 q.0, q.1)

pub apart_parts : (ts us : Forest) → apart_all (joined ts us) ≡ true → (apart_all ts ≡ true) × (apart_all us ≡ true)
apart_parts ε us h = (refl, h)
apart_parts (t ⊳ ts) us h = let p = and_parts (apart t) (apart_all (joined ts us)) h in let q = apart_parts ts us p.1 in (and_from (apart t) (apart_all ts) p.0 q.0, q.1)

pub fits_parts : (ts us : Forest) → fits_all (joined ts us) ≡ true → (fits_all ts ≡ true) × (fits_all us ≡ true)
fits_parts ε us h = (refl, h)
fits_parts (t ⊳ ts) us h = let p = and_parts (fits t) (fits_all (joined ts us)) h in let q = fits_parts ts us p.1 in (and_from (fits t) (fits_all ts) p.0 q.0, q.1)

-- labels of the statement round it matter to labels and loops alone

pub below_plain : (l : Label) (g : Targets) → lets_jumps_out l ≡ true → is_function l ≡ false → below l g ≡ without_own g
below_plain (Labeled t) g h i = absurd (false≢true h)
below_plain While g h i = absurd (false≢true h)
below_plain DoWhile g h i = absurd (false≢true h)
below_plain For g h i = absurd (false≢true h)
below_plain (Switch ds) g h i = absurd (false≢true h)
below_plain l g h i = ap (λ b. if b then no_targets else without_own g) i

pub more_without : (g : Targets) → More (without_own g) g
more_without g = record { more_labels = record { by = λ t h. h }; more_loops = record { by = λ t h. h }; more_own = record { by = λ t h. absurd (false≢true h) }; more_break = λ e. e; more_continue = λ e. e }

plain_without : (b : Bool) (g : Targets) → More (if b then no_targets else without_own g) (without_own g)
plain_without true g = record { more_labels = record { by = λ t h. absurd (false≢true h) }; more_loops = record { by = λ t h. absurd (false≢true h) }; more_own = record { by = λ t h. h }; more_break = λ e. absurd (false≢true e); more_continue = λ e. absurd (false≢true e) }
plain_without false g = record { more_labels = record { by = λ t h. h }; more_loops = record { by = λ t h. h }; more_own = record { by = λ t h. h }; more_break = λ e. e; more_continue = λ e. e }

pub below_without : (l : Label) (g : Targets) → lets_jumps_out l ≡ true → More (below l g) (without_own g)
below_without (Labeled t) g h = absurd (false≢true h)
below_without While g h = absurd (false≢true h)
below_without DoWhile g h = absurd (false≢true h)
below_without For g h = absurd (false≢true h)
below_without (Switch ds) g h = absurd (false≢true h)
below_without l g h = plain_without (is_function l) g

-- what is built

module _ (V F : Type 0) where
  pub over_scopes : (x : Name) {us vs : Forest} → Over V F us vs → scopes_all x vs ≤ scopes_all x us
  over_scopes x over_none = omega arith
  over_scopes x (over_piece k) = omega (arith, over_scopes x k)
  over_scopes x (over_made {us = us} {ts = ts} m k ks) = omega (arith, m.opens_none x, over_scopes x k, over_scopes x ks, scopes_joined x us ts)

  pub over_valid : {us vs : Forest} → Over V F us vs → V → valid_all us ≡ true → valid_all vs ≡ true
  over_valid over_none v h = refl
  over_valid (over_piece {t = t} {us = us} {vs = vs} k) v e = let p = and_parts (valid t) (valid_all us) e in and_from (valid t) (valid_all vs) p.0 (over_valid k v p.1)
  over_valid (over_made {l = l} {us = us} {ws = ws} {ts = ts} {vs = vs} m k ks) v e =
      let p = valid_parts us ts e in
      and_from (good_names l && good_shape l ws && valid_all ws) (valid_all vs) (and_from (good_names l && good_shape l ws) (valid_all ws) (and_from (good_names l) (good_shape l ws) (m.names v) (m.shape v)) (over_valid k v p.0)) (over_valid ks v p.1)

  -- at targets with no labels of the statement at hand
  pub over_aimed : (g : Targets) {us vs : Forest} → Over V F us vs → aimed_all (without_own g) us ≡ true → aimed_all (without_own g) vs ≡ true
  over_aimed g over_none e = refl
  over_aimed g (over_piece {t = t} {us = us} {vs = vs} k) e = let p = and_parts (aimed (without_own g) t) (aimed_all (without_own g) us) e in and_from (aimed (without_own g) t) (aimed_all (without_own g) vs) p.0 (over_aimed g k p.1)
  over_aimed g (over_made {l = l} {us = us} {ws = ws} {ts = ts} {vs = vs} m k ks) e =
      let p = aimed_parts (without_own g) us ts e in
      and_from (jump_is_aimed l (without_own g) && aimed_all (below l (without_own g)) ws) (aimed_all (without_own g) vs) (and_from (jump_is_aimed l (without_own g)) (aimed_all (below l (without_own g)) ws) (m.no_jump (without_own g)) (ap (λ d. aimed_all d ws) (below_plain l (without_own g) m.out m.no_function) ∙ over_aimed g k p.0)) (over_aimed g ks p.1)

  pub over_apart : {us vs : Forest} → Over V F us vs → apart_all us ≡ true → apart_all vs ≡ true
  over_apart over_none e = refl
  over_apart (over_piece {t = t} {us = us} {vs = vs} k) e = let p = and_parts (apart t) (apart_all us) e in and_from (apart t) (apart_all vs) p.0 (over_apart k p.1)
  over_apart (over_made {l = l} {us = us} {ws = ws} {ts = ts} {vs = vs} m k ks) e =
      let p = apart_parts us ts e in
      and_from ((if is_function l then params_apart ws else true) && apart_all ws) (apart_all vs) (and_from (if is_function l then params_apart ws else true) (apart_all ws) (ap (λ b. if b then params_apart ws else true) m.no_function) (over_apart k p.0)) (over_apart ks p.1)

  pub over_fits : {us vs : Forest} → Over V F us vs → F → fits_all us ≡ true → fits_all vs ≡ true
  over_fits over_none f e = refl
  over_fits (over_piece {t = t} {us = us} {vs = vs} k) f e = let p = and_parts (fits t) (fits_all us) e in and_from (fits t) (fits_all vs) p.0 (over_fits k f p.1)
  over_fits (over_made {l = l} {us = us} {ws = ws} {ts = ts} {vs = vs} m k ks) f e =
      let p = fits_parts us ts e in
      and_from (numbers_fit l && (good_scope l ws && fits_all ws)) (fits_all vs) (and_from (numbers_fit l) (good_scope l ws && fits_all ws) (m.numbers f) (and_from (good_scope l ws) (fits_all ws) (m.scope f) (over_fits k f p.0))) (over_fits ks f p.1)

pub single : (b : Bool) → (b && true) ≡ true → b ≡ true
single true h = refl
single false h = h

-- a tree that is built of what is drawn from another
pub built_keeps_from : {l : Label} {ss : List Span} {cs us : Forest} {u : Tree} → lets_jumps_out l ≡ true → frame (node l ss cs) ≡ None → Plain u → Within (vars u) (vars (node l ss cs)) → AllDrawn cs us → Over (valid (node l ss cs) ≡ true) (fits (node l ss cs) ≡ true) us (u ⊳ ε) → Keeps (node l ss cs) u
built_keeps_from {l} {ss} {cs} {us} {u} e p q v d o = keeps_to_plain p q
    (λ x. omega (arith, all_drawn_scopes x d, over_scopes (valid (node l ss cs) ≡ true) (fits (node l ss cs) ≡ true) x o))
    v
    (λ h. single (valid u) (over_valid (valid (node l ss cs) ≡ true) (fits (node l ss cs) ≡ true) o h (all_drawn_valid d (valid_below l ss cs h))))
    (λ g h. single (aimed g u) (aimed_all_more (u ⊳ ε) (more_without g) (over_aimed (valid (node l ss cs) ≡ true) (fits (node l ss cs) ≡ true) g o (aimed_all_more us (below_without l g e) (all_drawn_aimed (below l g) d (aimed_below g l ss cs h))))))
    (λ h. single (apart u) (over_apart (valid (node l ss cs) ≡ true) (fits (node l ss cs) ≡ true) o (all_drawn_apart d (apart_below l ss cs h))))
    (λ h. single (fits u) (over_fits (valid (node l ss cs) ≡ true) (fits (node l ss cs) ≡ true) o h (all_drawn_fit d (fits_below l ss cs h))))

pub built_keeps : {l : Label} {ss : List Span} {cs us : Forest} {u : Tree} → lets_jumps_out l ≡ true → Plain (node l ss cs) → Plain u → Within (vars u) (vars (node l ss cs)) → AllDrawn cs us → Over (valid (node l ss cs) ≡ true) (fits (node l ss cs) ≡ true) us (u ⊳ ε) → Keeps (node l ss cs) u
built_keeps e p q v d o = built_keeps_from e p.no_frame q v d o

-- a tree that is built of nothing
pub made_keeps : {t u : Tree} → Plain t → Plain u → Within (vars u) (vars t) → Over (valid t ≡ true) (fits t ≡ true) ε (u ⊳ ε) → Keeps t u
made_keeps {t} {u} p q v o = keeps_plain p q
    (λ x. omega (arith, over_scopes (valid t ≡ true) (fits t ≡ true) x o))
    v
    (λ h. single (valid u) (over_valid (valid t ≡ true) (fits t ≡ true) o h refl))
    (λ g h. single (aimed g u) (aimed_all_more (u ⊳ ε) (more_without g) (over_aimed (valid t ≡ true) (fits t ≡ true) g o refl)))
    (λ h. single (apart u) (over_apart (valid t ≡ true) (fits t ≡ true) o refl))
    (λ h. single (fits u) (over_fits (valid t ≡ true) (fits t ≡ true) o h refl))
