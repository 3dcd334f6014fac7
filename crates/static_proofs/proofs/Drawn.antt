-- What holds of a tree holds of what is drawn from it.
use Rattle.std.proofs.Common.{◌≡◌, ◌+◌, ◌≤◌, true, ◌&&◌, if◌then◌else◌, List, refl, arith}
use Rattle.std.proofs.lemmas.Bool.{and_parts, and_from}
use Rattle.swc_ast.specs.declared.Span.{Span}
use Rattle.swc_ast.specs.Tree.{Name, Label, Tree, node, Forest, ε, ◌⊳◌}
use Rattle.swc_ast.specs.Scope.{is_function, joined}
use Rattle.swc_ast.specs.Valid.{good_names, good_shape, valid, valid_all}
use Rattle.swc_ast.specs.Resolved.{scopes, scopes_all, Targets, below, jump_is_aimed, aimed, aimed_all, params_apart, apart, apart_all}
use Rattle.swc_ast.specs.Core.{numbers_fit, good_scope, fits, fits_all}
use Rattle.swc_ast.specs.Weight.{weight_all}
use Rattle.static_proofs.specs.Drawn.{Drawn, AllDrawn, nothing_of, all_of, part_of, none_drawn, more_drawn}
use Rattle.static_proofs.proofs.Targets.{aimed_all_more, more_out}

-- joined lists

pub scopes_joined : (x : Name) (ts us : Forest) → scopes_all x (joined ts us) ≡ scopes_all x ts + scopes_all x us
scopes_joined x ε us = omega arith
scopes_joined x (t ⊳ ts) us = omega (arith, scopes_joined x ts us)

pub weight_joined : (ts us : Forest) → weight_all (joined ts us) ≡ weight_all ts + weight_all us
weight_joined ε us = omega arith
weight_joined (t ⊳ ts) us = omega (arith, weight_joined ts us)

pub valid_joined : (ts us : Forest) → valid_all ts ≡ true → valid_all us ≡ true → valid_all (joined ts us) ≡ true
valid_joined ε us h i = i
valid_joined (t ⊳ ts) us h i = let p = and_parts (valid t) (valid_all ts) h in and_from (valid t) (valid_all (joined ts us)) p.0 (valid_joined ts us p.1 i)

pub aimed_joined : (g : Targets) (ts us : Forest) → aimed_all g ts ≡ true → aimed_all g us ≡ true → aimed_all g (joined ts us) ≡ true
aimed_joined g ε us h i = i
aimed_joined g (t ⊳ ts) us h i = let p = and_parts (aimed g t) (aimed_all g ts) h in and_from (aimed g t) (aimed_all g (joined ts us)) p.0 (aimed_joined g ts us p.1 i)

pub apart_joined : (ts us : Forest) → apart_all ts ≡ true → apart_all us ≡ true → apart_all (joined ts us) ≡ true
apart_joined ε us h i = i
apart_joined (t ⊳ ts) us h i = let p = and_parts (apart t) (apart_all ts) h in and_from (apart t) (apart_all (joined ts us)) p.0 (apart_joined ts us p.1 i)

pub fits_joined : (ts us : Forest) → fits_all ts ≡ true → fits_all us ≡ true → fits_all (joined ts us) ≡ true
fits_joined ε us h i = i
fits_joined (t ⊳ ts) us h i = let p = and_parts (fits t) (fits_all ts) h in and_from (fits t) (fits_all (joined ts us)) p.0 (fits_joined ts us p.1 i)

-- what holds below a node

pub valid_below : (l : Label) (ss : List Span) (cs : Forest) → valid (node l ss cs) ≡ true → valid_all cs ≡ true
valid_below l ss cs h = (and_parts (good_names l && good_shape l cs) (valid_all cs) h).1

pub aimed_below : (g : Targets) (l : Label) (ss : List Span) (cs : Forest) → aimed g (node l ss cs) ≡ true → aimed_all (below l g) cs ≡ true
aimed_below g l ss cs h = (and_parts (jump_is_aimed l g) (aimed_all (below l g) cs) h).1

pub apart_below : (l : Label) (ss : List Span) (cs : Forest) → apart (node l ss cs) ≡ true → apart_all cs ≡ true
apart_below l ss cs h = (and_parts (if is_function l then params_apart cs else true) (apart_all cs) h).1

pub fits_below : (l : Label) (ss : List Span) (cs : Forest) → fits (node l ss cs) ≡ true → fits_all cs ≡ true
fits_below l ss cs h = (and_parts (good_scope l cs) (fits_all cs) (and_parts (numbers_fit l) (good_scope l cs && fits_all cs) h).1).1

-- what is drawn

mutual
  pub drawn_scopes : (x : Name) {t : Tree} {us : Forest} → Drawn t us → scopes_all x us ≤ scopes x t
  drawn_scopes x nothing_of = omega arith
  drawn_scopes x all_of = omega arith
  drawn_scopes x (part_of e h) = omega (arith, all_drawn_scopes x h)

  pub all_drawn_scopes : (x : Name) {ts us : Forest} → AllDrawn ts us → scopes_all x us ≤ scopes_all x ts
  all_drawn_scopes x none_drawn = omega arith
  all_drawn_scopes x (more_drawn {us = us} {vs = vs} h hs) = omega (arith, drawn_scopes x h, all_drawn_scopes x hs, scopes_joined x us vs)

mutual
  pub drawn_valid : {t : Tree} {us : Forest} → Drawn t us → valid t ≡ true → valid_all us ≡ true
  drawn_valid nothing_of h = refl
  drawn_valid (all_of {t = t}) h = and_from (valid t) true h refl
  drawn_valid (part_of {l = l} {ss = ss} {cs = cs} e d) h = all_drawn_valid d (valid_below l ss cs h)

  pub all_drawn_valid : {ts us : Forest} → AllDrawn ts us → valid_all ts ≡ true → valid_all us ≡ true
  all_drawn_valid none_drawn h = refl
  all_drawn_valid (more_drawn {t = t} {ts = ts} {us = us} {vs = vs} d ds) h = let p = and_parts (valid t) (valid_all ts) h in valid_joined us vs (drawn_valid d p.0) (all_drawn_valid ds p.1)

mutual
  pub drawn_aimed : (g : Targets) {t : Tree} {us : Forest} → Drawn t us → aimed g t ≡ true → aimed_all g us ≡ true
  drawn_aimed g nothing_of h = refl
  drawn_aimed g (all_of {t = t}) h = and_from (aimed g t) true h refl
  drawn_aimed g (part_of {l = l} {ss = ss} {cs = cs} {us = us} e d) h = aimed_all_more us (more_out l g e) (all_drawn_aimed (below l g) d (aimed_below g l ss cs h))

  pub all_drawn_aimed : (g : Targets) {ts us : Forest} → AllDrawn ts us → aimed_all g ts ≡ true → aimed_all g us ≡ true
  all_drawn_aimed g none_drawn h = refl
  all_drawn_aimed g (more_drawn {t = t} {ts = ts} {us = us} {vs = vs} d ds) h = let p = and_parts (aimed g t) (aimed_all g ts) h in aimed_joined g us vs (drawn_aimed g d p.0) (all_drawn_aimed g ds p.1)

mutual
  pub drawn_apart : {t : Tree} {us : Forest} → Drawn t us → apart t ≡ true → apart_all us ≡ true
  drawn_apart nothing_of h = refl
  drawn_apart (all_of {t = t}) h = and_from (apart t) true h refl
  drawn_apart (part_of {l = l} {ss = ss} {cs = cs} e d) h = all_drawn_apart d (apart_below l ss cs h)

  pub all_drawn_apart : {ts us : Forest} → AllDrawn ts us → apart_all ts ≡ true → apart_all us ≡ true
  all_drawn_apart none_drawn h = refl
  all_drawn_apart (more_drawn {t = t} {ts = ts} {us = us} {vs = vs} d ds) h = let p = and_parts (apart t) (apart_all ts) h in apart_joined us vs (drawn_apart d p.0) (all_drawn_apart ds p.1)

mutual
  pub drawn_fit : {t : Tree} {us : Forest} → Drawn t us → fits t ≡ true → fits_all us ≡ true
  drawn_fit nothing_of h = refl
  drawn_fit (all_of {t = t}) h = and_from (fits t) true h refl
  drawn_fit (part_of {l = l} {ss = ss} {cs = cs} e d) h = all_drawn_fit d (fits_below l ss cs h)

  pub all_drawn_fit : {ts us : Forest} → AllDrawn ts us → fits_all ts ≡ true → fits_all us ≡ true
  all_drawn_fit none_drawn h = refl
  all_drawn_fit (more_drawn {t = t} {ts = ts} {us = us} {vs = vs} d ds) h = let p = and_parts (fits t) (fits_all ts) h in fits_joined us vs (drawn_fit d p.0) (all_drawn_fit ds p.1)
