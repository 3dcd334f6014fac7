-- What a walk by kept steps makes is kept.
use Rattle.std.proofs.Common.{Option, Some, subst, ◌∙◌, arith}
use Rattle.swc_ast.specs.Tree.{Label, Params, Body, CaseBody, Param, Import, Tree, node, Forest, ε, ◌⊳◌, children_of}
use Rattle.static_proofs.specs.Names.{frame, KeptList, KeptPart}
use Rattle.static_proofs.specs.Keeps.{Keeps, AllKeep, none_kept, more_kept}
use Rattle.static_proofs.specs.Walks.{Walks, AllWalk, inside, then, early, nothing, both}
use Rattle.static_proofs.proofs.Names.{within_trans, fewer_trans}
use Rattle.static_proofs.proofs.Inside.{keeps_inside}

list_then : {ts us vs : Forest} → KeptList ts us → KeptList us vs → KeptList ts vs
list_then h i = record { vars_kept = within_trans i.vars_kept h.vars_kept; names_kept = fewer_trans i.names_kept h.names_kept }

part_then : (f : Option Label) (ts us vs : Forest) → KeptPart f ts us → KeptPart f us vs → KeptPart f ts vs
part_then (Some Params) ts us vs h i = record { same_params = i.same_params ∙ h.same_params; no_new_default = λ e. h.no_new_default (i.no_new_default e) }
part_then (Some Body) ts us vs h i = list_then h i
part_then (Some CaseBody) ts us vs h i = list_then h i
part_then (Some (Param x)) ts us vs h i = λ e. h (i e)
part_then (Some (Import src)) ts us vs h i = fewer_trans i h
part_then f ts us vs h i = h

pub keeps_then : {a b c : Tree} → Keeps a b → Keeps b c → Keeps a c
keeps_then {a} {b} {c} h i = record {
  scopes_kept = λ x. omega (arith, h.scopes_kept x, i.scopes_kept x);
  vars_kept = within_trans i.vars_kept h.vars_kept;
  names_kept = fewer_trans i.names_kept h.names_kept;
  own_kept = fewer_trans i.own_kept h.own_kept;
  frame_kept = i.frame_kept ∙ h.frame_kept;
  part_kept = part_then (frame a) (children_of a) (children_of b) (children_of c) h.part_kept (subst (λ f. KeptPart f (children_of b) (children_of c)) h.frame_kept i.part_kept);
  listed_kept = λ e. h.listed_kept (i.listed_kept e);
  valid_kept = λ e. i.valid_kept (h.valid_kept e);
  aimed_kept = λ g e. i.aimed_kept g (h.aimed_kept g e);
  apart_kept = λ e. i.apart_kept (h.apart_kept e);
  fits_kept = λ e. i.fits_kept (h.fits_kept e);
}

mutual
  -- a tree as it is
  pub keeps_itself : (t : Tree) → Keeps t t
  keeps_itself (node l ss ts) = keeps_inside l ss (all_keep_itself ts)

  pub all_keep_itself : (ts : Forest) → AllKeep ts ts
  all_keep_itself ε = none_kept
  all_keep_itself (t ⊳ ts) = more_kept (keeps_itself t) (all_keep_itself ts)

mutual
  pub walk_keeps : {X : Tree → Tree → Type 0} {t u : Tree} → ((a b : Tree) → X a b → Keeps a b) → Walks X t u → Keeps t u
  walk_keeps f (inside {l = l} {ss = ss} h) = keeps_inside l ss (all_walk_keep f h)
  walk_keeps f (then {b = b} {c = c} h x) = keeps_then (walk_keeps f h) (f b c x)
  walk_keeps f (early {a = a} {b = b} x h) = keeps_then (f a b x) (walk_keeps f h)

  pub all_walk_keep : {X : Tree → Tree → Type 0} {ts us : Forest} → ((a b : Tree) → X a b → Keeps a b) → AllWalk X ts us → AllKeep ts us
  all_walk_keep f nothing = none_kept
  all_walk_keep f (both h hs) = more_kept (walk_keeps f h) (all_walk_keep f hs)
