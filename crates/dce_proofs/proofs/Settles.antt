-- A walk of the tree shaker keeps what a module or a script does. The names whose declarations go are those of its entries. Of
-- these a declaration is left where a node still declares one: then it is one of `var` or a parameter, and bound as before.
use Rattle.std.proofs.Common.{◌≡◌, ℕ, zero, suc, ◌+◌, ◌≤◌, Bool, true, false, not, ◌&&◌, ◌||◌, nat_le, if◌then◌else◌, List, [], ◌∷◌, refl, sym, ap, subst, ◌∙◌, arith}
use Rattle.std.proofs.lemmas.Bool.{and_parts, or_right, false≢true, true≢false, le-leb, leb-true}
use Rattle.swc_ast.specs.declared.Span.{Span}
use Rattle.swc_ast.specs.declared.VarDeclKind.TheVariants.{Var, Let, Const}
use Rattle.swc_ast.specs.Core.{IsCore, times_in, list_names, good_list, good_body, none_in, once_each, good_scope, numbers_fit, fits_all}
use Rattle.swc_ast.specs.Resolved.{IsResolved, one_if, own_scopes, scopes, first_names}
use Rattle.swc_ast.specs.Run.{Same}
use Rattle.swc_ast.specs.Scope.{name_or_default, default_name, has_name, vars_all, declared, list_binds, body_declares, import_names, module_binds}
use Rattle.swc_ast.specs.Tree.{Text, Name, Label, Method, FnDecl, ExportDefaultFn, ExportDefaultExpr, Param, Params, Body, Declarator, Module, Script, Tree, node, Forest, ε, ◌⊳◌}
use Rattle.meaning_proofs.proofs.Observations.{same_itself}
use Rattle.static_proofs.specs.Shaped.{IsShaped, is_inner, are_parts, labels_of, holds, is_shaped, are_shaped}
use Rattle.static_proofs.specs.Together.{KeepsAll}
use Rattle.static_proofs.proofs.Inside.{one_if_kept, or_kept, body_declares_kept}
use Rattle.static_proofs.proofs.Names.{same_name_itself, fewer_within, none_said, found_first}
use Rattle.swc_ast.specs.Labels.{is_body, is_whole}
use Rattle.tree_walk.specs.Walks.{ListMade, Whole, shut, whole}
use Rattle.dce_rules.specs.Shakes.{Shaker, shake_pass}
use Rattle.dce_proofs.specs.Laws.{Knows}
use Rattle.dce_proofs.proofs.ShakenLaws.{shaken_core}
use Rattle.dce_proofs.proofs.Walked.{gone, is_left, Stands}
use Rattle.dce_proofs.proofs.Went.{Entry, In, AllStand, AllStandIn, key_apart, is_params_or_body, made_went}
use Rattle.dce_proofs.proofs.Maps.{shape_here, shape_below, shape_first, shape_rest, list_keeps_all}
use Rattle.dce_proofs.proofs.SameWhole.{Settled, settled_same}
use Rattle.dce_proofs.proofs.Declaring.{declares_by, times, times_all}
use Rattle.dce_proofs.proofs.Once.{none_declared, one_declared}
use Rattle.dce_proofs.proofs.Shapes.{whole_shaped}
use Rattle.dce_proofs.proofs.Spent.{spent, in_spent, made_spent}
use Rattle.dce_proofs.proofs.Freed.{went_free, in_names, names_spent}

-- whether a node declares a name
abbrev is_declared_in : Forest → Name → Bool
is_declared_in ts x = nat_le 1 (times_all false x ts + times_all true x ts)

-- whether a declaration of a name went
abbrev is_among : List Entry → Name → Bool
is_among es x = has_name x (first_names es)

by_bool : (b : Bool) → (b ≡ true → ⊥) → b ≡ false
by_bool false h = refl
by_bool true h = absurd (h refl)

-- what is left

one_time : (x : Name) → 1 ≤ times_in x (x ∷ [])
one_time x = subst (λ b. 1 ≤ (if b then 1 else 0)) (sym (same_name_itself x)) (omega arith)

part_inner : (l : Label) → is_inner l ≡ true → is_params_or_body l ≡ false
part_inner Params e = absurd (false≢true e)
part_inner Body e = absurd (false≢true e)
part_inner l e = refl

key_stands : (l : Label) (cs : Forest) → holds l (labels_of cs) ≡ true → key_apart l cs ≡ true
key_stands Method ε a = absurd (false≢true a)
key_stands Method (node m ss ds ⊳ ts) a = ap not (part_inner m (and_parts (is_inner m) (are_parts is_body (labels_of ts)) a).0)
key_stands l cs a = refl

module _ (G K : Name → Bool) where
  -- what is known of a tree: each name that it declares is left, and none that it declares as one that may be declared only once
  -- is one of those that go
  record Left (any single : Name → ℕ) : Type 0 where
    pub stays : (x : Name) → 1 ≤ any x → gone G K x ≡ false
    pub alone : (x : Name) → 1 ≤ single x → G x ≡ false

  label_stands : (l : Label) → Left (λ x. times_in x (declares_by l false) + times_in x (declares_by l true)) (λ x. times_in x (declares_by l true)) → Stands G K l
  label_stands (Declarator Var x) h = h.stays x (omega (arith, one_time x))
  label_stands (Declarator Let x) h = h.stays x (omega (arith, one_time x))
  label_stands (Declarator Const x) h = h.stays x (omega (arith, one_time x))
  label_stands (Param x) h = h.stays x (omega (arith, one_time x))
  label_stands (FnDecl x) h = h.alone x (omega (arith, one_time x))
  label_stands (ExportDefaultFn o) h = h.alone (name_or_default o) (omega (arith, one_time (name_or_default o)))
  label_stands ExportDefaultExpr h = h.alone default_name (omega (arith, one_time default_name))
  label_stands l h = tt

  mutual
    all_stand : (t : Tree) → is_shaped t ≡ true → Left (λ x. times false x t + times true x t) (λ x. times true x t) → AllStand G K t
    all_stand (node l ss cs) a h = (label_stands l (record { stays = λ x i. h.stays x (omega (arith, i)); alone = λ x i. h.alone x (omega (arith, i)) }), (key_stands l cs (shape_here l ss cs a), all_stand_in cs (shape_below l ss cs a) (record { stays = λ x i. h.stays x (omega (arith, i)); alone = λ x i. h.alone x (omega (arith, i)) })))

    all_stand_in : (ts : Forest) → are_shaped ts ≡ true → Left (λ x. times_all false x ts + times_all true x ts) (λ x. times_all true x ts) → AllStandIn G K ts
    all_stand_in ε a h = tt
    all_stand_in (t ⊳ ts) a h = (all_stand t (shape_first t ts a) (record { stays = λ x i. h.stays x (omega (arith, i)); alone = λ x i. h.alone x (omega (arith, i)) }), all_stand_in ts (shape_rest t ts a) (record { stays = λ x i. h.stays x (omega (arith, i)); alone = λ x i. h.alone x (omega (arith, i)) }))

-- modules and scripts

whole_times : (b : Bool) (x : Name) (l : Label) (ss : List Span) (cs : Forest) → is_whole l ≡ true → times b x (node l ss cs) ≡ times_all b x cs
whole_times b x Module ss cs i = omega arith
whole_times b x Script ss cs i = omega arith
whole_times b x l ss cs i = absurd (false≢true i)

whole_scopes : (l : Label) (x : Name) {ts us : Forest} → is_whole l ≡ true → KeepsAll ts us → own_scopes x l us ≤ own_scopes x l ts
unfolding own_scopes
whole_scopes Module x {ts} {us} i k = one_if_kept (module_binds ts x) (module_binds us x) (or_kept (has_name x (import_names ts)) (body_declares ts x) (has_name x (import_names us)) (body_declares us x) ((fewer_within k.imports_kept).by x) (body_declares_kept x k.list_kept))
whole_scopes Script x {ts} {us} i k = one_if_kept (body_declares ts x) (body_declares us x) (body_declares_kept x k.list_kept)
whole_scopes l x i k = absurd (false≢true i)

one_of : (b : Bool) → b ≡ true → one_if b ≡ 1
one_of b e = ap one_if e

is_one : (b : Bool) → 1 ≤ one_if b → b ≡ true
is_one true h = refl
is_one false h = absurd (omega (arith, h))

-- what a module imports, it doesn't declare
not_imported : (x : Name) (ts : Forest) → good_scope Module ts ≡ true → has_name x (import_names ts) ≡ true → body_declares ts x ≡ false
not_imported x ts g i =
    let p = and_parts (good_body (import_names ts) ts) (none_in (import_names ts) (vars_all ts)) g in
    let q = and_parts (good_list ts) (once_each (import_names ts) (import_names ts) && none_in (list_names ts) (import_names ts)) p.0 in
    let r = and_parts (once_each (import_names ts) (import_names ts)) (none_in (list_names ts) (import_names ts)) q.1 in
    by_bool (body_declares ts x) (λ e. absurd_by (none_said (import_names ts) (vars_all ts) p.1 x i) r.1 e)
  where
    absurd_by : has_name x (vars_all ts) ≡ false → none_in (list_names ts) (import_names ts) ≡ true → body_declares ts x ≡ true → ⊥
    absurd_by v n e =
        let d = found_first x (declared ts) in
        true≢false (sym i ∙ none_said (list_names ts) (import_names ts) n x (sym d ∙ sym (ap (λ b. b || list_binds ts x) v) ∙ e))

-- a name that the whole binds, and that is bound in it as before, its body declares as before
body_same : (l : Label) (x : Name) {ts us : Forest} → is_whole l ≡ true → good_scope l ts ≡ true → KeepsAll ts us → own_scopes x l ts ≤ own_scopes x l us → body_declares ts x ≡ true → body_declares us x ≡ true
unfolding own_scopes
body_same Module x {ts} {us} i g k h e =
    by_import (has_name x (import_names us)) refl (is_one (module_binds us x) (omega (arith, h, one_of (module_binds ts x) (or_right (has_name x (import_names ts)) (body_declares ts x) e))))
  where
    by_import : (b : Bool) → has_name x (import_names us) ≡ b → (has_name x (import_names us) || body_declares us x) ≡ true → body_declares us x ≡ true
    by_import true j m = absurd (true≢false (sym e ∙ not_imported x ts g ((fewer_within k.imports_kept).by x j)))
    by_import false j m = sym (ap (λ b. b || body_declares us x) j) ∙ m
body_same Script x {ts} {us} i g k h e = is_one (body_declares us x) (omega (arith, h, one_of (body_declares ts x) e))
body_same l x i g k h e = absurd (false≢true i)

same_bool : (a b : Bool) → (a ≡ true → b ≡ true) → (b ≡ true → a ≡ true) → a ≡ b
same_bool true true f g = refl
same_bool true false f g = sym (f refl)
same_bool false true f g = g refl
same_bool false false f g = refl

left_parts : (G K : Name → Bool) (x : Name) → is_left G K x ≡ true → (G x ≡ true) × (K x ≡ true)
left_parts G K x h = and_parts (G x) (K x) h

module _ (S : Shaker) (retained : List Text) (l : Label) (ss : List Span) {c : Bool} {ts us : Forest} (i : is_whole l ≡ true) (m : ListMade (shake_pass S) l c ts us) (k : Knows S retained (node l ss ts)) (r : IsResolved S.mark (node l ss ts)) (o : IsCore (node l ss ts)) (s : IsShaped (node l ss ts)) where
  -- names that go
  abbrev goes : Name → Bool
  goes = is_among (made_went S m)

  -- names of which a declaration is left
  abbrev remains : Name → Bool
  remains = is_declared_in us

  after : IsCore (node l ss us)
  after = shaken_core (whole i m) o

  shaped_after : is_shaped (node l ss us) ≡ true
  shaped_after = whole_shaped l ss i m s.shaped

  -- a name that one node alone may declare, and that it declares, no other declares
  alone_before : (x : Name) → 1 ≤ times_all true x ts → times_all false x ts + times_all true x ts ≤ 1
  alone_before x h = omega (arith, one_declared x l ss ts i s.shaped o.is_valid o.fits_core (r.bound_once x) (omega (arith, h, whole_times true x l ss ts i)), whole_times false x l ss ts i, whole_times true x l ss ts i)

  -- nothing is declared that was not
  before_after : (b : Bool) (x : Name) → spent b x (made_went S m) + times_all b x us ≤ times_all b x ts
  before_after b x = made_spent b x m

  remains_so : (x : Name) → 1 ≤ times_all false x us + times_all true x us → remains x ≡ true
  remains_so x h = le-leb 1 (times_all false x us + times_all true x us) h

  remains_at : (x : Name) → remains x ≡ true → 1 ≤ times_all false x us + times_all true x us
  remains_at x h = leb-true 1 (times_all false x us + times_all true x us) h

  -- where a name goes that one node alone may declare, nothing declares it any more
  none_remains : (x : Name) → In (x, true) (made_went S m) → remains x ≡ false
  none_remains x e = by_bool (remains x) (λ h. absurd_by (remains_at x h))
    where
      absurd_by : 1 ≤ times_all false x us + times_all true x us → ⊥
      absurd_by h = omega (arith, h, in_spent true e, before_after true x, before_after false x, alone_before x (omega (arith, in_spent true e, before_after true x)))

  -- where such a name is declared, none of its declarations went
  alone_stays : (x : Name) → 1 ≤ times_all true x us → goes x ≡ false
  alone_stays x h = by_bool (goes x) (λ e. absurd_by (names_spent x (made_went S m) e))
    where
      absurd_by : 1 ≤ spent false x (made_went S m) + spent true x (made_went S m) → ⊥
      absurd_by e = omega (arith, h, e, before_after true x, before_after false x, alone_before x (omega (arith, h, before_after true x)))

  declared_stays : (x : Name) → 1 ≤ times_all false x us + times_all true x us → gone goes remains x ≡ false
  declared_stays x h = by_bool (gone goes remains x) (λ e. false≢true (sym (ap not (remains_so x h)) ∙ (and_parts (goes x) (not (remains x)) e).1))

  -- what is left is bound
  bound_after : (x : Name) → is_left goes remains x ≡ true → 1 ≤ scopes x (node l ss us)
  bound_after x h = by_scopes (scopes x (node l ss us)) refl
    where
      by_scopes : (n : ℕ) → scopes x (node l ss us) ≡ n → 1 ≤ n
      by_scopes zero e = absurd (omega (arith, remains_at x (left_parts goes remains x h).1, none_declared x l ss us i shaped_after after.is_valid after.fits_core e, whole_times false x l ss us i, whole_times true x l ss us i))
      by_scopes (suc n) e = omega arith

  kept : KeepsAll ts us
  kept = list_keeps_all m

  good_before : good_scope l ts ≡ true
  good_before = (and_parts (good_scope l ts) (fits_all ts) (and_parts (numbers_fit l) (good_scope l ts && fits_all ts) o.fits_core).1).0

  pub settles : Settled S goes remains m
  settles = record {
    shaped = shape_below l ss ts s.shaped;
    stand = all_stand_in goes remains us (shape_below l ss us shaped_after) (record { stays = declared_stays; alone = alone_stays });
    bound = record { by = λ x h. omega (arith, bound_after x h, r.bound_once x, whole_scopes l x i kept) };
    fair = record { goes = λ x b e. in_names e; none_left = none_remains };
    slack = record { binds = λ x h. same_bool (body_declares ts x) (body_declares us x) (body_same l x i good_before kept (omega (arith, bound_after x h, r.bound_once x, kept.scopes_kept x))) (body_declares_kept x kept.list_kept) };
  }

  pub whole_same : (loads : Bool) → S.drops_imports ≡ not loads → Same S.mark loads (node l ss ts) (node l ss us)
  whole_same loads e = settled_same S goes remains retained loads l ss i e k (went_free S m) m settles

-- the law
pub shaken_is_same : (S : Shaker) (retained : List Text) (loads c : Bool) (t u : Tree) → S.drops_imports ≡ not loads → Knows S retained t → IsResolved S.mark t → IsCore t → IsShaped t → Whole (shake_pass S) c t u → Same S.mark loads t u
shaken_is_same S retained loads c t u e k r o s (shut h) = same_itself S.mark loads t
shaken_is_same S retained loads c t u e k r o s (whole {l = l} {ss = ss} i m) = whole_same S retained l ss i m k r o s loads e
