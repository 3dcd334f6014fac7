-- Trees in whose lists some declarations of `let` and `const` are gone.
use Rattle.std.proofs.Common.{◌≡◌, Bool, true, List, [], ◌∷◌, ◌++◌, refl, sym, ap, ap₂, ◌∙◌}
use Rattle.std.proofs.lemmas.Bool.{and_parts, and_from, false≢true}
use Rattle.swc_ast.specs.declared.Span.{Span}
use Rattle.swc_ast.specs.declared.VarDeclKind.{VarDeclKind}
use Rattle.swc_ast.specs.Tree.{Name, Label, Block, Body, CaseBody, Module, Script, VarDecl, Tree, node, Forest, ε, ◌⊳◌, label_of}
use Rattle.swc_ast.specs.Scope.{declarator_names}
use Rattle.swc_ast.specs.Weight.{is_list}
use Rattle.static_proofs.specs.Keeps.{Keeps, AllKeep, none_kept, more_kept}
use Rattle.static_proofs.specs.Together.{KeepsAll}
use Rattle.static_proofs.specs.Shaped.{is_statement, is_whole_item, is_lexical, labels_of, all_labels, holds, is_shaped, are_shaped}
use Rattle.static_proofs.proofs.Inside.{keeps_inside}
use Rattle.static_proofs.proofs.Together.{together, all_dropped, kept_joined, list_keeps}

mutual
  -- a tree without some declarations in its lists, and their names
  pub data Thinned : List Name → Tree → Tree → Type 0 where
    inside : {l : Label} {ss : List Span} {cs ds : Forest} {xs : List Name} → ThinnedAll xs cs ds → Thinned xs (node l ss cs) (node l ss ds)
    a_list : {l : Label} {ss : List Span} {cs ds : Forest} {xs : List Name} → is_list l ≡ true → ThinnedList xs cs ds → Thinned xs (node l ss cs) (node l ss ds)

  -- tree by tree
  pub data ThinnedAll : List Name → Forest → Forest → Type 0 where
    none_thinned : ThinnedAll [] ε ε
    more_thinned : {xs ys : List Name} {t u : Tree} {ts us : Forest} → Thinned xs t u → ThinnedAll ys ts us → ThinnedAll (xs ++ ys) (t ⊳ ts) (u ⊳ us)

  -- a list of statements, of which some are gone
  pub data ThinnedList : List Name → Forest → Forest → Type 0 where
    no_item : ThinnedList [] ε ε
    item_stays : {xs ys : List Name} {t u : Tree} {ts us : Forest} → Thinned xs t u → ThinnedList ys ts us → ThinnedList (xs ++ ys) (t ⊳ ts) (u ⊳ us)
    item_goes : {k : VarDeclKind} {ss : List Span} {ds ts us : Forest} {xs : List Name} → is_lexical k ≡ true → ThinnedList xs ts us → ThinnedList (declarator_names ds ++ xs) (node (VarDecl k) ss ds ⊳ ts) us

-- what is left is kept

mutual
  pub thinned_keeps : {xs : List Name} {t u : Tree} → Thinned xs t u → Keeps t u
  thinned_keeps (inside {l = l} {ss = ss} h) = keeps_inside l ss (thinned_all_keep h)
  thinned_keeps (a_list {l = l} {ss = ss} e h) = list_keeps l ss e (thinned_list_keeps h)

  pub thinned_all_keep : {xs : List Name} {ts us : Forest} → ThinnedAll xs ts us → AllKeep ts us
  thinned_all_keep none_thinned = none_kept
  thinned_all_keep (more_thinned h hs) = more_kept (thinned_keeps h) (thinned_all_keep hs)

  pub thinned_list_keeps : {xs : List Name} {ts us : Forest} → ThinnedList xs ts us → KeepsAll ts us
  thinned_list_keeps no_item = together none_kept
  thinned_list_keeps (item_stays h hs) = kept_joined (together (more_kept (thinned_keeps h) none_kept)) (thinned_list_keeps hs)
  thinned_list_keeps (item_goes {k = k} {ss = ss} {ds = ds} e hs) = kept_joined (all_dropped (node (VarDecl k) ss ds ⊳ ε)) (thinned_list_keeps hs)

-- it has its labels

label_stays : {xs : List Name} {t u : Tree} → Thinned xs t u → label_of u ≡ label_of t
label_stays (inside h) = refl
label_stays (a_list e h) = refl

pub labels_cons : (t : Tree) (ts : Forest) → labels_of (t ⊳ ts) ≡ label_of t ∷ labels_of ts
labels_cons (node l ss cs) ts = refl

labels_stay : {xs : List Name} {ts us : Forest} → ThinnedAll xs ts us → labels_of us ≡ labels_of ts
labels_stay none_thinned = refl
labels_stay (more_thinned {t = t} {u = u} {ts = ts} {us = us} h hs) = labels_cons u us ∙ ap₂ ◌∷◌ (label_stays h) (labels_stay hs) ∙ sym (labels_cons t ts)

fewer_labels : (p : Label → Bool) {xs : List Name} {ts us : Forest} → ThinnedList xs ts us → all_labels p (labels_of ts) ≡ true → all_labels p (labels_of us) ≡ true
fewer_labels p no_item a = refl
fewer_labels p (item_stays {t = node l ss cs} {u = node m rs ds} {ts = ts} {us = us} h hs) a =
    let q = and_parts (p l) (all_labels p (labels_of ts)) a in
    and_from (p m) (all_labels p (labels_of us)) (ap p (label_stays h) ∙ q.0) (fewer_labels p hs q.1)
fewer_labels p (item_goes {k = k} {ts = ts} e hs) a = fewer_labels p hs (and_parts (p (VarDecl k)) (all_labels p (labels_of ts)) a).1

list_holds : (l : Label) {xs : List Name} {ts us : Forest} → is_list l ≡ true → ThinnedList xs ts us → holds l (labels_of ts) ≡ true → holds l (labels_of us) ≡ true
list_holds Block e h a = fewer_labels is_statement h a
list_holds Body e h a = fewer_labels is_statement h a
list_holds CaseBody e h a = fewer_labels is_statement h a
list_holds Script e h a = fewer_labels is_statement h a
list_holds Module e h a = fewer_labels is_whole_item h a
list_holds l e h a = absurd (false≢true e)

mutual
  pub thinned_shaped : {xs : List Name} {t u : Tree} → Thinned xs t u → is_shaped t ≡ true → is_shaped u ≡ true
  thinned_shaped (inside {l = l} {cs = cs} {ds = ds} h) a =
      let p = and_parts (holds l (labels_of cs)) (are_shaped cs) a in
      and_from (holds l (labels_of ds)) (are_shaped ds) (ap (holds l) (labels_stay h) ∙ p.0) (thinned_all_shaped h p.1)
  thinned_shaped (a_list {l = l} {cs = cs} {ds = ds} e h) a =
      let p = and_parts (holds l (labels_of cs)) (are_shaped cs) a in
      and_from (holds l (labels_of ds)) (are_shaped ds) (list_holds l e h p.0) (thinned_list_shaped h p.1)

  thinned_all_shaped : {xs : List Name} {ts us : Forest} → ThinnedAll xs ts us → are_shaped ts ≡ true → are_shaped us ≡ true
  thinned_all_shaped none_thinned a = refl
  thinned_all_shaped (more_thinned {t = t} {u = u} {ts = ts} {us = us} h hs) a =
      let p = and_parts (is_shaped t) (are_shaped ts) a in
      and_from (is_shaped u) (are_shaped us) (thinned_shaped h p.0) (thinned_all_shaped hs p.1)

  thinned_list_shaped : {xs : List Name} {ts us : Forest} → ThinnedList xs ts us → are_shaped ts ≡ true → are_shaped us ≡ true
  thinned_list_shaped no_item a = refl
  thinned_list_shaped (item_stays {t = t} {u = u} {ts = ts} {us = us} h hs) a =
      let p = and_parts (is_shaped t) (are_shaped ts) a in
      and_from (is_shaped u) (are_shaped us) (thinned_shaped h p.0) (thinned_list_shaped hs p.1)
  thinned_list_shaped (item_goes {k = k} {ss = ss} {ds = ds} {ts = ts} e hs) a = thinned_list_shaped hs (and_parts (is_shaped (node (VarDecl k) ss ds)) (are_shaped ts) a).1
