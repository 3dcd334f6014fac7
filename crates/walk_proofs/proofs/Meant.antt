-- A walk whose steps are right keeps what a module or a script does.
use Rattle.std.proofs.Common.{◌≡◌, ℕ, Bool, true, false, List, [], ◌∷◌, ◌++◌, refl, sym, ap, ◌∙◌}
use Rattle.std.proofs.lemmas.Bool.{false≢true, true≢false, or_parts, or_from}
use Rattle.swc_ast.specs.Labels.{is_block, is_whole, is_declaration}
use Rattle.swc_ast.specs.declared.Span.{Span}
use Rattle.swc_ast.specs.declared.VarDeclKind.{VarDeclKind}
use Rattle.swc_ast.specs.Meaning.{eval}
use Rattle.swc_ast.specs.Scope.{has_name, imported_name, specifier_names}
use Rattle.swc_ast.specs.Tree.{Name, Text, Label, Param, Block, Body, CaseBody, For, VarDecl, FnDecl, Import, ExportDecl, Module, Script, Tree, node, Forest, ε, ◌⊳◌, label_of}
use Rattle.swc_ast.specs.Run.{Same, sources, source_of, once, exported}
use Rattle.meaning_proofs.specs.Names as names
use Rattle.meaning_proofs.specs.Names.{Names, Watched, Exported}
use Rattle.meaning_proofs.specs.Exact.{Idle, GivesUndefined}
use Rattle.meaning_proofs.specs.Sameness.{heeded, ignoring}
use Rattle.meaning_proofs.specs.Roles.{is_item, Clean, DeclaresNone}
use Rattle.meaning_proofs.specs.Rewrites.{is_exported, Specifiers, no_more as no_specifiers, keep, skip}
use Rattle.meaning_proofs.specs.Walks as meaning
use Rattle.meaning_proofs.specs.Walks.{Steps, StepsRight, AllClean, AllCleanIn, WalksAll, WalksWhole, no_names, as_it_is, early, at_node, at_list, at_declarators, at_default, at_import, at_export, no_more, one_more, goes, goes_behind, walks_module, walks_script}
use Rattle.meaning_proofs.proofs.Idles.{idle_import, import_declares}
use Rattle.meaning_proofs.proofs.Spans.{no_dead_in, none_dead, living_clean_in}
use Rattle.meaning_proofs.proofs.Observations.{same_itself}
use Rattle.meaning_proofs.proofs.Walking.{same_sources, walk_all, walk_same}
use Rattle.static_proofs.specs.Together.{is_module}
use Rattle.static_proofs.proofs.Names.{has_name_append}
use Rattle.tree_walk.specs.Pass.{Pass, walks_each}
use Rattle.tree_walk.specs.Walks.{Walks, closed, opened, passes, stands, stepped, Entered, plain, exported as exported_node, headed, head_shut, imports, block, ListMade, listed, tidied, Whole, shut, whole, AllWalk, nothing, both}
use Rattle.walk_proofs.specs.Meant.{Sifts, sifted, stays_there, goes_there, ListStep, sifts_then, Unused, unused, ItemGoes, statement_goes, import_goes, ItemsStep, items_then, NodeStep, alone, of_declarators, of_default, of_specifiers, of_export, Meant}

pub block_is : (l : Label) → is_block l ≡ true → is_block l ≡ true
block_is Block h = refl
block_is Body h = refl
block_is CaseBody h = refl
block_is l h = absurd (false≢true h)

block_no_module : (l : Label) → is_block l ≡ true → is_module l ≡ false
block_no_module Block h = refl
block_no_module Body h = refl
block_no_module CaseBody h = refl
block_no_module l h = absurd (false≢true h)

pub declaration_is : (l : Label) → is_declaration l ≡ true → is_declaration l ≡ true
declaration_is (VarDecl k) h = refl
declaration_is (FnDecl x) h = refl
declaration_is l h = absurd (false≢true h)

no_source : (l : Label) → is_item l ≡ false → source_of l ≡ []
no_source (Import src) h = absurd (true≢false h)
no_source l h = refl

pub sources_at : (t : Tree) (ts : Forest) → sources (t ⊳ ts) ≡ source_of (label_of t) ++ sources ts
sources_at (node l ss cs) ts = refl

-- where loads don't count, none is heeded
none_heeded : (ts : List Text) → heeded (ignoring false) ts ≡ []
none_heeded [] = refl
none_heeded (t ∷ ts) = none_heeded ts

-- unused imports
unused_item : {N : Names} {t : Tree} → Unused N t → is_item (label_of t) ≡ true
unused_item (unused h) = refl

pub unused_idle : {N : Names} (mark : ℕ) {t : Tree} → Unused N t → Idle N (eval mark) t
unused_idle mark (unused {src = src} {ss = ss} {cs = cs} h) = idle_import mark src ss cs

pub unused_declares : {N : Names} {t : Tree} → Unused N t → DeclaresNone N t
unused_declares (unused {src = src} {ss = ss} {cs = cs} h) = import_declares src ss cs h

-- an import of dropped names was one, with more of them
unused_before : {N : Names} {cs us : Forest} → Specifiers N cs us → (x : Name) → Watched N x → has_name x (specifier_names us) ≡ false → has_name x (specifier_names cs) ≡ false
unused_before no_specifiers x w h = refl
unused_before (keep l {ts = ts} {us = us} g s) x w h =
    let p = or_parts (has_name x (imported_name l)) (has_name x (specifier_names us)) (sym (has_name_append x (imported_name l) (specifier_names us)) ∙ h) in
    has_name_append x (imported_name l) (specifier_names ts) ∙ or_from (has_name x (imported_name l)) (has_name x (specifier_names ts)) p.0 (unused_before s x w p.1)
unused_before (skip l {ts = ts} g s) x w h = has_name_append x (imported_name l) (specifier_names ts) ∙ or_from (has_name x (imported_name l)) (has_name x (specifier_names ts)) (g x w) (unused_before s x w h)

-- a list of statements that was walked, and then took a step
data ListOf (N : Names) (mark : ℕ) (H : Steps) (ts vs : Forest) : Type 0 where
  list_of : {us : Forest} → WalksAll N mark H true ts us → H.Behind us vs → ListOf N mark H ts vs

module _ {N : Names} {mark : ℕ} {H : Steps} where
  sift : {ts us vs : Forest} → WalksAll N mark H false ts us → Sifts H.GoesBehind us vs → WalksAll N mark H true ts vs
  sift no_more sifted = no_more
  sift (one_more w ws) (stays_there s) = one_more w (sift ws s)
  sift (one_more w ws) (goes_there g s) = goes_behind w g (sift ws s)

  tidied_list : {ts us vs : Forest} → WalksAll N mark H false ts us → ListStep H us vs → ListOf N mark H ts vs
  tidied_list ws (sifts_then s b) = list_of (sift ws s) b

  pub plain_meant : (l : Label) {ss : List Span} {ts us : Forest} {w : Tree} → walks_each l ≡ true → Clean N mark l → ((b : Bool) → WalksAll N mark H b ts us) → H.Node (node l ss us) w → meaning.Walks N mark H (node l ss ts) w
  plain_meant (VarDecl k) p c ws n = at_declarators k (ws true) n
  plain_meant Block p c ws n = absurd (false≢true p)
  plain_meant Body p c ws n = absurd (false≢true p)
  plain_meant CaseBody p c ws n = absurd (false≢true p)
  plain_meant ExportDecl p c ws n = absurd (false≢true p)
  plain_meant (Import src) p c ws n = absurd (false≢true p)
  plain_meant l p c ws n = at_node l refl c (ws false) n

  pub default_meant : {x : Name} {ss rs : List Span} {ts : Forest} {t : Tree} → Clean N mark (Param x) → WalksAll N mark H false ts (t ⊳ ε) → GivesUndefined mark t → meaning.Walks N mark H (node (Param x) ss ts) (node (Param x) rs ε)
  default_meant c (one_more w no_more) y = at_default c.0 c.1 w y

  module _ {X : Pass} {loads : Bool} (m : Meant X N mark loads H) where
    block_meant : (l : Label) {ss : List Span} {ts us : Forest} {w : Tree} → is_block l ≡ true → ListOf N mark H ts us → H.Node (node l ss us) w → meaning.Walks N mark H (node l ss ts) w
    block_meant l {ts = ts} b (list_of ws h) n = at_list l (block_is l b) (m.before_stays ts) ws h n

    plain_stepped : (l : Label) {ss : List Span} {ts us : Forest} {w : Tree} → walks_each l ≡ true → Clean N mark l → ((b : Bool) → WalksAll N mark H b ts us) → NodeStep N mark H (node l ss us) w → meaning.Walks N mark H (node l ss ts) w
    plain_stepped l p c ws (alone i j n) = plain_meant l p c ws n
    plain_stepped (VarDecl k) p c ws (of_declarators j s n) = at_declarators k (sift (ws false) s) n
    plain_stepped (Param x) p c ws (of_default y) = default_meant c (ws false) y
    plain_stepped (Import src) p c ws (of_specifiers s) = absurd (false≢true p)
    plain_stepped ExportDecl p c ws (of_export n x) = absurd (false≢true p)

    block_stepped : (l : Label) {ss : List Span} {ts us : Forest} {w : Tree} → is_block l ≡ true → ListOf N mark H ts us → NodeStep N mark H (node l ss us) w → meaning.Walks N mark H (node l ss ts) w
    block_stepped l b ws (alone i j n) = block_meant l b ws n
    block_stepped (VarDecl k) b ws (of_declarators j s n) = absurd (false≢true b)
    block_stepped (Param x) b ws (of_default y) = absurd (false≢true b)
    block_stepped (Import src) b ws (of_specifiers s) = absurd (false≢true b)
    block_stepped ExportDecl b ws (of_export n x) = absurd (false≢true b)

    -- the head of a `for`, and what stands behind it
    headed_meant : (b : Bool) (k : VarDeclKind) {ss : List Span} {ds es ts us : Forest} → WalksAll N mark H true ds es → WalksAll N mark H b ts us → WalksAll N mark H b (node (VarDecl k) ss ds ⊳ ts) (node (VarDecl k) ss es ⊳ us)
    headed_meant b k {ss} {es = es} ds ws = one_more (at_declarators k ds (m.node_stays (node (VarDecl k) ss es))) ws

    mutual
      pub meant : {c : Bool} {a b : Tree} → Walks X c a b → AllClean N mark a → meaning.Walks N mark H a b
      meant (closed s) k = as_it_is refl k
      meant (opened {t = t} {u = u} s w) k = early (m.open_step t u s) (meant w (m.open_clean t u s k))
      meant (passes i w) k = entered_meant w k
      meant (stands w r) k = entered_meant w k
      meant (stepped {b = b} {d = d} w s) k = stepped_meant w k (m.node_step b d s)

      entered_meant : {c : Bool} {a b : Tree} → Entered X c a b → AllClean N mark a → meaning.Walks N mark H a b
      entered_meant (plain {l = l} {ss = ss} {us = us} p ws) k = plain_meant l p k.0 (λ b. all_meant b ws k.1.1) (m.node_stays (node l ss us))
      entered_meant (exported_node {l = l} {rs = rs} {us = us} d ws) k = at_export l (declaration_is l d) k.1.1.0.0 (all_meant false ws k.1.1.0.1.1) (m.node_stays (node l rs us)) refl
      entered_meant (headed {k = d} {ss = ss} {us = us} ds ws) k = plain_meant For refl k.0 (λ b. headed_meant b d (all_meant true ds k.1.1.0.1.1) (all_meant b ws k.1.1.1)) (m.node_stays (node For ss _))
      entered_meant (head_shut {h = h} {ss = ss} {us = us} s ws) k = plain_meant For refl k.0 (λ b. one_more (as_it_is refl k.1.1.0) (all_meant b ws k.1.1.1)) (m.node_stays (node For ss (h ⊳ us)))
      entered_meant (imports u) k = as_it_is refl k
      entered_meant (block {l = l} {ss = ss} {us = us} b w) k = block_meant l b (list_meant (block_no_module l b) w k.1.1) (m.node_stays (node l ss us))

      stepped_meant : {c : Bool} {a b d : Tree} → Entered X c a b → AllClean N mark a → NodeStep N mark H b d → meaning.Walks N mark H a d
      stepped_meant (plain {l = l} p ws) k n = plain_stepped l p k.0 (λ b. all_meant b ws k.1.1) n
      stepped_meant (exported_node d ws) k (alone i j n) = absurd (true≢false i)
      stepped_meant (exported_node {l = l} d ws) k (of_export n x) = at_export l (declaration_is l d) k.1.1.0.0 (all_meant false ws k.1.1.0.1.1) n x
      stepped_meant (headed {k = d} ds ws) k n = plain_stepped For refl k.0 (λ b. headed_meant b d (all_meant true ds k.1.1.0.1.1) (all_meant b ws k.1.1.1)) n
      stepped_meant (head_shut s ws) k n = plain_stepped For refl k.0 (λ b. one_more (as_it_is refl k.1.1.0) (all_meant b ws k.1.1.1)) n
      stepped_meant (imports {src = src} u) k (alone i j n) = absurd (true≢false i)
      stepped_meant (imports {src = src} u) k (of_specifiers s) = at_import src s
      stepped_meant (block {l = l} b w) k n = block_stepped l b (list_meant (block_no_module l b) w k.1.1) n

      list_meant : {l : Label} {c : Bool} {ts us : Forest} → is_module l ≡ false → ListMade X l c ts us → AllCleanIn N mark ts → ListOf N mark H ts us
      list_meant i (listed {us = us} ws t) k = list_of (all_meant true ws k) (m.list_stays us)
      list_meant i (tidied {l = l} {us = us} {vs = vs} ws t) k = tidied_list (all_meant false ws k) (m.list_step l us vs i t)

      all_meant : (b : Bool) {c : Bool} {ts us : Forest} → AllWalk X c ts us → AllCleanIn N mark ts → WalksAll N mark H b ts us
      all_meant b nothing k = no_more
      all_meant b (both w ws) k = one_more (meant w k.0) (all_meant b ws k.1)

    -- what an unused import was walked from
    entered_from : {c : Bool} {a b : Tree} → Entered X c a b → Unused N b → Unused N a
    entered_from (plain p ws) (unused h) = absurd (false≢true p)
    entered_from (exported_node d ws) e = elim e [ ]
    entered_from (headed ds ws) e = elim e [ ]
    entered_from (head_shut s ws) e = elim e [ ]
    entered_from (imports u) e = e
    entered_from (block b w) (unused h) = absurd (false≢true b)

    stepped_from : {c : Bool} {a b d : Tree} → Entered X c a b → NodeStep N mark H b d → Unused N d → Unused N a
    stepped_from w (alone i j n) e = absurd (true≢false (sym (unused_item e) ∙ j))
    stepped_from w (of_declarators j s n) e = absurd (true≢false (sym (unused_item e) ∙ j))
    stepped_from w (of_default y) e = elim e [ ]
    stepped_from w (of_export n x) e = elim e [ ]
    stepped_from w (of_specifiers s) (unused h) = entered_from w (unused (λ x k. unused_before s x k (h x k)))

    came_from : {c : Bool} {a b : Tree} → Walks X c a b → Unused N b → Unused N a
    came_from (closed s) e = e
    came_from (opened {t = t} {u = u} s w) e = absurd (true≢false (sym (unused_item (came_from w e)) ∙ m.open_no_item t u s))
    came_from (passes i w) e = entered_from w e
    came_from (stands w r) e = entered_from w e
    came_from (stepped {b = b} {d = d} w s) e = stepped_from w (m.node_step b d s) e

    -- the items of a module, of which some go
    sift_items : {c : Bool} {ts us vs : Forest} → AllWalk X c ts us → AllCleanIn N mark ts → Sifts (ItemGoes N loads H) us vs → WalksAll N mark H true ts vs
    sift_items nothing k sifted = no_more
    sift_items (both w ws) k (stays_there s) = one_more (meant w k.0) (sift_items ws k.1 s)
    sift_items (both w ws) k (goes_there (statement_goes g) s) = goes_behind (meant w k.0) g (sift_items ws k.1 s)
    sift_items (both {t = t} w ws) k (goes_there (import_goes o u) s) = goes (m.unused_goes t (came_from w u)) (sift_items ws k.1 s)

    module _ (right : StepsRight N mark H) where
      sift_sources : {us vs : Forest} → loads ≡ true → Sifts (ItemGoes N loads H) us vs → sources us ≡ sources vs
      sift_sources e sifted = refl
      sift_sources e (stays_there {t = t} {ts = ts} {us = us} s) = sources_at t ts ∙ ap (λ k. source_of (label_of t) ++ k) (sift_sources e s) ∙ sym (sources_at t us)
      sift_sources e (goes_there {t = t} {ts = ts} (statement_goes g) s) = sources_at t ts ∙ ap (λ k. k ++ sources ts) (no_source (label_of t) (right.goes_behind_no_item t g)) ∙ sift_sources e s
      sift_sources e (goes_there (import_goes o u) s) = absurd (true≢false (sym e ∙ o))

      -- where loads count, the same modules are loaded
      sift_heeded : {us vs : Forest} → Sifts (ItemGoes N loads H) us vs → heeded (ignoring loads) (once [] (sources us)) ≡ heeded (ignoring loads) (once [] (sources vs))
      sift_heeded {us} {vs} s = by_loads loads refl
        where
          by_loads : (b : Bool) → loads ≡ b → heeded (ignoring b) (once [] (sources us)) ≡ heeded (ignoring b) (once [] (sources vs))
          by_loads true e = ap (λ k. heeded (ignoring true) (once [] k)) (sift_sources e s)
          by_loads false e = none_heeded (once [] (sources us)) ∙ sym (none_heeded (once [] (sources vs)))

      whole_walks : {c : Bool} {ts us : Forest} (l : Label) (ss : List Span) → is_whole l ≡ true → AllCleanIn N mark ts → ((x : Name) → is_exported x (exported ts) ≡ true → Exported N x) → ListMade X l c ts us → WalksWhole N mark H loads (node l ss ts) (node l ss us)
      whole_walks {ts = ts} Module ss i k x (listed {us = us} ws t) = walks_module (m.before_stays ts) refl (all_meant true ws k) (m.list_stays us) refl x (ap (λ s. heeded (ignoring loads) (once [] s)) (same_sources (walk_all right (all_meant false ws k))))
      whole_walks {ts = ts} Module ss i k x (tidied {us = us} {vs = vs} ws t) = by_step (m.items_step us vs t)
        where
          by_step : ItemsStep N loads H us vs → WalksWhole N mark H loads (node Module ss ts) (node Module ss vs)
          by_step (items_then s b e) = walks_module (m.before_stays ts) refl (sift_items ws k s) b e x (ap (λ z. heeded (ignoring loads) (once [] z)) (same_sources (walk_all right (all_meant false ws k))) ∙ sift_heeded s)
      whole_walks {ts = ts} Script ss i k x w = script_by (list_meant refl w k)
        where
          script_by : {vs : Forest} → ListOf N mark H ts vs → WalksWhole N mark H loads (node Script ss ts) (node Script ss vs)
          script_by (list_of ws b) = walks_script (m.before_stays ts) ws b
      whole_walks l ss i k x w = absurd (false≢true i)

      -- the law
      pub whole_same_meaning : {c : Bool} {l : Label} {ss : List Span} {ts : Forest} {u : Tree} → AllCleanIn N mark ts → ((x : Name) → is_exported x (exported ts) ≡ true → Exported N x) → Whole X c (node l ss ts) u → Same mark loads (node l ss ts) u
      whole_same_meaning {l = l} {ss} {ts} k x (shut s) = same_itself mark loads (node l ss ts)
      whole_same_meaning k x (whole {l = l} {ss = ss} i w) = walk_same right loads (whole_walks l ss i k x w)

-- where no name is dropped
pub plain_same : {mark : ℕ} {H : Steps} {X : Pass} (loads : Bool) → Meant X no_names mark loads H → StepsRight no_names mark H → {c : Bool} {t u : Tree} → Whole X c t u → Same mark loads t u
plain_same {mark} loads m right {t = node l ss ts} w = whole_same_meaning m right (living_clean_in (none_dead mark) ts (no_dead_in ts)) (λ x e. names.stays refl refl) w
