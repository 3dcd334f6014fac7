-- A walk of right steps rewrites, so what it makes of a module does the same.
use Rattle.std.proofs.Common.{◌≡◌, ℕ, Bool, true, false, List, [], ◌++◌, refl, sym, ap, ap₂, ◌∙◌}
use Rattle.std.proofs.lemmas.Bool.{true≢false, false≢true}
use Rattle.swc_ast.specs.Labels.{is_declaration}
use Rattle.swc_ast.specs.declared.Span.{Span}
use Rattle.swc_ast.specs.Tree.{Name, Label, Block, Body, CaseBody, VarDecl, Declarator, FnDecl, Import, ExportDecl, ExportNamed, ExportSpecifier, Tree, node, Forest, ε, ◌⊳◌, label_of}
use Rattle.swc_ast.specs.Scope.{declarator_name, declarator_names}
use Rattle.swc_ast.specs.Meaning.{eval}
use Rattle.swc_ast.specs.Run.{Same, sources, source_of, own_texts, specifier_export, specifier_exports, item_exports}
use Rattle.meaning_proofs.specs.Names.{Names, Exported, stays, never_set}
use Rattle.meaning_proofs.specs.Roles.{is_part, rewrites_each, Clean}
use Rattle.meaning_proofs.specs.Rewrites.{SameExports, Kept, kept, kept_list, kept_declarators, kept_import, kept_default, Rewrites, All, nil, cons, drop, drop_rewritten, stop, Unreached, end, stay, leave, Listed, listed, modules, scripts}
use Rattle.meaning_proofs.specs.Walks.{dead_names, Steps, is_entered, Walks, as_it_is, as_told, early, at_node, at_list, at_declarators, at_default, at_import, at_export, WalksAll, no_more, one_more, goes, goes_behind, stops_there, WalksUnreached, none_unreached, one_unreached, goes_unseen, WalksWhole, walks_module, walks_script, StepsRight}
use Rattle.meaning_proofs.proofs.Declared.{view, same_label}
use Rattle.meaning_proofs.proofs.Trees.{eval_unfolds}
use Rattle.meaning_proofs.proofs.Laws.{only_kept, first, last}
use Rattle.meaning_proofs.proofs.Runs.{same}
use Rattle.meaning_proofs.proofs.Making.{firm_scoped, firm_slack}
use Rattle.meaning_proofs.proofs.Spans.{respanned}

-- what labels alone tell

pub names_of : (t : Tree) (ts : Forest) → declarator_names (t ⊳ ts) ≡ declarator_name (label_of t) ++ declarator_names ts
names_of (node l ss cs) ts = refl

pub specifiers_of : (t : Tree) (ts : Forest) → specifier_exports (t ⊳ ts) ≡ specifier_export (label_of t) ++ specifier_exports ts
specifiers_of (node l ss cs) ts = refl

pub sources_of : (t : Tree) (ts : Forest) → sources (t ⊳ ts) ≡ source_of (label_of t) ++ sources ts
sources_of (node l ss cs) ts = refl

pub other_declarator : (l : Label) → is_part l ≡ false → declarator_name l ≡ []
other_declarator (Declarator k x) e = absurd (true≢false e)
other_declarator _ e = refl

pub other_specifier : (l : Label) → is_part l ≡ false → specifier_export l ≡ []
other_specifier (ExportSpecifier x t) e = absurd (true≢false e)
other_specifier _ e = refl

pub other_source : (l : Label) → is_part l ≡ false → source_of l ≡ []
other_source (Import src) e = absurd (true≢false e)
other_source _ e = refl

entered_plain : (l : Label) → is_entered l ≡ true → rewrites_each l ≡ true
entered_plain Block e = absurd (false≢true e)
entered_plain Body e = absurd (false≢true e)
entered_plain CaseBody e = absurd (false≢true e)
entered_plain (VarDecl k) e = absurd (false≢true e)
entered_plain (Import src) e = absurd (false≢true e)
entered_plain _ e = refl

module _ {N : Names} {mark : ℕ} where
  same_names : {ts us : Forest} → All N mark (eval mark) false ts us → declarator_names ts ≡ declarator_names us
  same_names nil = refl
  same_names (cons {t = t} {u} {ts} {us} r rs) = names_of t ts ∙ ap₂ ◌++◌ (same_label declarator_name [] other_declarator (view r)) (same_names rs) ∙ sym (names_of u us)

  same_specifiers : {ts us : Forest} → All N mark (eval mark) false ts us → specifier_exports ts ≡ specifier_exports us
  same_specifiers nil = refl
  same_specifiers (cons {t = t} {u} {ts} {us} r rs) = specifiers_of t ts ∙ ap₂ ◌++◌ (same_label specifier_export [] other_specifier (view r)) (same_specifiers rs) ∙ sym (specifiers_of u us)

  pub same_sources : {ts us : Forest} → All N mark (eval mark) false ts us → sources ts ≡ sources us
  same_sources nil = refl
  same_sources (cons {t = t} {u} {ts} {us} r rs) = sources_of t ts ∙ ap₂ ◌++◌ (same_label source_of [] other_source (view r)) (same_sources rs) ∙ sym (sources_of u us)

  some_may_go : {ts us : Forest} → All N mark (eval mark) false ts us → All N mark (eval mark) true ts us
  some_may_go nil = nil
  some_may_go (cons r rs) = cons r (some_may_go rs)

  entered_exports : (l : Label) {cs us : Forest} → is_entered l ≡ true → All N mark (eval mark) false cs us → SameExports l cs us
  entered_exports ExportDecl e h = absurd (false≢true e)
  entered_exports ExportNamed e h = same_specifiers h
  entered_exports _ e h = tt

  entered : ((x : Name) → N.slack x ≡ false) → (l : Label) (ss rs : List Span) {cs us : Forest} → is_entered l ≡ true → Clean N mark l → All N mark (eval mark) false cs us → Kept N mark (eval mark) (node l ss cs) (node l rs us)
  entered f l ss rs {cs} {us} e a h = kept l (entered_plain l e) (eval_unfolds mark (node l ss cs)) a (entered_exports l e h) (firm_scoped N f l cs us) h

  declaration : ((x : Name) → N.slack x ≡ false) → (l : Label) (ss rs : List Span) {cs us : Forest} → is_declaration l ≡ true → Clean N mark l → All N mark (eval mark) false cs us → Kept N mark (eval mark) (node l ss cs) (node l rs us)
  declaration f (VarDecl k) ss rs e a h = kept_declarators k (eval_unfolds mark _) (some_may_go h)
  declaration f (FnDecl x) ss rs {cs} {us} e a h = kept (FnDecl x) refl (eval_unfolds mark _) a tt (firm_scoped N f (FnDecl x) cs us) h
  declaration f _ ss rs e a h = absurd (false≢true e)

  exported_as : (l : Label) (qs ps : List Span) {cs us : Forest} → All N mark (eval mark) false cs us → item_exports ExportDecl (node l qs cs ⊳ ε) ≡ item_exports ExportDecl (node l ps us ⊳ ε)
  exported_as (VarDecl k) qs ps h = ap own_texts (same_names h)
  exported_as (FnDecl x) qs ps h = refl
  exported_as _ qs ps h = refl

  module _ {H : Steps} (x : StepsRight N mark H) where
    listed_by : {bs cs us vs : Forest} → H.Before bs cs → All N mark (eval mark) true cs us → H.Behind us vs → Listed N mark (eval mark) bs vs
    listed_by {bs} {cs} {us} {vs} f h g = listed (x.before_trims bs cs f) (x.before_declares bs cs f) h (x.behind_exact us vs g) (x.behind_declares us vs g)

    mutual
      pub walk_rewrites : {t u : Tree} → Walks N mark H t u → Rewrites N mark (eval mark) t u
      walk_rewrites (as_it_is {t} {u} e a) = respanned x.firm t u a e
      walk_rewrites (as_told r) = r
      walk_rewrites (early {t} {u} s h) = first (x.early_trims t u s) (x.early_fits t u s) (walk_rewrites h)
      walk_rewrites (at_node l {ss} {rs} {w = w} e a h s) = last (only_kept (entered x.firm l ss rs e a (walk_all h))) (x.node_exact _ w s) (x.node_fits _ w s)
      walk_rewrites (at_list l {w = w} e f h g s) = last (only_kept (kept_list l e (eval_unfolds mark _) (listed_by f (walk_all h) g))) (x.node_exact _ w s) (x.node_fits _ w s)
      walk_rewrites (at_declarators k {w = w} h s) = last (only_kept (kept_declarators k (eval_unfolds mark _) (walk_all h))) (x.node_exact _ w s) (x.node_fits _ w s)
      walk_rewrites (at_default d g h y) = only_kept (kept_default (eval_unfolds mark _) d g (walk_rewrites h) y)
      walk_rewrites (at_import src h) = only_kept (kept_import src (eval_unfolds mark _) h)
      walk_rewrites (at_export l {qs = qs} {ps} {w = w} e a h s i) =
          let all = walk_all h in
          only_kept (kept ExportDecl refl (eval_unfolds mark _) tt (exported_as l qs ps all ∙ i) tt (cons (last (only_kept (declaration x.firm l qs ps e a all)) (x.node_exact _ w s) (x.node_fits _ w s)) nil))

      pub walk_all : {b : Bool} {ts us : Forest} → WalksAll N mark H b ts us → All N mark (eval mark) b ts us
      walk_all no_more = nil
      walk_all (one_more r rs) = cons (walk_rewrites r) (walk_all rs)
      walk_all (goes {t} g rs) = drop (x.goes_idle t g) (x.goes_declares t g) (walk_all rs)
      walk_all (goes_behind {u = u} r g rs) = drop_rewritten (walk_rewrites r) (x.goes_behind_idle u g) (x.goes_behind_no_item u g) (x.goes_behind_declares u g) (walk_all rs)
      walk_all (stops_there r i rs) = stop (walk_rewrites r) i (walk_unreached rs)

      walk_unreached : {ts us : Forest} → WalksUnreached N mark H ts us → Unreached N mark (eval mark) ts us
      walk_unreached none_unreached = end
      walk_unreached (one_unreached r rs) = stay (walk_rewrites r) (walk_unreached rs)
      walk_unreached (goes_unseen d rs) = leave d (walk_unreached rs)

    -- What a walk of such steps makes of a module does the same.
    pub walk_same : (loads : Bool) {t u : Tree} → WalksWhole N mark H loads t u → Same mark loads t u
    walk_same loads (walks_module {ss} {rs} {bs} {cs} {us} {vs} f j h g i k l) =
        same loads (modules {ss = ss} {rs = rs} (x.before_trims bs cs f) (x.before_declares bs cs f) (walk_all h) (x.behind_exact us vs g) (x.behind_declares us vs g) j i k l (firm_slack N x.firm bs vs))
    walk_same loads (walks_script {ss} {rs} {bs} {vs = vs} f h g) = same loads (scripts {ss = ss} {rs = rs} (listed_by f (walk_all h) g) (firm_slack N x.firm bs vs))

-- what is exported is no dead name, or never holds anything
pub dead_exports : (dead : Name → Bool) (x : Name) → Exported (dead_names dead) x
dead_exports dead x = go (dead x) refl
  where
    go : (b : Bool) → dead x ≡ b → Exported (dead_names dead) x
    go false e = stays e refl
    go true e = never_set e refl
