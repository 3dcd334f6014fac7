-- Modules in which names were put for names at some reads do the same.
use Rattle.std.proofs.Common.{◌≡◌, ℕ, Bool, true, false, ◌++◌, List, [], refl, sym, ap, ap₂, ◌∙◌}
use Rattle.std.proofs.lemmas.Bool.{false≢true}
use Rattle.swc_ast.specs.declared.Span.{Span}
use Rattle.swc_ast.specs.Tree.{Text, Name, Label, NumLit, StrLit, BoolLit, NullLit, Unary, Read, TypeOfName, Shorthand, KeyValue, PlainKey, ComputedKey, NameKey, Block, Body, CaseBody, VarDecl, FnDecl, Import, ExportDecl, ExportNamed, Module, Script, Tree, node, Forest, ε, ◌⊳◌, label_of}
use Rattle.swc_ast.specs.declared.UnaryOp.TheVariants.{TypeOf, Void}
use Rattle.swc_ast.specs.Value.{Value}
use Rattle.swc_ast.specs.Scope.{declarator_name, declarator_names}
use Rattle.swc_ast.specs.Run.{own_texts, source_of, sources, once, specifier_export, specifier_exports, item_exports, declared_exports, Same}
use Rattle.meaning_proofs.specs.Names.{stays}
use Rattle.meaning_proofs.specs.Sameness.{heeded, ignoring, SameIn}
use Rattle.meaning_proofs.specs.Roles.{Fits, Clean}
use Rattle.meaning_proofs.specs.Rewrites.{SameExports, Specifiers, no_more, keep, Kept, kept, kept_list, kept_declarators, kept_import, Rewrites, All, nil, cons, Related, modules, scripts}
use Rattle.meaning_proofs.specs.Walks.{no_names}
use Rattle.link_proofs.specs.Links.{Links, Proper, reads, ReadsNone, linked_eval, GoodWhole, Reexports, Puts, puts_read, puts_type, puts_shorthand, puts_value, puts_value_type, puts_value_shorthand, PutTree, put_number, put_text, put_truth, put_null, put_void, puts_node, puts_import, PutsAll, puts_end, puts_more}
use Rattle.tree_put.specs.Keys.{IsKey, plain_key, text_key}
use Rattle.meaning_proofs.proofs.Laws.{only_kept, only_listed, first, list_trims_itself, same_lists_itself, list_exact_itself}
use Rattle.meaning_proofs.proofs.Making.{firm_scoped, firm_slack}
use Rattle.meaning_proofs.proofs.Quiet.{fits_nothing}
use Rattle.meaning_proofs.proofs.Spans.{living_clean, none_dead, no_dead}
use Rattle.meaning_proofs.proofs.Endings.{as_counted}
use Rattle.meaning_proofs.proofs.Runs.{same_in}
use Rattle.link_proofs.proofs.Exports.{whole_reexported}
use Rattle.link_proofs.proofs.Acts.{puts_none}
use Rattle.link_proofs.proofs.Laws.{Ends, target, value_trims, value_type_trims, value_shorthand_trims, linked_unfolds, link_trims, link_type_trims, link_shorthand_trims, same_linked}

clean_label : (mark : ℕ) (t : Tree) → Clean no_names mark (label_of t)
clean_label mark (node l ss cs) = (living_clean (none_dead mark) (node l ss cs) (no_dead (node l ss cs))).0

-- a property of labels that no label_of of a read has
module _ {A : Type 0} (f : Label → List A) (r : (x : Name) → f (Read x) ≡ []) (t : (x : Name) → f (TypeOfName x) ≡ []) (s : (x : Name) → f (Shorthand x) ≡ []) (k : f KeyValue ≡ []) (a : f (Unary TypeOf) ≡ []) (v : (u : Value) (t : Tree) → PutTree u t → f (label_of t) ≡ []) where
  same_at : {L : Links} {t u : Tree} → Puts L t u → f (label_of t) ≡ f (label_of u)
  same_at (puts_read y x e) = r y ∙ sym (r x)
  same_at (puts_type y x e) = t y ∙ sym (t x)
  same_at (puts_shorthand y x e i) = s y ∙ sym k
  same_at (puts_value y e i) = r y ∙ sym (v _ _ i)
  same_at (puts_value_type y e i) = t y ∙ sym a
  same_at (puts_value_shorthand y e i j) = s y ∙ sym k
  same_at (puts_node l i e h) = refl
  same_at (puts_import src) = refl

no_declarator : (u : Value) (t : Tree) → PutTree u t → declarator_name (label_of t) ≡ []
no_declarator u t (put_number z) = refl
no_declarator u t (put_text x) = refl
no_declarator u t (put_truth b) = refl
no_declarator u t put_null = refl
no_declarator u t (put_void z) = refl

no_export : (u : Value) (t : Tree) → PutTree u t → specifier_export (label_of t) ≡ []
no_export u t (put_number z) = refl
no_export u t (put_text x) = refl
no_export u t (put_truth b) = refl
no_export u t put_null = refl
no_export u t (put_void z) = refl

no_source : (u : Value) (t : Tree) → PutTree u t → source_of (label_of t) ≡ []
no_source u t (put_number z) = refl
no_source u t (put_text x) = refl
no_source u t (put_truth b) = refl
no_source u t put_null = refl
no_source u t (put_void z) = refl

names_of : (t : Tree) (ts : Forest) → declarator_names (t ⊳ ts) ≡ declarator_name (label_of t) ++ declarator_names ts
names_of (node l ss cs) ts = refl

specifiers_of : (t : Tree) (ts : Forest) → specifier_exports (t ⊳ ts) ≡ specifier_export (label_of t) ++ specifier_exports ts
specifiers_of (node l ss cs) ts = refl

sources_of : (t : Tree) (ts : Forest) → sources (t ⊳ ts) ≡ source_of (label_of t) ++ sources ts
sources_of (node l ss cs) ts = refl

module _ {L : Links} where
  same_names : {ts us : Forest} → PutsAll L ts us → declarator_names ts ≡ declarator_names us
  same_names puts_end = refl
  same_names (puts_more {t} {u} {ts} {us} h hs) = names_of t ts ∙ ap₂ ◌++◌ (same_at declarator_name (λ x. refl) (λ x. refl) (λ x. refl) refl refl no_declarator h) (same_names hs) ∙ sym (names_of u us)

  same_specifiers : {ts us : Forest} → PutsAll L ts us → specifier_exports ts ≡ specifier_exports us
  same_specifiers puts_end = refl
  same_specifiers (puts_more {t} {u} {ts} {us} h hs) = specifiers_of t ts ∙ ap₂ ◌++◌ (same_at specifier_export (λ x. refl) (λ x. refl) (λ x. refl) refl refl no_export h) (same_specifiers hs) ∙ sym (specifiers_of u us)

  same_sources : {ts us : Forest} → PutsAll L ts us → sources ts ≡ sources us
  same_sources puts_end = refl
  same_sources (puts_more {t} {u} {ts} {us} h hs) = sources_of t ts ∙ ap₂ ◌++◌ (same_at source_of (λ x. refl) (λ x. refl) (λ x. refl) refl refl no_source h) (same_sources hs) ∙ sym (sources_of u us)

  declared_as : (l : Label) {cs us : Forest} → PutsAll L cs us → declared_exports l cs ≡ declared_exports l us
  declared_as (VarDecl k) h = ap own_texts (same_names h)
  declared_as (FnDecl x) h = refl
  declared_as _ h = refl

  exported_as : {cs us : Forest} → PutsAll L cs us → item_exports ExportDecl cs ≡ item_exports ExportDecl us
  exported_as puts_end = refl
  exported_as (puts_more (puts_node l i e h) hs) = declared_as l h
  exported_as (puts_more (puts_import src) hs) = refl
  exported_as (puts_more (puts_read y x e) hs) = refl
  exported_as (puts_more (puts_value y e (put_number z)) hs) = refl
  exported_as (puts_more (puts_value y e (put_text t)) hs) = refl
  exported_as (puts_more (puts_value y e (put_truth b)) hs) = refl
  exported_as (puts_more (puts_value y e put_null) hs) = refl
  exported_as (puts_more (puts_value y e (put_void z)) hs) = refl
  exported_as (puts_more (puts_value_type y e i) hs) = refl
  exported_as (puts_more (puts_value_shorthand y e i k) hs) = refl
  exported_as (puts_more (puts_type y x e) hs) = refl
  exported_as (puts_more (puts_shorthand y x e i) hs) = refl

  same_exports : (l : Label) {cs us : Forest} → PutsAll L cs us → SameExports l cs us
  same_exports ExportDecl h = exported_as h
  same_exports ExportNamed h = same_specifiers h
  same_exports _ h = tt

all_keep : (cs : Forest) → Specifiers no_names cs cs
all_keep ε = no_more
all_keep (node l ss cs ⊳ ts) = keep l (λ x f. absurd (false≢true f)) (all_keep ts)

module _ {L : Links} {mark : ℕ} (P : Proper L mark) where
  kept_node : (l : Label) (ss rs : List Span) {cs us : Forest} → source_of l ≡ [] → ReadsNone L (reads l) ss → PutsAll L cs us → All no_names mark (linked_eval L mark) false cs us → All no_names mark (linked_eval L mark) true cs us → Kept no_names mark (linked_eval L mark) (node l ss cs) (node l rs us)
  kept_node Block ss rs {cs} i q p h g = kept_list Block refl (linked_unfolds L mark (node Block ss cs) q) (only_listed g)
  kept_node Body ss rs {cs} i q p h g = kept_list Body refl (linked_unfolds L mark (node Body ss cs) q) (only_listed g)
  kept_node CaseBody ss rs {cs} i q p h g = kept_list CaseBody refl (linked_unfolds L mark (node CaseBody ss cs) q) (only_listed g)
  kept_node (VarDecl k) ss rs {cs} i q p h g = kept_declarators k (linked_unfolds L mark (node (VarDecl k) ss cs) q) g
  kept_node (Import src) ss rs i q p h g = cc
  kept_node l ss rs {cs} {us} i q p h g = kept l refl (linked_unfolds L mark (node l ss cs) q) (clean_label mark (node l ss cs)) (same_exports l p) (firm_scoped no_names (λ x. refl) l cs us) h

  value_fits : (y : Name) {u : Value} {t : Tree} (ss : List Span) → PutTree u t → Fits no_names (node (Read y) ss ε) t
  value_fits y ss (put_number z {ss = rs}) = fits_nothing (node (Read y) ss ε) (node (NumLit z) rs ε) refl refl
  value_fits y ss (put_text t {ss = rs}) = fits_nothing (node (Read y) ss ε) (node (StrLit t) rs ε) refl refl
  value_fits y ss (put_truth b {ss = rs}) = fits_nothing (node (Read y) ss ε) (node (BoolLit b) rs ε) refl refl
  value_fits y ss (put_null {ss = rs}) = fits_nothing (node (Read y) ss ε) (node NullLit rs ε) refl refl
  value_fits y ss (put_void z {ss = rs} {rs = us}) = fits_nothing (node (Read y) ss ε) (node (Unary Void) rs (node (NumLit z) us ε ⊳ ε)) refl refl

  value_puts : {u : Value} {t : Tree} → PutTree u t → Puts L t t
  value_puts (put_number z) = puts_node (NumLit z) refl tt puts_end
  value_puts (put_text t) = puts_node (StrLit t) refl tt puts_end
  value_puts (put_truth b) = puts_node (BoolLit b) refl tt puts_end
  value_puts put_null = puts_node NullLit refl tt puts_end
  value_puts (put_void z) = puts_node (Unary Void) refl tt (puts_more (puts_node (NumLit z) refl tt puts_end) puts_end)

  value_kept : {u : Value} {t : Tree} → PutTree u t → Rewrites no_names mark (linked_eval L mark) t t
  value_kept (put_number z {ss = rs}) = only_kept (kept_node (NumLit z) rs rs refl tt puts_end nil nil)
  value_kept (put_text t {ss = rs}) = only_kept (kept_node (StrLit t) rs rs refl tt puts_end nil nil)
  value_kept (put_truth b {ss = rs}) = only_kept (kept_node (BoolLit b) rs rs refl tt puts_end nil nil)
  value_kept (put_null {ss = rs}) = only_kept (kept_node NullLit rs rs refl tt puts_end nil nil)
  value_kept (put_void z {ss = rs} {rs = us}) =
      let k : Rewrites no_names mark (linked_eval L mark) (node (NumLit z) us ε) (node (NumLit z) us ε) = only_kept (kept_node (NumLit z) us us refl tt puts_end nil nil) in
      only_kept (kept_node (Unary Void) rs rs refl tt (puts_more (puts_node (NumLit z) refl tt puts_end) puts_end) (cons k nil) (cons k nil))

  key_puts : {k : Text} {t : Tree} → IsKey k t → Puts L t t
  key_puts {k} plain_key = puts_node (PlainKey (NameKey k)) refl tt puts_end
  key_puts {k} text_key = puts_node ComputedKey refl tt (puts_more (puts_node (StrLit k) refl tt puts_end) puts_end)

  key_kept : {k : Text} {t : Tree} → IsKey k t → Rewrites no_names mark (linked_eval L mark) t t
  key_kept {k} (plain_key {ss}) = only_kept (kept_node (PlainKey (NameKey k)) ss ss refl tt puts_end nil nil)
  key_kept {k} (text_key {ss} {rs}) =
      let h : Rewrites no_names mark (linked_eval L mark) (node (StrLit k) rs ε) (node (StrLit k) rs ε) = only_kept (kept_node (StrLit k) rs rs refl tt puts_end nil nil) in
      only_kept (kept_node ComputedKey ss ss refl tt (puts_more (puts_node (StrLit k) refl tt puts_end) puts_end) (cons h nil) (cons h nil))

  read_kept : (x : Name) (ss rs : List Span) → Ends L x → Rewrites no_names mark (linked_eval L mark) (node (Read x) ss ε) (node (Read x) rs ε)
  read_kept x ss rs e = only_kept (kept_node (Read x) ss rs refl (puts_none L x ss e.unlinked e.unknown e.unsettled) puts_end nil nil)

  mutual
    pub puts_rewrites : {t u : Tree} → Puts L t u → Rewrites no_names mark (linked_eval L mark) t u
    puts_rewrites (puts_read y x {ss} {rs} e) = first (link_trims P y x ss rs e) (fits_nothing (node (Read y) ss ε) (node (Read x) rs ε) refl refl) (read_kept x rs rs (target P y ss x e).ends)
    puts_rewrites (puts_value y {ss = ss} e i) = first (value_trims P y ss e i) (value_fits y ss i) (value_kept i)
    puts_rewrites (puts_value_type y {t = t} {ss} {rs} e i) =
        first (value_type_trims P y ss rs e i) (fits_nothing (node (TypeOfName y) ss ε) (node (Unary TypeOf) rs (t ⊳ ε)) refl refl) (only_kept (kept_node (Unary TypeOf) rs rs refl tt (puts_more (value_puts i) puts_end) (cons (value_kept i) nil) (cons (value_kept i) nil)))
    puts_rewrites (puts_value_shorthand y {k = k} {t = t} {ss} {rs} e i j) =
        first (value_shorthand_trims P y ss rs e i j) (fits_nothing (node (Shorthand y) ss ε) (node KeyValue rs (k ⊳ t ⊳ ε)) refl refl)
        (only_kept (kept_node KeyValue rs rs refl tt (puts_more (key_puts j) (puts_more (value_puts i) puts_end)) (cons (key_kept j) (cons (value_kept i) nil)) (cons (key_kept j) (cons (value_kept i) nil))))
    puts_rewrites (puts_type y x {ss} {rs} e) =
        first (link_type_trims P y x ss rs e) (fits_nothing (node (TypeOfName y) ss ε) (node (TypeOfName x) rs ε) refl refl) (only_kept (kept_node (TypeOfName x) rs rs refl (puts_none L x rs (target P y ss x e).ends.unlinked (target P y ss x e).ends.unknown (target P y ss x e).ends.unsettled) puts_end nil nil))
    puts_rewrites (puts_shorthand y x {k} {ss} {rs} {vs} e j) =
        let n = (target P y ss x e).ends in
        first (link_shorthand_trims P y x ss rs vs e j) (fits_nothing (node (Shorthand y) ss ε) (node KeyValue rs (k ⊳ node (Read x) vs ε ⊳ ε)) refl refl)
        (only_kept (kept_node KeyValue rs rs refl tt (puts_more (key_puts j) (puts_more (puts_node (Read x) {ss = vs} {rs = vs} refl (puts_none L x vs n.unlinked n.unknown n.unsettled) puts_end) puts_end))
        (cons (key_kept j) (cons (read_kept x vs vs n) nil)) (cons (key_kept j) (cons (read_kept x vs vs n) nil))))
    puts_rewrites (puts_node l {ss} {rs} i q h) = only_kept (kept_node l ss rs i q h (puts_all h) (puts_all h))
    puts_rewrites (puts_import src {ss} {rs} {cs}) = only_kept (kept_import src (linked_unfolds L mark (node (Import src) ss cs) tt) (all_keep cs))

    pub puts_all : {b : Bool} {ts us : Forest} → PutsAll L ts us → All no_names mark (linked_eval L mark) b ts us
    puts_all puts_end = nil
    puts_all (puts_more h hs) = cons (puts_rewrites h) (puts_all hs)

  module_puts : (loads : Bool) (ss rs : List Span) {cs us : Forest} → GoodWhole L (node Module ss cs) → PutsAll L cs us → Same mark loads (node Module ss cs) (node Module rs us)
  module_puts loads ss rs {cs} {us} g h =
      same_linked P loads g (modules {ss = ss} {rs = rs} (list_trims_itself cs) (same_lists_itself cs) (puts_all h) (list_exact_itself mark us) (same_lists_itself us) refl refl (λ x e. stays refl refl) (ap (λ xs. heeded (ignoring loads) (once [] xs)) (same_sources h)) (firm_slack no_names (λ x. refl) cs us))

  script_puts : (loads : Bool) (ss rs : List Span) {cs us : Forest} → GoodWhole L (node Script ss cs) → PutsAll L cs us → Same mark loads (node Script ss cs) (node Script rs us)
  script_puts loads ss rs {cs} {us} g h = same_linked P loads g (scripts {ss = ss} {rs = rs} (only_listed (puts_all h)) (firm_slack no_names (λ x. refl) cs us))

  whole_puts : (loads : Bool) (l : Label) (ss rs : List Span) (cs us : Forest) → GoodWhole L (node l ss cs) → PutsAll L cs us → Same mark loads (node l ss cs) (node l rs us)
  whole_puts loads Module ss rs cs us g h = module_puts loads ss rs g h
  whole_puts loads Script ss rs cs us g h = script_puts loads ss rs g h
  whole_puts loads _ ss rs cs us g h = elim g [ ]

  -- Where names were put for names at some reads, a module or a script does the same.
  pub puts_same : (loads : Bool) {t u : Tree} → GoodWhole L t → Puts L t u → Same mark loads t u
  puts_same loads g (puts_node l {ss} {rs} {cs} {us} i q h) = whole_puts loads l ss rs cs us g h
  puts_same loads g (puts_import src) = elim g [ ]
  puts_same loads g (puts_read y x e) = elim g [ ]
  puts_same loads g (puts_value y e (put_number z)) = elim g [ ]
  puts_same loads g (puts_value y e (put_text t)) = elim g [ ]
  puts_same loads g (puts_value y e (put_truth b)) = elim g [ ]
  puts_same loads g (puts_value y e put_null) = elim g [ ]
  puts_same loads g (puts_value y e (put_void z)) = elim g [ ]
  puts_same loads g (puts_value_type y e i) = elim g [ ]
  puts_same loads g (puts_value_shorthand y e i k) = elim g [ ]
  puts_same loads g (puts_type y x e) = elim g [ ]
  puts_same loads g (puts_shorthand y x e i) = elim g [ ]

  -- The same of a module in which exports name what names stand for.
  pub reexported_same : (loads : Bool) (ss rs : List Span) {ts us vs : Forest} → GoodWhole L (node Module ss ts) → Reexports L ts us → PutsAll L us vs → Same mark loads (node Module ss ts) (node Module rs vs)
  unfolding Same SameIn
  reexported_same loads ss rs {ts} {us} {vs} g re h n d w calls o e =
      let related : Related no_names mark (linked_eval L mark) (ignoring loads) (node Module ss us) (node Module rs vs) =
      modules {ss = ss} {rs = rs} (list_trims_itself us) (same_lists_itself us) (puts_all h) (list_exact_itself mark vs) (same_lists_itself vs) refl refl (λ x e. stays refl refl) (ap (λ xs. heeded (ignoring loads) (once [] xs)) (same_sources h)) (firm_slack no_names (λ x. refl) us vs) in
      let p = same_in related n d w calls o (whole_reexported P ss ss g re n d w calls o e) in
      (p.0, p.1, as_counted loads p.0 o p.2)
