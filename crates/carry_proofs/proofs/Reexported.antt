-- Exports that name what a name stands for, beside reads at which it is put.
use Rattle.std.proofs.Common.{◌≡◌, Bool, true, false, List, [], Option, Some, refl, ap₂, subst, if◌then◌else◌}
use Rattle.swc_ast.specs.declared.Span.{Span}
use Rattle.swc_ast.specs.Tree.{Name, Text, Label, ExportNamed, ExportSpecifier, Tree, node, Forest, ε, ◌⊳◌, bares}
use Rattle.swc_ast.specs.Run.{source_of, export_text}
use Rattle.link_proofs.specs.Links.{Links, Put, nothing, a_name, a_value, reads, ReadsNone, put_number, put_text, put_truth, put_null, put_void, Puts, puts_read, puts_type, puts_shorthand, puts_value, puts_value_type, puts_value_shorthand, puts_node, puts_import, PutsAll, puts_end, puts_more, Respecified, respecified_end, respecified_same, respecified_as, Reexports, reexports_end, reexports_same, reexports_item}
use Rattle.carry_rules.specs.Carry.{exported_put, exported_name, respecified, reexported}

-- parts of lists that are the same
pub label_is : {l m : Label} {cs ds ts us : Forest} → (node l [] cs ⊳ ts) ≡ (node m [] ds ⊳ us) → l ≡ m
label_is e = cc

pub children_are : {l m : Label} {cs ds ts us : Forest} → (node l [] cs ⊳ ts) ≡ (node m [] ds ⊳ us) → cs ≡ ds
children_are e = cc

pub rest_is : {t u : Tree} {ts us : Forest} → (t ⊳ ts) ≡ (u ⊳ us) → ts ≡ us
rest_is e = cc

module _ (B : Name → Bool) (values : Name → Put) where
  -- what a label exports as
  abbrev named : Label → Label
  named l = exported_put B (exported_name values l) l

  -- spans aside

  respecified_bare : (ts us : Forest) → bares ts ≡ bares us → bares (respecified B values ts) ≡ bares (respecified B values us)
  respecified_bare ε ε e = refl
  respecified_bare ε (u ⊳ us) e = absurd (cc)
  respecified_bare (t ⊳ ts) ε e = absurd (cc)
  respecified_bare (node l ss cs ⊳ ts) (node m rs ds ⊳ us) e = ap₂ ◌⊳◌ (ap₂ (λ n vs. node (named n) [] vs) (label_is e) (children_are e)) (respecified_bare ts us (rest_is e))

module _ (L : Links) (B : Name → Bool) (values : Name → Put) (linked : (y x : Name) → values y ≡ a_name x → L.link y ≡ Some x) where
  -- specifiers name what names stand for

  specifier_as : (y : Name) (o : Option Text) (q : Put) {ss : List Span} {cs ts us : Forest} → values y ≡ q → Respecified L ts us → Respecified L (node (ExportSpecifier y o) ss cs ⊳ ts) (node (exported_put B q (ExportSpecifier y o)) ss cs ⊳ us)
  specifier_as y o nothing e h = respecified_same h
  specifier_as y o (a_value v) e h = respecified_same h
  specifier_as y o (a_name x) {ss} {cs} {ts} {us} e h = by (B x)
    where
      by : (b : Bool) → Respecified L (node (ExportSpecifier y o) ss cs ⊳ ts) (node (if b then ExportSpecifier x (Some (export_text y o)) else ExportSpecifier y o) ss cs ⊳ us)
      by true = respecified_as y x o (linked y x e) h
      by false = respecified_same h

  respecifies : (ts : Forest) → Respecified L ts (respecified B values ts)
  respecifies ε = respecified_end
  respecifies (node (ExportSpecifier y o) ss cs ⊳ ts) = specifier_as y o (values y) refl (respecifies ts)
  respecifies (node l ss cs ⊳ ts) = respecified_same (respecifies ts)

  pub reexports : (ts : Forest) → Reexports L ts (reexported B values ts)
  reexports ε = reexports_end
  reexports (node ExportNamed ss cs ⊳ ts) = reexports_item (respecifies cs) (reexports ts)
  reexports (node l ss cs ⊳ ts) = reexports_same (reexports ts)

module _ (L : Links) (B : Name → Bool) (values : Name → Put) where
  -- what is put at reads is put beside such specifiers too

  put_same : (l : Label) {ss rs : List Span} {cs us ts vs : Forest} → source_of l ≡ [] → ReadsNone L (reads l) ss → PutsAll L cs us → PutsAll L ts vs → PutsAll L (node l ss cs ⊳ ts) (node l rs us ⊳ vs)
  put_same l e n h k = puts_more (puts_node l e n h) k

  specifier_puts : (y : Name) (o : Option Text) (q : Put) {ss rs : List Span} {cs us ts vs : Forest} → PutsAll L cs us → PutsAll L ts vs → PutsAll L (node (exported_put B q (ExportSpecifier y o)) ss cs ⊳ ts) (node (exported_put B q (ExportSpecifier y o)) rs us ⊳ vs)
  specifier_puts y o nothing h k = put_same (ExportSpecifier y o) refl tt h k
  specifier_puts y o (a_value v) h k = put_same (ExportSpecifier y o) refl tt h k
  specifier_puts y o (a_name x) {ss} {rs} {cs} {us} {ts} {vs} h k = by (B x)
    where
      by : (b : Bool) → PutsAll L (node (if b then ExportSpecifier x (Some (export_text y o)) else ExportSpecifier y o) ss cs ⊳ ts) (node (if b then ExportSpecifier x (Some (export_text y o)) else ExportSpecifier y o) rs us ⊳ vs)
      by true = put_same (ExportSpecifier x (Some (export_text y o))) refl tt h k
      by false = put_same (ExportSpecifier y o) refl tt h k

  mutual
    respecified_more : {t u : Tree} (ts us : Forest) → Puts L t u → PutsAll L (respecified B values ts) (respecified B values us) → PutsAll L (respecified B values (t ⊳ ts)) (respecified B values (u ⊳ us))
    respecified_more ts us (puts_read y x e) k = puts_more (puts_read y x e) k
    respecified_more ts us (puts_type y x e) k = puts_more (puts_type y x e) k
    respecified_more ts us (puts_shorthand y x e i) k = puts_more (puts_shorthand y x e i) k
    respecified_more ts us (puts_value y e (put_number z)) k = puts_more (puts_value y e (put_number z)) k
    respecified_more ts us (puts_value y e (put_text t)) k = puts_more (puts_value y e (put_text t)) k
    respecified_more ts us (puts_value y e (put_truth b)) k = puts_more (puts_value y e (put_truth b)) k
    respecified_more ts us (puts_value y e put_null) k = puts_more (puts_value y e put_null) k
    respecified_more ts us (puts_value y e (put_void z)) k = puts_more (puts_value y e (put_void z)) k
    respecified_more ts us (puts_value_type y e p) k = puts_more (puts_value_type y e p) k
    respecified_more ts us (puts_value_shorthand y e p i) k = puts_more (puts_value_shorthand y e p i) k
    respecified_more ts us (puts_node (ExportSpecifier y o) e n h) k = specifier_puts y o (values y) h k
    respecified_more ts us (puts_node l e n h) k = put_same l e n h k
    respecified_more ts us (puts_import src) k = puts_more (puts_import src) k

    respecified_puts : {ts us : Forest} → PutsAll L ts us → PutsAll L (respecified B values ts) (respecified B values us)
    respecified_puts puts_end = puts_end
    respecified_puts (puts_more {ts = ts} {us = us} p h) = respecified_more ts us p (respecified_puts h)

  reexported_more : {t u : Tree} (ts us : Forest) → Puts L t u → PutsAll L (reexported B values ts) (reexported B values us) → PutsAll L (reexported B values (t ⊳ ts)) (reexported B values (u ⊳ us))
  reexported_more ts us (puts_read y x e) k = puts_more (puts_read y x e) k
  reexported_more ts us (puts_type y x e) k = puts_more (puts_type y x e) k
  reexported_more ts us (puts_shorthand y x e i) k = puts_more (puts_shorthand y x e i) k
  reexported_more ts us (puts_value y e (put_number z)) k = puts_more (puts_value y e (put_number z)) k
  reexported_more ts us (puts_value y e (put_text t)) k = puts_more (puts_value y e (put_text t)) k
  reexported_more ts us (puts_value y e (put_truth b)) k = puts_more (puts_value y e (put_truth b)) k
  reexported_more ts us (puts_value y e put_null) k = puts_more (puts_value y e put_null) k
  reexported_more ts us (puts_value y e (put_void z)) k = puts_more (puts_value y e (put_void z)) k
  reexported_more ts us (puts_value_type y e p) k = puts_more (puts_value_type y e p) k
  reexported_more ts us (puts_value_shorthand y e p i) k = puts_more (puts_value_shorthand y e p i) k
  reexported_more ts us (puts_node ExportNamed e n h) k = put_same ExportNamed refl tt (respecified_puts h) k
  reexported_more ts us (puts_node l e n h) k = put_same l e n h k
  reexported_more ts us (puts_import src) k = puts_more (puts_import src) k

  pub reexported_puts : {ts us : Forest} → PutsAll L ts us → PutsAll L (reexported B values ts) (reexported B values us)
  reexported_puts puts_end = puts_end
  reexported_puts (puts_more {ts = ts} {us = us} p h) = reexported_more ts us p (reexported_puts h)

-- spans aside
reexported_item : (B : Name → Bool) (values : Name → Put) (l m : Label) (ss rs : List Span) (cs ds ts us : Forest) → l ≡ m → bares cs ≡ bares ds → bares (reexported B values ts) ≡ bares (reexported B values us) → bares (reexported B values (node l ss cs ⊳ ts)) ≡ bares (reexported B values (node m rs ds ⊳ us))
reexported_item B values ExportNamed m ss rs cs ds ts us p q e = subst (λ n. bares (reexported B values (node ExportNamed ss cs ⊳ ts)) ≡ bares (reexported B values (node n rs ds ⊳ us))) p (ap₂ (λ xs ys. node ExportNamed [] xs ⊳ ys) (respecified_bare B values cs ds q) e)
reexported_item B values l m ss rs cs ds ts us p q e = subst (λ n. bares (reexported B values (node l ss cs ⊳ ts)) ≡ bares (reexported B values (node n rs ds ⊳ us))) p (ap₂ (λ xs ys. node l [] xs ⊳ ys) q e)

pub reexported_bare : (B : Name → Bool) (values : Name → Put) (ts us : Forest) → bares ts ≡ bares us → bares (reexported B values ts) ≡ bares (reexported B values us)
reexported_bare B values ε ε e = refl
reexported_bare B values ε (u ⊳ us) e = absurd (cc)
reexported_bare B values (t ⊳ ts) ε e = absurd (cc)
reexported_bare B values (node l ss cs ⊳ ts) (node m rs ds ⊳ us) e = reexported_item B values l m ss rs cs ds ts us (label_is e) (children_are e) (reexported_bare B values ts us (rest_is e))
