-- Rewritten items import what the items imported, but for dropped names, and export the same.
use Rattle.std.proofs.Common.{◌≡◌, ℕ, Bool, true, false, ◌||◌, List, [], ◌∷◌, ◌++◌, refl, sym, ap, ap₂, subst, ◌∙◌, append_assoc}
use Rattle.std.proofs.lemmas.Bool.{true≢false, false≢true}
use Rattle.swc_ast.specs.Labels.{is_block}
use Rattle.swc_ast.specs.declared.Span.{Span}
use Rattle.swc_ast.specs.Tree.{Name, same_name, Text, Label, Import, ImportNamed, ImportDefault, ImportStar, ExportDecl, ExportNamed, ExportDefaultFn, ExportDefaultExpr, node, Forest, ε, ◌⊳◌}
use Rattle.swc_ast.specs.Value.{Value}
use Rattle.swc_ast.specs.Scope.{has_name, imported_name, specifier_names, import_names_of}
use Rattle.swc_ast.specs.Run.{World, import_of, specifiers_of, item_imports, imports_at, item_exports, exported}
use Rattle.meaning_proofs.specs.Names.{Names, Watched}
use Rattle.meaning_proofs.specs.Exact.{Evaluation}
use Rattle.meaning_proofs.specs.Roles.{rewrites_each, is_item, is_export, of_declaration, of_default}
use Rattle.meaning_proofs.specs.Rewrites.{SameExports, Specifiers, no_more, keep, skip, Kept, kept, kept_list, kept_declarators, kept_import, kept_known, kept_unset, kept_default, kept_switch, drop_own, All, nil, cons, drop, drop_rewritten, stop, Unreached, end, stay, leave}
use Rattle.meaning_proofs.proofs.Names.{same_name_turned}
use Rattle.meaning_proofs.proofs.Declared.{View, part, a_function, other, view, same_label}
use Rattle.meaning_proofs.proofs.Finds.{has_append}
use Rattle.meaning_proofs.proofs.Imports.{SameImports, no_imports, one_import, no_import, no_imports_of, no_exports_of, item_exports_none, part_exports_none, part_imports_none}

or_false : (a b : Bool) → (a || b) ≡ false → a ≡ false
or_false true b e = absurd (true≢false e)
or_false false b e = refl

or_false_right : (a b : Bool) → (a || b) ≡ false → b ≡ false
or_false_right true b e = absurd (true≢false e)
or_false_right false b e = e

-- a name that is none of a list of one
not_one : (x y : Name) → has_name y (x ∷ []) ≡ false → same_name x y ≡ false
not_one x y e = same_name_turned x y ∙ or_false (same_name y x) false e

again : (w : World) (k : ℕ) (src : Text) (l : Label) (ts : Forest) (ps : List (Name × Value)) → specifiers_of w k src (node l [] ε ⊳ ts) ++ ps ≡ import_of w k src l ++ (specifiers_of w k src ts ++ ps)
again w k src l ts ps = append_assoc (import_of w k src l) (specifiers_of w k src ts) ps

module _ {N : Names} (w : World) (k : ℕ) (src : Text) where
  keep_one : (l : Label) {ps qs : List (Name × Value)} → ((x : Name) → N.guarded x ≡ true → has_name x (imported_name l) ≡ false) → SameImports N ps qs → SameImports N (import_of w k src l ++ ps) (import_of w k src l ++ qs)
  keep_one (ImportNamed x i) g h = one_import _ _ (λ y q. not_one x y (g y q)) h
  keep_one (ImportDefault x) g h = one_import _ _ (λ y q. not_one x y (g y q)) h
  keep_one (ImportStar x) g h = one_import _ _ (λ y q. not_one x y (g y q)) h
  keep_one _ g h = h

  skip_one : (l : Label) {ps qs : List (Name × Value)} → ((x : Name) → Watched N x → has_name x (imported_name l) ≡ false) → SameImports N ps qs → SameImports N (import_of w k src l ++ ps) qs
  skip_one (ImportNamed x i) g h = no_import _ _ (λ y q. not_one x y (g y q)) h
  skip_one (ImportDefault x) g h = no_import _ _ (λ y q. not_one x y (g y q)) h
  skip_one (ImportStar x) g h = no_import _ _ (λ y q. not_one x y (g y q)) h
  skip_one _ g h = h

  keep_specifiers : {ts us : Forest} → Specifiers N ts us → {ps qs : List (Name × Value)} → SameImports N ps qs → SameImports N (specifiers_of w k src ts ++ ps) (specifiers_of w k src us ++ qs)
  keep_specifiers no_more h = h
  keep_specifiers (keep l {ts = ts} {us} g hs) {ps} {qs} h =
      subst (λ xs. SameImports N xs (specifiers_of w k src (node l [] ε ⊳ us) ++ qs)) (sym (again w k src l ts ps))
      (subst (λ xs. SameImports N (import_of w k src l ++ (specifiers_of w k src ts ++ ps)) xs) (sym (again w k src l us qs)) (keep_one l g (keep_specifiers hs h)))
  keep_specifiers (skip l {ts = ts} {us} g hs) {ps} {qs} h = subst (λ xs. SameImports N xs (specifiers_of w k src us ++ qs)) (sym (again w k src l ts ps)) (skip_one l g (keep_specifiers hs h))

  skip_specifiers : (ts : Forest) → ((x : Name) → Watched N x → has_name x (specifier_names ts) ≡ false) → {ps qs : List (Name × Value)} → SameImports N ps qs → SameImports N (specifiers_of w k src ts ++ ps) qs
  skip_specifiers ε g h = h
  skip_specifiers (node l ss cs ⊳ ts) g {ps} {qs} h =
      subst (λ xs. SameImports N xs qs) (sym (again w k src l ts ps))
      (skip_one l (λ x q. or_false _ _ (sym (has_append x (imported_name l) (specifier_names ts)) ∙ g x q)) (skip_specifiers ts (λ x q. or_false_right _ _ (sym (has_append x (imported_name l) (specifier_names ts)) ∙ g x q)) h))

plain_items : (l : Label) → rewrites_each l ≡ true → (w : World) (k : ℕ) (cs : Forest) → item_imports w k l cs ≡ []
plain_items (Import src) e w k cs = absurd (false≢true e)
plain_items _ e w k cs = refl

list_items : (l : Label) → is_block l ≡ true → is_item l ≡ false
list_items (Import src) e = absurd (false≢true e)
list_items ExportDecl e = absurd (false≢true e)
list_items ExportNamed e = absurd (false≢true e)
list_items (ExportDefaultFn o) e = absurd (false≢true e)
list_items ExportDefaultExpr e = absurd (false≢true e)
list_items _ e = refl

list_exports : (l : Label) → is_block l ≡ true → is_export l ≡ false
list_exports ExportDecl e = absurd (false≢true e)
list_exports ExportNamed e = absurd (false≢true e)
list_exports (ExportDefaultFn o) e = absurd (false≢true e)
list_exports ExportDefaultExpr e = absurd (false≢true e)
list_exports _ e = refl

plain_exports : (l : Label) (cs us : Forest) → rewrites_each l ≡ true → SameExports l cs us → item_exports l cs ≡ item_exports l us
plain_exports ExportDecl cs us e h = h
plain_exports ExportNamed cs us e h = h
plain_exports _ cs us e h = refl

-- items that import nothing
none_both : {N : Names} {xs ys ps qs : List (Name × Value)} → xs ≡ [] → ys ≡ [] → SameImports N ps qs → SameImports N (xs ++ ps) (ys ++ qs)
none_both {N} {xs} {ys} {ps} {qs} e g h = subst (λ xs. SameImports N (xs ++ ps) (ys ++ qs)) (sym e) (subst (λ ys. SameImports N ps (ys ++ qs)) (sym g) h)

dropped_imports : {N : Names} (w : World) (k : ℕ) (l : Label) (cs : Forest) → ((x : Name) → Watched N x → has_name x (import_names_of l cs) ≡ false) → {ps qs : List (Name × Value)} → SameImports N ps qs → SameImports N (item_imports w k l cs ++ ps) qs
dropped_imports w k (Import src) cs g h = skip_specifiers w k src cs g h
dropped_imports w k _ cs g h = h

module _ {N : Names} {mark : ℕ} {does : Evaluation} where
  kept_imports : (w : World) (k : ℕ) {l m : Label} {ss rs : List Span} {cs us : Forest} → Kept N mark does (node l ss cs) (node m rs us) → {ps qs : List (Name × Value)} → SameImports N ps qs → SameImports N (item_imports w k l cs ++ ps) (item_imports w k m us ++ qs)
  kept_imports w k (kept l {cs = cs} {us} p q c o sc r) h = none_both (plain_items l p w k cs) (plain_items l p w k us) h
  kept_imports w k (kept_list l {cs = cs} {us} p q r) h = none_both (no_imports_of w k l cs (list_items l p)) (no_imports_of w k l us (list_items l p)) h
  kept_imports w k (kept_declarators kind q r) h = h
  kept_imports w k (kept_import src q r) h = keep_specifiers w k src r h
  kept_imports w k (kept_known kind q v e g y a r) h = h
  kept_imports w k (kept_unset kind q d g) h = h
  kept_imports w k (kept_default q d g r y) h = h
  kept_imports w k (kept_switch q r e a b i f) h = h
  kept_imports w k (drop_own q d g sc r) h = h

  one_item : (w : World) (k : ℕ) (l m : Label) {ss rs : List Span} {cs us : Forest} → View N mark does (node l ss cs) (node m rs us) → {ps qs : List (Name × Value)} → SameImports N ps qs → SameImports N (item_imports w k l cs ++ ps) (item_imports w k m us ++ qs)
  one_item w k l m (part r e) h = kept_imports w k r h
  one_item w k l m (a_function of_declaration) h = h
  one_item w k l m (a_function of_default) h = h
  one_item w k l m {cs = cs} {us} (other p q) h = none_both (no_imports_of w k l cs (part_imports_none l p)) (no_imports_of w k m us (part_imports_none m q)) h

  no_item : (l m : Label) {ss rs : List Span} {cs us : Forest} → View N mark does (node l ss cs) (node m rs us) → is_item m ≡ false → is_item l ≡ false
  no_item l m v e = same_label is_item false part_imports_none v ∙ e

  unreached_imports : (w : World) (k : ℕ) {ts us : Forest} → Unreached N mark does ts us → SameImports N (imports_at w k ts) (imports_at w k us)
  unreached_imports w k end = no_imports
  unreached_imports w k (stay {t = node l ss cs} {u = node m rs us} r rest) = one_item w k l m (view r) (unreached_imports w k rest)
  unreached_imports w k (leave {t = node l ss cs} d rest) = dropped_imports w k l cs d.is_no_import (unreached_imports w k rest)

  pub same_imports : (w : World) (k : ℕ) {b : Bool} {ts us : Forest} → All N mark does b ts us → SameImports N (imports_at w k ts) (imports_at w k us)
  same_imports w k nil = no_imports
  same_imports w k (cons {t = node l ss cs} {u = node m rs us} r rest) = one_item w k l m (view r) (same_imports w k rest)
  same_imports w k (drop {t = node l ss cs} i d rest) = dropped_imports w k l cs d.is_no_import (same_imports w k rest)
  same_imports w k (drop_rewritten {t = node l ss cs} {u = node m rs us} {ts} {us = vs} r i q d rest) = subst (λ ps. SameImports N (ps ++ imports_at w k ts) (imports_at w k vs)) (sym (no_imports_of w k l cs (no_item l m (view r) q))) (same_imports w k rest)
  same_imports w k (stop {t = node l ss cs} {u = node m rs us} r i rest) = one_item w k l m (view r) (unreached_imports w k rest)

  kept_exports : {l m : Label} {ss rs : List Span} {cs us : Forest} → Kept N mark does (node l ss cs) (node m rs us) → item_exports l cs ≡ item_exports m us
  kept_exports (kept l {cs = cs} {us} p q c o sc r) = plain_exports l cs us p o
  kept_exports (kept_list l {cs = cs} {us} p q r) = no_exports_of l cs (list_exports l p) ∙ sym (no_exports_of l us (list_exports l p))
  kept_exports (kept_declarators kind q r) = refl
  kept_exports (kept_import src q r) = refl
  kept_exports (kept_known kind q v e g y a r) = refl
  kept_exports (kept_unset kind q d g) = refl
  kept_exports (kept_default q d g r y) = refl
  kept_exports (kept_switch q r e a b i f) = refl
  kept_exports (drop_own q d g sc r) = refl

  one_export : (l m : Label) {ss rs : List Span} {cs us : Forest} → View N mark does (node l ss cs) (node m rs us) → item_exports l cs ≡ item_exports m us
  one_export l m (part r e) = kept_exports r
  one_export l m (a_function of_declaration) = refl
  one_export l m (a_function of_default) = refl
  one_export l m {cs = cs} {us} (other p q) = no_exports_of l cs (part_exports_none l p) ∙ sym (no_exports_of m us (part_exports_none m q))

  unreached_exports : {ts us : Forest} → Unreached N mark does ts us → exported ts ≡ exported us
  unreached_exports end = refl
  unreached_exports (stay {t = node l ss cs} {u = node m rs us} r rest) = ap₂ ◌++◌ (one_export l m (view r)) (unreached_exports rest)
  unreached_exports (leave {t = node l ss cs} {ts} d rest) = ap (λ ps. ps ++ exported ts) (no_exports_of l cs d.is_no_export) ∙ unreached_exports rest

  pub same_exports : {b : Bool} {ts us : Forest} → All N mark does b ts us → exported ts ≡ exported us
  same_exports nil = refl
  same_exports (cons {t = node l ss cs} {u = node m rs us} r rest) = ap₂ ◌++◌ (one_export l m (view r)) (same_exports rest)
  same_exports (drop {t = node l ss cs} {ts} i d rest) = ap (λ ps. ps ++ exported ts) (no_exports_of l cs d.is_no_export) ∙ same_exports rest
  same_exports (drop_rewritten {t = node l ss cs} {u = node m rs us} {ts} r i q d rest) = ap (λ ps. ps ++ exported ts) (no_exports_of l cs (item_exports_none l (no_item l m (view r) q))) ∙ same_exports rest
  same_exports (stop {t = node l ss cs} {u = node m rs us} r i rest) = ap₂ ◌++◌ (one_export l m (view r)) (unreached_exports rest)
