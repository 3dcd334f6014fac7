-- A module without the imports of given modules stays valid and core, and resolved where nothing in it is to be refused.
use Rattle.std.proofs.Common.{◌≡◌, ◌⊎◌, inl, inr, ℕ, Bool, true, false, ◌||◌, List, [], ◌∷◌, ◌++◌, drop, if◌then◌else◌, refl, sym, ap, ◌∙◌}
use Rattle.std.proofs.lemmas.Bool.{false≢true, or_cases}
use Rattle.std.proofs.lemmas.List.{append-nil}
use Rattle.swc_ast.specs.declared.Span.{Span}
use Rattle.swc_ast.specs.Core.{IsCore}
use Rattle.swc_ast.specs.Resolved.{IsResolved}
use Rattle.swc_ast.specs.Run.{imported_text}
use Rattle.swc_ast.specs.Scope.{has_name, joined, specifier_names, imported_name}
use Rattle.swc_ast.specs.Tree.{Text, Name, same_name, Label, Module, Import, ImportNamed, ImportDefault, ImportStar, ExportNamed, ExportSpecifier, Tree, node, Forest, ε, ◌⊳◌}
use Rattle.swc_ast.specs.Valid.{valid}
use Rattle.static_proofs.specs.Keeps.{Keeps}
use Rattle.static_proofs.specs.Spares.{export_names, exports_all}
use Rattle.static_proofs.specs.Together.{KeepsAll, SparesAll}
use Rattle.static_proofs.proofs.Kept.{all_keep_itself}
use Rattle.static_proofs.proofs.Names.{same_name_path, same_name_swap, has_name_append, within_none, within_same}
use Rattle.static_proofs.proofs.Spared.{spared_none, spared_same}
use Rattle.static_proofs.proofs.Together.{together, all_dropped, kept_joined, spared_joined, list_keeps, module_spares_all}
use Rattle.static_proofs.proofs.Whole.{resolved_kept, core_kept}
use Rattle.swc_pass.specs.Constants.{Constants, is_given_import, without_given}
use Rattle.const_imports.specs.Faults as spec
use Rattle.const_imports.specs.Faults.{Has, export_faults, use_faults, each_faults}
use Rattle.const_imports.specs.Locals.{Local, Imported, an_export, the_default, the_namespace, Role, a_constant, other, a_namespace, own_role, role_in, specifier_locals, specifiers_locals, item_locals, locals}

nothing_joined : {A : Type 0} (xs ys : List A) → xs ++ ys ≡ [] → (xs ≡ []) × (ys ≡ [])
nothing_joined [] ys e = (refl, e)
nothing_joined (x ∷ xs) ys e = cc

-- names that the imports of given modules don't bind

no_other : {A : Type 0} (s : Text) (i : Imported) → own_role s i ≡ other → A
no_other s (an_export m) e = cc
no_other s the_default e = cc
no_other s the_namespace e = cc

either_other : (ls ms : List Local) (x : Name) → role_in (ls ++ ms) x ≡ other → (role_in ls x ≡ other) × (role_in ms x ≡ other)
either_other [] ms x e = (refl, e)
either_other (l ∷ ls) ms x e = by (either_other ls ms x) (same_name l.name x) e
  where
    by : (role_in (ls ++ ms) x ≡ other → (role_in ls x ≡ other) × (role_in ms x ≡ other)) → (b : Bool) → (if b then own_role l.source l.imported else role_in (ls ++ ms) x) ≡ other → ((if b then own_role l.source l.imported else role_in ls x) ≡ other) × (role_in ms x ≡ other)
    by f true h = no_other l.source l.imported h
    by f false h = f h

-- a local of another name
not_local : (b : Bool) (s : Text) (i : Imported) (r : Role) → (if b then own_role s i else r) ≡ other → b ≡ false
not_local true s i r e = no_other s i e
not_local false s i r e = refl

alone : (x y : Name) → same_name y x ≡ false → has_name x (y ∷ []) ≡ false
alone x y e = ap (λ b. b || false) (same_name_swap x y ∙ e)

specifier_apart : (src : Text) (l : Label) (x : Name) → role_in (specifier_locals src l) x ≡ other → has_name x (imported_name l) ≡ false
specifier_apart src (ImportNamed y i) x e = alone x y (not_local (same_name y x) src (an_export (imported_text y i)) other e)
specifier_apart src (ImportDefault y) x e = alone x y (not_local (same_name y x) src the_default other e)
specifier_apart src (ImportStar y) x e = alone x y (not_local (same_name y x) src the_namespace other e)
specifier_apart src l x e = refl

neither : {a b : Bool} → a ≡ false → b ≡ false → (a || b) ≡ false
neither {a} {b} p q = ap (λ c. c || b) p ∙ q

specifiers_apart : (src : Text) (ts : Forest) (x : Name) → role_in (specifiers_locals src ts) x ≡ other → has_name x (specifier_names ts) ≡ false
specifiers_apart src ε x e = refl
specifiers_apart src (node l ss cs ⊳ ts) x e =
    let p = either_other (specifier_locals src l) (specifiers_locals src ts) x e in
    has_name_append x (imported_name l) (specifier_names ts) ∙ neither (specifier_apart src l x p.0) (specifiers_apart src ts x p.1)

module _ (k : Constants) where
  -- what is kept

  without_keeps : (ts : Forest) → KeepsAll ts (without_given k ts)
  without_keeps ε = together (all_keep_itself ε)
  without_keeps (node l ss cs ⊳ ts) = by (without_keeps ts) (is_given_import k l)
    where
      by : KeepsAll ts (without_given k ts) → (b : Bool) → KeepsAll (node l ss cs ⊳ ts) (if b then without_given k ts else node l ss cs ⊳ without_given k ts)
      by h true = kept_joined (all_dropped (node l ss cs ⊳ ε)) h
      by h false = kept_joined (together (all_keep_itself (node l ss cs ⊳ ε))) h

  -- what is spared: names that they don't bind

  module _ {P : Name → Type 0} where
    import_spares : (src : Text) (ss : List Span) (cs : Forest) → ((x : Name) → P x → has_name x (specifier_names cs) ≡ false) → SparesAll P (node (Import src) ss cs ⊳ ε) ε
    import_spares src ss cs h = record {
      vars_spared = spared_none [];
      names_spared = spared_none [];
      imports_spared = record { by = λ x p e. absurd (false≢true (sym (h x p) ∙ sym (ap (has_name x) (append-nil (specifier_names cs))) ∙ e)) };
      exports_kept = within_none [];
    }

    itself_spares : (t : Tree) → SparesAll P (t ⊳ ε) (t ⊳ ε)
    itself_spares t = record { vars_spared = spared_same _; names_spared = spared_same _; imports_spared = spared_same _; exports_kept = within_same _ }

    item_spares : (l : Label) (ss : List Span) (cs ts us : Forest) → ((x : Name) → P x → role_in (item_locals k.is_given l cs) x ≡ other) → SparesAll P ts us → SparesAll P (node l ss cs ⊳ ts) (if is_given_import k l then us else node l ss cs ⊳ us)
    item_spares (Import src) ss cs ts us h s = by (k.is_given src) h
      where
        by : (b : Bool) → ((x : Name) → P x → role_in (if b then specifiers_locals src cs else []) x ≡ other) → SparesAll P (node (Import src) ss cs ⊳ ts) (if b then us else node (Import src) ss cs ⊳ us)
        by true f = spared_joined (import_spares src ss cs (λ x p. specifiers_apart src cs x (f x p))) s
        by false f = spared_joined (itself_spares (node (Import src) ss cs)) s
    item_spares l ss cs ts us h s = spared_joined (itself_spares (node l ss cs)) s

    without_spares : (ts : Forest) → ((x : Name) → P x → role_in (locals k.is_given ts) x ≡ other) → SparesAll P ts (without_given k ts)
    without_spares ε h = record { vars_spared = spared_none []; names_spared = spared_none []; imports_spared = spared_none []; exports_kept = within_none [] }
    without_spares (node l ss cs ⊳ ts) h =
        item_spares l ss cs ts (without_given k ts) (λ x p. (either_other (item_locals k.is_given l cs) (locals k.is_given ts) x (h x p)).0)
        (without_spares ts (λ x p. (either_other (item_locals k.is_given l cs) (locals k.is_given ts) x (h x p)).1))

-- exported names

role_other : (r : Role) (x : Name) → export_faults r x ≡ [] → r ≡ other
role_other (a_namespace s) x e = cc
role_other a_constant x e = cc
role_other other x e = refl

sides : {A : Type 0} {b c : Bool} → (b ≡ true → A) → (c ≡ true → A) → (b ≡ true) ⊎ (c ≡ true) → A
sides f g (inl e) = f e
sides f g (inr e) = g e

module _ (has : Has) (role : Name → Role) where
  specifiers_other : (ts : Forest) → spec.joined (each_faults has role ts) ≡ [] → (x : Name) → has_name x (export_names ts) ≡ true → role x ≡ other
  specifiers_other ε e x h = absurd (false≢true h)
  specifiers_other (node (ExportSpecifier y i) ss cs ⊳ ts) e x h =
      let p = nothing_joined (use_faults has role (node (ExportSpecifier y i) ss cs)) (spec.joined (each_faults has role ts)) e in
      let q = nothing_joined (export_faults (role y) y) (spec.joined (drop 0 (each_faults has role cs))) p.0 in
      sides (λ s. ap role (same_name_path x y s) ∙ role_other (role y) y q.0) (λ s. specifiers_other ts p.1 x s) (or_cases (same_name x y) (has_name x (export_names ts)) h)
  specifiers_other (node l ss cs ⊳ ts) e x h = specifiers_other ts (nothing_joined (use_faults has role (node l ss cs)) (spec.joined (each_faults has role ts)) e).1 x h

  exports_other : (ts : Forest) → spec.joined (each_faults has role ts) ≡ [] → (x : Name) → has_name x (exports_all ts) ≡ true → role x ≡ other
  exports_other ε e x h = absurd (false≢true h)
  exports_other (node ExportNamed ss cs ⊳ ts) e x h =
      let p = nothing_joined (use_faults has role (node ExportNamed ss cs)) (spec.joined (each_faults has role ts)) e in
      sides (λ s. specifiers_other cs p.0 x s) (λ s. exports_other ts p.1 x s) (or_cases (has_name x (export_names cs)) (has_name x (exports_all ts)) (sym (has_name_append x (export_names cs) (exports_all ts)) ∙ h))
  exports_other (node l ss cs ⊳ ts) e x h = exports_other ts (nothing_joined (use_faults has role (node l ss cs)) (spec.joined (each_faults has role ts)) e).1 x h

-- a module

module _ (k : Constants) (ss : List Span) (items : Forest) where
  unloaded_keeps : Keeps (node Module ss items) (node Module ss (without_given k items))
  unloaded_keeps = list_keeps Module ss refl (without_keeps k items)

  pub unloaded_valid : valid (node Module ss items) ≡ true → valid (node Module ss (without_given k items)) ≡ true
  unloaded_valid h = unloaded_keeps.valid_kept h

  pub unloaded_core : IsCore (node Module ss items) → IsCore (node Module ss (without_given k items))
  unloaded_core c = core_kept unloaded_keeps c

  pub unloaded_resolved : (has : Has) (mark : ℕ) → spec.faults k.is_given has items ≡ [] → IsResolved mark (node Module ss items) → IsResolved mark (node Module ss (without_given k items))
  unloaded_resolved has mark e r =
      let role = spec.role_of k.is_given items in
      let p = nothing_joined (spec.import_faults has (locals k.is_given items)) (spec.joined (each_faults has role items)) e in
      resolved_kept {P = λ x. role x ≡ other} unloaded_keeps (module_spares_all ss (without_spares k {P = λ x. role x ≡ other} items (λ x h. h))) (exports_other has role items p.1) r
