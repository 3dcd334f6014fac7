-- What rewritten modules import, export and load.
use Rattle.std.proofs.Common.{◌≡◌, ℕ, Bool, true, false, ◌&&◌, ◌||◌, List, [], ◌∷◌, ◌++◌, Some, refl, sym, ap, ap₂, subst, cond, ◌∙◌, slice_set}
use Rattle.std.proofs.lemmas.Bool.{true≢false, and_parts}
use Rattle.swc_ast.specs.Tree.{Name, same_name, Text, Label, Import, ImportNamed, ImportDefault, ImportStar, ExportDecl, ExportNamed, ExportDefaultFn, ExportDefaultExpr, node, Forest, ε, ◌⊳◌}
use Rattle.swc_ast.specs.Value.{Value, is_data, State}
use Rattle.swc_ast.specs.Scope.{has_name, found, is_found, imported_name, specifier_names, import_names_of, import_names}
use Rattle.swc_ast.specs.Meaning.{set_cell}
use Rattle.swc_ast.specs.Run.{World, import_of, specifiers_of, item_imports, imports_at, all_are_data, refreshed, item_exports, exported, source_of, sources}
use Rattle.meaning_proofs.specs.Names.{Names, Watched, is_kept, is_guarded, Guarded}
use Rattle.meaning_proofs.specs.Roles.{is_part, is_item, is_export, module_items}
use Rattle.meaning_proofs.proofs.Relation.{Pairing, Each, Maybe, neither, both, V, same_held, SameCell, alike, S}
use Rattle.meaning_proofs.proofs.Names.{same_name_turned}
use Rattle.meaning_proofs.proofs.Data.{data_same}
use Rattle.meaning_proofs.proofs.Stores.{set_each, cond_each}
use Rattle.meaning_proofs.proofs.Finds.{has_append}

-- what two modules import: names that are watched, in one order
pub data SameImports (N : Names) : List (Name × Value) → List (Name × Value) → Type 0 where
  no_imports : SameImports N [] []
  one_import : (x : Name) (v : Value) {ps qs : List (Name × Value)} → ((y : Name) → N.guarded y ≡ true → same_name x y ≡ false) → SameImports N ps qs → SameImports N ((x, v) ∷ ps) ((x, v) ∷ qs)
  no_import : (x : Name) (v : Value) {ps qs : List (Name × Value)} → ((y : Name) → Watched N y → same_name x y ≡ false) → SameImports N ps qs → SameImports N ((x, v) ∷ ps) qs

-- what lies in the items that are no statements alone

module _ (w : World) (k : ℕ) where
  pub no_imports_of : (l : Label) (cs : Forest) → is_item l ≡ false → item_imports w k l cs ≡ []
  no_imports_of (Import src) cs e = absurd (true≢false e)
  no_imports_of _ cs e = refl

  pub imports_of_items : (ts : Forest) → imports_at w k ts ≡ imports_at w k (module_items ts)
  imports_of_items ε = refl
  imports_of_items (node l ss cs ⊳ ts) = at_item (is_item l) refl (imports_of_items ts)
    where
      at_item : (b : Bool) → is_item l ≡ b → imports_at w k ts ≡ imports_at w k (module_items ts) → imports_at w k (node l ss cs ⊳ ts) ≡ imports_at w k (cond b (node l ss cs ⊳ module_items ts) (module_items ts))
      at_item true e h = ap (λ ps. item_imports w k l cs ++ ps) h
      at_item false e h = ap (λ ps. ps ++ imports_at w k ts) (no_imports_of l cs e) ∙ h

pub no_exports_of : (l : Label) (cs : Forest) → is_export l ≡ false → item_exports l cs ≡ []
no_exports_of ExportDecl cs e = absurd (true≢false e)
no_exports_of ExportNamed cs e = absurd (true≢false e)
no_exports_of (ExportDefaultFn o) cs e = absurd (true≢false e)
no_exports_of ExportDefaultExpr cs e = absurd (true≢false e)
no_exports_of _ cs e = refl

pub item_exports_none : (l : Label) → is_item l ≡ false → is_export l ≡ false
item_exports_none ExportDecl e = absurd (true≢false e)
item_exports_none ExportNamed e = absurd (true≢false e)
item_exports_none (ExportDefaultFn o) e = absurd (true≢false e)
item_exports_none ExportDefaultExpr e = absurd (true≢false e)
item_exports_none _ e = refl

pub part_exports_none : (l : Label) → is_part l ≡ false → is_export l ≡ false
part_exports_none ExportDecl e = absurd (true≢false e)
part_exports_none ExportNamed e = absurd (true≢false e)
part_exports_none (ExportDefaultFn o) e = absurd (true≢false e)
part_exports_none ExportDefaultExpr e = absurd (true≢false e)
part_exports_none _ e = refl

pub part_imports_none : (l : Label) → is_part l ≡ false → is_item l ≡ false
part_imports_none (Import src) e = absurd (true≢false e)
part_imports_none ExportDecl e = absurd (true≢false e)
part_imports_none ExportNamed e = absurd (true≢false e)
part_imports_none (ExportDefaultFn o) e = absurd (true≢false e)
part_imports_none ExportDefaultExpr e = absurd (true≢false e)
part_imports_none _ e = refl

no_source_of : (l : Label) → is_item l ≡ false → source_of l ≡ []
no_source_of (Import src) e = absurd (true≢false e)
no_source_of _ e = refl

pub exports_of_items : (ts : Forest) → exported ts ≡ exported (module_items ts)
exports_of_items ε = refl
exports_of_items (node l ss cs ⊳ ts) = at_item (is_item l) refl (exports_of_items ts)
  where
    at_item : (b : Bool) → is_item l ≡ b → exported ts ≡ exported (module_items ts) → exported (node l ss cs ⊳ ts) ≡ exported (cond b (node l ss cs ⊳ module_items ts) (module_items ts))
    at_item true e h = ap (λ ps. item_exports l cs ++ ps) h
    at_item false e h = ap (λ ps. ps ++ exported ts) (no_exports_of l cs (item_exports_none l e)) ∙ h

pub sources_of_items : (ts : Forest) → sources ts ≡ sources (module_items ts)
sources_of_items ε = refl
sources_of_items (node l ss cs ⊳ ts) = at_item (is_item l) refl (sources_of_items ts)
  where
    at_item : (b : Bool) → is_item l ≡ b → sources ts ≡ sources (module_items ts) → sources (node l ss cs ⊳ ts) ≡ sources (cond b (node l ss cs ⊳ module_items ts) (module_items ts))
    at_item true e h = ap (λ ps. source_of l ++ ps) h
    at_item false e h = ap (λ ps. ps ++ sources ts) (no_source_of l e) ∙ h

-- which names are imported

bool_assoc : (a b c : Bool) → (a || (b || c)) ≡ ((a || b) || c)
bool_assoc true b c = refl
bool_assoc false b c = refl

is_append : {A : Type 0} (x : Name) (ps qs : List (Name × A)) → is_found x (ps ++ qs) ≡ (is_found x ps || is_found x qs)
is_append x [] qs = refl
is_append x (p ∷ ps) qs = ap (λ b. same_name p.0 x || b) (is_append x ps qs) ∙ bool_assoc (same_name p.0 x) (is_found x ps) (is_found x qs)

module _ (x : Name) (w : World) (k : ℕ) where
  import_is : (src : Text) (l : Label) → is_found x (import_of w k src l) ≡ has_name x (imported_name l)
  import_is src (ImportNamed y i) = ap (λ (b : Bool). b || false) (same_name_turned y x)
  import_is src (ImportDefault y) = ap (λ (b : Bool). b || false) (same_name_turned y x)
  import_is src (ImportStar y) = ap (λ (b : Bool). b || false) (same_name_turned y x)
  import_is src _ = refl

  specifiers_are : (src : Text) (ts : Forest) → is_found x (specifiers_of w k src ts) ≡ has_name x (specifier_names ts)
  specifiers_are src ε = refl
  specifiers_are src (node l ss cs ⊳ ts) = is_append x (import_of w k src l) (specifiers_of w k src ts) ∙ ap₂ ◌||◌ (import_is src l) (specifiers_are src ts) ∙ sym (has_append x (imported_name l) (specifier_names ts))

  item_is : (l : Label) (cs : Forest) → is_found x (item_imports w k l cs) ≡ has_name x (import_names_of l cs)
  item_is (Import src) cs = specifiers_are src cs
  item_is _ cs = refl

  pub imports_are : (ts : Forest) → is_found x (imports_at w k ts) ≡ has_name x (import_names ts)
  imports_are ε = refl
  imports_are (node l ss cs ⊳ ts) = is_append x (item_imports w k l cs) (imports_at w k ts) ∙ ap₂ ◌||◌ (item_is l cs) (imports_are ts) ∙ sym (has_append x (import_names_of l cs) (import_names ts))

module _ {N : Names} where
  -- what is found of imports

  pub same_found : {ps qs : List (Name × Value)} → SameImports N ps qs → (x : Name) → N.dropped x ≡ false → found x ps ≡ found x qs
  same_found no_imports x keeps = refl
  same_found (one_import y v g h) x keeps = ap (cond (same_name y x) (Some v)) (same_found h x keeps)
  same_found (no_import y v {ps} g h) x keeps = ap (λ b. cond b (Some v) (found x ps)) (g x (is_kept keeps)) ∙ same_found h x keeps

  pub same_is_found : {ps qs : List (Name × Value)} → SameImports N ps qs → (x : Name) → N.dropped x ≡ false → is_found x ps ≡ is_found x qs
  same_is_found no_imports x keeps = refl
  same_is_found (one_import y v g h) x keeps = ap (λ b. same_name y x || b) (same_is_found h x keeps)
  same_is_found (no_import y v {ps} g h) x keeps = ap (λ b. b || is_found x ps) (g x (is_kept keeps)) ∙ same_is_found h x keeps

  pub not_found : {ps qs : List (Name × Value)} → SameImports N ps qs → (x : Name) → N.guarded x ≡ true → is_found x ps ≡ false
  not_found no_imports x keeps = refl
  not_found (one_import y v g h) x e = ap₂ ◌||◌ (g x e) (not_found h x e)
  not_found (no_import y v g h) x e = ap₂ ◌||◌ (g x (is_guarded e)) (not_found h x e)

  pub still_data : {ps qs : List (Name × Value)} → SameImports N ps qs → all_are_data ps ≡ true → all_are_data qs ≡ true
  still_data no_imports e = refl
  still_data (one_import y v {ps} g h) e = let p = and_parts (is_data v) (all_are_data ps) e in ap₂ ◌&&◌ p.0 (still_data h p.1)
  still_data (no_import y v {ps} g h) e = still_data h ((and_parts (is_data v) (all_are_data ps) e).1)

pub found_is_data : (x : Name) (ps : List (Name × Value)) → all_are_data ps ≡ true → {P : Pairing} → Maybe (V P) (found x ps) (found x ps)
found_is_data x [] e = neither
found_is_data x (p ∷ ps) e {P} = let d = and_parts (is_data p.1) (all_are_data ps) e in one (same_name p.0 x) (data_same p.1 d.0) (found_is_data x ps d.1)
  where
    one : (b : Bool) → V P p.1 p.1 → Maybe (V P) (found x ps) (found x ps) → Maybe (V P) (cond b (Some p.1) (found x ps)) (cond b (Some p.1) (found x ps))
    one true r h = both r
    one false r h = h

-- imports of another moment

module _ {P : Pairing} where
  same_cell : {x : Name} {v : Value} → is_data v ≡ true → SameCell P x (record { writable = false; held = Some v }) (record { writable = false; held = Some v })
  same_cell {x} {v} e = alike refl (both (same_held (data_same v e)))

  set_both : (x : Name) (v : Value) {s t : State} → is_data v ≡ true → ((y : Name) → P.guarded y ≡ true → same_name x y ≡ false) → S P s t → S P (set_cell s x 0 (record { writable = false; held = Some v })) (set_cell t x 0 (record { writable = false; held = Some v }))
  set_both x v {s} {t} e g h = record {
    events = h.events;
    replies = h.replies;
    handed = h.handed;
    natives = h.natives;
    cells = λ y keeps. cond_each (same_name x y) (set_each (h.cells y keeps) 0 (same_cell e)) (h.cells y keeps);
    guards = record { at = λ y q. subst (λ b. Guarded (P.guard y) (cond b (slice_set (s.store y) 0 (record { writable = false; held = Some v })) (s.store y))) (sym (g y q)) (h.guards.at y q) };
  }

  set_left : (x : Name) (v : Value) {s t : State} → ((y : Name) → Watched P.names y → same_name x y ≡ false) → S P s t → S P (set_cell s x 0 (record { writable = false; held = Some v })) t
  set_left x v {s} {t} g h = record {
    events = h.events;
    replies = h.replies;
    handed = h.handed;
    natives = h.natives;
    cells = λ y keeps. subst (λ b. Each (SameCell P y) (cond b (slice_set (s.store y) 0 (record { writable = false; held = Some v })) (s.store y)) (t.store y)) (sym (g y (is_kept keeps))) (h.cells y keeps);
    guards = record { at = λ y q. subst (λ b. Guarded (P.guard y) (cond b (slice_set (s.store y) 0 (record { writable = false; held = Some v })) (s.store y))) (sym (g y (is_guarded q))) (h.guards.at y q) };
  }

  pub refreshed_sim : {ps qs : List (Name × Value)} → SameImports P.names ps qs → all_are_data ps ≡ true → {s t : State} → S P s t → S P (refreshed ps s) (refreshed qs t)
  refreshed_sim no_imports e h = h
  refreshed_sim (one_import x v {ps} g i) e h = let d = and_parts (is_data v) (all_are_data ps) e in refreshed_sim i d.1 (set_both x v d.0 g h)
  refreshed_sim (no_import x v {ps} g i) e h = refreshed_sim i ((and_parts (is_data v) (all_are_data ps) e).1) (set_left x v g h)
