-- What a renamed module imports, loads and exports.
use Rattle.std.proofs.Common.{◌≡◌, ℕ, Bool, true, false, ◌&&◌, List, [], ◌∷◌, ◌++◌, Option, Some, None, refl, sym, ap, ap₂, cond, ◌∙◌, if◌then◌else◌, codes}
use Rattle.std.proofs.lemmas.Bool.{and_parts}
use Rattle.swc_ast.specs.declared.Span.{Span}
use Rattle.swc_ast.specs.Tree.{Text, Name, same_name, Label, VarDecl, FnDecl, Import, ImportNamed, ImportDefault, ImportStar, ExportDecl, ExportNamed, ExportSpecifier, ExportDefaultFn, ExportDefaultExpr, node, Forest, ε, ◌⊳◌}
use Rattle.swc_ast.specs.Value.{Value, is_data, State}
use Rattle.swc_ast.specs.Scope.{found, declarator_names, imported_name, specifier_names, import_names_of, import_names}
use Rattle.swc_ast.specs.Run.{World, moment_of, imported_text, import_of, specifiers_of, item_imports, imports_at, all_are_data, refreshed, source_of, sources, own_texts, declared_exports, export_text, specifier_export, specifier_exports, default_export, item_exports, exported}
use Rattle.rename_rules.specs.Renamed.{new_option, new_label, new_children, renamed, renamed_all, new_exports, all_stay, export_stays, exports_stay}
use Rattle.rename_proofs.proofs.Relation.{Pairing, Maybe, neither, both, V, S}
use Rattle.rename_proofs.proofs.Names.{same_name_eq}
use Rattle.rename_proofs.proofs.Data.{data_same}
use Rattle.rename_proofs.proofs.Stores.{same_new, set_cell_sim}
use Rattle.rename_proofs.proofs.Declared.{new_names, names_append, declarators_new, default_stays}

module _ (P : Pairing) where
  -- a text of outside stays
  import_text_new : (x : Name) (i : Option Text) (b : Bool) → same_name (P.to x) x ≡ b → imported_text (P.to x) (if b then i else Some (imported_text x i)) ≡ imported_text x i
  import_text_new x i true e = ap (λ (z : Name). imported_text z i) (same_name_eq (P.to x) x e)
  import_text_new x i false e = refl

  export_text_new : (x : Name) (o : Option Text) (b : Bool) → same_name (P.to x) x ≡ b → export_text (P.to x) (if b then o else Some (export_text x o)) ≡ export_text x o
  export_text_new x o true e = ap (λ (z : Name). export_text z o) (same_name_eq (P.to x) x e)
  export_text_new x o false e = refl

  -- imports

  abbrev pub new_imports : List (Name × Value) → List (Name × Value)
  new_imports [] = []
  new_imports (p ∷ ps) = (P.to p.0, p.1) ∷ new_imports ps

  imports_append : (ps qs : List (Name × Value)) → new_imports (ps ++ qs) ≡ new_imports ps ++ new_imports qs
  imports_append [] qs = refl
  imports_append (p ∷ ps) qs = ap (λ rs. (P.to p.0, p.1) ∷ rs) (imports_append ps qs)

  module _ (w : World) (k : ℕ) where
    import_new : (src : Text) (l : Label) → import_of w k src (new_label P.to l) ≡ new_imports (import_of w k src l)
    import_new src (ImportNamed x i) = ap (λ (t : Text). (P.to x, moment_of (w.imports src t).first (w.imports src t).later k) ∷ []) (import_text_new x i (same_name (P.to x) x) refl)
    import_new src (ImportDefault x) = refl
    import_new src (ImportStar x) = refl
    import_new src _ = refl

    specifiers_new : (src : Text) (ts : Forest) → specifiers_of w k src (renamed_all P.to ts) ≡ new_imports (specifiers_of w k src ts)
    unfolding renamed
    specifiers_new src ε = refl
    specifiers_new src (node l ss cs ⊳ ts) = ap₂ ◌++◌ (import_new src l) (specifiers_new src ts) ∙ sym (imports_append (import_of w k src l) (specifiers_of w k src ts))

    item_new : (l : Label) (ss : List Span) (cs : Forest) → item_imports w k (new_label P.to l) (new_children P.to l ss (renamed_all P.to cs)) ≡ new_imports (item_imports w k l cs)
    item_new (Import src) ss cs = specifiers_new src cs
    item_new _ ss cs = refl

    pub imports_new : (ts : Forest) → imports_at w k (renamed_all P.to ts) ≡ new_imports (imports_at w k ts)
    unfolding renamed
    imports_new ε = refl
    imports_new (node l ss cs ⊳ ts) = ap₂ ◌++◌ (item_new l ss cs) (imports_new ts) ∙ sym (imports_append (item_imports w k l cs) (imports_at w k ts))

  pub data_new : (ps : List (Name × Value)) → all_are_data (new_imports ps) ≡ all_are_data ps
  data_new [] = refl
  data_new (p ∷ ps) = ap (λ (b : Bool). is_data p.1 && b) (data_new ps)

  one_import : (b d : Bool) → b ≡ d → (v : Value) → is_data v ≡ true → {o p : Option Value} → Maybe (V P) o p → Maybe (V P) (cond b (Some v) o) (cond d (Some v) p)
  one_import true true e v q h = both (data_same v q)
  one_import false false e v q h = h
  one_import true false e v q h = cc
  one_import false true e v q h = cc

  pub import_found : (x : Name) (ps : List (Name × Value)) → all_are_data ps ≡ true → Maybe (V P) (found x ps) (found (P.to x) (new_imports ps))
  import_found x [] e = neither
  import_found x (p ∷ ps) e = let d = and_parts (is_data p.1) (all_are_data ps) e in one_import _ _ (sym (same_new P p.0 x)) p.1 d.0 (import_found x ps d.1)

  -- imports of another moment
  pub refreshed_sim : (ps : List (Name × Value)) → all_are_data ps ≡ true → {s t : State} → S P s t → S P (refreshed ps s) (refreshed (new_imports ps) t)
  refreshed_sim [] e h = h
  refreshed_sim (p ∷ ps) e h =
      let d = and_parts (is_data p.1) (all_are_data ps) e in
      refreshed_sim ps d.1 (set_cell_sim h p.0 0 (record { writable = refl; held = both (data_same p.1 d.0) }))

  -- names that are imported
  imported_new : (l : Label) → imported_name (new_label P.to l) ≡ new_names P (imported_name l)
  imported_new (ImportNamed x i) = refl
  imported_new (ImportDefault x) = refl
  imported_new (ImportStar x) = refl
  imported_new _ = refl

  specifier_names_new : (ts : Forest) → specifier_names (renamed_all P.to ts) ≡ new_names P (specifier_names ts)
  unfolding renamed
  specifier_names_new ε = refl
  specifier_names_new (node l ss cs ⊳ ts) = ap₂ ◌++◌ (imported_new l) (specifier_names_new ts) ∙ sym (names_append P (imported_name l) (specifier_names ts))

  names_of_new : (l : Label) (ss : List Span) (cs : Forest) → import_names_of (new_label P.to l) (new_children P.to l ss (renamed_all P.to cs)) ≡ new_names P (import_names_of l cs)
  names_of_new (Import src) ss cs = specifier_names_new cs
  names_of_new _ ss cs = refl

  pub import_names_new : (ts : Forest) → import_names (renamed_all P.to ts) ≡ new_names P (import_names ts)
  unfolding renamed
  import_names_new ε = refl
  import_names_new (node l ss cs ⊳ ts) = ap₂ ◌++◌ (names_of_new l ss cs) (import_names_new ts) ∙ sym (names_append P (import_names_of l cs) (import_names ts))

  -- loads
  source_new : (l : Label) → source_of (new_label P.to l) ≡ source_of l
  source_new (Import src) = refl
  source_new _ = refl

  pub sources_new : (ts : Forest) → sources (renamed_all P.to ts) ≡ sources ts
  unfolding renamed
  sources_new ε = refl
  sources_new (node l ss cs ⊳ ts) = ap₂ ◌++◌ (source_new l) (sources_new ts)

  -- exports

  exports_append : (ps qs : List (Text × Name)) → new_exports P.to (ps ++ qs) ≡ new_exports P.to ps ++ new_exports P.to qs
  exports_append [] qs = refl
  exports_append (p ∷ ps) qs = ap (λ rs. (p.0, P.to p.1) ∷ rs) (exports_append ps qs)

  own_new : (xs : List Name) → all_stay P.to (own_texts xs) ≡ true → own_texts (new_names P xs) ≡ new_exports P.to (own_texts xs)
  own_new [] e = refl
  own_new (x ∷ xs) e =
      let p = and_parts (same_name (P.to x) x) (all_stay P.to (own_texts xs)) e in
      ap₂ (λ (t : Text) (rest : List (Text × Name)). (t, P.to x) ∷ rest) (ap (λ (z : Name). z.text) (same_name_eq (P.to x) x p.0)) (own_new xs p.1)

  declared_exports_new : (l : Label) (ss : List Span) (cs : Forest) → all_stay P.to (declared_exports l cs) ≡ true → declared_exports (new_label P.to l) (new_children P.to l ss (renamed_all P.to cs)) ≡ new_exports P.to (declared_exports l cs)
  declared_exports_new (VarDecl kind) ss cs e = ap own_texts (declarators_new P cs) ∙ own_new (declarator_names cs) e
  declared_exports_new (FnDecl x) ss cs e = own_new (x ∷ []) e
  declared_exports_new _ ss cs e = refl

  specifier_new : (l : Label) → specifier_export (new_label P.to l) ≡ new_exports P.to (specifier_export l)
  specifier_new (ExportSpecifier x o) = ap (λ (t : Text). (t, P.to x) ∷ []) (export_text_new x o (same_name (P.to x) x) refl)
  specifier_new _ = refl

  specifier_exports_new : (ts : Forest) → specifier_exports (renamed_all P.to ts) ≡ new_exports P.to (specifier_exports ts)
  unfolding renamed
  specifier_exports_new ε = refl
  specifier_exports_new (node l ss cs ⊳ ts) = ap₂ ◌++◌ (specifier_new l) (specifier_exports_new ts) ∙ sym (exports_append (specifier_export l) (specifier_exports ts))

  default_new : (o : Option Name) → default_export (new_option P.to o) ≡ new_exports P.to (default_export o)
  default_new None = ap (λ (z : Name). (codes "default", z) ∷ []) (sym (default_stays P))
  default_new (Some x) = refl

  item_exports_new : (l : Label) (ss : List Span) (cs : Forest) → export_stays P.to l cs ≡ true → item_exports (new_label P.to l) (new_children P.to l ss (renamed_all P.to cs)) ≡ new_exports P.to (item_exports l cs)
  unfolding renamed
  item_exports_new ExportDecl ss ε e = refl
  item_exports_new ExportDecl ss (node l rs cs ⊳ ts) e = declared_exports_new l rs cs e
  item_exports_new ExportNamed ss cs e = specifier_exports_new cs
  item_exports_new (ExportDefaultFn o) ss cs e = default_new o
  item_exports_new ExportDefaultExpr ss cs e = default_new None
  item_exports_new _ ss cs e = refl

  pub exported_new : (ts : Forest) → exports_stay P.to ts ≡ true → exported (renamed_all P.to ts) ≡ new_exports P.to (exported ts)
  unfolding renamed
  exported_new ε e = refl
  exported_new (node l ss cs ⊳ ts) e =
      let p = and_parts (export_stays P.to l cs) (exports_stay P.to ts) e in
      ap₂ ◌++◌ (item_exports_new l ss cs p.0) (exported_new ts p.1) ∙ sym (exports_append (item_exports l cs) (exported ts))
