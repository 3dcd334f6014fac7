-- What a rewrite spares: declared names, those at least that a predicate holds of, and with them what is exported by name.
use Rattle.std.specs.Prelude.{◌≡◌, true, List, [], ◌∷◌, ◌++◌, Option, Some}
use Rattle.swc_ast.specs.Tree.{Name, Label, Import, ExportNamed, ExportSpecifier, Module, Tree, node, Forest, ε, ◌⊳◌, children_of}
use Rattle.swc_ast.specs.Scope.{has_name, vars, specifier_names}
use Rattle.swc_ast.specs.Resolved.{own_exports_bound}
use Rattle.static_proofs.specs.Names.{Within, names_of, own_names, frame}

-- each name of a list that P holds of is in another list
pub record Spared (P : Name → Type 0) (xs ys : List Name) : Type 0 where
  pub by : (x : Name) → P x → has_name x xs ≡ true → has_name x ys ≡ true

abbrev pub export_name : Label → List Name
export_name (ExportSpecifier x i) = x ∷ []
export_name _ = []

-- the local names of export specifiers
abbrev pub export_names : Forest → List Name
export_names ε = []
export_names (node l ss cs ⊳ ts) = export_name l ++ export_names ts

abbrev pub exports_by : Label → Forest → List Name
exports_by ExportNamed cs = export_names cs
exports_by _ cs = []

abbrev pub exports_all : Forest → List Name
exports_all ε = []
exports_all (node l ss cs ⊳ ts) = exports_by l cs ++ exports_all ts

-- the names that a module exports by specifiers
abbrev pub exports_of : Tree → List Name
exports_of (node Module ss items) = exports_all items
exports_of _ = []

abbrev pub SparedPart : (Name → Type 0) → Option Label → Forest → Forest → Type 0
SparedPart P (Some (Import src)) ts us = Spared P (specifier_names ts) (specifier_names us)
SparedPart P (Some ExportNamed) ts us = Within (export_names us) (export_names ts)
SparedPart P _ ts us = Unit {0}

pub record Spares (P : Name → Type 0) (t u : Tree) : Type 0 where
  pub vars_spared : Spared P (vars t) (vars u)
  pub names_spared : Spared P (names_of t) (names_of u)
  pub own_spared : Spared P (own_names t) (own_names u)
  pub frame_spared : frame u ≡ frame t
  pub part_spared : SparedPart P (frame t) (children_of t) (children_of u)
  -- no other name is exported, and what is exported stays bound if P holds of it
  pub exports_kept : Within (exports_of u) (exports_of t)
  pub exports_bound_kept : ((x : Name) → has_name x (exports_of t) ≡ true → P x) → own_exports_bound t ≡ true → own_exports_bound u ≡ true

pub data AllSpare (P : Name → Type 0) : Forest → Forest → Type 0 where
  none_spared : AllSpare P ε ε
  more_spared : {t u : Tree} {ts us : Forest} → Spares P t u → AllSpare P ts us → AllSpare P (t ⊳ ts) (u ⊳ us)
