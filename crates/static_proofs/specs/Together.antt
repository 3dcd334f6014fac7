-- What a rewrite of the items of a list keeps.
use Rattle.std.specs.Prelude.{◌≤◌, ◌≡◌, Bool, true, false, []}
use Rattle.swc_ast.specs.Tree.{Name, Label, Module, Forest}
use Rattle.swc_ast.specs.Scope.{vars_all, import_names}
use Rattle.swc_ast.specs.Valid.{valid_all}
use Rattle.swc_ast.specs.Resolved.{scopes_all, Targets, aimed_all, apart_all}
use Rattle.swc_ast.specs.Core.{list_names, fits_all}
use Rattle.static_proofs.specs.Names.{Within, Fewer, KeptList}
use Rattle.static_proofs.specs.Spares.{Spared, exports_all}

abbrev pub is_module : Label → Bool
is_module Module = true
is_module _ = false

abbrev pub without_own : Targets → Targets
without_own g = record { labels = g.labels; loops = g.loops; can_break = g.can_break; can_continue = g.can_continue; own = [] }

pub record KeepsAll (ts us : Forest) : Type 0 where
  pub scopes_kept : (x : Name) → scopes_all x us ≤ scopes_all x ts
  pub list_kept : KeptList ts us
  pub imports_kept : Fewer (import_names us) (import_names ts)
  pub valid_kept : valid_all ts ≡ true → valid_all us ≡ true
  pub aimed_kept : (g : Targets) → aimed_all (without_own g) ts ≡ true → aimed_all (without_own g) us ≡ true
  pub apart_kept : apart_all ts ≡ true → apart_all us ≡ true
  pub fits_kept : fits_all ts ≡ true → fits_all us ≡ true

pub record SparesAll (P : Name → Type 0) (ts us : Forest) : Type 0 where
  pub vars_spared : Spared P (vars_all ts) (vars_all us)
  pub names_spared : Spared P (list_names ts) (list_names us)
  pub imports_spared : Spared P (import_names ts) (import_names us)
  pub exports_kept : Within (exports_all us) (exports_all ts)
