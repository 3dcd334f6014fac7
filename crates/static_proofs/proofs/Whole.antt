-- What holds of a whole module after a walk: it stays resolved and core.
use Rattle.std.proofs.Common.{◌≡◌, ℕ, true, arith}
use Rattle.swc_ast.specs.Tree.{Name, Tree}
use Rattle.swc_ast.specs.Scope.{has_name}
use Rattle.swc_ast.specs.Resolved.{no_targets, IsResolved}
use Rattle.swc_ast.specs.Core.{IsCore}
use Rattle.static_proofs.specs.Keeps.{Keeps}
use Rattle.static_proofs.specs.Spares.{exports_of, Spares}

pub resolved_kept : {mark : ℕ} {P : Name → Type 0} {t u : Tree} → Keeps t u → Spares P t u → ((x : Name) → has_name x (exports_of t) ≡ true → P x) → IsResolved mark t → IsResolved mark u
resolved_kept {mark} {P} {t} {u} k s p r = record {
  bound_once = λ x. omega (arith, k.scopes_kept x, r.bound_once x);
  none_unresolved = λ x h i. omega (arith, k.scopes_kept x, r.none_unresolved x h i);
  jumps_aimed = k.aimed_kept no_targets r.jumps_aimed;
  params_stand_apart = k.apart_kept r.params_stand_apart;
  exports_are_bound = s.exports_bound_kept p r.exports_are_bound;
}

pub core_kept : {t u : Tree} → Keeps t u → IsCore t → IsCore u
core_kept k c = record { is_valid = k.valid_kept c.is_valid; fits_core = k.fits_kept c.fits_core }
