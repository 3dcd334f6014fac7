-- A walk by steps that owe nothing: what is made is kept, spared, and the same or lighter.
use Rattle.std.proofs.Common.{◌≡◌, ℕ, true}
use Rattle.swc_ast.specs.Tree.{Name, Tree}
use Rattle.swc_ast.specs.Scope.{has_name}
use Rattle.swc_ast.specs.Resolved.{IsResolved}
use Rattle.swc_ast.specs.Core.{IsCore}
use Rattle.static_proofs.specs.Spares.{exports_of}
use Rattle.static_proofs.specs.Step.{Step}
use Rattle.static_proofs.specs.Walks.{Walks}
use Rattle.static_proofs.proofs.Kept.{walk_keeps}
use Rattle.static_proofs.proofs.Spared.{walk_spares}
use Rattle.static_proofs.proofs.Whole.{resolved_kept, core_kept}

-- a walk by any steps keeps a module resolved, where what it exports is spared
pub walk_resolved : {N : Type 0} {P : Name → Type 0} {X : Tree → Tree → Type 0} {mark : ℕ} {t u : Tree} → ((a b : Tree) → X a b → Step N P a b) → ((x : Name) → has_name x (exports_of t) ≡ true → P x) → Walks X t u → IsResolved mark t → IsResolved mark u
walk_resolved f p w r = resolved_kept (walk_keeps (λ a b x. (f a b x).keeps) w) (walk_spares (λ a b x. (f a b x).spares) w) p r

pub walk_core : {N : Type 0} {P : Name → Type 0} {X : Tree → Tree → Type 0} {t u : Tree} → ((a b : Tree) → X a b → Step N P a b) → Walks X t u → IsCore t → IsCore u
walk_core f w c = core_kept (walk_keeps (λ a b x. (f a b x).keeps) w) c
