-- An expression may be put wherever one is read, just where a module may hold it twice.
use Rattle.std.proofs.Common.{◌≡◌, ◌↔◌, IsTrue, ℕ, arith, Bool, true, false, ◌&&◌, refl, sym, ap, subst}
use Rattle.std.proofs.lemmas.Bool.{false≢true}
use Rattle.swc_ast.specs.Core.{IsCore, fits}
use Rattle.swc_ast.specs.Resolved.{Targets, no_targets, own_scopes, aimed, apart, IsResolved}
use Rattle.swc_ast.specs.Tree.{Tree, label_of}
use Rattle.swc_ast.specs.Valid.{valid}
use Rattle.swc_ast.specs.Labels.{is_expression}
use Rattle.static_proofs.proofs.Targets.{More, no_labels, aimed_more}
use Rattle.given_rules.specs.Givable.{IsGivable}
use Rattle.shake_given.specs.Twice.{twice}

-- twice the same, and what the nodes round it add

once : (b : Bool) → ((b && true) && ((b && true) && true)) ≡ true → b ≡ true
once true e = refl
once false e = e

both : {b : Bool} → b ≡ true → ((b && true) && ((b && true) && true)) ≡ true
both e = ap (λ b. (b && true) && ((b && true) && true)) e

-- where nothing is a target, more is
more_targets : (g : Targets) → More no_targets g
more_targets g = record { more_labels = no_labels g.labels; more_loops = no_labels g.loops; more_own = no_labels g.own; more_break = λ e. absurd (false≢true e); more_continue = λ e. absurd (false≢true e) }

givable_of : (n : ℕ) (t m : Tree) → is_expression (label_of t) ≡ true → m ≡ twice t → IsResolved n m → IsCore m → IsGivable t
unfolding own_scopes
givable_of n t m e is r c =
    let r2 : IsResolved n (twice t) = subst (IsResolved n) is r in
    let c2 : IsCore (twice t) = subst IsCore is c in
    record {
      expression = e;
      binds_none = λ x. omega (arith, r2.bound_once x);
      is_valid = once (valid t) c2.is_valid;
      in_core = once (fits t) c2.fits_core;
      jumps = λ g. aimed_more t (more_targets g) (once (aimed no_targets t) r2.jumps_aimed);
      stands_apart = once (apart t) r2.params_stand_apart;
    }

module _ (t m : Tree) (is : m ≡ twice t) (g : IsGivable t) where
  resolved : (n : ℕ) → IsResolved n (twice t)
  unfolding own_scopes
  resolved n = record {
    bound_once = λ x. omega (arith, g.binds_none x);
    none_unresolved = λ x u d. omega (arith, g.binds_none x);
    jumps_aimed = both (g.jumps no_targets);
    params_stand_apart = both g.stands_apart;
    exports_are_bound = refl;
  }

  twice_resolved : (n : ℕ) → IsResolved n m
  twice_resolved n = subst (IsResolved n) (sym is) (resolved n)

  twice_core : IsCore m
  twice_core = subst IsCore (sym is) (record { is_valid = both g.is_valid; fits_core = both g.in_core })

-- the test of the module decides
pub module_decides : (n : ℕ) (t m : Tree) (b : Bool) → is_expression (label_of t) ≡ true → m ≡ twice t → (IsTrue b ↔ IsCore m × IsResolved n m) → IsTrue b ↔ IsGivable t
module_decides n t m b e is h = (λ q. let p = h.0 q in givable_of n t m e is p.1 p.0, λ g. h.1 (twice_core t m is g, twice_resolved t m is g n))
